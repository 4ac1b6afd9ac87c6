-- The sessions of a world are dismissed.
--     none_left      so the space rule knows of no changes
--     none_kept, same_costs      of nothing that is kept, and of tables what it knew
use Rattle.std.proofs.Common.{◌≡◌, ◌∙◌, inl, inr, refl, ap, ℕ, ◌<◌, ◌≤◌, Bool, true, false, ◌&&◌, List, [], Option, Some, None, slice_index, arith}
use Rattle.std.specs.Prelude.{is_some, nat_le, unwrap_or}
use Rattle.std.specs.FinMap.{get, empty}
use Rattle.std.proofs.lemmas.Bool.{cases_lt, leb-true}
use Rattle.mdb_model.specs.History.{tables_of}
use Rattle.mdb_model.specs.Script.{is_session}
use Rattle.mdb_model.specs.Space.{table_cost}
use Rattle.mdb_model.specs.Worlds.{World, Transaction, transaction, no_transaction}
use Rattle.space_rule.specs.KnownCosts.{KnownCosts, changes_at}
use Rattle.known_needs.specs.KnownNeeds.{opened}
use Rattle.known_needs.proofs.LastChanges.{opened_none}
use Rattle.space_lines.specs.Counted.{IsCounted}
use Rattle.transactions.specs.Ongoing.{Ongoing}
use Rattle.transactions.specs.Standing.{MatchesWorld}
use Rattle.open_database.specs.Costs.{IsForgotten}
use Rattle.open_database.proofs.Kept.{kept_none}

-- a number that is no session's has no transaction
no_transaction_at : (w : World) (session : ℕ) (o : Option Transaction) → get w.sessions session ≡ o → (is_some o ≡ true → ⊥) → transaction w session ≡ no_transaction
no_transaction_at w session None is never = ap (λ o. unwrap_or o no_transaction) is
no_transaction_at w session (Some x) is never = absurd (never refl)

second_of : (a b : Bool) → (a && b) ≡ true → b ≡ true
second_of true b is = is
second_of false b is = absurd cc

past_last : (session : ℕ) → 64 < session → is_session session ≡ true → ⊥
past_last session past is =
    let low = leb-true session 64 (second_of (nat_le 1 session) (nat_le session 64) is) in
    omega (arith, past, low)

module _ (ongoing : Ongoing) (w : World) (matches : MatchesWorld ongoing w) (old new : KnownCosts) (counted : IsCounted old w) (forgotten : IsForgotten old new 64) where
  none_at : (session : ℕ) → (is_session session ≡ true → ⊥) → changes_at old.sessions session ≡ []
  none_at session other =
      counted.known_of.sessions session
      ∙ ap (λ (x : Transaction). opened (tables_of w.history) x.changes)
      (no_transaction_at w session (get w.sessions session) refl (λ there. other (matches.numbered session there)))
      ∙ opened_none (tables_of w.history)

  pub none_left : (session : ℕ) → changes_at new.sessions session ≡ []
  none_left session = elim (cases_lt 64 session) [
    | inl past ↦ forgotten.others session past ∙ none_at session (past_last session past)
    | inr upto ↦ elim (cases_lt 0 session) [
      | inl some ↦ forgotten.gone session (omega (arith, some)) (omega (arith, upto))
      | inr none ↦
          let zero : session ≡ 0 = omega (arith, none) in
          ap (changes_at new.sessions) zero ∙ forgotten.first ∙ none_at 0 (λ is. absurd cc)
    ]
  ]

  pub none_kept : w.snapshots ≡ empty → w.backup_task ≡ None → new.kept ≡ 0
  none_kept bare idle = forgotten.kept ∙ counted.known_of.kept ∙ kept_none w bare idle

  pub same_costs : (table : ℕ) → 1 ≤ table → table ≤ 500 → slice_index new.committed table ≡ table_cost (tables_of w.history) (tables_of w.history) table
  same_costs table low high = ap (λ (cs : List ℕ). slice_index cs table) forgotten.committed ∙ counted.known_of.committed table low high
