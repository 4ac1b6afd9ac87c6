-- What is known at first.
--     first_known      it is of a database that was just created
use Rattle.std.proofs.Common.{◌≡◌, inl, inr, refl, sym, ap, ◌∙◌, ℕ, ◌+◌, not, ◌==◌, max, List, [], ◌++◌, map, get_or, replicate, arith, is_some}
use Rattle.std.specs.Prelude.{sum_by, filter, unwrap_or}
use Rattle.std.specs.Ordering.{nat_cmp}
use Rattle.std.specs.FinMap.{empty, contains_key, get-empty}
use Rattle.std.proofs.lemmas.Bool.{cases_lt, false≢true}
use Rattle.std.proofs.lemmas.List.{length-replicate, get_or-replicate}
use Rattle.mdb_model.specs.Space.{table_cost, cost_at, converter_pages}
use Rattle.mdb_model.specs.Tables.{Place, place_cmp}
use Rattle.mdb_model.specs.Worlds.{Transaction, Snapshot, created, no_transaction}
use Rattle.mdb_model.proofs.Computing.{entries-empty}
use Rattle.known_needs.specs.KnownNeeds.{IsKnownOf, nothing_known, opened}
use Rattle.known_needs.proofs.LastChanges.{opened_none}
use Rattle.known_needs.proofs.SessionSums.{past_end}

-- a list of one thing, also past its end
repeated : {A : Type 0} (n i : ℕ) (a : A) → get_or (replicate n a) i a ≡ a
repeated n i a = elim (cases_lt i n) [
  | inl inside ↦ get_or-replicate n i a a inside
  | inr past ↦ past_end (replicate n a) i a (omega (arith, length-replicate n a, past))
]

-- no row costs nothing
no_cost : (table : ℕ) → table_cost empty empty table ≡ 0
no_cost table =
    ap (λ (es : List (Place × List ℕ)). sum_by (λ p. max (cost_at empty p) (cost_at empty p)) (filter (λ p. p.0 == table) (map (λ e. e.0) es ++ filter (λ p. not (contains_key (empty {X = List ℕ} {R = place_cmp}) p)) (map (λ e. e.0) es))))
    (entries-empty {X = List ℕ} place_cmp)

-- what is known at first is known of a new database
pub first_known : (birth blocks ring : ℕ) → IsKnownOf (nothing_known blocks) (created birth blocks ring)
first_known birth blocks ring =
    record {
      blocks = refl;
      kept = sym (ap (λ (es : List (ℕ × Snapshot)). sum_by (λ s. s.size + converter_pages blocks) (map (λ e. e.1) es) + 0) (entries-empty {X = Snapshot} nat_cmp));
      committed = λ table low high. repeated 501 table 0 ∙ sym (no_cost table);
      sessions = λ session. repeated 65 session [] ∙ sym (ap (λ o. opened empty (unwrap_or o no_transaction).changes) (get-empty {X = Transaction} nat_cmp session) ∙ opened_none empty);
      numbers = λ session there. absurd (false≢true (ap is_some (sym (get-empty {X = Transaction} nat_cmp session)) ∙ there));
    }
