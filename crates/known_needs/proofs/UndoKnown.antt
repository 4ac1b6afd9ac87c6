-- The undo pages from what is known.
--     session_undo_is      those of a session
--     undo_is      those of all
use Rattle.std.proofs.Common.{◌≡◌, refl, sym, ap, ◌∙◌, ℕ, zero, suc, ◌+◌, ◌*◌, ◌<◌, cond, List, [], ◌∷◌, length, map, Option, Some, None, arith}
use Rattle.std.specs.Prelude.{sum_by, option_map, unwrap_or}
use Rattle.std.specs.FinMap.{get, keys, len, entries, entries_sorted, get-entries, len-entries}
use Rattle.std.proofs.lemmas.Bool.{ne_eqb}
use Rattle.std.proofs.lemmas.List.Sums.{sum_by-cons}
use Rattle.mdb_model.specs.declared.change.Change.{Change}
use Rattle.mdb_model.specs.declared.change.Change.TheVariants.{Put, Del}
use Rattle.mdb_model.specs.History.{tables_of}
use Rattle.mdb_model.specs.Sessions.{last_changes, net_changes}
use Rattle.mdb_model.specs.Space.{ceil_div, length_at, before_cost, undo_pages, undo_now}
use Rattle.mdb_model.specs.Tables.{Place, Tables, place_of}
use Rattle.mdb_model.specs.Worlds.{World, Transaction, transaction, no_transaction}
use Rattle.transactions.proofs.NetChanges.{none_changed}
use Rattle.space_rule.specs.KnownCosts.{KnownCosts, undo_cost, undo_pages_for, session_undo, undo_of}
use Rattle.known_needs.specs.KnownNeeds.{opened_one, IsKnownOf, opened}
use Rattle.known_needs.proofs.LastChanges.{net_places, opened_none}
use Rattle.known_needs.proofs.SessionSums.{same_sum}

module _ (t : Tables) where
  -- the cost of the before image of a row
  abbrev image_at : Place → ℕ
  image_at p = 16 + length p.1 + length_at t p

  -- the before image of one change
  image_is : (c : Change) → undo_cost (opened_one t c) ≡ image_at (place_of c)
  image_is (Put table key value) = refl
  image_is (Del table key) = refl

  -- of changes
  images_are : (cs : List Change) → sum_by undo_cost (map (opened_one t) cs) ≡ sum_by image_at (map place_of cs)
  images_are [] = refl
  images_are (c ∷ cs) = omega (arith, sum_by-cons undo_cost (opened_one t c) (map (opened_one t) cs), sum_by-cons image_at (place_of c) (map place_of cs), image_is c, images_are cs)

  -- they are some where there is one
  some_image : (ps : List Place) → 0 < length ps → 0 < sum_by image_at ps
  some_image [] some = absurd (omega (arith, some))
  some_image (p ∷ ps) some = omega (arith, sum_by-cons image_at p ps)

  -- there are as many keys as last changes
  keys_many : (cs : List Change) → length (keys (last_changes cs)) ≡ len (last_changes cs)
  keys_many cs = many (entries (last_changes cs)) ∙ sym (len-entries (last_changes cs)) where
    many : (es : List (Place × Change)) → length (map (λ e. e.0) es) ≡ length es
    many [] = refl
    many (e ∷ es) = ap suc (many es)

  -- a change leaves a last one
  some_changed : (c : Change) (cs : List Change) (n : ℕ) → len (last_changes (c ∷ cs)) ≡ n → 0 < n
  some_changed c cs zero none = (let never : (c ∷ cs) ≡ [] = none_changed (c ∷ cs) none in absurd cc)
  some_changed c cs (suc n) some = omega arith

  -- some bytes have undo pages
  pages_for : (n : ℕ) → 0 < n → undo_pages_for n ≡ 1 + ceil_div (2 * n) 8128
  pages_for n some = ap (λ b. cond b 0 (1 + ceil_div (2 * n) 8128)) (ne_eqb n 0 (λ none. omega (arith, none, some)))

  -- the undo pages of a session
  pub session_undo_is : (cs : List Change) → session_undo (opened t cs) ≡ undo_pages t cs
  session_undo_is [] = ap session_undo (opened_none t)
  session_undo_is (c ∷ cs) =
      let bytes : sum_by undo_cost (opened t (c ∷ cs)) ≡ before_cost t (keys (last_changes (c ∷ cs))) = images_are (net_changes (c ∷ cs)) ∙ ap (sum_by image_at) (net_places (c ∷ cs)) in
      ap undo_pages_for bytes
      ∙ pages_for (before_cost t (keys (last_changes (c ∷ cs))))
      (some_image (keys (last_changes (c ∷ cs))) (omega (arith, keys_many (c ∷ cs), some_changed c cs (len (last_changes (c ∷ cs))) refl)))

-- the undo pages of all sessions
pub undo_is : (known : KnownCosts) (w : World) → IsKnownOf known w → undo_of known.sessions ≡ undo_now w
undo_is known w is =
    same_sum session_undo (λ (x : Transaction). undo_pages t x.changes) [] refl (entries w.sessions) known.sessions (entries_sorted w.sessions)
    (λ session. ap session_undo (is.sessions session) ∙ session_undo_is t (transaction w session).changes ∙ at (get w.sessions session) ∙ ap (λ o. unwrap_or (option_map (λ (x : Transaction). undo_pages t x.changes) o) 0) (get-entries w.sessions session))
  where
    t : Tables
    t = tables_of w.history

    at : (o : Option Transaction) → undo_pages t (unwrap_or o no_transaction).changes ≡ unwrap_or (option_map (λ (x : Transaction). undo_pages t x.changes) o) 0
    at None = refl
    at (Some x) = refl
