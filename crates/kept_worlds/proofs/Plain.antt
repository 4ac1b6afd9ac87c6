-- A world without snapshots keeps nothing for them, and an image that stands for it shows its log.
--     kept_none      nothing is kept
--     saved_within      the saved commit lies in the history
use Rattle.std.proofs.Common.{◌≡◌, refl, sym, ap, ◌∙◌, ℕ, ◌+◌, ◌-◌, ◌≤◌, List, [], ◌∷◌, map, length, arith, length-drop}
use Rattle.std.specs.Prelude.{sum_by}
use Rattle.std.specs.Ordering.{nat_cmp}
use Rattle.std.specs.FinMap.{empty, values, entries, len-entries, len-empty}
use Rattle.mdb_model.specs.History.{last, commits_above}
use Rattle.mdb_model.specs.Space.{kept_for_snapshots, converter_pages}
use Rattle.mdb_model.specs.Worlds.{World, Snapshot}

no_items : {A : Type 0} (xs : List A) → length xs ≡ 0 → xs ≡ []
no_items [] none = refl
no_items (x ∷ xs) none = absurd (omega (arith, none))

none_kept : (n : ℕ) → sum_by (λ (snapshot : Snapshot). snapshot.size + n) (values (empty {X = Snapshot} {R = nat_cmp})) ≡ 0
none_kept n =
    let none : entries (empty {X = Snapshot} {R = nat_cmp}) ≡ [] = no_items (entries (empty {X = Snapshot} {R = nat_cmp})) (sym (len-entries (empty {X = Snapshot} {R = nat_cmp})) ∙ len-empty nat_cmp Snapshot) in
    ap (λ (es : List (ℕ × Snapshot)). sum_by (λ (snapshot : Snapshot). snapshot.size + n) (map (λ e. e.1) es)) none

pub kept_none : (w : World) → w.snapshots ≡ empty → kept_for_snapshots w ≡ 0
kept_none w is = ap (λ s. sum_by (λ (snapshot : Snapshot). snapshot.size + converter_pages w.blocks) (values s)) is ∙ none_kept (converter_pages w.blocks)

pub saved_within : (w : World) → last w.history ≡ w.saved + length (commits_above w.history w.saved) → (w.history.first ≤ w.saved) × (w.saved ≤ last w.history)
saved_within w is = (
  omega (arith, is, length-drop (w.saved - w.history.first) w.history.commits),
  omega (arith, is, length-drop (w.saved - w.history.first) w.history.commits),
)
