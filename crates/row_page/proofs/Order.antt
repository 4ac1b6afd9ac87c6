-- Keys in order.
--     less_upto, greater_from, same_key      what one comparison tells of the others
--     kept-insert, ascend-insert, kept-remove, ascend-remove      order and limits after an edit
use Rattle.std.proofs.Common.{◌≡◌, ℕ, ◌+◌, ◌-◌, ◌<◌, ◌≤◌, ◌⊎◌, List, length, get_or, refl, sym, ap, subst, ◌∙◌, arith, inl, inr}
use Rattle.std.specs.Ordering.{ordering_reverse}
use Rattle.std.specs.List.{insert, remove}
use Rattle.std.specs.FinMap.{slice_cmp-IsAntisymmetric, nat_cmp-IsAntisymmetric}
use Rattle.std.specs.declared.cmp.Ordering.TheVariants.{Less, Equal, Greater}
use Rattle.std.proofs.lemmas.Cmp.{nat_list_cmp_total}
use Rattle.std.proofs.lemmas.Bool.{cases_lt, cases_order}
use Rattle.std.proofs.lemmas.List.Edits.{get_or-insert_below, get_or-insert_at, get_or-insert_above, get_or-remove_below, get_or-remove_above, length-insert, length-remove}
use Rattle.row_page.specs.Entries.{PageEntry, Ascend, AllKept, KeepsEntry, key_at, by_bytes, empty_entry}

-- what is lower the one way is greater the other way
pub flip_less : (x y : List ℕ) → by_bytes x y ≡ Less → by_bytes y x ≡ Greater
flip_less x y h = nat_list_cmp_total.antisymm y x ∙ ap ordering_reverse h

-- what is greater the one way is lower the other way
pub flip_greater : (x y : List ℕ) → by_bytes x y ≡ Greater → by_bytes y x ≡ Less
flip_greater x y h = nat_list_cmp_total.antisymm y x ∙ ap ordering_reverse h

-- keys that tie are the same
pub same_key : (x y : List ℕ) → by_bytes x y ≡ Equal → x ≡ y
same_key x y h = slice_cmp-IsAntisymmetric nat_cmp-IsAntisymmetric x y h

-- where an entry is lower than a key, those before it are
pub less_upto : (es : List PageEntry) (m : ℕ) (key : List ℕ) → Ascend es → m < length es → by_bytes (key_at es m) key ≡ Less
    → (k : ℕ) → k < m + 1 → by_bytes (key_at es k) key ≡ Less
less_upto es m key up lt h k below =
    elim (cases_lt k m) [
      | inl l ↦ nat_list_cmp_total.trans (key_at es k) (key_at es m) key (up k m l lt) h
      | inr g ↦ let e : m ≡ k = omega arith in subst (λ (n : ℕ). by_bytes (key_at es n) key ≡ Less) e h
    ]

-- where an entry is greater than a key, those after it are
pub greater_from : (es : List PageEntry) (m : ℕ) (key : List ℕ) → Ascend es → m < length es → by_bytes (key_at es m) key ≡ Greater
    → (k : ℕ) → m ≤ k → k < length es → by_bytes (key_at es k) key ≡ Greater
greater_from es m key up lt h k from within =
    elim (cases_lt m k) [
      | inl l ↦ flip_less key (key_at es k) (nat_list_cmp_total.trans key (key_at es m) (key_at es k) (flip_greater (key_at es m) key h) (up m k l within))
      | inr g ↦ let e : m ≡ k = omega arith in subst (λ (n : ℕ). by_bytes (key_at es n) key ≡ Greater) e h
    ]

-- where an entry of the new list stands in the old one
abbrev pub FromInsert : List PageEntry → ℕ → PageEntry → ℕ → Type 0
FromInsert es i e k =
    ((k < i) × (get_or (insert es i e) k empty_entry ≡ get_or es k empty_entry))
    ⊎ (((k ≡ i) × (get_or (insert es i e) k empty_entry ≡ e)) ⊎ ((j : ℕ) × (i ≤ j) × (k ≡ j + 1) × (get_or (insert es i e) k empty_entry ≡ get_or es j empty_entry)))

-- each entry of the new list stands in the old one, or is the new one
pub from_insert : (es : List PageEntry) (i : ℕ) (e : PageEntry) (k : ℕ) → i ≤ length es → FromInsert es i e k
from_insert es i e k le =
    elim (cases_order k i) [
      | inl same ↦ inr (inl (same, ap (λ (n : ℕ). get_or (insert es i e) n empty_entry) same ∙ get_or-insert_at es i e empty_entry le))
      | inr (inl below) ↦ inl (below, get_or-insert_below es i e empty_entry k below le)
      | inr (inr above) ↦
          let j : k ≡ (k - 1) + 1 = omega arith in
          inr (inr (k - 1, omega arith, j, ap (λ (n : ℕ). get_or (insert es i e) n empty_entry) j ∙ get_or-insert_above es i e empty_entry (k - 1) (omega arith) le))
    ]

-- the limits of each entry with one more
pub kept-insert : (leaf : _) (es : List PageEntry) (i : ℕ) (e : PageEntry) → i ≤ length es → AllKept leaf es → KeepsEntry leaf e → AllKept leaf (insert es i e)
kept-insert leaf es i e le all one k lt =
    let n = length-insert es i e le in
    elim (from_insert es i e k le) [
      | inl (below, is) ↦ subst (KeepsEntry leaf) (sym is) (all k (omega arith))
      | inr (inl (same, is)) ↦ subst (KeepsEntry leaf) (sym is) one
      | inr (inr (j, from, next, is)) ↦ subst (KeepsEntry leaf) (sym is) (all j (omega arith))
    ]

-- a key belongs to a place
abbrev pub Between : List PageEntry → ℕ → List ℕ → Type 0
Between es i key = ((k : ℕ) → k < i → by_bytes (key_at es k) key ≡ Less) × ((k : ℕ) → i ≤ k → k < length es → by_bytes (key_at es k) key ≡ Greater)

-- the order of the same entries
both : (xs ys : List PageEntry) (a b c d : PageEntry) → a ≡ b → c ≡ d → by_bytes b.key d.key ≡ Less → by_bytes a.key c.key ≡ Less
both xs ys a b c d e f h = rw (e, f) h

-- keys ascend with one more
pub ascend-insert : (es : List PageEntry) (i : ℕ) (e : PageEntry) → i ≤ length es → Ascend es → Between es i e.key → Ascend (insert es i e)
ascend-insert es i e le up between a b lt within =
    let n = length-insert es i e le in
    elim (from_insert es i e b le) [
      | inl (below, is) ↦
          elim (from_insert es i e a le) [
            | inl (below2, is2) ↦ both es es _ _ _ _ is2 is (up a b lt (omega arith))
            | inr (inl (same2, is2)) ↦ absurd (omega arith)
            | inr (inr (j2, from2, next2, is2)) ↦ absurd (omega arith)
          ]
      | inr (inl (same, is)) ↦
          elim (from_insert es i e a le) [
            | inl (below2, is2) ↦ both es es _ _ _ _ is2 is (between.0 a below2)
            | inr (inl (same2, is2)) ↦ absurd (omega arith)
            | inr (inr (j2, from2, next2, is2)) ↦ absurd (omega arith)
          ]
      | inr (inr (j, from, next, is)) ↦
          elim (from_insert es i e a le) [
            | inl (below2, is2) ↦ both es es _ _ _ _ is2 is (up a j (omega arith) (omega arith))
            | inr (inl (same2, is2)) ↦ both es es _ _ _ _ is2 is (flip_greater (key_at es j) e.key (between.1 j from (omega arith)))
            | inr (inr (j2, from2, next2, is2)) ↦ both es es _ _ _ _ is2 is (up j2 j (omega arith) (omega arith))
          ]
    ]

-- where an entry of the shorter list stands in the old one
abbrev pub FromRemove : List PageEntry → ℕ → ℕ → Type 0
FromRemove es i k = (j : ℕ) × (get_or (remove es i) k empty_entry ≡ get_or es j empty_entry) × (((k < i) × (j ≡ k)) ⊎ ((i ≤ k) × (j ≡ k + 1)))

-- each entry of the shorter list stands in the old one
pub from_remove : (es : List PageEntry) (i k : ℕ) → i < length es → FromRemove es i k
from_remove es i k lt =
    elim (cases_lt k i) [
      | inl below ↦ (k, get_or-remove_below es i empty_entry k below lt, inl (below, refl))
      | inr above ↦ (k + 1, get_or-remove_above es i empty_entry k above lt, inr (above, refl))
    ]

-- the limits of each entry with one fewer
pub kept-remove : (leaf : _) (es : List PageEntry) (i : ℕ) → i < length es → AllKept leaf es → AllKept leaf (remove es i)
kept-remove leaf es i lt all k within =
    let n = length-remove es i lt in
    let f = from_remove es i k lt in
    let j : f.0 < length es = elim f.2 [ inl h ↦ omega arith | inr h ↦ omega arith ] in
    subst (KeepsEntry leaf) (sym f.1) (all f.0 j)

-- keys ascend with one fewer
pub ascend-remove : (es : List PageEntry) (i : ℕ) → i < length es → Ascend es → Ascend (remove es i)
ascend-remove es i lt up a b less within =
    let n = length-remove es i lt in
    let f = from_remove es i a lt in
    let g = from_remove es i b lt in
    let j : f.0 < g.0 = elim f.2 [ inl h ↦ elim g.2 [ inl k ↦ omega arith | inr k ↦ omega arith ] | inr h ↦ elim g.2 [ inl k ↦ omega arith | inr k ↦ omega arith ] ] in
    let m : g.0 < length es = elim g.2 [ inl k ↦ omega arith | inr k ↦ omega arith ] in
    both es es _ _ _ _ f.1 g.1 (up f.0 g.0 j m)
