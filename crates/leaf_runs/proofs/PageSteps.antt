-- What a write of one page does.
--     sets_leaf      a page that is written as a leaf
use Rattle.std.proofs.Common.{◌≡◌, refl, sym, ap, ◌∙◌, ℕ, ◌+◌, ◌≤◌, Bool, true, false, cond, T, List, [], ◌++◌, length, Option, Some, None, is_some, IsTrue, arith}
use Rattle.std.specs.Prelude.{option_and_then}
use Rattle.std.specs.declared.cmp.Ordering.{Ordering}
use Rattle.std.specs.declared.cmp.Ordering.TheVariants.{Less, Equal, Greater}
use Rattle.std.specs.Ordering.{nat_cmp, is_eq}
use Rattle.std.specs.Cmp.{tied_itself, nat_cmp_total}
use Rattle.std.specs.FinMap.{get, insert, remove, is_sorted, get-insert, get-remove, nat_cmp-IsAntisymmetric}
use Rattle.mdb_model.specs.Script.{is_table}
use Rattle.mdb_bytes.specs.Parts.{page_room}
use Rattle.mdb_bytes.specs.TablePages.{RowLeaf, rows_cost}
use Rattle.mdb_bytes.specs.PageReadings.{row_leaf_of}
use Rattle.mdb_bytes.specs.Paged.{PageBytes}
use Rattle.leaf_runs.specs.Runs.{leaf_at}
use Rattle.leaf_runs.specs.Edits.{IsPut, Splits, Joins}
use Rattle.row_page.specs.Entries.{IsPage, page_head_of, entries_of, by_bytes}
use Rattle.leaf_runs.proofs.LeafEdits.{made}
use Rattle.leaf_runs.specs.Steps.{SetsLeaf, IsPutOn, IsNewLeaf, IsNamedAt, StaysBeside, IsSplitOff, IsJoinedTo}

pub written_here : (pages : PageBytes) (page : ℕ) (bytes : List ℕ) → get (insert pages page bytes) page ≡ Some bytes
written_here pages page bytes = get-insert nat_cmp_total pages page bytes page ∙ ap (λ o. cond (is_eq o) (Some bytes) (get pages page)) (tied_itself nat_cmp_total page)

pub written_there : (pages : PageBytes) (page other : ℕ) (bytes : List ℕ) → (other ≡ page → ⊥) → get (insert pages page bytes) other ≡ get pages other
written_there pages page other bytes apart = get-insert nat_cmp_total pages page bytes other ∙ by_order (nat_cmp other page) refl where
  by_order : (o : Ordering) → nat_cmp other page ≡ o → cond (is_eq (nat_cmp other page)) (Some bytes) (get pages other) ≡ get pages other
  by_order Less is = ap (λ o. cond (is_eq o) (Some bytes) (get pages other)) is
  by_order Greater is = ap (λ o. cond (is_eq o) (Some bytes) (get pages other)) is
  by_order Equal is = absurd (apart (nat_cmp-IsAntisymmetric other page is))

-- a page that is written as a leaf
pub sets_leaf : (pages pages2 : PageBytes) (page : ℕ) (bytes : List ℕ) (leaf : RowLeaf) → pages2 ≡ insert pages page bytes → row_leaf_of bytes ≡ Some leaf → SetsLeaf pages pages2 page leaf
sets_leaf pages pages2 page bytes leaf is spells = record {
  there = ap (λ (p : PageBytes). leaf_at p page) is ∙ ap (option_and_then row_leaf_of) (written_here pages page bytes) ∙ spells;
  others = λ other apart. ap (λ (p : PageBytes). get p other) is ∙ written_there pages page other bytes apart;
}

pub put_on : (done : Bool) (pages pages2 : PageBytes) (page : ℕ) (bytes : List ℕ) (leaf : RowLeaf) (key value : List ℕ) → pages2 ≡ insert pages page bytes → IsPut done leaf key value bytes → IsPutOn done pages pages2 page leaf key value
put_on true pages pages2 page bytes leaf key value is spells = sets_leaf pages pages2 page bytes _ is spells
put_on false pages pages2 page bytes leaf key value is spells = (sets_leaf pages pages2 page bytes _ is spells.0, spells.1)

-- Two pages

-- the bytes of a page that is a leaf spell it
pub named_bytes : (pages : PageBytes) (page : ℕ) (bytes : List ℕ) (leaf : RowLeaf) → get pages page ≡ Some bytes → leaf_at pages page ≡ Some leaf → row_leaf_of bytes ≡ Some leaf
named_bytes pages page bytes leaf there is = sym (ap (option_and_then row_leaf_of) there) ∙ is

leaf_in : (pages : PageBytes) (page : ℕ) (bytes : List ℕ) (leaf : RowLeaf) → get pages page ≡ Some bytes → row_leaf_of bytes ≡ Some leaf → leaf_at pages page ≡ Some leaf
leaf_in pages page bytes leaf there is = ap (option_and_then row_leaf_of) there ∙ is

module _ (pages pages2 : PageBytes) (a b : ℕ) (x2 y2 : List ℕ) (apart : a ≡ b → ⊥) (is : pages2 ≡ insert (insert pages a x2) b y2) where
  pub first_of_two : get pages2 a ≡ Some x2
  first_of_two = ap (λ (p : PageBytes). get p a) is ∙ written_there (insert pages a x2) b a y2 apart ∙ written_here pages a x2

  pub second_of_two : get pages2 b ≡ Some y2
  second_of_two = ap (λ (p : PageBytes). get p b) is ∙ written_here (insert pages a x2) b y2

  pub beside_two : StaysBeside pages pages2 a b
  beside_two other not_a not_b = ap (λ (p : PageBytes). get p other) is ∙ written_there (insert pages a x2) b other y2 not_b ∙ written_there pages a other x2 not_a

pub split_off : (pages pages2 : PageBytes) (table from to at : ℕ) (answer : Bool) (x y x2 y2 : List ℕ) (leaf blank : RowLeaf) → get pages from ≡ Some x → get pages to ≡ Some y → Splits table from to at answer x y x2 y2
    → pages2 ≡ insert (insert pages from x2) to y2 → (from ≡ to → ⊥) → IsNamedAt pages table from leaf → IsNamedAt pages table to blank → blank.rows ≡ [] → at ≤ length leaf.rows
    → (answer ≡ true) × IsSplitOff pages pages2 from to at leaf blank
split_off pages pages2 table from to at answer x y x2 y2 leaf blank got got2 does is apart named named2 none le =
    let d = does leaf blank (named_bytes pages from x leaf got named.0, named.1, named.2) (named_bytes pages to y blank got2 named2.0, named2.1, named2.2) none le in (
      d.0,
      (
        leaf_in pages2 from x2 _ (first_of_two pages pages2 from to x2 y2 apart is) d.1,
        leaf_in pages2 to y2 _ (second_of_two pages pages2 from to x2 y2 apart is) d.2,
        beside_two pages pages2 from to x2 y2 apart is,
      ),
    )

pub removed_here : (pages : PageBytes) (page : ℕ) → get (remove pages page) page ≡ None
removed_here pages page = get-remove nat_cmp_total pages page page ∙ ap (λ o. cond (is_eq o) None (get pages page)) (tied_itself nat_cmp_total page)

pub removed_there : (pages : PageBytes) (page other : ℕ) → (other ≡ page → ⊥) → get (remove pages page) other ≡ get pages other
removed_there pages page other apart = get-remove nat_cmp_total pages page other ∙ by_order (nat_cmp other page) refl where
  by_order : (o : Ordering) → nat_cmp other page ≡ o → cond (is_eq (nat_cmp other page)) None (get pages other) ≡ get pages other
  by_order Less is = ap (λ o. cond (is_eq o) None (get pages other)) is
  by_order Greater is = ap (λ o. cond (is_eq o) None (get pages other)) is
  by_order Equal is = absurd (apart (nat_cmp-IsAntisymmetric other page is))

pub joined_to : (pages pages2 pages3 : PageBytes) (table first second : ℕ) (answer : Bool) (x y x2 y2 : List ℕ) (leaf next : RowLeaf) → get pages first ≡ Some x → get pages second ≡ Some y → Joins table first second answer x y x2
    → pages2 ≡ insert (insert pages first x2) second y2 → pages3 ≡ remove pages2 second → (first ≡ second → ⊥) → IsNamedAt pages table first leaf → IsNamedAt pages table second next
    → T (is_sorted by_bytes (leaf.rows ++ next.rows)) → rows_cost leaf.rows + rows_cost next.rows ≤ page_room → IsJoinedTo pages pages3 first second leaf next
joined_to pages pages2 pages3 table first second answer x y x2 y2 leaf next got got2 does is is3 apart named named2 up fits =
    let d = does leaf next (named_bytes pages first x leaf got named.0, named.1, named.2) (named_bytes pages second y next got2 named2.0, named2.1, named2.2) up fits in (
      leaf_in pages3 first x2 _ (ap (λ (p : PageBytes). get p first) is3 ∙ removed_there pages2 second first apart ∙ first_of_two pages pages2 first second x2 y2 apart is) d.1,
      ap (λ (p : PageBytes). get p second) is3 ∙ removed_here pages2 second,
      λ other not_a not_b. ap (λ (p : PageBytes). get p other) is3 ∙ removed_there pages2 second other not_b ∙ beside_two pages pages2 first second x2 y2 apart is other not_a not_b,
    )

-- New leaves

pub not_live : (pages : PageBytes) (page : ℕ) → is_some (get pages page) ≡ false → get pages page ≡ None
not_live pages page is = by_option (get pages page) is where
  by_option : (o : Option (List ℕ)) → is_some o ≡ false → o ≡ None
  by_option None e = refl
  by_option (Some b) e = absurd cc

pub new_leaf_made : (pages pages2 pages3 : PageBytes) (table page : ℕ) (old bytes : List ℕ) → is_some (get pages page) ≡ false → page ≤ 65535 → pages2 ≡ insert pages page old → pages3 ≡ insert pages2 page bytes
    → IsTrue (is_table table) → IsPage bytes → page_head_of bytes ≡ record { kind = 1; level = 0; table = table; own = page; next = 0 } → entries_of bytes ≡ [] → IsNewLeaf pages pages3 table page
new_leaf_made pages pages2 pages3 table page old bytes fresh small is2 is3 valid page_of head entries = record {
  fresh = not_live pages page fresh;
  small = small;
  set = record {
    there = leaf_in pages3 page bytes (record { table = table; number = page; next = 0; rows = [] }) (ap (λ (p : PageBytes). get p page) is3 ∙ written_here pages2 page bytes)
        (made bytes (record { table = table; number = page; next = 0; rows = [] }) page_of head entries valid (omega arith) (omega arith) refl tt);
    others = λ other apart.
        ap (λ (p : PageBytes). get p other) is3 ∙ written_there pages2 page other bytes apart ∙ ap (λ (p : PageBytes). get p other) is2 ∙ written_there pages page other old apart;
  };
}

pub lives_now : (pages pages2 : PageBytes) (page : ℕ) → ((other : ℕ) → is_some (get pages2 other) ≡ is_some (get (insert pages page []) other)) → is_some (get pages2 page) ≡ true
lives_now pages pages2 page living = living page ∙ ap is_some (written_here pages page [])
