-- How many pages live, and what a savepoint leaves spare.
--     live_counted      the pages that live are no more than the space rule counts
--     spare_left      rows with room leave spare pages
use Rattle.std.proofs.Common.{◌≡◌, inl, inr, refl, ap, ◌∙◌, subst, ℕ, zero, suc, ◌+◌, ◌-◌, ◌*◌, ◌≤◌, Bool, true, false, cond, List, Some, None, arith}
use Rattle.std.specs.Prelude.{is_some}
use Rattle.std.specs.declared.cmp.Ordering.{Ordering}
use Rattle.std.specs.declared.cmp.Ordering.TheVariants.{Less, Equal, Greater}
use Rattle.std.specs.Ordering.{nat_cmp, eq_by_cmp, is_eq}
use Rattle.std.specs.Cmp.{nat_cmp_total}
use Rattle.std.specs.FinMap.{get, insert, len, get-empty, get-insert, len-empty, len-insert, nat_cmp-IsAntisymmetric}
use Rattle.std.proofs.lemmas.Bool.{or_cases, leb-true, false_from_ne_true}
use Rattle.mdb_model.specs.Images.{Image}
use Rattle.mdb_model.specs.Space.{has_room, is_enough, tree_pages, converter_pages}
use Rattle.mdb_model.specs.Tables.{Tables}
use Rattle.leaf_runs.specs.TableAreas.{IsTableArea}
use Rattle.page_store.specs.LogicalPages.{live_pages_below, lives_in, store_pages}
use Rattle.page_store.specs.Opens.{own_pages}
use Rattle.page_store.specs.Store.{Store, block_count, page_block, block_bytes}
use Rattle.page_store.specs.WholeSavepoint.{count_below, live_below, spare_after}
use Rattle.run_forms.proofs.PageCounts.{count_within}
use Rattle.store_rows.specs.StoredRows.{stored_rows}

-- The count

tie : (o : Ordering) → is_eq o ≡ true → o ≡ Equal
tie Less is = cc
tie Equal is = refl
tie Greater is = cc

module _ (lives : ℕ → Bool) (bytes : ℕ → List ℕ) where
  -- from a number on there is no page below it
  none_from : (n k : ℕ) → n ≤ k → get (live_pages_below lives bytes n) k ≡ None
  none_from zero k from = get-empty nat_cmp k
  none_from (suc n) k from = by_test (lives n) (none_from n k (omega (arith, from))) where
    apart : eq_by_cmp nat_cmp k n ≡ false
    apart = false_from_ne_true (eq_by_cmp nat_cmp k n) (λ is. omega (arith, from, nat_cmp-IsAntisymmetric k n (tie (nat_cmp k n) is)))

    by_test : (b : Bool) → get (live_pages_below lives bytes n) k ≡ None → get (cond b (insert (live_pages_below lives bytes n) n (bytes n)) (live_pages_below lives bytes n)) k ≡ None
    by_test false none = none
    by_test true none = get-insert nat_cmp_total (live_pages_below lives bytes n) n (bytes n) k ∙ ap (λ b. cond b (Some (bytes n)) (get (live_pages_below lives bytes n) k)) apart ∙ none

  -- the pages are as many as live
  count_is : (n : ℕ) → len (live_pages_below lives bytes n) ≡ count_below lives n
  count_is zero = len-empty nat_cmp (List ℕ)
  count_is (suc n) = by_test (lives n) (count_is n) where
    by_test : (b : Bool) → len (live_pages_below lives bytes n) ≡ count_below lives n → len (cond b (insert (live_pages_below lives bytes n) n (bytes n)) (live_pages_below lives bytes n)) ≡ count_below lives n + cond b 1 0
    by_test false is = omega (arith, is)
    by_test true is =
        len-insert nat_cmp_total (live_pages_below lives bytes n) n (bytes n)
        ∙ ap (λ o. cond (is_some o) (len (live_pages_below lives bytes n)) (len (live_pages_below lives bytes n) + 1)) (none_from n n (omega arith))
        ∙ ap (λ m. m + 1) is

pub live_counted : (store : Store) (seen : Image) → IsTableArea (store_pages store seen)
    → live_below store (block_count store) ≤ 2 + tree_pages (stored_rows store seen) (stored_rows store seen)
live_counted store seen rows =
    subst (λ n. n ≤ 2 + tree_pages (stored_rows store seen) (stored_rows store seen))
    (count_is (lives_in store) (λ page. block_bytes store seen (page_block store page)) (block_count store))
    (count_within (store_pages store seen) rows)

-- The room

-- one block more asks for one page of the converter more at most
own_is : (n : ℕ) → own_pages n ≡ converter_pages n
own_is n = omega arith

one_more : (n : ℕ) → converter_pages n ≤ converter_pages (n - 1) + 1
one_more n = omega arith

pub spare_left : (store : Store) (seen : Image) (kept : ℕ) → IsTableArea (store_pages store seen) → store.maps.conv ≡ own_pages (block_count store)
    → has_room (stored_rows store seen) (stored_rows store seen) 0 kept (block_count store) ≡ true → kept + 159 ≤ spare_after store
spare_left store seen kept rows conv room = elim (or_cases (is_enough t t 0 kept blocks) (is_enough t t 0 kept (blocks - 1)) room) [
  | inl all ↦ omega (arith, conv, own, lives, leb-true (4 + tree_pages t t + 0 + 2 * converter_pages blocks + kept + 160) blocks all)
  | inr one ↦ omega (arith, conv, own, lives, one_more blocks, leb-true (4 + tree_pages t t + 0 + 2 * converter_pages (blocks - 1) + kept + 160) (blocks - 1) one)
] where
  t : Tables
  t = stored_rows store seen

  blocks : ℕ
  blocks = block_count store

  own : own_pages blocks ≡ converter_pages blocks
  own = own_is blocks

  lives : live_below store blocks ≤ 2 + tree_pages t t
  lives = live_counted store seen rows
