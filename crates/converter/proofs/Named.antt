-- A map that stands on its blocks is the one that the bytes there name.
--     named      the law
use Rattle.std.proofs.Common.{◌≡◌, refl, sym, ap, subst, ◌∙◌, ℕ, zero, suc, ◌+◌, ◌-◌, ◌*◌, ◌<◌, ◌==◌, Bool, true, false, cond, List, [], ◌∷◌, ◌++◌, length, get_or, map, filter, take, drop, Some, None, ◌&&◌, nat_lt, inl, inr, length-append, arith}
use Rattle.std.specs.Prelude.{not, if◌then◌else◌, IsTrue, option_map, option_and_then}
use Rattle.std.specs.List.{enumerate_from, list_all}
use Rattle.std.proofs.lemmas.Bool.{cases_lt, eq-eqb, eqb-true}
use Rattle.std.proofs.lemmas.List.{ext_get_or, get_or_append_left, get_or-append_right, get_or-map, get_or-drop, get_or-take, get_or_past, length-take-le, length-map}
use Rattle.mdb_bytes.specs.declared.converter_pages.ConverterEntry.{ConverterEntry}
use Rattle.mdb_bytes.specs.declared.converter_pages.ConverterLeaf.{ConverterLeaf}
use Rattle.mdb_bytes.specs.declared.converter_pages.ConverterRoot.{ConverterRoot}
use Rattle.mdb_bytes.specs.ConverterPages.{converter_entry_fits, converter_leaf_format, converter_leaf_fields, converter_leaf_fits, converter_root_format}
use Rattle.mdb_bytes.specs.Fields.{fields_fit}
use Rattle.mdb_bytes.specs.Firsts.{leaf_count, no_entry}
use Rattle.mdb_bytes.specs.KeptMaps.{Placed, root_of, leaf_of, leaf_with, entries_from, placed, pages_at, kept_under, root_with_leaves, kept_map}
use Rattle.mdb_bytes.proofs.Decoding.{spelled-decoded}
use Rattle.mdb_bytes.proofs.ConverterLaws.{converter_root_again, converter_leaf_again}
use Rattle.converter.specs.Maps.{entry_at, block_of}
use Rattle.converter.specs.Tree.{HasLeafBytes, HasTree}

-- the middle one of three tests
middle : (a b c d : Bool) → ((a && b && c) && d) ≡ true → b ≡ true
middle true true c d h = refl
middle true false c d h = absurd cc
middle false b c d h = absurd cc

-- the entries that have a block, with their numbers
abbrev used_from : ℕ → List ConverterEntry → List Placed
used_from k entries = filter (λ e. not (e.1.block == 0)) (enumerate_from k entries)

-- entries that are the same at each place name the same pages, however many empty ones follow
used_same : (k : ℕ) (xs ys : List ConverterEntry) → ((i : ℕ) → entry_at xs i ≡ entry_at ys i) → used_from k xs ≡ used_from k ys
used_same k [] [] same = refl
used_same k [] (y ∷ ys) same =
    subst (λ (e : ConverterEntry). used_from k [] ≡ used_from k (e ∷ ys)) (same 0) (used_same (k + 1) [] ys (λ i. same (suc i)))
used_same k (x ∷ xs) [] same =
    subst (λ (e : ConverterEntry). used_from k (e ∷ xs) ≡ used_from k []) (sym (same 0)) (used_same (k + 1) xs [] (λ i. same (suc i)))
used_same k (x ∷ xs) (y ∷ ys) same =
    subst (λ (e : ConverterEntry). used_from k (x ∷ xs) ≡ used_from k (e ∷ ys)) (same 0)
    (ap (λ (more : List Placed). cond (not (x.block == 0)) ((k, x) ∷ more) more) (used_same (k + 1) xs ys (λ i. same (suc i))))

module _ (row : ℕ → List ℕ) (m : List ConverterEntry) (conv : ℕ) where
  -- the leaf that stands on a block
  leaf_there : (leaf block : ℕ) (held : HasLeafBytes m conv leaf (row block)) → leaf_with leaf (row block) ≡ Some held.leaf
  unfolding leaf_of
  leaf_there leaf block held =
      ap (option_and_then (λ (v : ConverterLeaf). if v.leaf == leaf then Some v else None)) (spelled-decoded converter_leaf_format converter_leaf_again (row block) held.leaf held.spells)
      ∙ ap (λ b. cond b (Some held.leaf) None) (eq-eqb held.leaf.leaf leaf held.number)

  leaf_long : (leaf block : ℕ) (held : HasLeafBytes m conv leaf (row block)) → length held.leaf.entries ≡ 600
  leaf_long leaf block held = long_of held.leaf (held.spells.0) where
    long_of : (v : ConverterLeaf) → IsTrue (converter_leaf_fits v && fields_fit (converter_leaf_fields v)) → length v.entries ≡ 600
    long_of v keeps =
        eqb-true (length v.entries) 600 (middle (nat_lt v.leaf 110) (length v.entries == 600) (list_all converter_entry_fits v.entries) (fields_fit (converter_leaf_fields v)) keeps)

  -- the entries of leaves that stand one after the other, from leaf number `leaf` on
  record Entries (leaf : ℕ) (leaves : List ℕ) : Type 0 where
    pub entries : List ConverterEntry
    pub there : entries_from leaf (map row leaves) ≡ Some entries
    pub long : length entries ≡ 600 * length leaves
    pub are : (k : ℕ) → k < 600 * length leaves → entry_at entries k ≡ entry_at m (conv + 600 * leaf + k)

  entries_are : (leaf : ℕ) (leaves : List ℕ) → ((i : ℕ) → i < length leaves → HasLeafBytes m conv (leaf + i) (row (get_or leaves i 0))) → Entries leaf leaves
  entries_are leaf [] held = record { entries = []; there = refl; long = refl; are = λ k less. absurd (omega (arith, less)) }
  entries_are leaf (b ∷ bs) held =
      with_first (subst (λ n. HasLeafBytes m conv n (row b)) (omega arith) (held 0 (omega arith)))
      (entries_are (leaf + 1) bs (λ i less. subst (λ n. HasLeafBytes m conv n (row (get_or bs i 0))) (omega arith) (held (suc i) (omega (arith, less))))) where
        with_first : HasLeafBytes m conv leaf (row b) → Entries (leaf + 1) bs → Entries leaf (b ∷ bs)
        with_first first rest =
            let own : length first.leaf.entries ≡ 600 = leaf_long leaf b first in
            record {
              entries = first.leaf.entries ++ rest.entries;
              there = λ i. option_and_then (λ (v : ConverterLeaf). option_map (λ entries. v.entries ++ entries) (rest.there i)) (leaf_there leaf b first i);
              long = length-append first.leaf.entries rest.entries ∙ omega (arith, own, rest.long);
              are = λ k less. elim (cases_lt k 600) [
                | inl low ↦ get_or_append_left first.leaf.entries rest.entries no_entry k (omega (arith, own, low)) ∙ first.entries k low
                | inr high ↦ get_or-append_right first.leaf.entries rest.entries 600 k no_entry own high
                    ∙ rest.are (k - 600) (omega (arith, less, high)) ∙ ap (entry_at m) (omega (arith, high))
              ];
            }

  module _ (blocks : ℕ) (conv_is : conv ≡ 1 + leaf_count blocks) (long : length m ≡ conv + blocks) (tree : HasTree m conv row) where
    root : ConverterRoot
    root = tree.root.root

    leaves : List ℕ
    leaves = root.leaves.items

    count : length leaves + 1 ≡ conv
    unfolding root leaves
    count = tree.root.is.count

    leaf_is : (i : ℕ) → i < length leaves → get_or leaves i 0 ≡ block_of m (i + 1)
    unfolding root leaves
    leaf_is i less = tree.root.leaves i (omega (arith, less, count))

    root_there : root_with_leaves row blocks (row (block_of m 0)) ≡ Some root
    unfolding root leaves root_of
    root_there =
        ap (option_and_then (λ (r : ConverterRoot). if length r.leaves.items == leaf_count blocks then Some r else None))
        (spelled-decoded converter_root_format converter_root_again (row (block_of m 0)) root tree.root.is.spells)
        ∙ ap (λ b. cond b (Some root) None) (eq-eqb (length root.leaves.items) (leaf_count blocks) (omega (arith, count, conv_is)))

    all : Entries 0 leaves
    all = entries_are 0 leaves (λ i less. subst (λ (b : ℕ). HasLeafBytes m conv (0 + i) (row b)) (sym (leaf_is i less)) (subst (λ n. HasLeafBytes m conv n (row (block_of m (i + 1)))) (omega arith) (tree.leaves i (omega (arith, less, count)))))

    -- the entries of the leaves are those of the map's pages, with empty ones after
    entry_same : (i : ℕ) → entry_at all.entries i ≡ entry_at (drop conv m) i
    entry_same i = elim (cases_lt i (600 * length leaves)) [
      | inl low ↦ all.are i low ∙ ap (entry_at m) (omega arith) ∙ sym (get_or-drop conv m i no_entry)
      | inr high ↦ get_or_past all.entries i no_entry (omega (arith, high, all.long))
          ∙ sym (get_or-drop conv m i no_entry ∙ get_or_past m (conv + i) no_entry (omega (arith, high, long, count, conv_is)))
    ]

    converter_is : block_of m 0 ∷ leaves ≡ map (λ e. e.block) (take conv m)
    converter_is =
        let short : length (take conv m) ≡ conv = length-take-le conv m (omega (arith, long)) in
        ext_get_or 0 (block_of m 0 ∷ leaves) (map (λ e. e.block) (take conv m)) (simp length-map (omega (arith, short, count))) (λ i less. at i (omega (arith, less, count)) short)
      where
        at : (i : ℕ) → i < conv → length (take conv m) ≡ conv → get_or (block_of m 0 ∷ leaves) i 0 ≡ get_or (map (λ e. e.block) (take conv m)) i 0
        at i less short = own i less ∙ sym (get_or-map (λ e. e.block) (take conv m) i no_entry 0 (omega (arith, short, less)) ∙ ap (λ (e : ConverterEntry). e.block) (get_or-take conv m i no_entry less))
          where
            own : (i : ℕ) → i < conv → get_or (block_of m 0 ∷ leaves) i 0 ≡ block_of m i
            own zero less = refl
            own (suc i) less = leaf_is i (omega (arith, less, count)) ∙ ap (block_of m) (omega arith)

    pub named : kept_map row blocks (block_of m 0) ≡ Some record { converter = map (λ e. e.block) (take conv m); places = placed (drop conv m); pages = pages_at row blocks (placed (drop conv m)) }
    unfolding leaves
    named =
        ap (option_and_then (kept_under row blocks (block_of m 0))) root_there
        ∙ ap (option_map (λ entries. record { converter = block_of m 0 ∷ leaves; places = placed entries; pages = pages_at row blocks (placed entries) })) all.there
        ∙ (λ i. Some (record { converter = converter_is i; places = used_same 0 all.entries (drop conv m) entry_same i; pages = pages_at row blocks (used_same 0 all.entries (drop conv m) entry_same i) }))
