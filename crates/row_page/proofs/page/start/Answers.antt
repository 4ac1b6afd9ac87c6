use Rattle.std.proofs.Common.{◌≡◌, ◌≤◌, ◌⊎◌, ℕ, [], length, refl, ap, ◌∙◌, arith, inl, inr}
use Rattle.std.proofs.lemmas.Bool.{cases_Bool, eqb-true, eqb-false, leb-true}
use Rattle.std.specs.Prelude.{nat_eq, nat_le}
use Rattle.mdb_bytes.proofs.Decoding.{and_left, and_right}
use Rattle.mdb_bytes.specs.Fields.{spelled}
use Rattle.mdb_bytes.specs.LogicalPages.{header_fields}
use Rattle.row_page.specs.Entries.{Head, IsHead, kind_on}
use Rattle.row_page.proofs.Halves.{blank}
use Rattle.row_page.proofs.ReadBack.{is_page, head_is, entries_are}
use Rattle.row_page.proofs.page.start.Goals as goal

-- the kind goes with the level
kind_goes : (level next : ℕ) → level ≤ 7 → next ≡ 0 → ((kind_on level ≡ 1) × (level ≡ 0)) ⊎ ((kind_on level ≡ 2) × (1 ≤ level) × (level ≤ 7) × (next ≡ 0))
kind_goes level next le none = elim (cases_Bool (nat_eq level 0)) [
  | inl is ↦ let zero_is = eqb-true level 0 is in inl (rw is refl, zero_is)
  | inr not ↦ let some = eqb-false level 0 not in inr (rw not refl, omega arith, le, none)
]

pub returns : goal.returns
returns c =
    let h : Head = record { kind = kind_on c.args.level; level = c.args.level; table = c.args.table.0; own = c.args.own; next = 0 } in
    let len : length c.split_at_mut-head.result.1.now ≡ 8128 = omega (arith, c.split_at_mut-head.ensures.back_len) in
    let head : IsHead h = record {
      kind = kind_goes c.args.level 0 c.requires.level refl;
      table = (leb-true 1 c.args.table.0 (and_left _ _ c.requires.table), leb-true c.args.table.0 500 (and_right (nat_le 1 c.args.table.0) _ c.requires.table));
      own = c.ranges.own.fits;
      next = omega arith;
    } in
    let s = blank _ _ (length c.split_at_mut-head.result.1.now) h head (c.write_head.ensures ∙ ap (λ kind. spelled (header_fields kind c.args.level c.args.table.0 c.args.own 0 0 0)) c.kind_for.ensures) (c.fill.ensures.after (λ y e. e)) len in
    record { page = is_page _ h [] s; head = head_is _ h [] s; empty = entries_are _ h [] s }
