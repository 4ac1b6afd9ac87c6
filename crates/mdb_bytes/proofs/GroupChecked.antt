-- What makes bytes a group.
use Rattle.std.proofs.Common.{◌≡◌, sym, ap, subst, ◌∙◌, ℕ, ◌+◌, ◌≤◌, ◌↔◌, Bool, true, false, List, ◌++◌, length, drop, Some, None, arith, length-append}
use Rattle.std.specs.Prelude.{nat_le, map, ◌&&◌, IsTrue}
use Rattle.std.specs.List.{list_all, flat_map}
use Rattle.std.proofs.lemmas.Bool.{le-leb, leb-true}
use Rattle.std.proofs.lemmas.List.Folds.{list_all-append}
use Rattle.std.proofs.lemmas.Option.{same_Some}
use Rattle.mdb_bytes.proofs.Booleans.{never}
use Rattle.mdb_model.specs.declared.name.Name.{Name}
use Rattle.mdb_model.specs.Sessions.{group_bytes}
use Rattle.mdb_model.specs.Tables.{place_cmp, place_of}
use Rattle.mdb_bytes.specs.declared.group.GroupHead.{GroupHead}
use Rattle.mdb_bytes.specs.Fields.{Spells, field_fits, fields_fit, spelled, rises}
use Rattle.mdb_bytes.specs.Groups.{Group, group_format, group_fits, group_fields, group_head, change_fields, change_fits, longest_group}
use Rattle.mdb_bytes.specs.GroupHeads.{group_head_fields, group_head_of, FindsHead, IsHeadFor, IsGroup}
use Rattle.mdb_bytes.specs.ChangeOrder.{IsChangeRun}
use Rattle.mdb_bytes.proofs.Decoding.{and_left, and_right, and_both}
use Rattle.mdb_bytes.proofs.GroupLaw.{spelled-append, length-changes}
use Rattle.mdb_bytes.proofs.ChangeRuns.{group_changes, group_long}
use Rattle.mdb_bytes.proofs.RunLaw.{ascends-rises, rises-ascends}
use Rattle.mdb_bytes.proofs.GroupFront.{finds_head}

-- the limits of a group
pub group_limits : (v : Group) → IsTrue (group_fits v) → (list_all change_fits v.changes ≡ true) × (rises place_cmp (map place_of v.changes) ≡ true) × (group_bytes v.changes ≤ longest_group)
group_limits v fits =
    let rows = and_left (list_all change_fits v.changes && rises place_cmp (map place_of v.changes)) (nat_le (group_bytes v.changes) longest_group) fits in (
      and_left (list_all change_fits v.changes) _ rows,
      and_right (list_all change_fits v.changes) _ rows,
      leb-true (group_bytes v.changes) longest_group (and_right (list_all change_fits v.changes && rises place_cmp (map place_of v.changes)) (nat_le (group_bytes v.changes) longest_group) fits),
    )

-- no head, no group
pub not_due : (name : Name) (number : ℕ) (bytes : List ℕ) → FindsHead bytes None → IsTrue false ↔ IsGroup name number bytes
not_due name number bytes none =
    never (λ due. let found = finds_head bytes None none (record { name = name; number = number; changes = due.0 }) due.1 in absurd cc)

-- the head of a group that is due
due_head : (name : Name) (number : ℕ) (bytes : List ℕ) (h : GroupHead) → FindsHead bytes (Some h) → (due : IsGroup name number bytes)
    → h ≡ group_head_of (record { name = name; number = number; changes = due.0 })
due_head name number bytes h found due =
    same_Some h (group_head_of (record { name = name; number = number; changes = due.0 })) (finds_head bytes (Some h) found (record { name = name; number = number; changes = due.0 }) due.1)

due_for : (name : Name) (number : ℕ) (bytes : List ℕ) (h : GroupHead) → FindsHead bytes (Some h) → IsGroup name number bytes → IsHeadFor h name number (length bytes)
due_for name number bytes h found due =
    let v : Group = record { name = name; number = number; changes = due.0 } in
    let is = due_head name number bytes h found due in
    let long = group_long v bytes due.1 in
    let most = (group_limits v (and_left (group_fits v) _ due.1.0)).2 in
    let len : h.length ≡ group_bytes due.0 = ap (λ h. h.length) is in
    (ap (λ h. h.name) is, ap (λ h. h.number) is, len ∙ sym long.0, omega (arith, most))

pub other_due : (name : Name) (number : ℕ) (bytes : List ℕ) (h : GroupHead) → FindsHead bytes (Some h) → ¬ IsHeadFor h name number (length bytes) → IsTrue false ↔ IsGroup name number bytes
other_due name number bytes h found other = never (λ due. other (due_for name number bytes h found due))

due_run : (name : Name) (number : ℕ) (bytes : List ℕ) (h : GroupHead) → FindsHead bytes (Some h) → IsGroup name number bytes → IsChangeRun None h.changes (drop 33 bytes)
unfolding IsChangeRun
due_run name number bytes h found due =
    let v : Group = record { name = name; number = number; changes = due.0 } in
    let limits = group_limits v (and_left (group_fits v) _ due.1.0) in
    (due.0, sym (ap (λ h. h.changes) (due_head name number bytes h found due)), rises-ascends due.0 limits.1, group_changes v bytes due.1)

-- the changes of a run after a head make a group
run_due : (name : Name) (number : ℕ) (bytes : List ℕ) (h : GroupHead) → FindsHead bytes (Some h) → IsHeadFor h name number (length bytes) → IsChangeRun None h.changes (drop 33 bytes) → IsGroup name number bytes
unfolding IsChangeRun spelled
run_due name number bytes h found is run =
    let v : Group = record { name = name; number = number; changes = run.0 } in
    let body : bytes ≡ spelled (group_head_fields h) ++ spelled (flat_map change_fields run.0) = found.1 ∙ ap (λ t. spelled (group_head_fields h) ++ t) run.3.1 in
    let len : length bytes ≡ group_bytes run.0 = ap length body ∙ length-append (spelled (group_head_fields h)) (spelled (flat_map change_fields run.0)) ∙ ap (λ n. 33 + n) (length-changes run.0) in
    let said : h.length ≡ group_bytes run.0 = is.2 ∙ len in
    let count : h.changes ≡ length run.0 = sym run.1 in
    let heads : h ≡ group_head_of v = λ i. record { length = said i; name = is.0 i; number = is.1 i; changes = count i } in
    let small : group_bytes run.0 ≤ longest_group = omega (arith, is.3) in
    let fits : IsTrue (group_fits v) =
    and_both (list_all change_fits run.0 && rises place_cmp (map place_of run.0)) (nat_le (group_bytes run.0) longest_group)
    (and_both (list_all change_fits run.0) (rises place_cmp (map place_of run.0)) (and_left (list_all change_fits run.0) _ run.3.0) (ascends-rises run.0 run.2))
    (le-leb (group_bytes run.0) longest_group small) in
    let head_fit : IsTrue (fields_fit (group_head_fields (group_head_of v))) = subst (λ h. IsTrue (fields_fit (group_head_fields h))) heads found.0 in
    let room : IsTrue (fields_fit (group_fields v)) =
    list_all-append field_fits (group_head v) (flat_map change_fields run.0)
    ∙ and_both (list_all field_fits (group_head v)) (list_all field_fits (flat_map change_fields run.0)) head_fit (and_right (list_all change_fits run.0) _ run.3.0) in
    let whole : bytes ≡ spelled (group_fields v) =
    body ∙ ap (λ h. spelled (group_head_fields h) ++ spelled (flat_map change_fields run.0)) heads ∙ sym (spelled-append (group_head v) (flat_map change_fields run.0)) in
    (run.0, (and_both (group_fits v) (fields_fit (group_fields v)) fits room, whole))

pub due_by_run : (name : Name) (number : ℕ) (bytes : List ℕ) (h : GroupHead) (b : Bool) → FindsHead bytes (Some h) → IsHeadFor h name number (length bytes)
    → (IsTrue b ↔ IsChangeRun None h.changes (drop 33 bytes)) → IsTrue b ↔ IsGroup name number bytes
due_by_run name number bytes h b found is run =
    (λ t. run_due name number bytes h found is (run.0 t), λ due. run.1 (due_run name number bytes h found due))

-- Groups of any name and number

pub no_group : (bytes : List ℕ) → FindsHead bytes None → IsTrue false ↔ ((v : Group) × Spells group_format v bytes)
no_group bytes none = never (λ w. let found = finds_head bytes None none w.0 w.1 in absurd cc)

pub group_by_head : (bytes : List ℕ) (h : GroupHead) (b : Bool) → FindsHead bytes (Some h) → (IsTrue b ↔ IsGroup h.name h.number bytes) → IsTrue b ↔ ((v : Group) × Spells group_format v bytes)
group_by_head bytes h b found due = (
  λ t. let w = due.0 t in (record { name = h.name; number = h.number; changes = w.0 }, w.1),
  λ w.
      let is = same_Some h (group_head_of w.0) (finds_head bytes (Some h) found w.0 w.1) in
      let same : w.0 ≡ record { name = h.name; number = h.number; changes = w.0.changes } =
      let back = sym is in λ i. record { name = (back i).name; number = (back i).number; changes = w.0.changes } in
      due.1 (w.0.changes, subst (λ v. Spells group_format v bytes) same w.1),
)
