-- One call more.
use Rattle.std.proofs.Common.{◌≡◌, ◌∙◌, inl, inr, ◌<◌, [], ◌∷◌, ℕ, ◌+◌, ◌*◌, ◌≤◌, List, ◌++◌, length, take, refl, sym, ap, subst, arith, length-append, append-nil, Vec, Some, None}
use Rattle.std.proofs.lemmas.List.{take_all, take-append-le}
use Rattle.std.proofs.lemmas.Bool.{cases_lt}
use Rattle.std.specs.declared.alloc.Global.{Global}
use Rattle.mdb_model.specs.declared.fault.Device.{Device}
use Rattle.mdb_model.specs.Images.{Image, byte_at}
use Rattle.mdb_host.specs.Disk.{Keeps, Calls, Agree, Torn, Creates, Removes, Synced, IsWithin, Has, Says, Disk}
use Rattle.mdb_host.specs.Fresh.{IsFresh}
use Rattle.mdb_host.specs.declared.call.Call.{Call}
use Rattle.mdb_host.specs.declared.call.Range.{Range}
use Rattle.mdb_host.specs.declared.call.Call.TheVariants.{Wrote, Tore, Synced as SyncedCall, Made as MadeCall, Removed as RemovedCall, Said, Idle}
use Rattle.mdb_host.specs.Memory.{RangeOf, KeptOrNot, ToreOrNot, SaidOrNot, Shape, after, shape, at_first, disk_of, written_over, put, with_device, zeros}
use Rattle.mdb_host.specs.MemoryLaws.{torn_put, torn_same, put_here, with_here, with_other}
use Rattle.mdb_host.proofs.Moments.{keeps_all}
use Rattle.mdb_host.proofs.Bytes.{over_has}

pub shape_push : (calls : List Call) (call : Call) (s : Shape) → shape (calls ++ call ∷ []) s ≡ after call (shape calls s)
shape_push [] call s = refl
shape_push (c ∷ calls) call s = shape_push calls call (after c s)

module _ (start : Image) (calls calls2 : List Call) (call : Call) (is : calls2 ≡ calls ++ call ∷ []) where
  pub longer : length calls2 ≡ length calls + 1
  longer = omega (arith, ap length is, length-append calls (call ∷ []))

  before : (t : ℕ) → t ≤ length calls → take t calls2 ≡ take t calls
  before t le = ap (λ (l : List Call). take t l) is ∙ take-append-le t calls (call ∷ []) le

  pub at_end : (t : ℕ) → length calls < t → shape (take t calls2) (at_first start) ≡ after call (shape calls (at_first start))
  at_end t lt = ap (λ (l : List Call). shape l (at_first start)) (take_all t calls2 (omega (arith, longer)) ∙ is) ∙ shape_push calls call (at_first start)

  pub pushed_keeps : Keeps (disk_of start calls) (disk_of start calls2)
  pushed_keeps = record {
    later = omega (arith, longer);
    kept = λ t image le left. (omega (arith, longer, le), subst (λ (l : List Call). (shape l (at_first start)).left image) (sym (before t le)) left.1);
    no_more = λ t image le left. (le, subst (λ (l : List Call). (shape l (at_first start)).left image) (before t le) left.1);
    said = λ t le. ap (λ (l : List Call). (shape l (at_first start)).said) (before t le);
  }

  pub shape_is : shape calls2 (at_first start) ≡ after call (shape calls (at_first start))
  shape_is = ap (λ (l : List Call). shape l (at_first start)) is ∙ shape_push calls call (at_first start)

  pub seen_is : (disk_of start calls2).seen ≡ (after call (shape calls (at_first start))).seen
  seen_is = ap (λ (s : Shape). s.seen) shape_is

  module _ (step : Image → Image → Type 0) (same : (image : Image) → step image image)
      (since : (image : Image) → (after call (shape calls (at_first start))).left image → (old : Image) × (shape calls (at_first start)).left old × step old image)
      (quiet : (after call (shape calls (at_first start))).said ≡ (shape calls (at_first start)).said) where
    here : (image : Image) → (shape calls (at_first start)).left image → (disk_of start calls).may_leave (length calls) image
    here image left = (omega arith, subst (λ (l : List Call). (shape l (at_first start)).left image) (sym (take_all (length calls) calls (omega arith))) left)

    since_all : (t : ℕ) (image : Image) → length calls ≤ t → t ≤ length calls2 → (disk_of start calls2).may_leave t image → (old : Image) × (disk_of start calls).may_leave (length calls) old × step old image
    since_all t image from to left = elim (cases_lt (length calls) t) [
      | inl lt ↦
          let old = since image (subst (λ (s : Shape). s.left image) (at_end t lt) left.1) in
          (old.0, here old.0 old.1, old.2)
      | inr le ↦
          let e : t ≡ length calls = omega (arith, from, le) in
          let left_then = pushed_keeps.no_more t image (omega (arith, le)) left in
          (image, subst (λ (n : ℕ). (disk_of start calls).may_leave n image) e left_then, same image)
    ]

    quiet_all : (t : ℕ) → length calls ≤ t → t ≤ length calls2 → (disk_of start calls2).said t ≡ (disk_of start calls).said (length calls)
    quiet_all t from to = elim (cases_lt (length calls) t) [
      | inl lt ↦ ap (λ (s : Shape). s.said) (at_end t lt) ∙ quiet ∙ ap (λ (l : List Call). (shape l (at_first start)).said) (sym (take_all (length calls) calls (omega arith)))
      | inr le ↦
          let e : t ≡ length calls = omega (arith, from, le) in
          pushed_keeps.said t (omega (arith, le)) ∙ ap (λ (n : ℕ). (disk_of start calls).said n) e
    ]

    pub pushed_calls : step (shape calls (at_first start)).seen (after call (shape calls (at_first start))).seen → Calls (disk_of start calls) (disk_of start calls2) step
    pushed_calls seen = record {
      no_more_than_one = omega (arith, longer);
      goes = record { keeps = pushed_keeps; since = since_all; quiet = quiet_all };
      seen = subst (λ (image : Image). step (shape calls (at_first start)).seen image) (sym seen_is) seen;
    }

at_now : (n t : ℕ) → n ≤ t → t ≤ n → t ≡ n
at_now n t from to = omega arith

-- nothing happened
pub still : (disk : Disk) (step : Image → Image → Type 0) → ((image : Image) → step image image) → Calls disk disk step
still disk step same = record {
  no_more_than_one = omega arith;
  goes = record {
    keeps = keeps_all disk;
    since = λ t image from to left. (image, subst (λ (n : ℕ). disk.may_leave n image) (at_now disk.now t from to) left, same image);
    quiet = λ t from to. ap disk.said (at_now disk.now t from to);
  };
  seen = same disk.seen;
}

pub still_is : (start : Image) (calls calls2 : List Call) (step : Image → Image → Type 0) → ((image : Image) → step image image) → calls2 ≡ calls → Calls (disk_of start calls) (disk_of start calls2) step
still_is start calls calls2 step same is = subst (λ (l : List Call). Calls (disk_of start calls) (disk_of start l) step) (sym is) (still (disk_of start calls) step same)

-- a call that changed nothing was kept, or not
pub idle_calls : (start : Image) (calls calls2 : List Call) (step : Image → Image → Type 0) → ((image : Image) → step image image) → KeptOrNot calls calls2 Idle → Calls (disk_of start calls) (disk_of start calls2) step
idle_calls start calls calls2 step same (inl is) = still_is start calls calls2 step same is
idle_calls start calls calls2 step same (inr is) = pushed_calls start calls calls2 Idle is step same (λ image left. (image, left, same image)) refl (same (shape calls (at_first start)).seen)

pub idle_shape : (start : Image) (calls calls2 : List Call) → KeptOrNot calls calls2 Idle → shape calls2 (at_first start) ≡ shape calls (at_first start)
idle_shape start calls calls2 (inl is) = ap (λ (l : List Call). shape l (at_first start)) is
idle_shape start calls calls2 (inr is) = shape_is start calls calls2 Idle is

pub idle_seen : (start : Image) (calls calls2 : List Call) → KeptOrNot calls calls2 Idle → (shape calls (at_first start)).seen ≡ (shape calls2 (at_first start)).seen
idle_seen start calls calls2 is = ap (λ (s : Shape). s.seen) (sym (idle_shape start calls calls2 is))

pub idle_said : (start : Image) (calls calls2 : List Call) → KeptOrNot calls calls2 Idle → (shape calls (at_first start)).said ≡ (shape calls2 (at_first start)).said
idle_said start calls calls2 is = ap (λ (s : Shape). s.said) (sym (idle_shape start calls calls2 is))

-- what a call makes of what a read gives and of the output
pub kept_seen : (start : Image) (calls calls2 : List Call) (call : Call) → calls2 ≡ calls ++ call ∷ [] → (after call (shape calls (at_first start))).seen ≡ (shape calls2 (at_first start)).seen
kept_seen start calls calls2 call is = sym (seen_is start calls calls2 call is)

pub kept_said : (start : Image) (calls calls2 : List Call) (call : Call) → calls2 ≡ calls ++ call ∷ [] → (after call (shape calls (at_first start))).said ≡ (shape calls2 (at_first start)).said
kept_said start calls calls2 call is = ap (λ (s : Shape). s.said) (sym (shape_is start calls calls2 call is))

-- a sync that is kept
pub synced_calls : (start : Image) (calls calls2 : List Call) (d : Device) → calls2 ≡ calls ++ SyncedCall d ∷ [] → Calls (disk_of start calls) (disk_of start calls2) Agree
synced_calls start calls calls2 d is = pushed_calls start calls calls2 (SyncedCall d) is Agree (λ image e. refl) (λ image left. (image, left.0, λ e. refl)) refl (λ e. refl)

pub synced_left : (start : Image) (calls calls2 : List Call) (d : Device) → calls2 ≡ calls ++ SyncedCall d ∷ [] → Synced (disk_of start calls2) d
synced_left start calls calls2 d is image left =
    let len = longer start calls calls2 (SyncedCall d) is in
    let end = subst (λ (s : Shape). s.left image) (at_end start calls calls2 (SyncedCall d) is (length calls2) (omega (arith, len))) left.1 in
    end.1 ∙ sym (λ i. seen_is start calls calls2 (SyncedCall d) is i d)

torn_none : (d : Device) (at n : ℕ) (image : Image) → Torn d at n image image
torn_none d at n image = torn_same d at n image

torn_of : (d : Device) (at : ℕ) (from : List ℕ) (r : Range) (old new : Disk) → RangeOf d at from r → Calls old new (Torn r.device r.at (length r.bytes.items)) → Calls old new (Torn d at (length from))
torn_of d at from r old new is calls =
    subst (λ (e : Device). Calls old new (Torn e at (length from))) is.0 (
    subst (λ (k : ℕ). Calls old new (Torn r.device k (length from))) is.1 (
    subst (λ (l : List ℕ). Calls old new (Torn r.device r.at (length l))) is.2 calls
    )
    )

pub wrote_calls : (start : Image) (calls calls2 : List Call) (d : Device) (at : ℕ) (from : List ℕ) (r : Range) → RangeOf d at from r → calls2 ≡ calls ++ Wrote r ∷ [] → Calls (disk_of start calls) (disk_of start calls2) (Torn d at (length from))
wrote_calls start calls calls2 d at from r range is =
    let n = length r.bytes.items in
    torn_of d at from r (disk_of start calls) (disk_of start calls2) range
    (pushed_calls start calls calls2 (Wrote r) is (Torn r.device r.at n) (torn_none r.device r.at n) (λ image left. left) refl (torn_put r.device r.at n r.bytes.items (shape calls (at_first start)).seen refl))

tore_kept : (start : Image) (calls calls2 : List Call) (d : Device) (at : ℕ) (from : List ℕ) (r : Range) → RangeOf d at from r → calls2 ≡ calls ++ Tore r ∷ [] → Calls (disk_of start calls) (disk_of start calls2) (Torn d at (length from))
tore_kept start calls calls2 d at from r range is =
    let n = length r.bytes.items in
    torn_of d at from r (disk_of start calls) (disk_of start calls2) range
    (pushed_calls start calls calls2 (Tore r) is (Torn r.device r.at n) (torn_none r.device r.at n) (λ image left. left) refl (torn_none r.device r.at n (shape calls (at_first start)).seen))

pub tore_calls : (start : Image) (calls calls2 : List Call) (d : Device) (at : ℕ) (from : List ℕ) → ToreOrNot calls calls2 d at from → Calls (disk_of start calls) (disk_of start calls2) (Torn d at (length from))
tore_calls start calls calls2 d at from (inl is) = still_is start calls calls2 (Torn d at (length from)) (torn_none d at (length from)) is
tore_calls start calls calls2 d at from (inr kept) = tore_kept start calls calls2 d at from kept.0 kept.1 kept.2

pub tore_seen : (start : Image) (calls calls2 : List Call) (d : Device) (at : ℕ) (from : List ℕ) → ToreOrNot calls calls2 d at from → (shape calls2 (at_first start)).seen ≡ (shape calls (at_first start)).seen
tore_seen start calls calls2 d at from (inl is) = ap (λ (l : List Call). (shape l (at_first start)).seen) is
tore_seen start calls calls2 d at from (inr kept) = ap (λ (s : Shape). s.seen) (shape_is start calls calls2 (Tore kept.0) kept.2)

pub tore_said : (start : Image) (calls calls2 : List Call) (d : Device) (at : ℕ) (from : List ℕ) → ToreOrNot calls calls2 d at from → (shape calls2 (at_first start)).said ≡ (shape calls (at_first start)).said
tore_said start calls calls2 d at from (inl is) = ap (λ (l : List Call). (shape l (at_first start)).said) is
tore_said start calls calls2 d at from (inr kept) = ap (λ (s : Shape). s.said) (shape_is start calls calls2 (Tore kept.0) kept.2)

-- a write in other words
put_range : (d : Device) (at : ℕ) (from : List ℕ) (r : Range) (image : Image) → RangeOf d at from r → put r.device r.at r.bytes.items image ≡ put d at from image
put_range d at from r image is = ap (λ (e : Device). put e r.at r.bytes.items image) is.0 ∙ ap (λ (k : ℕ). put d k r.bytes.items image) is.1 ∙ ap (λ (l : List ℕ). put d at l image) is.2

pub wrote_seen : (start : Image) (calls calls2 : List Call) (d : Device) (at : ℕ) (from : List ℕ) (r : Range) → RangeOf d at from r → calls2 ≡ calls ++ Wrote r ∷ [] → (shape calls2 (at_first start)).seen ≡ put d at from (shape calls (at_first start)).seen
wrote_seen start calls calls2 d at from r range is = seen_is start calls calls2 (Wrote r) is ∙ put_range d at from r (shape calls (at_first start)).seen range

pub wrote_has : (start : Image) (calls calls2 : List Call) (d : Device) (at : ℕ) (from : List ℕ) (r : Range) → RangeOf d at from r → calls2 ≡ calls ++ Wrote r ∷ []
    → IsWithin (disk_of start calls).seen d at (length from) → Has (disk_of start calls2).seen d at from
wrote_has start calls calls2 d at from r range is within i lt =
    let seen = (shape calls (at_first start)).seen in
    let new_is : (disk_of start calls2).seen d ≡ written_over at from (seen d) = (λ i. wrote_seen start calls calls2 d at from r range is i d) ∙ put_here d at from seen in
    ap (λ o. byte_at o (at + i)) new_is ∙ over_has at from (seen d) within.0 within.1 within.2 i lt

made_step : (d : Device) (pages : ℕ) (old new : Image) → Agree (with_device d (Some (zeros pages)) old) new → Creates d (8192 * pages) old new
made_step d pages old new is = record {
  others = λ e other. is e ∙ with_other d e (Some (zeros pages)) old other;
  here = inr (is d ∙ with_here d (Some (zeros pages)) old);
}

pub made_none : (d : Device) (n : ℕ) (image : Image) → Creates d n image image
made_none d n image = record { others = λ e other. refl; here = inl refl }

pub made_calls : (start : Image) (calls calls2 : List Call) (d : Device) (pages : ℕ) → calls2 ≡ calls ++ MadeCall d pages ∷ [] → Calls (disk_of start calls) (disk_of start calls2) (Creates d (8192 * pages))
made_calls start calls calls2 d pages is =
    let seen = (shape calls (at_first start)).seen in
    pushed_calls start calls calls2 (MadeCall d pages) is (Creates d (8192 * pages)) (made_none d (8192 * pages)) (λ image left. (left.0, left.1, made_step d pages left.0 image left.2)) refl (made_step d pages seen (with_device d (Some (zeros pages)) seen) (λ e. refl))

pub made_seen : (start : Image) (calls calls2 : List Call) (d : Device) (pages : ℕ) → calls2 ≡ calls ++ MadeCall d pages ∷ [] → (disk_of start calls2).seen d ≡ Some (zeros pages)
made_seen start calls calls2 d pages is = (λ i. seen_is start calls calls2 (MadeCall d pages) is i d) ∙ with_here d (Some (zeros pages)) (shape calls (at_first start)).seen

removed_step : (d : Device) (old new : Image) → Agree (with_device d None old) new → Removes d old new
removed_step d old new is = record {
  others = λ e other. is e ∙ with_other d e None old other;
  here = inr (is d ∙ with_here d None old);
}

pub removed_none : (d : Device) (image : Image) → Removes d image image
removed_none d image = record { others = λ e other. refl; here = inl refl }

pub removed_calls : (start : Image) (calls calls2 : List Call) (d : Device) → calls2 ≡ calls ++ RemovedCall d ∷ [] → Calls (disk_of start calls) (disk_of start calls2) (Removes d)
removed_calls start calls calls2 d is =
    let seen = (shape calls (at_first start)).seen in
    pushed_calls start calls calls2 (RemovedCall d) is (Removes d) (removed_none d) (λ image left. (left.0, left.1, removed_step d left.0 image left.2)) refl (removed_step d seen (with_device d None seen) (λ e. refl))

pub removed_seen : (start : Image) (calls calls2 : List Call) (d : Device) → calls2 ≡ calls ++ RemovedCall d ∷ [] → (disk_of start calls2).seen d ≡ None
removed_seen start calls calls2 d is = (λ i. seen_is start calls calls2 (RemovedCall d) is i d) ∙ with_here d None (shape calls (at_first start)).seen

module _ (start : Image) (calls calls2 : List Call) (v : Vec ℕ Global) (part : List ℕ) (v_is : v.items ≡ part) (is : calls2 ≡ calls ++ Said v ∷ []) where
  pub said_shape : (shape calls2 (at_first start)).said ≡ (shape calls (at_first start)).said ++ part
  said_shape = ap (λ (s : Shape). s.said) (shape_is start calls calls2 (Said v) is) ∙ ap (λ (l : List ℕ). (shape calls (at_first start)).said ++ l) v_is

  pub said_end : (disk_of start calls2).said (length calls2) ≡ (disk_of start calls).said (length calls) ++ part
  said_end =
      ap (λ (s : Shape). s.said) (at_end start calls calls2 (Said v) is (length calls2) (omega (arith, longer start calls calls2 (Said v) is)))
      ∙ ap (λ (l : List Call). (shape l (at_first start)).said ++ v.items) (sym (take_all (length calls) calls (omega arith)))
      ∙ ap (λ (l : List ℕ). (disk_of start calls).said (length calls) ++ l) v_is

  pub saying : (text : List ℕ) (n : ℕ) → n ≤ length text → part ≡ take n text → Says (disk_of start calls) (disk_of start calls2) text
  saying text n le front = record {
    no_more_than_one = omega (arith, longer start calls calls2 (Said v) is);
    keeps = pushed_keeps start calls calls2 (Said v) is;
    left = λ image left.
        let end = subst (λ (s : Shape). s.left image) (at_end start calls calls2 (Said v) is (length calls2) (omega (arith, longer start calls calls2 (Said v) is))) left.1 in
        (image, (omega arith, subst (λ (l : List Call). (shape l (at_first start)).left image) (sym (take_all (length calls) calls (omega arith))) end), λ e. refl);
    seen = λ e i. seen_is start calls calls2 (Said v) is i e;
    said = (n, le, said_end ∙ ap (λ (l : List ℕ). (disk_of start calls).said (length calls) ++ l) front);
  }

-- nothing was said
mute : (disk : Disk) (text : List ℕ) → Says disk disk text
mute disk text = record {
  no_more_than_one = omega arith;
  keeps = keeps_all disk;
  left = λ image left. (image, left, λ e. refl);
  seen = λ e. refl;
  said = (0, omega arith, sym (append-nil (disk.said disk.now)));
}

module _ (start : Image) (calls calls2 : List Call) (output output2 part : List ℕ) where
  pub part_seen : SaidOrNot calls calls2 output output2 part → (shape calls (at_first start)).seen ≡ (shape calls2 (at_first start)).seen
  part_seen (inl none) = ap (λ (l : List Call). (shape l (at_first start)).seen) (sym none.0)
  part_seen (inr some) = kept_seen start calls calls2 (Said some.0) some.2

  pub part_said : output ≡ (shape calls (at_first start)).said → SaidOrNot calls calls2 output output2 part → output2 ≡ (shape calls2 (at_first start)).said
  part_said is (inl none) = none.1 ∙ is ∙ ap (λ (l : List Call). (shape l (at_first start)).said) (sym none.0)
  part_said is (inr some) = some.3 ∙ ap (λ (l : List ℕ). l ++ part) is ∙ sym (said_shape start calls calls2 some.0 part some.1 some.2)

  pub part_says : (text : List ℕ) (n : ℕ) → n ≤ length text → part ≡ take n text → SaidOrNot calls calls2 output output2 part → Says (disk_of start calls) (disk_of start calls2) text
  part_says text n le front (inl none) = subst (λ (l : List Call). Says (disk_of start calls) (disk_of start l) text) (sym none.0) (mute (disk_of start calls) text)
  part_says text n le front (inr some) = saying start calls calls2 some.0 part some.1 some.2 text n le front

-- before the first call
pub fresh_first : (start : Image) → IsFresh (disk_of start []) start
fresh_first start = record { now = refl; seen = λ e. refl; only = λ image left. left.1; said = refl }

pub fresh : (start held : Image) (calls : List Call) → calls ≡ [] → start ≡ held → IsFresh (disk_of start calls) held
fresh start held calls none same =
    subst (λ (l : List Call). IsFresh (disk_of start l) held) (sym none) (
    subst (λ (image : Image). IsFresh (disk_of start []) image) same (fresh_first start)
    )
