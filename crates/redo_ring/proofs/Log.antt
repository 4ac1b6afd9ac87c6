-- What writes after a log and at its gate leave of it.
use Rattle.std.proofs.Common.{◌≡◌, ◌≢◌, ◌⊎◌, inl, inr, ℕ, zero, suc, ◌+◌, ◌-◌, ◌≤◌, ◌<◌, List, [], ◌∷◌, ◌++◌, length, take, drop, get_or, refl, sym, ◌∙◌, ap, subst, arith, length-append, length-drop}
use Rattle.std.proofs.lemmas.Bool.{cases_eq}
use Rattle.std.proofs.lemmas.List.{append-nil, get_or-drop, get_or_append_left, get_or-append_right}
use Rattle.std.proofs.lemmas.List.Sums.{sum_by-cons}
use Rattle.mdb_model.specs.declared.change.Change.{Change}
use Rattle.mdb_model.specs.declared.change.Commit.{Commit}
use Rattle.mdb_model.specs.declared.name.Name.{Name}
use Rattle.mdb_model.specs.Images.{Image}
use Rattle.mdb_model.specs.Sessions.{group_bytes}
use Rattle.mdb_host.specs.Disk.{Disk, Goes, Arrives}
use Rattle.mdb_host.proofs.Moments.{widen, chain}
use Rattle.mdb_bytes.specs.Fields.{Spells}
use Rattle.mdb_bytes.specs.Groups.{Group, group_format}
use Rattle.mdb_bytes.specs.LogReading.{IsLog, log_bytes, bytes_from}
use Rattle.mdb_bytes.specs.Rings.{ring_byte}
use Rattle.mdb_bytes.proofs.GroupLaw.{bytes_from-same, length-bytes_from, length-group, group_is_long}
use Rattle.mdb_bytes.proofs.LogLaw.{first_is_gate}
use Rattle.redo_ring.specs.Ring.{RingTorn, HasBytesAt, HasGroup, IsDue, Appends, Appended}
use Rattle.redo_ring.proofs.Places.{rest_is}

-- Bytes of the ring

-- two lists with the same bytes at each place are one
pub same_bytes : (a b : List ℕ) → length a ≡ length b → ((i : ℕ) → i < length a → get_or a i 0 ≡ get_or b i 0) → a ≡ b
same_bytes [] [] len each = refl
same_bytes [] (y ∷ b) len each = absurd (omega arith)
same_bytes (x ∷ a) [] len each = absurd (omega arith)
same_bytes (x ∷ a) (y ∷ b) len each =
    let head : x ≡ y = each 0 (omega arith) in
    let tail : a ≡ b = same_bytes a b (omega arith) (λ i lt. each (suc i) (omega arith)) in
    λ k. head k ∷ tail k

-- one of the bytes from a position on
pub byte_from : (ring : ℕ → ℕ) (p n i : ℕ) → i < n → get_or (bytes_from ring p n) i 0 ≡ ring (p + i)
byte_from ring p zero i lt = absurd (omega arith)
byte_from ring p (suc n) zero lt = let e : p ≡ p + 0 = omega arith in ap ring e
byte_from ring p (suc n) (suc i) lt = let e : p + 1 + i ≡ p + suc i = omega arith in byte_from ring (p + 1) n i (omega arith) ∙ ap ring e

-- bytes that stand there are those of the ring
pub stands_from : (ring : ℕ → ℕ) (p : ℕ) (bytes : List ℕ) → HasBytesAt ring p bytes → bytes_from ring p (length bytes) ≡ bytes
stands_from ring p bytes stands =
    same_bytes (bytes_from ring p (length bytes)) bytes (length-bytes_from ring p (length bytes))
    (λ i lt. let inside : i < length bytes = omega (arith, length-bytes_from ring p (length bytes)) in byte_from ring p (length bytes) i inside ∙ stands i inside)

-- The log

pub bytes_cons : (c : Commit) (commits : List Commit) → log_bytes (c ∷ commits) ≡ group_bytes c.changes + log_bytes commits
bytes_cons c commits = sum_by-cons (λ commit. group_bytes commit.changes) c commits

abbrev pub SameUpto : (ℕ → ℕ) → (ℕ → ℕ) → ℕ → ℕ → Type 0
SameUpto f g p end = (q : ℕ) → p ≤ q → q < end → g q ≡ f q

-- a log is what its bytes up to its closed gate are, and what stands there
pub log_then : (f g : ℕ → ℕ) (name : Name) (p n end m : ℕ) (commits more : List Commit) → p + log_bytes commits ≡ end → n + length commits ≡ m → SameUpto f g p end → IsLog f name p n commits → IsLog g name end m more
    → IsLog g name p n (commits ++ more)
log_then f g name p n end m [] more ends count same log here =
    let e : end ≡ p = omega (arith, ends) in
    let k : m ≡ n = omega arith in
    subst (λ (x : ℕ × ℕ). IsLog g name x.0 x.1 more) (λ i. (e i, k i)) here
log_then f g name p n end m (c ∷ commits) more ends count same log here =
    let sum = bytes_cons c commits in (
      subst (λ (bs : List ℕ). Spells group_format (record { name = name; number = n + 1; changes = c.changes }) bs) (sym (bytes_from-same f g p (group_bytes c.changes) (λ q from to. same q from (omega (arith, sum))))) log.0,
      log_then f g name (p + group_bytes c.changes) (n + 1) end m commits more (omega (arith, sum)) (omega arith) (λ q from to. same q (omega arith) to) log.1 here,
    )

-- its closed gate
pub gate_closed : (f : ℕ → ℕ) (name : Name) (p n end : ℕ) (commits : List Commit) → p + log_bytes commits ≡ end → IsLog f name p n commits → f end ≢ 79
gate_closed f name p n end [] ends log = let e : p ≡ end = omega (arith, ends) in subst (λ (q : ℕ). f q ≢ 79) e log
gate_closed f name p n end (c ∷ commits) ends log = gate_closed f name (p + group_bytes c.changes) (n + 1) end commits (omega (arith, bytes_cons c commits)) log.1

-- One group more

module _ (size : ℕ) (name : Name) (end last : ℕ) (changes : List Change) (group : List ℕ) (spelled_so : Spells group_format (record { name = name; number = last + 1; changes = changes }) group) where
  abbrev due : Group
  due = record { name = name; number = last + 1; changes = changes }

  -- what is written after the gate: the group without its own, and a closed one
  abbrev pub behind : List ℕ
  behind = drop 1 (group ++ 0 ∷ [])

  long : length group ≡ group_bytes changes
  long = ap length spelled_so.1 ∙ length-group due

  some : 33 ≤ length group
  some = omega (arith, long, group_is_long changes)

  first : get_or group 0 0 ≡ 79
  first = ap (λ (bs : List ℕ). get_or bs 0 0) spelled_so.1 ∙ first_is_gate due

  behind_length : length (drop 1 (group ++ 0 ∷ [])) ≡ length group
  behind_length = omega (arith, length-drop 1 (group ++ 0 ∷ []), length-append group (0 ∷ []))

  -- after an open gate the group stands, with a closed gate after it
  module _ (g : ℕ → ℕ) (opened : g end ≡ 79) (stands : HasBytesAt g (end + 1) (drop 1 (group ++ 0 ∷ []))) where
    byte_is : HasBytesAt g end group
    byte_is zero lt = let e : end + 0 ≡ end = omega arith in ap g e ∙ opened ∙ sym first
    byte_is (suc i) lt =
        let e : end + suc i ≡ end + 1 + i = omega arith in
        let k : suc i ≡ 1 + i = omega arith in
        ap g e ∙ stands i (omega (arith, behind_length)) ∙ get_or-drop 1 (group ++ 0 ∷ []) i 0 ∙ ap (λ (j : ℕ). get_or (group ++ 0 ∷ []) j 0) (sym k) ∙ get_or_append_left group (0 ∷ []) 0 (suc i) lt

    gate_after : g (end + group_bytes changes) ≢ 79
    gate_after is =
        let i = length group - 1 in
        let at : end + 1 + i ≡ end + group_bytes changes = omega (arith, long, some) in
        let j : 1 + i ≡ length group = omega (arith, some) in
        let here = stands i (omega (arith, behind_length, some)) ∙ get_or-drop 1 (group ++ 0 ∷ []) i 0 ∙ ap (λ (k : ℕ). get_or (group ++ 0 ∷ []) k 0) j in
        let closed : get_or (group ++ 0 ∷ []) (length group) 0 ≡ 0 = get_or-append_right group (0 ∷ []) (length group) (length group) 0 (omega arith) (omega arith) ∙ (let z : length group - length group ≡ 0 = omega arith in ap (λ (k : ℕ). get_or (0 ∷ []) k 0) z) in
        let both : 79 ≡ 0 = sym is ∙ sym (ap g at) ∙ here ∙ closed in
        absurd (omega (arith, both))

    group_stands : IsLog g name end last (record { changes = changes } ∷ [])
    group_stands = (
      subst (λ (bs : List ℕ). Spells group_format (record { name = name; number = last + 1; changes = changes }) bs) (sym (ap (bytes_from g end) (sym long) ∙ stands_from g end group byte_is)) spelled_so,
      gate_after,
    )

  module _ (a b : Image) (torn : RingTorn size (end + 1) (length group) a b) (p after : ℕ) (commits : List Commit) (is : IsDue size name end last (group_bytes changes) (ring_byte size a) p after commits) where
    same_behind : SameUpto (ring_byte size a) (ring_byte size b) p (end + 1)
    same_behind q from to = torn.beside q (inl (omega arith, omega (arith, long, is.room)))

    -- bytes after the closed gate don't count
    pub behind_keeps : IsLog (ring_byte size b) name p after commits
    behind_keeps =
        let shut : ring_byte size b end ≢ 79 = λ opened. gate_closed (ring_byte size a) name p after end commits is.ends is.log (sym (same_behind end (omega (arith, is.ends)) (omega arith)) ∙ opened) in
        subst (λ (l : List Commit). IsLog (ring_byte size b) name p after l) (append-nil commits)
        (log_then (ring_byte size a) (ring_byte size b) name p after end last commits [] is.ends is.count (λ q from to. same_behind q from (omega arith)) is.log shut)

    module _ (stands : HasBytesAt (ring_byte size b) (end + 1) (drop 1 (group ++ 0 ∷ []))) (c : Image) (gate : RingTorn size end 1 b c) where
      same_gate : SameUpto (ring_byte size a) (ring_byte size c) p end
      same_gate q from to = gate.beside q (inl (to, omega (arith, is.room))) ∙ same_behind q from (omega arith)

      here : HasBytesAt (ring_byte size c) (end + 1) (drop 1 (group ++ 0 ∷ []))
      here i lt = gate.beside (end + 1 + i) (inr (omega arith, omega (arith, behind_length, long, is.room, is.ends))) ∙ stands i lt

      pub opened_adds : ring_byte size c end ≡ 79 → IsLog (ring_byte size c) name p after (commits ++ record { changes = changes } ∷ [])
      opened_adds opened = log_then (ring_byte size a) (ring_byte size c) name p after end last commits (record { changes = changes } ∷ []) is.ends is.count same_gate is.log (group_stands (ring_byte size c) opened here)

      pub shut_keeps : ring_byte size c end ≢ 79 → IsLog (ring_byte size c) name p after commits
      shut_keeps shut = subst (λ (l : List Commit). IsLog (ring_byte size c) name p after l) (append-nil commits) (log_then (ring_byte size a) (ring_byte size c) name p after end last commits [] is.ends is.count same_gate is.log shut)

      pub either : IsLog (ring_byte size c) name p after commits ⊎ IsLog (ring_byte size c) name p after (commits ++ record { changes = changes } ∷ [])
      either = elim (cases_eq (ring_byte size c end) 79) [
        | inl opened ↦ inr (opened_adds opened)
        | inr shut ↦ inl (shut_keeps shut)
      ]

  -- the step of the first half
  pub appends_behind : (a b : Image) → RingTorn size (end + 1) (length group) a b → Appends size name end last changes a b
  appends_behind a b torn = record {
    others = torn.others;
    same_size = torn.same_size;
    front = torn.front;
    log = λ p after commits is. inl (behind_keeps a b torn p after commits is);
  }

  -- and of both
  pub appends_both : (a b c : Image) → RingTorn size (end + 1) (length group) a b → HasBytesAt (ring_byte size b) (end + 1) (drop 1 (group ++ 0 ∷ [])) → RingTorn size end 1 b c → Appends size name end last changes a c
  appends_both a b c torn stands gate = record {
    others = λ e other. gate.others e other ∙ torn.others e other;
    same_size = gate.same_size ∙ torn.same_size;
    front = λ k lt. gate.front k lt ∙ torn.front k lt;
    log = λ p after commits is. either a b torn p after commits is stands c gate;
  }

  pub appended_both : (a b c : Image) → RingTorn size (end + 1) (length group) a b → HasBytesAt (ring_byte size b) (end + 1) (drop 1 (group ++ 0 ∷ [])) → RingTorn size end 1 b c → HasBytesAt (ring_byte size c) end (79 ∷ [])
      → Appended size name end last changes a c
  appended_both a b c torn stands gate opened =
      let e : end ≡ end + 0 = omega arith in
      record {
        appends = appends_both a b c torn stands gate;
        more = λ p after commits is. opened_adds a b torn p after commits is stands c gate (ap (λ (q : ℕ). ring_byte size c q) e ∙ opened 0 (omega arith));
      }

  module _ (d0 d1 : Disk) (first_goes : Goes d0 d1 (RingTorn size (end + 1) (length group))) where
    pub first_half : Goes d0 d1 (Appends size name end last changes)
    first_half = widen d0 d1 _ _ first_goes (λ a b left torn. appends_behind a b torn)

    module _ (d2 : Disk) (kept : (image : Image) → d1.may_leave d1.now image → HasBytesAt (ring_byte size image) (end + 1) (drop 1 (group ++ 0 ∷ []))) (second : Goes d1 d2 (RingTorn size end 1)) where
      pub both_halves : Goes d0 d2 (Appends size name end last changes)
      both_halves = chain d0 d1 d2 _ _ _ first_goes second (λ a b left torn. appends_behind a b torn) (λ a b c left torn left2 gate. appends_both a b c torn (kept b left2) gate)

      pub arrives : ((image : Image) → d2.may_leave d2.now image → HasBytesAt (ring_byte size image) end (79 ∷ [])) → Arrives d0 d2 (Appended size name end last changes)
      arrives opened c left =
          let b = second.since d2.now c second.keeps.later (omega arith) left in
          let a = first_goes.since d1.now b.0 first_goes.keeps.later (omega arith) b.1 in
          (a.0, a.1, appended_both a.0 b.0 c a.2 (kept b.0 b.1) b.2 (opened c left))

-- What is written is the slice after the gate

module _ (size end : ℕ) (group closed : List ℕ) (is : closed ≡ group ++ 0 ∷ []) where
  -- the slice of the code
  abbrev pub sliced : List ℕ
  sliced = take (length closed - 1) (drop 1 closed)

  pub behind_is : take (length closed - 1) (drop 1 closed) ≡ drop 1 (group ++ 0 ∷ [])
  behind_is = rest_is 1 closed ∙ ap (drop 1) is

  sliced_length : length (take (length closed - 1) (drop 1 closed)) ≡ length group
  sliced_length = ap length behind_is ∙ omega (arith, length-drop 1 (group ++ 0 ∷ []), length-append group (0 ∷ []))

  pub behind_goes : (d0 d1 : Disk) → Goes d0 d1 (RingTorn size (end + 1) (length (take (length closed - 1) (drop 1 closed)))) → Goes d0 d1 (RingTorn size (end + 1) (length group))
  behind_goes d0 d1 goes = subst (λ (n : ℕ). Goes d0 d1 (RingTorn size (end + 1) n)) sliced_length goes

  pub behind_kept : (d1 : Disk) → ((image : Image) → d1.may_leave d1.now image → HasBytesAt (ring_byte size image) (end + 1) (take (length closed - 1) (drop 1 closed)))
      → (image : Image) → d1.may_leave d1.now image → HasBytesAt (ring_byte size image) (end + 1) (drop 1 (group ++ 0 ∷ []))
  behind_kept d1 kept image left = subst (λ (bs : List ℕ). HasBytesAt (ring_byte size image) (end + 1) bs) behind_is (kept image left)

-- a group has 33 bytes at least
pub group_has : (name : Name) (number : ℕ) (bytes : List ℕ) → HasGroup name number bytes → 33 ≤ length bytes
group_has name number bytes has =
    let g : Group = record { name = name; number = number; changes = has.0 } in
    omega (arith, ap length has.1.1 ∙ length-group g, group_is_long has.0)
