-- What a reader finds, by the bytes that it read.
use Rattle.std.proofs.Common.{◌≡◌, ◌≢◌, ℕ, ◌+◌, ◌-◌, ◌<◌, ◌≤◌, List, [], ◌∷◌, ◌++◌, Bool, true, false, Result, Ok, Err, length, get_or, IsTrue, ◌↔◌, refl, sym, ◌∙◌, ap, subst, arith, take, drop, length-take, length-drop, length-append}
use Rattle.std.proofs.lemmas.List.{get_or-take, get_or-drop}
use Rattle.mdb_model.specs.declared.change.Change.{Change}
use Rattle.mdb_model.specs.declared.change.Commit.{Commit}
use Rattle.mdb_model.specs.declared.fault.PageFault.{PageFault}
use Rattle.mdb_model.specs.declared.fault.PageFault.TheVariants.{Failed, Damaged}
use Rattle.mdb_model.specs.declared.name.Name.{Name}
use Rattle.mdb_model.specs.Images.{Image}
use Rattle.mdb_model.specs.Sessions.{group_bytes}
use Rattle.mdb_host.specs.Disk.{Agree}
use Rattle.mdb_host.specs.Reads.{ReadsOnly}
use Rattle.mdb_host.specs.declared.host.Host as host
use Rattle.mdb_host.proofs.Moments.{same_image, stays}
use Rattle.mdb_bytes.specs.Rings.{ring_byte}
use Rattle.mdb_bytes.specs.Fields.{Spells, number_at}
use Rattle.mdb_bytes.specs.Groups.{Group, group_format, group_fields, group_fits}
use Rattle.mdb_bytes.specs.LogReading.{IsLog, log_bytes, bytes_from}
use Rattle.mdb_bytes.proofs.Decoding.{and_left, and_right}
use Rattle.mdb_bytes.proofs.GroupChecked.{group_limits}
use Rattle.mdb_bytes.proofs.GroupLaw.{group_is_long, length-group}
use Rattle.mdb_bytes.proofs.LogLaw.{first_is_gate, length_in, bytes_from-take}
use Rattle.mdb_bytes.proofs.ReadBack.{four_in}
use Rattle.redo_ring.specs.Ring.{HasGroup, HasLog, HasBytesAt, damage_at}
use Rattle.redo_ring.specs.declared.reader.RingReader.{RingReader}
use Rattle.redo_ring.specs.Reading.{NoGroup, FindsGroup, MovesReader, IsNextOf, StepsOn, AreGroups, WalkFinds, WalkEnds}
use Rattle.redo_ring.proofs.Log.{byte_from, stands_from, bytes_cons}
use Rattle.redo_ring.proofs.Places.{stands_joined}

-- the numbers in the second to fifth byte do not depend on how many bytes follow
front_number : (ring : ℕ → ℕ) (p n : ℕ) → 5 ≤ n → number_at 4 1 (bytes_from ring p n) ≡ number_at 4 1 (bytes_from ring p 5)
front_number ring p n le = sym (length_in (bytes_from ring p n)) ∙ ap (number_at 4 1) (bytes_from-take ring p 5 n le)

module _ (ring : ℕ → ℕ) (p : ℕ) (v : Group) (spelled : Spells group_format v (bytes_from ring p (group_bytes v.changes))) where
  -- a group says its length after its gate
  pub says_length : (n : ℕ) → 5 ≤ n → number_at 4 1 (bytes_from ring p n) ≡ group_bytes v.changes
  says_length n le =
      let long = group_is_long v.changes in
      front_number ring p n le ∙ sym (front_number ring p (group_bytes v.changes) (omega (arith, long)))
      ∙ ap (number_at 4 1) spelled.1 ∙ four_in (group_fields v) 1 (group_bytes v.changes) (and_right (group_fits v) _ spelled.0) refl

  -- its gate is open
  pub says_open : ring p ≡ 79
  says_open =
      let long = group_is_long v.changes in
      let e : p ≡ p + 0 = omega arith in
      ap ring e ∙ sym (byte_from ring p (group_bytes v.changes) 0 (omega (arith, long))) ∙ ap (λ (bs : List ℕ). get_or bs 0 0) spelled.1 ∙ first_is_gate v

  -- it is not too long
  pub says_short : group_bytes v.changes ≤ 1048576
  says_short = (group_limits v (and_left (group_fits v) _ spelled.0)).2

module _ (size : ℕ) (name : Name) (ring : ℕ → ℕ) (start p number : ℕ) where
  abbrev due : List Change → Group
  due changes = record { name = name; number = number + 1; changes = changes }

  -- the length that is said leaves no room
  pub no_room : (n : ℕ) → n ≡ number_at 4 1 (bytes_from ring p 33) → ((33 ≤ n) × (n ≤ 1048576) × (p + n < start + size) → ⊥) → NoGroup size name ring start p number
  no_room n is none changes fits spelled =
      let e : n ≡ group_bytes changes = is ∙ says_length ring p (due changes) spelled 33 (omega arith) in
      none (omega (arith, e, group_is_long changes), omega (arith, e, says_short ring p (due changes) spelled), omega (arith, e, fits))

  -- bytes of the length that is said are not the group that is due
  pub no_group : (n : ℕ) (bytes : List ℕ) → n ≡ number_at 4 1 (bytes_from ring p 33) → length bytes ≡ n → HasBytesAt ring p bytes → (HasGroup name (number + 1) bytes → ⊥) → NoGroup size name ring start p number
  no_group n bytes is len stands none changes fits spelled =
      let e : group_bytes changes ≡ length bytes = sym (is ∙ says_length ring p (due changes) spelled 33 (omega arith)) ∙ sym len in
      none (changes, subst (λ (bs : List ℕ). Spells group_format (record { name = name; number = number + 1; changes = changes }) bs) (ap (bytes_from ring p) e ∙ stands_from ring p bytes stands) spelled)

  -- the group of a log's first commit
  module _ (bytes : List ℕ) (stands : bytes ≡ bytes_from ring p (length bytes)) (has : HasGroup name (number + 1) bytes) where
    here : Spells group_format (record { name = name; number = number + 1; changes = has.0 }) (bytes_from ring p (group_bytes has.0))
    here =
        let len : length bytes ≡ group_bytes has.0 = ap length has.1.1 ∙ length-group (due has.0) in
        subst (λ (bs : List ℕ). Spells group_format (record { name = name; number = number + 1; changes = has.0 }) bs) (stands ∙ ap (bytes_from ring p) len) has.1

    bytes_len : length bytes ≡ group_bytes has.0
    bytes_len = ap length has.1.1 ∙ length-group (due has.0)

    pub first_of : (commits : List Commit) → IsLog ring name p number commits → IsNextOf size name ring p number bytes commits (Ok true)
    first_of [] log = absurd (log (says_open ring p (due has.0) here))
    first_of (c ∷ rest) log =
        let two : group_bytes c.changes ≡ group_bytes has.0 = sym (says_length ring p (due c.changes) log.0 33 (omega arith)) ∙ says_length ring p (due has.0) here 33 (omega arith) in
        let len : group_bytes c.changes ≡ length bytes = two ∙ sym bytes_len in (
          c,
          rest,
          refl,
          subst (λ (bs : List ℕ). Spells group_format (record { name = name; number = number + 1; changes = c.changes }) bs) (ap (bytes_from ring p) len ∙ sym stands) log.0,
          sym len,
          subst (λ (n : ℕ). IsLog ring name (p + n) (number + 1) rest) len log.1,
        )

  pub none_of : ring p ≢ 79 → (commits : List Commit) → IsLog ring name p number commits → commits ≡ []
  none_of shut [] log = refl
  none_of shut (c ∷ rest) log = absurd (shut (says_open ring p (due c.changes) log.0))

  pub never_broken : ring p ≡ 79 → NoGroup size name ring start p number → (commits : List Commit) → IsLog ring name p number commits → p + log_bytes commits < start + size → ⊥
  never_broken opened none [] log fits = log opened
  never_broken opened none (c ∷ rest) log fits = none c.changes (omega (arith, fits, bytes_cons c rest)) log.0

  -- what is found, of a log that is known
  pub next_of : (bytes : List ℕ) (result : Result Bool PageFault) → FindsGroup size name ring start p number bytes result
      → (commits : List Commit) → IsLog ring name p number commits → p + log_bytes commits < start + size → IsNextOf size name ring p number bytes commits result
  next_of bytes (Ok true) found commits log fits = first_of bytes found.0 found.1 commits log
  next_of bytes (Ok false) found commits log fits = none_of found commits log
  next_of bytes (Err (Damaged damage)) found commits log fits = never_broken found.1 found.2 commits log fits
  next_of bytes (Err Failed) found commits log fits = tt

-- Groups in a row

module _ (ring : ℕ → ℕ) (name : Name) where
  -- the bytes of one commit more
  pub log_bytes_push : (cs : List Commit) (c : Commit) → log_bytes (cs ++ c ∷ []) ≡ log_bytes cs + group_bytes c.changes
  log_bytes_push [] c = omega (arith, bytes_cons c [])
  log_bytes_push (x ∷ cs) c = omega (arith, log_bytes_push cs c, bytes_cons x cs, bytes_cons x (cs ++ c ∷ []))

  -- one group more
  pub groups_push : (p n : ℕ) (cs : List Commit) (c : Commit) (q m : ℕ) → q ≡ p + log_bytes cs → m ≡ n + length cs
      → AreGroups ring name p n cs → Spells group_format (record { name = name; number = m + 1; changes = c.changes }) (bytes_from ring q (group_bytes c.changes)) → AreGroups ring name p n (cs ++ c ∷ [])
  groups_push p n [] c q m at count groups spelled =
      let a : q ≡ p = omega (arith, at) in
      let b : m ≡ n = omega (arith, count) in
      (subst (λ (x : ℕ × ℕ). Spells group_format (record { name = name; number = x.1 + 1; changes = c.changes }) (bytes_from ring x.0 (group_bytes c.changes))) (λ i. (a i, b i)) spelled, tt)
  groups_push p n (x ∷ cs) c q m at count groups spelled =
      (groups.0, groups_push (p + group_bytes x.changes) (n + 1) cs c q m (omega (arith, at, bytes_cons x cs)) (omega (arith, count)) groups.1 spelled)

  -- with a closed gate after them they are the log
  pub log_of_groups : (p n end : ℕ) (cs : List Commit) → end ≡ p + log_bytes cs → AreGroups ring name p n cs → ring end ≢ 79 → IsLog ring name p n cs
  log_of_groups p n end [] at groups shut = let e : end ≡ p = omega (arith, at) in subst (λ (q : ℕ). ring q ≢ 79) e shut
  log_of_groups p n end (c ∷ cs) at groups shut = (groups.0, log_of_groups (p + group_bytes c.changes) (n + 1) end cs (omega (arith, at, bytes_cons c cs)) groups.1 shut)

-- As the code reads them

pub false_not : {W : Type 0} → (IsTrue false ↔ W) → W → ⊥
false_not e w = let t : false ≡ true = e.1 w in cc

module _ (size : ℕ) (name : Name) (ring : ℕ → ℕ) (start p number : ℕ) (head : List ℕ) (long : 5 ≤ length head) (stands : HasBytesAt ring p head) where
  gate : ring p ≡ get_or head 0 0
  gate = let e : p ≡ p + 0 = omega arith in ap ring e ∙ stands 0 (omega (arith, long))

  pub gate_open : get_or head 0 0 ≡ 79 → ring p ≡ 79
  gate_open is = gate ∙ is

  pub gate_shut : (get_or head 0 0 ≡ 79 → ⊥) → ring p ≢ 79
  gate_shut no_gate is = no_gate (sym gate ∙ is)

  length_said : (n : ℕ) → n ≡ number_at 4 1 head → n ≡ number_at 4 1 (bytes_from ring p 33)
  length_said n is = is ∙ ap (number_at 4 1) (sym (stands_from ring p head stands)) ∙ front_number ring p (length head) long ∙ sym (front_number ring p 33 (omega arith))

  module _ (opened : get_or head 0 0 ≡ 79) (n : ℕ) (is : n ≡ number_at 4 1 head) (fault : PageFault) (named : fault ≡ Damaged (damage_at size p)) where
    damaged_with : (bytes : List ℕ) → NoGroup size name ring start p number → FindsGroup size name ring start p number bytes (Err fault)
    damaged_with bytes none = subst (λ (f : PageFault). FindsGroup size name ring start p number bytes (Err f)) (sym named) (refl, gate_open opened, none)

    -- there is no room for the length that is said
    pub finds_no_room : (bytes : List ℕ) → (IsTrue false ↔ ((33 ≤ n) × (n ≤ 1048576) × (p + n < start + size))) → FindsGroup size name ring start p number bytes (Err fault)
    finds_no_room bytes room = damaged_with bytes (no_room size name ring start p number n (length_said n is) (false_not room))

    -- the bytes are not the group that is due
    pub finds_other : (bytes read : List ℕ) → read ≡ bytes → length bytes ≡ n → HasBytesAt ring p bytes → (IsTrue false ↔ HasGroup name (number + 1) read) → FindsGroup size name ring start p number bytes (Err fault)
    finds_other bytes read same len there due_not =
        damaged_with bytes (no_group size name ring start p number n bytes (length_said n is) len there (λ has. false_not due_not (subst (λ (bs : List ℕ). HasGroup name (number + 1) bs) (sym same) has)))

-- the group that is due
pub finds_group : (size : ℕ) (name : Name) (ring : ℕ → ℕ) (start p number : ℕ) (bytes read : List ℕ) → read ≡ bytes → HasBytesAt ring p bytes → (IsTrue true ↔ HasGroup name (number + 1) read)
    → FindsGroup size name ring start p number bytes (Ok true)
finds_group size name ring start p number bytes read same stands due_is =
    (sym (stands_from ring p bytes stands), subst (λ (bs : List ℕ). HasGroup name (number + 1) bs) same (due_is.0 refl))

-- bytes that stood there before calls that change no device
pub stood : (size p : ℕ) (old new : Image) (bytes : List ℕ) → Agree old new → HasBytesAt (ring_byte size new) p bytes → HasBytesAt (ring_byte size old) p bytes
stood size p old new bytes same stands = subst (λ (i : Image). HasBytesAt (ring_byte size i) p bytes) (sym (same_image old new same)) stands

-- the bytes so far and some more
pub stands_more : (size p done : ℕ) (old mid : Image) (so_far more all : List ℕ) → length so_far ≡ done → all ≡ so_far ++ more → Agree old mid
    → HasBytesAt (ring_byte size old) p so_far → HasBytesAt (ring_byte size mid) (p + done) more → HasBytesAt (ring_byte size old) p all
stands_more size p done old mid so_far more all len is same one two =
    let there : HasBytesAt (ring_byte size old) (p + length so_far) more = subst (λ (n : ℕ). HasBytesAt (ring_byte size old) (p + n) more) (sym len) (stood size (p + done) old mid more same two) in
    subst (λ (bs : List ℕ). HasBytesAt (ring_byte size old) p bs) (sym is) (stands_joined (ring_byte size old) p so_far more one there)

-- Bytes of a window

-- the same bytes
pub stands_as : (ring : ℕ → ℕ) (p : ℕ) (a b : List ℕ) → a ≡ b → HasBytesAt ring p b → HasBytesAt ring p a
stands_as ring p a b same stands = subst (λ (bs : List ℕ). HasBytesAt ring p bs) (sym same) stands

-- a front of bytes that stand there
pub front_stands : (ring : ℕ → ℕ) (p n : ℕ) (bytes : List ℕ) → n ≤ length bytes → HasBytesAt ring p bytes → HasBytesAt ring p (take n bytes)
front_stands ring p n bytes le stands i lt =
    let in_it : i < n = omega (arith, lt, length-take n bytes) in
    stands i (omega (arith, in_it, le)) ∙ sym (get_or-take n bytes i 0 in_it)

-- the bytes after a front, which stand where it ends
pub rest_stands : (ring : ℕ → ℕ) (p q : ℕ) (bytes : List ℕ) → p ≤ q → HasBytesAt ring p bytes → HasBytesAt ring q (drop (q - p) bytes)
rest_stands ring p q bytes le stands i lt =
    let at : q + i ≡ p + (q - p + i) = omega arith in
    ap ring at ∙ stands (q - p + i) (omega (arith, lt, length-drop (q - p) bytes)) ∙ sym (get_or-drop (q - p) bytes i 0)

-- bytes that stand there after calls that change no device
pub stands_still : (size size2 p : ℕ) (old new : Image) (bytes : List ℕ) → size2 ≡ size → Agree old new → HasBytesAt (ring_byte size old) p bytes → HasBytesAt (ring_byte size2 new) p bytes
stands_still size size2 p old new bytes same_size same stands = subst (λ (x : ℕ × Image). HasBytesAt (ring_byte x.0 x.1) p bytes) (λ i. (sym same_size i, same_image old new same i)) stands

-- Steps

-- before the first call
pub reads_none : {H : Type 0} (h : host.Ghosts H) (a : H) → ReadsOnly h a a
reads_none h a = record {
  calm = λ told. stays (h.disk a) Agree (λ image e. refl);
  seen = λ told e. refl;
  later = omega arith;
  say_faults = refl;
}

-- a step, where the ring is told by something else
pub steps_where : (told other : Type 0) (ring : ℕ → ℕ) (old new : RingReader) (result : Result Bool PageFault) → (told → other) → StepsOn other ring old new result → StepsOn told ring old new result
steps_where told other ring old new result then steps = record {
  bytes = steps.bytes;
  group = steps.group;
  goes = steps.goes;
  finds = λ t. steps.finds (then t);
}

-- a reader stays on its ring
pub keeps_size : (old new : RingReader) (bytes : List ℕ) (result : Result Bool PageFault) → MovesReader old new bytes result → new.size ≡ old.size
keeps_size old new bytes (Ok true) goes = ap (λ (r : RingReader). r.size) goes
keeps_size old new bytes (Ok false) goes = ap (λ (r : RingReader). r.size) goes
keeps_size old new bytes (Err fault) goes = ap (λ (r : RingReader). r.size) goes

-- a reader never goes back
pub goes_up : (old new : RingReader) (bytes : List ℕ) (result : Result Bool PageFault) → MovesReader old new bytes result → old.position ≤ new.position
goes_up old new bytes (Ok true) goes = let at : new.position ≡ old.position + length bytes = ap (λ (r : RingReader). r.position) goes in omega (arith, at)
goes_up old new bytes (Ok false) goes = let at : new.position ≡ old.position = ap (λ (r : RingReader). r.position) goes in omega (arith, at)
goes_up old new bytes (Err fault) goes = let at : new.position ≡ old.position = ap (λ (r : RingReader). r.position) goes in omega (arith, at)

-- where the reader stands after a group, by the length that it says
pub went_by : (old : RingReader) (n m : ℕ) → m ≡ n → ◌≡◌ {A = RingReader} (record old { position = old.position + n; number = old.number + 1 }) (record old { position = old.position + m; number = old.number + 1 })
went_by old n m same = ap (λ (k : ℕ). record old { position = old.position + k; number = old.number + 1 }) (sym same)

-- A walk

module _ (size : ℕ) (name : Name) (ring : ℕ → ℕ) (start after : ℕ) where
  -- what was walked over
  pub record Walked (position number : ℕ) : Type 0 where
    pub before : List Commit
    pub groups : AreGroups ring name start after before
    pub at : position ≡ start + log_bytes before
    pub count : number ≡ after + length before

  -- one group more
  pub walked_on : (p n p2 n2 : ℕ) (bytes : List ℕ) (result : Result Bool PageFault) → Walked p n → FindsGroup size name ring start p n bytes result → result ≡ Ok true → p2 ≡ p + length bytes → n2 ≡ n + 1 → Walked p2 n2
  walked_on p n p2 n2 bytes result walked found is at count =
      let f : FindsGroup size name ring start p n bytes (Ok true) = subst (λ (r : Result Bool PageFault). FindsGroup size name ring start p n bytes r) is found in
      let len : length bytes ≡ group_bytes f.1.0 = ap length f.1.1.1 ∙ length-group (record { name = name; number = n + 1; changes = f.1.0 }) in
      let spelled : Spells group_format (record { name = name; number = n + 1; changes = f.1.0 }) (bytes_from ring p (group_bytes f.1.0)) =
      subst (λ (bs : List ℕ). Spells group_format (record { name = name; number = n + 1; changes = f.1.0 }) bs) (f.0 ∙ ap (bytes_from ring p) len) f.1.1 in
      let c : Commit = record { changes = f.1.0 } in
      record {
        before = walked.before ++ record { changes = f.1.0 } ∷ [];
        groups = groups_push ring name start after walked.before c p n walked.at walked.count walked.groups spelled;
        at = omega (arith, at, len, walked.at, log_bytes_push ring name walked.before c);
        count = omega (arith, count, walked.count, length-append walked.before (c ∷ []));
      }

  -- the end of the log
  pub walked_all : (p n : ℕ) (bytes : List ℕ) (result : Result Bool PageFault) → Walked p n → p < start + size → FindsGroup size name ring start p n bytes result → result ≡ Ok false → (commits : List Commit) × HasLog size name ring start after p n commits
  walked_all p n bytes result walked fits found is =
      let shut : ring p ≢ 79 = subst (λ (r : Result Bool PageFault). FindsGroup size name ring start p n bytes r) is found in (
        walked.before,
        record {
          log = log_of_groups ring name start after p walked.before walked.at walked.groups shut;
          ends = walked.at;
          count = walked.count;
          room = omega (arith, fits, walked.at);
        },
      )

  -- it breaks off
  pub walked_into : (p n end last : ℕ) (bytes : List ℕ) (fault : PageFault) → Walked p n → FindsGroup size name ring start p n bytes (Err fault) → WalkFinds size name ring start after end last (Err fault)
  walked_into p n end last bytes (Damaged damage) walked found = record {
    before = walked.before;
    groups = walked.groups;
    at_gate = found.0 ∙ ap (damage_at size) walked.at;
    opened = ap ring (sym walked.at) ∙ found.1;
    none = subst (λ (x : ℕ × ℕ). NoGroup size name ring start x.0 x.1) (λ i. (walked.at i, walked.count i)) found.2;
  }
  walked_into p n end last bytes Failed walked found = tt

  -- what is left of a log that is known
  pub record Left (commits : List Commit) (position number : ℕ) : Type 0 where
    pub rest : List Commit
    pub log : IsLog ring name position number rest
    pub bytes : position + log_bytes rest ≡ start + log_bytes commits
    pub count : number + length rest ≡ after + length commits

  pub left_on : (commits : List Commit) (p n p2 n2 : ℕ) (bytes : List ℕ) (result : Result Bool PageFault) (left : Left commits p n) → IsNextOf size name ring p n bytes left.rest result → result ≡ Ok true → p2 ≡ p + length bytes → n2 ≡ n + 1 → Left commits p2 n2
  left_on commits p n p2 n2 bytes result left next is at count =
      let f : IsNextOf size name ring p n bytes left.rest (Ok true) = subst (λ (r : Result Bool PageFault). IsNextOf size name ring p n bytes left.rest r) is next in
      let here : p + length bytes ≡ p2 = sym at in
      let there : n + 1 ≡ n2 = sym count in
      let sum : log_bytes left.rest ≡ log_bytes (f.0 ∷ f.1) = ap log_bytes f.2 in
      let long : length left.rest ≡ length (f.0 ∷ f.1) = ap length f.2 in
      record {
        rest = f.1;
        log = subst (λ (x : ℕ × ℕ). IsLog ring name x.0 x.1 f.1) (λ i. (here i, there i)) f.5;
        bytes = omega (arith, left.bytes, sum, bytes_cons f.0 f.1, f.4, at);
        count = omega (arith, left.count, long, count);
      }

  pub left_none : (commits : List Commit) (p n : ℕ) (bytes : List ℕ) (result : Result Bool PageFault) (left : Left commits p n) → IsNextOf size name ring p n bytes left.rest result → result ≡ Ok false
      → (p ≡ start + log_bytes commits) × (n ≡ after + length commits)
  left_none commits p n bytes result left next is =
      let none : left.rest ≡ [] = subst (λ (r : Result Bool PageFault). IsNextOf size name ring p n bytes left.rest r) is next in
      let a : log_bytes left.rest ≡ 0 = ap log_bytes none in
      let b : length left.rest ≡ 0 = ap length none in
      (omega (arith, left.bytes, a), omega (arith, left.count, b))

  pub left_fault : (commits : List Commit) (p n end last : ℕ) (bytes : List ℕ) (fault : PageFault) (left : Left commits p n) → IsNextOf size name ring p n bytes left.rest (Err fault) → WalkEnds start after end last commits (Err fault)
  left_fault commits p n end last bytes (Damaged damage) left next = next
  left_fault commits p n end last bytes Failed left next = tt

-- A reader in the loop is over the same ring as at its start

module _ (size size2 start start2 p n : ℕ) (name name2 : Name) (old mid : Image) (same_size : size2 ≡ size) (same_name : name2 ≡ name) (same_start : start2 ≡ start) (same : Agree old mid) where
  all : ◌≡◌ {A = ℕ × Name × ℕ × Image} (size2, name2, start2, mid) (size, name, start, old)
  all i = (same_size i, same_name i, same_start i, sym (same_image old mid same) i)

  pub finds_at : (bytes : List ℕ) (result : Result Bool PageFault) → FindsGroup size2 name2 (ring_byte size2 mid) start2 p n bytes result → FindsGroup size name (ring_byte size old) start p n bytes result
  finds_at bytes result found = subst (λ (x : ℕ × Name × ℕ × Image). FindsGroup x.0 x.1 (ring_byte x.0 x.3) x.2 p n bytes result) all found

  pub next_at : (bytes : List ℕ) (commits : List Commit) (result : Result Bool PageFault) → IsNextOf size2 name2 (ring_byte size2 mid) p n bytes commits result → IsNextOf size name (ring_byte size old) p n bytes commits result
  next_at bytes commits result next = subst (λ (x : ℕ × Name × ℕ × Image). IsNextOf x.0 x.1 (ring_byte x.0 x.3) p n bytes commits result) all next

  pub log_at : (commits : List Commit) → IsLog (ring_byte size old) name p n commits → IsLog (ring_byte size2 mid) name2 p n commits
  log_at commits log = subst (λ (x : ℕ × Name × ℕ × Image). IsLog (ring_byte x.0 x.3) x.1 p n commits) (sym all) log

-- where the reader stands after a group, and after a closed gate
pub went_on : (old new : RingReader) (bytes : List ℕ) (b : Bool) → b ≡ true → MovesReader old new bytes (Ok b) → new ≡ record old { position = old.position + length bytes; number = old.number + 1 }
went_on old new bytes b is goes = subst (λ (x : Bool). MovesReader old new bytes (Ok x)) is goes

pub stayed : (old new : RingReader) (bytes : List ℕ) (b : Bool) → b ≡ false → MovesReader old new bytes (Ok b) → new ≡ old
stayed old new bytes b is goes = subst (λ (x : Bool). MovesReader old new bytes (Ok x)) is goes

-- the same at the reader's own numbers
pub walked_at : (size : ℕ) (name : Name) (ring : ℕ → ℕ) (start after p n p2 n2 : ℕ) → p2 ≡ p → n2 ≡ n → (commits : List Commit) × HasLog size name ring start after p n commits → (commits : List Commit) × HasLog size name ring start after p2 n2 commits
walked_at size name ring start after p n p2 n2 same_p same_n (commits, log) = (commits, subst (λ (x : ℕ × ℕ). HasLog size name ring start after x.0 x.1 commits) (λ i. (sym same_p i, sym same_n i)) log)
