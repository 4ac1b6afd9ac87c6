-- The parts of a page.
--     parts_say      what a page with parts says
--     sections_same      a page has its parts in one way
--     parts_found      what makes parts of a page
use Rattle.std.proofs.Common.{◌≡◌, refl, sym, ap, subst, ◌∙◌, ℕ, ◌+◌, ◌-◌, ◌*◌, ◌≤◌, ◌^◌, true, List, [], ◌∷◌, ◌++◌, length, take, drop, arith, length-append}
use Rattle.std.specs.Prelude.{nat_lt, IsTrue, replicate}
use Rattle.std.specs.List.{list_all}
use Rattle.std.proofs.lemmas.Bool.{lt-ltb}
use Rattle.std.proofs.lemmas.List.{append-nil, drop-drop, take_at, drop_at, take-append-drop, length-take, length-drop, length-replicate}
use Rattle.std.proofs.lemmas.List.Folds.{list_all-append}
use Rattle.byteorder.specs.Endian.{big_bytes}
use Rattle.mdb_bytes.specs.declared.page_sections.PageHead.{PageHead}
use Rattle.mdb_bytes.specs.Fields.{Text, field_fits, fields_fit, spelled, number_at}
use Rattle.mdb_bytes.specs.Parts.{page_len, page_room}
use Rattle.mdb_bytes.specs.EntryPages.{page_head_fields, page_head_in, HasSections}
use Rattle.mdb_bytes.proofs.Decoding.{and_both}
use Rattle.mdb_bytes.proofs.ReadBack.{byte_in, two_in, four_in}
use Rattle.mdb_bytes.proofs.GroupLaw.{spelled-append}
use Rattle.mdb_bytes.proofs.PartBytes.{length-spelled}
use Rattle.mdb_bytes.proofs.NumberBytes.{AreBytes, bytes_pass}
use Rattle.mdb_bytes.proofs.NumberSteps.{number_step, number_below}
use Rattle.mdb_bytes.proofs.ChangeFront.{right_bytes}

-- The header

length-header : (h : PageHead) → length (spelled (page_head_fields h)) ≡ 64
length-header h = length-spelled (page_head_fields h)

header-with_rest : (h : PageHead) (rest : List ℕ) → spelled (page_head_fields h ++ (Text rest ∷ [])) ≡ spelled (page_head_fields h) ++ rest
unfolding spelled
header-with_rest h rest = spelled-append (page_head_fields h) (Text rest ∷ []) ∙ ap (λ t. spelled (page_head_fields h) ++ t) (append-nil rest)

-- its numbers are read again
header_says : (h : PageHead) (bytes rest : List ℕ) → AreBytes bytes → IsTrue (fields_fit (page_head_fields h)) → bytes ≡ spelled (page_head_fields h) ++ rest → page_head_in bytes ≡ h
header_says h bytes rest all fits whole =
    let fs = page_head_fields h ++ (Text rest ∷ []) in
    let rest_all = right_bytes (spelled (page_head_fields h)) rest (subst AreBytes whole all) in
    let fit : list_all field_fits fs ≡ true =
    list_all-append field_fits (page_head_fields h) (Text rest ∷ [])
    ∙ and_both (list_all field_fits (page_head_fields h)) _ fits (and_both (field_fits (Text rest)) true (bytes_pass rest rest_all) refl) in
    ap page_head_in (whole ∙ sym (header-with_rest h rest)) ∙ λ i. record {
      kind = byte_in fs 0 h.kind fit refl i;
      level = byte_in fs 1 h.level fit refl i;
      table = two_in fs 2 h.table fit refl i;
      number = four_in fs 4 h.number fit refl i;
      count = two_in fs 8 h.count fit refl i;
      used = two_in fs 10 h.used fit refl i;
      next = four_in fs 12 h.next fit refl i;
    }

-- the zeros after them
header_zeros : (h : PageHead) (rest : List ℕ) → take 48 (drop 16 (spelled (page_head_fields h) ++ rest)) ≡ replicate 48 0
unfolding spelled
header_zeros h rest = refl

header_body : (h : PageHead) (rest : List ℕ) → drop 64 (spelled (page_head_fields h) ++ rest) ≡ rest
header_body h rest = drop_at (spelled (page_head_fields h)) rest 64 (length-header h)

-- numbers, and zeros after them, spell a header
header_front : (bytes : List ℕ) → AreBytes bytes → 64 ≤ length bytes
    → bytes ≡ big_bytes 1 (number_at 1 0 bytes) ++ (big_bytes 1 (number_at 1 1 bytes) ++ (big_bytes 2 (number_at 2 2 bytes) ++ (big_bytes 4 (number_at 4 4 bytes)
    ++ (big_bytes 2 (number_at 2 8 bytes) ++ (big_bytes 2 (number_at 2 10 bytes) ++ (big_bytes 4 (number_at 4 12 bytes) ++ drop 16 bytes))))))
header_front bytes all le =
    number_step 1 0 bytes all (omega arith)
    ∙ ap (λ t. big_bytes 1 (number_at 1 0 bytes) ++ t) (number_step 1 1 bytes all (omega arith)
    ∙ ap (λ t. big_bytes 1 (number_at 1 1 bytes) ++ t) (number_step 2 2 bytes all (omega arith)
    ∙ ap (λ t. big_bytes 2 (number_at 2 2 bytes) ++ t) (number_step 4 4 bytes all (omega arith)
    ∙ ap (λ t. big_bytes 4 (number_at 4 4 bytes) ++ t) (number_step 2 8 bytes all (omega arith)
    ∙ ap (λ t. big_bytes 2 (number_at 2 8 bytes) ++ t) (number_step 2 10 bytes all (omega arith)
    ∙ ap (λ t. big_bytes 2 (number_at 2 10 bytes) ++ t) (number_step 4 12 bytes all (omega arith)))))))

header_spelled : (h : PageHead) (rest : List ℕ)
    → big_bytes 1 h.kind ++ (big_bytes 1 h.level ++ (big_bytes 2 h.table ++ (big_bytes 4 h.number
    ++ (big_bytes 2 h.count ++ (big_bytes 2 h.used ++ (big_bytes 4 h.next ++ (replicate 48 0 ++ rest))))))) ≡ spelled (page_head_fields h) ++ rest
unfolding spelled
header_spelled h rest = refl

header_fits : (bytes : List ℕ) → AreBytes bytes → IsTrue (fields_fit (page_head_fields (page_head_in bytes)))
header_fits bytes all =
    let byte : (at : ℕ) → nat_lt (number_at 1 at bytes) 256 ≡ true = λ at. let below = number_below 1 at bytes all in lt-ltb (number_at 1 at bytes) 256 (omega arith) in
    let two : (at : ℕ) → nat_lt (number_at 2 at bytes) (2 ^ 16) ≡ true = λ at. let below = number_below 2 at bytes all in lt-ltb (number_at 2 at bytes) (2 ^ 16) (omega arith) in
    let four : (at : ℕ) → nat_lt (number_at 4 at bytes) (2 ^ 32) ≡ true = λ at. let below = number_below 4 at bytes all in lt-ltb (number_at 4 at bytes) (2 ^ 32) (omega arith) in
    and_both (nat_lt (number_at 1 0 bytes) 256) _ (byte 0) (
    and_both (nat_lt (number_at 1 1 bytes) 256) _ (byte 1) (
    and_both (nat_lt (number_at 2 2 bytes) (2 ^ 16)) _ (two 2) (
    and_both (nat_lt (number_at 4 4 bytes) (2 ^ 32)) _ (four 4) (
    and_both (nat_lt (number_at 2 8 bytes) (2 ^ 16)) _ (two 8) (
    and_both (nat_lt (number_at 2 10 bytes) (2 ^ 16)) _ (two 10) (
    and_both (nat_lt (number_at 4 12 bytes) (2 ^ 32)) true (four 12) refl))))))

-- The parts

-- what a page with parts says
pub record PartsSay (slot_len : ℕ) (head : PageHead) (entries slots bytes : List ℕ) : Type 0 where
  pub long : length bytes ≡ page_len
  pub header : page_head_in bytes ≡ head
  pub unnamed : take 48 (drop 16 bytes) ≡ replicate 48 0
  pub body : drop 64 bytes ≡ entries ++ (replicate (page_room - head.used) 0 ++ slots)

pub parts_say : (slot_len : ℕ) (head : PageHead) (entries slots bytes : List ℕ) → AreBytes bytes → HasSections slot_len head entries slots bytes → PartsSay slot_len head entries slots bytes
parts_say slot_len head entries slots bytes all h =
    let gap : List ℕ = replicate (page_room - head.used) 0 in
    let rest : List ℕ = entries ++ (gap ++ slots) in
    let used = h.used in
    let within = h.within in
    let gap_len : length gap ≡ page_room - head.used = length-replicate (page_room - head.used) 0 in
    let len : length bytes ≡ 64 + (length entries + (length gap + length slots)) =
    ap length h.whole ∙ length-append (spelled (page_head_fields head)) rest ∙ (λ i. length-header head i + length-append entries (gap ++ slots) i)
    ∙ ap (λ (n : ℕ). 64 + (length entries + n)) (length-append gap slots) in record {
      long = omega arith;
      header = header_says head bytes rest all h.fits h.whole;
      unnamed = ap (λ t. take 48 (drop 16 t)) h.whole ∙ header_zeros head rest;
      body = ap (drop 64) h.whole ∙ header_body head rest;
    }

-- a page has its parts in one way
pub sections_same : (slot_len : ℕ) (a b : PageHead) (entries slots others other_slots bytes : List ℕ) → AreBytes bytes → HasSections slot_len a entries slots bytes
    → HasSections slot_len b others other_slots bytes → (a ≡ b) × (entries ≡ others) × (slots ≡ other_slots)
sections_same slot_len a b entries slots others other_slots bytes all x y =
    let says = parts_say slot_len a entries slots bytes all x in
    let tells = parts_say slot_len b others other_slots bytes all y in
    let same : a ≡ b = sym says.header ∙ tells.header in
    let used : a.used ≡ b.used = ap (λ h. h.used) same in
    let counted : slot_len * a.count ≡ slot_len * b.count = ap (λ (h : PageHead). slot_len * h.count) same in
    let x_used = x.used in
    let x_counted = x.counted in
    let y_used = y.used in
    let y_counted = y.counted in
    let len : length entries ≡ length others = omega arith in
    let gap : ℕ → List ℕ = λ n. replicate (page_room - n) 0 in
    let bodies : entries ++ (gap a.used ++ slots) ≡ others ++ (gap b.used ++ other_slots) = sym says.body ∙ tells.body in
    let behind : gap a.used ++ slots ≡ gap b.used ++ other_slots =
    sym (drop_at entries (gap a.used ++ slots) (length entries) refl) ∙ ap (drop (length entries)) bodies ∙ drop_at others (gap b.used ++ other_slots) (length entries) (sym len) in
    let gap_len : length (gap b.used) ≡ length (gap a.used) = ap (λ n. length (gap n)) (sym used) in (
      same,
      sym (take_at entries (gap a.used ++ slots) (length entries) refl) ∙ ap (take (length entries)) bodies ∙ take_at others (gap b.used ++ other_slots) (length entries) (sym len),
      sym (drop_at (gap a.used) slots (length (gap a.used)) refl) ∙ ap (drop (length (gap a.used))) behind ∙ drop_at (gap b.used) other_slots (length (gap a.used)) gap_len,
    )

-- what was cut from the bytes of a page
pub record IsPageCut (slot_len : ℕ) (bytes : List ℕ) (head : PageHead) (unnamed body entries behind gap slots : List ℕ) : Type 0 where
  pub all : AreBytes bytes
  pub long : length bytes ≡ page_len
  pub head_is : head ≡ page_head_in bytes
  pub unnamed_is : unnamed ≡ take 48 (drop 16 bytes)
  pub body_is : body ≡ drop 48 (drop 16 bytes)
  pub zeros : unnamed ≡ replicate (length unnamed) 0
  pub within : head.used ≤ page_room
  pub enough : slot_len * head.count ≤ head.used
  pub entries_is : entries ≡ take (head.used - slot_len * head.count) body
  pub behind_is : behind ≡ drop (head.used - slot_len * head.count) body
  pub gap_is : gap ≡ take (page_room - head.used) behind
  pub slots_is : slots ≡ drop (page_room - head.used) behind
  pub gap_zeros : gap ≡ replicate (length gap) 0

pub parts_found : (slot_len : ℕ) (bytes : List ℕ) (head : PageHead) (unnamed body entries behind gap slots : List ℕ) → IsPageCut slot_len bytes head unnamed body entries behind gap slots
    → HasSections slot_len head entries slots bytes
parts_found slot_len bytes head unnamed body entries behind gap slots cut =
    let long = cut.long in
    let within = cut.within in
    let enough = cut.enough in
    let unnamed_len : length unnamed ≡ 48 = ap length cut.unnamed_is ∙ omega (arith, length-take 48 (drop 16 bytes), length-drop 16 bytes) in
    let body_len : length body ≡ page_room = ap length cut.body_is ∙ omega (arith, length-drop 48 (drop 16 bytes), length-drop 16 bytes) in
    let entries_len : length entries ≡ head.used - slot_len * head.count = ap length cut.entries_is ∙ omega (arith, length-take (head.used - slot_len * head.count) body) in
    let behind_len : length behind ≡ page_room - (head.used - slot_len * head.count) = ap length cut.behind_is ∙ omega (arith, length-drop (head.used - slot_len * head.count) body) in
    let gap_len : length gap ≡ page_room - head.used = ap length cut.gap_is ∙ omega (arith, length-take (page_room - head.used) behind) in
    let slots_len : length slots ≡ slot_len * head.count = ap length cut.slots_is ∙ omega (arith, length-drop (page_room - head.used) behind) in
    let gap_whole : gap ≡ replicate (page_room - head.used) 0 = cut.gap_zeros ∙ ap (λ (n : ℕ). replicate n 0) gap_len in
    let unnamed_whole : unnamed ≡ replicate 48 0 = cut.zeros ∙ ap (λ (n : ℕ). replicate n 0) unnamed_len in
    let behind_parts : behind ≡ replicate (page_room - head.used) 0 ++ slots =
    sym ((λ i. (sym gap_whole ∙ cut.gap_is) i ++ cut.slots_is i) ∙ take-append-drop (page_room - head.used) behind) in
    let body_parts : body ≡ entries ++ (replicate (page_room - head.used) 0 ++ slots) =
    sym ((λ i. cut.entries_is i ++ (sym behind_parts ∙ cut.behind_is) i) ∙ take-append-drop (head.used - slot_len * head.count) body) in
    let rest : drop 16 bytes ≡ replicate 48 0 ++ body = sym ((λ i. (sym unnamed_whole ∙ cut.unnamed_is) i ++ cut.body_is i) ∙ take-append-drop 48 (drop 16 bytes)) in
    let front : bytes ≡ spelled (page_head_fields (page_head_in bytes)) ++ body =
    header_front bytes cut.all (omega arith)
    ∙ ap (λ t. big_bytes 1 (number_at 1 0 bytes) ++ (big_bytes 1 (number_at 1 1 bytes) ++ (big_bytes 2 (number_at 2 2 bytes) ++ (big_bytes 4 (number_at 4 4 bytes)
    ++ (big_bytes 2 (number_at 2 8 bytes) ++ (big_bytes 2 (number_at 2 10 bytes) ++ (big_bytes 4 (number_at 4 12 bytes) ++ t))))))) rest
    ∙ header_spelled (page_head_in bytes) body in record {
      fits = subst (λ h. IsTrue (fields_fit (page_head_fields h))) (sym cut.head_is) (header_fits bytes cut.all);
      used = omega arith;
      counted = slots_len;
      within = within;
      whole = subst (λ h. bytes ≡ spelled (page_head_fields h) ++ body) (sym cut.head_is) front ∙ ap (λ t. spelled (page_head_fields head) ++ t) body_parts;
    }

-- When there are none

pub other_length : (slot_len : ℕ) (bytes : List ℕ) → AreBytes bytes → ¬ (length bytes ≡ page_len) → (head : PageHead) (entries slots : List ℕ) → HasSections slot_len head entries slots bytes → ⊥
other_length slot_len bytes all other head entries slots h = other (parts_say slot_len head entries slots bytes all h).long

pub other_unnamed : (slot_len : ℕ) (bytes unnamed : List ℕ) → AreBytes bytes → unnamed ≡ take 48 (drop 16 bytes) → ¬ (unnamed ≡ replicate (length unnamed) 0)
    → (head : PageHead) (entries slots : List ℕ) → HasSections slot_len head entries slots bytes → ⊥
other_unnamed slot_len bytes unnamed all is other head entries slots h =
    let zeros : unnamed ≡ replicate 48 0 = is ∙ (parts_say slot_len head entries slots bytes all h).unnamed in
    let len : length unnamed ≡ 48 = ap length zeros in
    other (zeros ∙ ap (λ (n : ℕ). replicate n 0) (sym len))

pub other_used : (slot_len : ℕ) (bytes : List ℕ) (found : PageHead) → AreBytes bytes → found ≡ page_head_in bytes → ¬ ((found.used ≤ page_room) × (slot_len * found.count ≤ found.used))
    → (head : PageHead) (entries slots : List ℕ) → HasSections slot_len head entries slots bytes → ⊥
other_used slot_len bytes found all is other head entries slots h =
    let same : found ≡ head = is ∙ (parts_say slot_len head entries slots bytes all h).header in
    let used = h.used in
    let counted = h.counted in
    other (subst (λ h. (h.used ≤ page_room) × (slot_len * h.count ≤ h.used)) (sym same) (h.within, omega arith))

-- the bytes between the entries and the slots
pub other_gap : (slot_len : ℕ) (bytes body behind gap : List ℕ) (found : PageHead) → AreBytes bytes → found ≡ page_head_in bytes → body ≡ drop 48 (drop 16 bytes)
    → behind ≡ drop (found.used - slot_len * found.count) body → gap ≡ take (page_room - found.used) behind → ¬ (gap ≡ replicate (length gap) 0)
    → (head : PageHead) (entries slots : List ℕ) → HasSections slot_len head entries slots bytes → ⊥
other_gap slot_len bytes body behind gap found all is body_is behind_is gap_is other head entries slots h =
    let says = parts_say slot_len head entries slots bytes all h in
    let same : found ≡ head = is ∙ says.header in
    let used = h.used in
    let counted = h.counted in
    let zeros : List ℕ = replicate (page_room - head.used) 0 in
    let zeros_len : length zeros ≡ page_room - head.used = length-replicate (page_room - head.used) 0 in
    let size : length entries ≡ found.used - slot_len * found.count = subst (λ (h : PageHead). length entries ≡ h.used - slot_len * h.count) (sym same) (omega arith) in
    let room : length zeros ≡ page_room - found.used = zeros_len ∙ ap (λ (h : PageHead). page_room - h.used) (sym same) in
    let body_parts : body ≡ entries ++ (zeros ++ slots) = body_is ∙ drop-drop 48 16 bytes ∙ says.body in
    let rest : behind ≡ zeros ++ slots =
    behind_is ∙ ap (drop (found.used - slot_len * found.count)) body_parts ∙ drop_at entries (zeros ++ slots) (found.used - slot_len * found.count) size in
    let whole : gap ≡ zeros = gap_is ∙ ap (take (page_room - found.used)) rest ∙ take_at zeros slots (page_room - found.used) room in
    let len : length gap ≡ page_room - head.used = ap length whole ∙ zeros_len in
    other (whole ∙ ap (λ (n : ℕ). replicate n 0) (sym len))
