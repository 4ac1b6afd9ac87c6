-- How a medium is sealed: a sync, a header, an open gate.
--     sync_torn, torn_on      the first page alone is written
--     sealed_front      a medium with a header, an open gate and the pages of a backup
--     seals, sealed_arrives      what sealing leaves
use Rattle.std.proofs.Common.{◌≡◌, refl, sym, ap, subst, ◌∙◌, inl, inr, ℕ, zero, suc, ◌+◌, ◌≤◌, List, [], ◌∷◌, ◌++◌, length, arith, length-append}
use Rattle.std.proofs.lemmas.Bool.{cases_eq}
use Rattle.mdb_model.specs.declared.fault.Device.{Device}
use Rattle.mdb_model.specs.declared.fault.Device.TheVariants.{Medium}
use Rattle.mdb_model.specs.Images.{Image, byte_at}
use Rattle.mdb_host.specs.Disk.{Disk, Goes, Arrives, Agree, Torn, Has, Synced, IsWithin}
use Rattle.mdb_host.proofs.Moments.{chain, widen, torn_agree, torn_none, torn_twice, synced_has, has_agree}
use Rattle.mdb_bytes.specs.declared.medium_pages.MediumHeader.{MediumHeader}
use Rattle.mdb_bytes.specs.Fields.{Byte, spelled}
use Rattle.mdb_bytes.specs.Groups.{open_gate}
use Rattle.mdb_bytes.specs.MediumPages.{medium_header_fields, medium_header_format}
use Rattle.mdb_bytes.specs.Parts.{page_len, KeepsLimits}
use Rattle.mdb_bytes.specs.SlotRecords.{slot_len}
use Rattle.mdb_bytes.proofs.GroupLaw.{spelled-append}
use Rattle.mdb_bytes.proofs.MediumLaws.{length-medium_header}
use Rattle.medium_file.specs.Media.{gate_in, IsBlankMedium, sealed_bytes, IsSealed}
use Rattle.medium_file.specs.Writing.{LeavesBlank, Seals, Sealed}
use Rattle.medium_file.proofs.Places.{has_append, has_kept, begins_with, torn_within, within_same}
use Rattle.medium_file.proofs.Writers.{blank_same, blank_device}

-- The first page

-- a sync writes nothing
pub sync_torn : (d : Device) (n : ℕ) (old new : Disk) → Goes old new Agree → Goes old new (Torn d 0 n)
sync_torn d n old new goes = widen old new Agree (Torn d 0 n) goes (λ a b left same. torn_agree d 0 n a a b (torn_none d 0 n a) same)

-- one write more in the first bytes
pub torn_on : (d : Device) (at k n : ℕ) (old mid new : Disk) → at + k ≤ n → Goes old mid (Torn d 0 n) → Goes mid new (Torn d at k) → Goes old new (Torn d 0 n)
torn_on d at k n old mid new fits one two =
    chain old mid new (Torn d 0 n) (Torn d at k) (Torn d 0 n) one two (λ a b left torn. torn)
    (λ a b c left torn left2 more. torn_twice d 0 n a b c torn (torn_within d at k 0 n b c (omega arith) (omega (arith, fits)) more))

-- the gate that is written
pub gate_written : (image : Image) (m : ℕ) → Has image (Medium m) slot_len (open_gate ∷ []) → gate_in image m ≡ open_gate
gate_written image m has =
    let e : slot_len ≡ slot_len + 0 = omega arith in
    ap (λ (k : ℕ). byte_at (image (Medium m)) k) e ∙ has 0 (omega arith)

-- a gate as bytes
gate_has : (image : Image) (m : ℕ) → gate_in image m ≡ open_gate → Has image (Medium m) slot_len (open_gate ∷ [])
gate_has image m opened zero lt = let e : slot_len + 0 ≡ slot_len = omega arith in ap (λ (k : ℕ). byte_at (image (Medium m)) k) e ∙ opened
gate_has image m opened (suc i) lt = absurd (omega (arith, lt))

-- an open gate as a field
gate_spelled : spelled (Byte open_gate ∷ []) ≡ open_gate ∷ []
unfolding spelled
gate_spelled = refl

-- a header and an open gate
pub front_spelled : (header : MediumHeader) → spelled (medium_header_fields header ++ Byte open_gate ∷ []) ≡ spelled (medium_header_fields header) ++ open_gate ∷ []
front_spelled header = spelled-append (medium_header_fields header) (Byte open_gate ∷ []) ∙ ap (λ (l : List ℕ). spelled (medium_header_fields header) ++ l) gate_spelled

module _ (m : ℕ) (header : MediumHeader) (content : List ℕ) (keeps : KeepsLimits medium_header_format header) where
  -- how many bytes a header has
  pub header_len : length (spelled (medium_header_fields header)) ≡ slot_len
  header_len = length-medium_header header keeps

  -- a header and an open gate fill a page
  pub front_len : length (spelled (medium_header_fields header ++ Byte open_gate ∷ [])) ≡ page_len
  front_len = ap length (front_spelled header) ∙ length-append (spelled (medium_header_fields header)) (open_gate ∷ []) ∙ omega (arith, header_len)

  -- a medium with a header, an open gate and the pages of a backup
  pub sealed_front : (image : Image) → IsWithin image (Medium m) 0 (page_len + length content) → Has image (Medium m) 0 (spelled (medium_header_fields header)) → gate_in image m ≡ open_gate
      → Has image (Medium m) page_len content → IsSealed image m header content
  sealed_front image within has opened behind =
      let first : Has image (Medium m) 0 (spelled (medium_header_fields header ++ Byte open_gate ∷ [])) =
      subst (λ (l : List ℕ). Has image (Medium m) 0 l) (sym (front_spelled header))
      (has_append image (Medium m) 0 slot_len (spelled (medium_header_fields header)) (open_gate ∷ []) (omega (arith, header_len)) has (gate_has image m opened)) in
      let whole : Has image (Medium m) 0 (sealed_bytes header content) = has_append image (Medium m) 0 page_len (spelled (medium_header_fields header ++ Byte open_gate ∷ [])) content (omega (arith, front_len)) first behind in
      begins_with (image (Medium m)) (sealed_bytes header content) within.0 within.1
      (omega (arith, length-append (spelled (medium_header_fields header ++ Byte open_gate ∷ [])) content, front_len, within.2))
      (λ k lt. let e : k ≡ 0 + k = omega arith in ap (λ (n : ℕ). byte_at (image (Medium m)) n) e ∙ whole k lt)

  -- The three phases

  -- nothing counts yet
  record Waits (old new : Image) : Type 0 where
    pub torn : Torn (Medium m) 0 page_len old new
    pub blank : IsBlankMedium new m

  -- that is a part of the whole
  waits_seals : (a b : Image) → Waits a b → Seals m header content a b
  waits_seals a b waits = record { torn = waits.torn; holds = inl waits.blank }

  module _ (d0 d1 : Disk) (blank : LeavesBlank d0 m) (one : Goes d0 d1 Agree) where
    -- the first phase
    synced_waits : Goes d0 d1 Waits
    synced_waits = widen d0 d1 Agree Waits one (λ a b left same. record {
      torn = torn_agree (Medium m) 0 page_len a a b (torn_none (Medium m) 0 page_len a) same;
      blank = blank_device a b m (same (Medium m)) (blank a left);
    })

    -- the first phase as a part of the whole
    pub sync_seals : Goes d0 d1 (Seals m header content)
    sync_seals = widen d0 d1 Waits (Seals m header content) synced_waits (λ a b left waits. waits_seals a b waits)

    module _ (d2 : Disk) (two : Goes d1 d2 (Torn (Medium m) 0 slot_len)) where
      -- the first two phases
      header_waits : Goes d0 d2 Waits
      header_waits = chain d0 d1 d2 Waits (Torn (Medium m) 0 slot_len) Waits synced_waits two (λ a b left waits. waits) (λ a b c left waits left2 torn. record {
        torn = torn_twice (Medium m) 0 page_len a b c waits.torn (torn_within (Medium m) 0 slot_len 0 page_len b c (omega arith) (omega arith) torn);
        blank = blank_same b c m (torn.outside slot_len (inr (omega arith))) waits.blank;
      })

      -- the first two phases as a part of the whole
      pub header_seals : Goes d0 d2 (Seals m header content)
      header_seals = widen d0 d2 Waits (Seals m header content) header_waits (λ a b left waits. waits_seals a b waits)

      module _ (behind : Has d0.seen (Medium m) page_len content) (same : Agree d0.seen d1.seen) (synced : Synced d1 (Medium m)) where
        -- after the sync each image has the pages, and the header leaves them
        pages_kept : (image : Image) → d2.may_leave d2.now image → Has image (Medium m) page_len content
        pages_kept image left =
            let b = two.since d2.now image two.keeps.later (omega arith) left in
            has_kept (Medium m) 0 slot_len page_len content b.0 image b.2 (inr (omega arith)) (synced_has d1 (Medium m) page_len content synced (has_agree d0.seen d1.seen (Medium m) page_len content same behind) b.0 b.1)

        module _ (within : (image : Image) → d2.may_leave d2.now image → IsWithin image (Medium m) 0 (page_len + length content))
            (kept : (image : Image) → d2.may_leave d2.now image → Has image (Medium m) 0 (spelled (medium_header_fields header))) (d3 : Disk) (three : Goes d2 d3 (Torn (Medium m) slot_len 1)) where
          -- an open gate makes the backup count
          opened_holds : (b c : Image) → d2.may_leave d2.now b → Torn (Medium m) slot_len 1 b c → gate_in c m ≡ open_gate → IsSealed c m header content
          opened_holds b c left torn opened =
              sealed_front c (within_same b c (Medium m) 0 (page_len + length content) (within b left) torn.size)
              (has_kept (Medium m) slot_len 1 0 (spelled (medium_header_fields header)) b c torn (inl (omega (arith, header_len))) (kept b left)) opened
              (has_kept (Medium m) slot_len 1 page_len content b c torn (inr (omega arith)) (pages_kept b left))

          -- the first page alone is another
          gate_torn : (a b c : Image) → Waits a b → Torn (Medium m) slot_len 1 b c → Torn (Medium m) 0 page_len a c
          gate_torn a b c waits torn = torn_twice (Medium m) 0 page_len a b c waits.torn (torn_within (Medium m) slot_len 1 0 page_len b c (omega arith) (omega arith) torn)

          -- at each moment of the whole
          pub seals : Goes d0 d3 (Seals m header content)
          seals = chain d0 d2 d3 Waits (Torn (Medium m) slot_len 1) (Seals m header content) header_waits three (λ a b left waits. waits_seals a b waits) (λ a b c left waits left2 torn. record {
            torn = gate_torn a b c waits torn;
            holds = elim (cases_eq (gate_in c m) open_gate) [
              | inl opened ↦ inr (opened_holds b c left2 torn opened)
              | inr shut ↦ inl shut
            ];
          })

          -- after the whole
          pub sealed_arrives : ((image : Image) → d3.may_leave d3.now image → gate_in image m ≡ open_gate) → Arrives d0 d3 (Sealed m header content)
          sealed_arrives opened image left =
              let b = three.since d3.now image three.keeps.later (omega arith) left in
              let a = header_waits.since d2.now b.0 header_waits.keeps.later (omega arith) b.1 in
              (a.0, a.1, record { torn = gate_torn a.0 b.0 image a.2 b.2; holds = opened_holds b.0 image b.1 b.2 (opened image left) })
