-- Headers and pages that were read.
--     open_read      a first page whose gate is open
--     page_read      a page
use Rattle.std.proofs.Common.{◌≡◌, refl, sym, ap, ◌∙◌, ℕ, ◌+◌, ◌*◌, ◌<◌, ◌≤◌, List, length, get_or, take, drop, Option, Some, None, arith}
use Rattle.mdb_model.specs.declared.fault.Device.TheVariants.{Medium}
use Rattle.mdb_model.specs.Images.{Image, size_of, bytes_of, byte_at}
use Rattle.mdb_host.specs.Disk.{Has, IsWithin}
use Rattle.mdb_bytes.specs.declared.medium_pages.MediumHeader.{MediumHeader}
use Rattle.mdb_bytes.specs.Fields.{Format, Decodes, ReadsBack, decoded}
use Rattle.mdb_bytes.specs.Groups.{open_gate}
use Rattle.mdb_bytes.specs.MediumPages.{medium_header_format}
use Rattle.mdb_bytes.specs.Parts.{page_len}
use Rattle.mdb_bytes.specs.SlotRecords.{slot_len}
use Rattle.mdb_bytes.proofs.Decoding.{decoded-spells, spelled-decoded}
use Rattle.mdb_bytes.proofs.MediumLaws.{medium_header_again}
use Rattle.medium_file.specs.Media.{gate_in, header_in, page_on}
use Rattle.medium_file.proofs.Places.{length_of, part_is}

-- what was decoded exactly is what the bytes spell
decodes_is : {X : Type 0} (format : Format X) → ReadsBack format → (bytes : List ℕ) (o : Option X) → Decodes format bytes o → o ≡ decoded format bytes
decodes_is format again bytes (Some v) spells = sym (spelled-decoded format again bytes v spells)
decodes_is format again bytes None none =
    elim (decoded format bytes) as (λ o. decoded format bytes ≡ o → None ≡ o) [
      | Some v ↦ λ e. absurd (none v (decoded-spells format bytes v e))
      | None ↦ λ e. refl
    ] refl

module _ (image : Image) (m : ℕ) (first body gate : List ℕ) (size : ℕ) (there : size_of (image (Medium m)) ≡ Some size) (some : page_len ≤ size) (long : length first ≡ page_len)
    (has : Has image (Medium m) 0 first) where
  -- the body in front of its gate
  body_read : length body ≡ slot_len → ((k d : ℕ) → k < slot_len → get_or body k d ≡ get_or first k d) → take slot_len (drop 0 (bytes_of (image (Medium m)))) ≡ body
  body_read len front =
      part_is slot_len 0 (bytes_of (image (Medium m))) body len (omega (arith, length_of (image (Medium m)) size there, some)) (λ k lt. has k (omega (arith, lt, long)) ∙ sym (front k 0 lt))

  -- the header that it spells, or none
  header_read : length body ≡ slot_len → ((k d : ℕ) → k < slot_len → get_or body k d ≡ get_or first k d) → (o : Option MediumHeader) → Decodes medium_header_format body o → header_in image m ≡ o
  unfolding header_in
  header_read len front o decodes = ap (λ (l : List ℕ). decoded medium_header_format l) (body_read len front) ∙ sym (decodes_is medium_header_format medium_header_again body o decodes)

  -- both, where the gate is open
  pub open_read : get_or gate 0 0 ≡ open_gate → ((k d : ℕ) → get_or gate k d ≡ get_or first (slot_len + k) d) → length body ≡ slot_len → ((k d : ℕ) → k < slot_len → get_or body k d ≡ get_or first k d)
      → (o : Option MediumHeader) → Decodes medium_header_format body o → (gate_in image m ≡ open_gate) × (header_in image m ≡ o)
  open_read opened behind len front o decodes = (has slot_len (omega (arith, long)) ∙ sym (behind 0 0) ∙ opened, header_read len front o decodes)

-- a page that was read
pub page_read : (image : Image) (m page at : ℕ) (bytes : List ℕ) → IsWithin image (Medium m) (page_len * page) page_len → at ≡ page_len * page → length bytes ≡ page_len → Has image (Medium m) at bytes
    → bytes ≡ page_on image m page
unfolding page_on
page_read image m page at bytes within is long has =
    sym (part_is page_len (page_len * page) (bytes_of (image (Medium m))) bytes long (omega (arith, length_of (image (Medium m)) within.0 within.1, within.2))
    (λ k lt. ap (λ (n : ℕ). byte_at (image (Medium m)) (n + k)) (sym is) ∙ has k (omega (arith, lt, long))))
