-- A sealed medium that is read.
--     sealed_holds      its header
--     sealed_page      its pages
use Rattle.std.proofs.Common.{◌≡◌, refl, sym, ap, ◌∙◌, ℕ, ◌+◌, ◌*◌, ◌<◌, ◌≤◌, List, [], ◌∷◌, ◌++◌, length, get_or, take, drop, Option, Some, arith, length-append, length-take, length-drop}
use Rattle.std.proofs.lemmas.List.{append_assoc, get_or-take, get_or-drop, get_or_append_left, get_or-append-add, take_at}
use Rattle.mdb_model.specs.declared.fault.Device.TheVariants.{Medium}
use Rattle.mdb_model.specs.Images.{Image, bytes_of, byte_at}
use Rattle.mdb_bytes.specs.declared.medium_pages.MediumHeader.{MediumHeader}
use Rattle.mdb_bytes.specs.Fields.{Byte, decoded, spelled}
use Rattle.mdb_bytes.specs.Groups.{open_gate}
use Rattle.mdb_bytes.specs.MediumPages.{medium_header_fields, medium_header_format}
use Rattle.mdb_bytes.specs.Parts.{page_len, KeepsLimits}
use Rattle.mdb_bytes.specs.SlotRecords.{slot_len}
use Rattle.mdb_bytes.proofs.Decoding.{spelled-decoded}
use Rattle.mdb_bytes.proofs.MediumLaws.{medium_header_again}
use Rattle.medium_file.specs.Media.{gate_in, header_in, sealed_bytes, IsSealed, Holds, page_on}
use Rattle.medium_file.proofs.Places.{part_is}
use Rattle.medium_file.proofs.Sealing.{front_spelled, header_len, front_len}

module _ (image : Image) (m : ℕ) (header : MediumHeader) (content : List ℕ) (keeps : KeepsLimits medium_header_format header) (sealed : IsSealed image m header content) where
  -- the bytes of the header
  abbrev body : List ℕ
  body = spelled (medium_header_fields header)

  -- all bytes, from the header on
  from_header : bytes_of (image (Medium m)) ≡ body ++ (open_gate ∷ [] ++ (content ++ sealed.0))
  from_header =
      ap bytes_of sealed.1 ∙ append_assoc (spelled (medium_header_fields header ++ Byte open_gate ∷ [])) content sealed.0 ∙ ap (λ (l : List ℕ). l ++ (content ++ sealed.0)) (front_spelled header)
      ∙ append_assoc body (open_gate ∷ []) (content ++ sealed.0)

  -- its gate is open
  gate_open : gate_in image m ≡ open_gate
  gate_open =
      let e : slot_len ≡ length body + 0 = omega (arith, header_len m header content keeps) in
      ap (λ (l : List ℕ). get_or l slot_len 0) from_header ∙ ap (λ (k : ℕ). get_or (body ++ (open_gate ∷ [] ++ (content ++ sealed.0))) k 0) e ∙ get_or-append-add body (open_gate ∷ [] ++ (content ++ sealed.0)) 0 0

  -- it holds its header
  pub sealed_holds : Holds image m (Some header)
  unfolding header_in
  sealed_holds = (
    gate_open,
    ap (λ (l : List ℕ). decoded medium_header_format (take slot_len l)) from_header
        ∙ ap (λ (l : List ℕ). decoded medium_header_format l) (take_at body (open_gate ∷ [] ++ (content ++ sealed.0)) slot_len (header_len m header content keeps))
        ∙ spelled-decoded medium_header_format medium_header_again body header (keeps, refl),
  )

  -- one byte of what was appended
  content_byte : (k : ℕ) → k < length content → byte_at (image (Medium m)) (page_len + k) ≡ get_or content k 0
  content_byte k lt =
      let front = spelled (medium_header_fields header ++ Byte open_gate ∷ []) in
      let e : page_len + k ≡ length front + k = omega (arith, front_len m header content keeps) in
      ap (λ (o : Option (List ℕ)). byte_at o (page_len + k)) sealed.1
      ∙ get_or_append_left (sealed_bytes header content) sealed.0 0 (page_len + k) (omega (arith, length-append front content, e, lt))
      ∙ ap (λ (n : ℕ). get_or (sealed_bytes header content) n 0) e ∙ get_or-append-add front content k 0

  -- a page of it
  pub sealed_page : (page : ℕ) → page_len * (1 + page) ≤ length content → page_on image m (1 + page) ≡ take page_len (drop (page_len * page) content)
  unfolding page_on
  sealed_page page fits =
      part_is page_len (page_len * (1 + page)) (bytes_of (image (Medium m))) (take page_len (drop (page_len * page) content)) part_len all_there
      (λ k lt.
      let e : page_len * (1 + page) + k ≡ page_len + (page_len * page + k) = omega arith in
      ap (λ (n : ℕ). byte_at (image (Medium m)) n) e ∙ content_byte (page_len * page + k) (omega (arith, lt, fits))
      ∙ sym (get_or-take page_len (drop (page_len * page) content) k 0 lt ∙ get_or-drop (page_len * page) content k 0))
    where
      -- it is whole
      part_len : length (take page_len (drop (page_len * page) content)) ≡ page_len
      part_len = length-take page_len (drop (page_len * page) content) ∙ omega (arith, length-drop (page_len * page) content, fits)

      -- and lies in the medium
      all_there : page_len * (1 + page) + page_len ≤ length (bytes_of (image (Medium m)))
      all_there =
          let front = spelled (medium_header_fields header ++ Byte open_gate ∷ []) in
          let whole : length (bytes_of (image (Medium m))) ≡ length front + length content + length sealed.0 =
          ap length (ap bytes_of sealed.1) ∙ length-append (sealed_bytes header content) sealed.0 ∙ ap (λ (n : ℕ). n + length sealed.0) (length-append front content) in
          omega (arith, whole, front_len m header content keeps, fits)
