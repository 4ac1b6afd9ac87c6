-- A medium: a page with a header of 8,191 bytes and a gate, and the pages of one backup behind it.
--     gate_in, header_in      the gate of a medium, and the header that its first page spells
--     IsBlankMedium      it holds nothing: its gate is closed
--     sealed_bytes, IsSealed      the bytes of a backup, and a medium that begins with them
--     BreaksHeader, header_damage      its gate is open before bytes that are no header
--     Holds      it is in order, and holds a backup with this header or nothing
--     page_on      the bytes of one of its pages
use Rattle.std.specs.Prelude.{◌≡◌, ◌≢◌, ℕ, ◌*◌, List, [], ◌∷◌, ◌++◌, take, drop, Option, Some, None}
use Rattle.mdb_model.specs.declared.fault.Damage.{Damage}
use Rattle.mdb_model.specs.declared.fault.Device.TheVariants.{Medium}
use Rattle.mdb_model.specs.declared.fault.Rule.TheVariants.{Header}
use Rattle.mdb_model.specs.Images.{Image, bytes_of, byte_at}
use Rattle.mdb_bytes.specs.declared.medium_pages.MediumHeader.{MediumHeader}
use Rattle.mdb_bytes.specs.Fields.{Byte, decoded, spelled}
use Rattle.mdb_bytes.specs.Groups.{open_gate}
use Rattle.mdb_bytes.specs.MediumPages.{medium_header_fields, medium_header_format}
use Rattle.mdb_bytes.specs.Parts.{page_len}
use Rattle.mdb_bytes.specs.SlotRecords.{slot_len}

-- the last byte of its first page
abbrev pub gate_in : Image → ℕ → ℕ
gate_in image medium = byte_at (image (Medium medium)) slot_len

-- the header that the bytes in front of the gate spell, if they spell one
unfoldable pub header_in : Image → ℕ → Option MediumHeader
header_in image medium =
    decoded medium_header_format (take slot_len (bytes_of (image (Medium medium))))

-- Its gate is closed, whatever else it holds. A medium that is absent, or has no page, has no open
-- gate either.
abbrev pub IsBlankMedium : Image → ℕ → Type 0
IsBlankMedium image medium = gate_in image medium ≢ open_gate

-- a header, an open gate, and the pages of a backup
abbrev pub sealed_bytes : MediumHeader → (content : List ℕ) → List ℕ
sealed_bytes header content =
    spelled (medium_header_fields header ++ Byte open_gate ∷ []) ++ content

-- the medium begins with these bytes
abbrev pub IsSealed : Image → ℕ → MediumHeader → (content : List ℕ) → Type 0
IsSealed image medium header content =
    (rest : List ℕ) × (image (Medium medium) ≡ Some (sealed_bytes header content ++ rest))

-- its gate is open, and no header stands in front of it
pub record BreaksHeader (image : Image) (medium : ℕ) : Type 0 where
  pub gate : gate_in image medium ≡ open_gate
  pub header : header_in image medium ≡ None

-- the damage that is reported then
abbrev pub header_damage : ℕ → Damage
header_damage medium = record { device = Medium medium; page = 0; rule = Header }

-- its gate is closed, or open behind this header
abbrev pub Holds : Image → ℕ → Option MediumHeader → Type 0
Holds image medium None = IsBlankMedium image medium
Holds image medium (Some header) =
    (gate_in image medium ≡ open_gate) × (header_in image medium ≡ Some header)

-- the bytes of a page, the header's being page 0
unfoldable pub page_on : Image → (medium page : ℕ) → List ℕ
page_on image medium page = take page_len (drop (page_len * page) (bytes_of (image (Medium medium))))
