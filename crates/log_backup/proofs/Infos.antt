-- Log infos that keep the limits of their format.
--     header_low      the numbers of a header
--     saved_low      what a log info says is saved
--     info_keeps      a log info with other numbers
--     medium_low      the number of a medium
use Rattle.std.proofs.Common.{◌≡◌, ℕ, ◌^◌, ◌≤◌, Bool, true, ◌&&◌, arith}
use Rattle.std.specs.Prelude.{nat_lt, nat_le, ◌==◌, IsTrue}
use Rattle.mdb_model.specs.Script.{is_medium}
use Rattle.mdb_bytes.specs.declared.log_info.LogInfo.{LogInfo}
use Rattle.mdb_bytes.specs.declared.medium_pages.MediumHeader.{MediumHeader}
use Rattle.mdb_bytes.specs.Fields.{Four, Eight, field_fits, fields_fit, number_limit}
use Rattle.mdb_bytes.specs.MediumPages.{kind_number, medium_header_fields, medium_header_fits, medium_header_format}
use Rattle.mdb_bytes.specs.Parts.{KeepsLimits}
use Rattle.mdb_bytes.specs.SlotRecords.{log_info_fields, log_info_fits, log_info_format}
use Rattle.mdb_bytes.proofs.Decoding.{and_left, and_right}

-- the eighth and the twelfth of twelve tests
eighth_and_last : (a b c d e f g h i j k l : Bool) → (a && (b && (c && (d && (e && (f && (g && (h && (i && (j && (k && (l && true)))))))))))) ≡ true → (h ≡ true) × (l ≡ true)
eighth_and_last a b c d e f g h i j k l all =
    let in_h = and_right g _ (and_right f _ (and_right e _ (and_right d _ (and_right c _ (and_right b _ (and_right a _ all)))))) in
    let in_l = and_right k _ (and_right j _ (and_right i _ (and_right h _ in_h))) in
    (and_left h _ in_h, and_left l true in_l)

-- the last commit and the end of a backup
pub header_low : (header : MediumHeader) → KeepsLimits medium_header_format header → (nat_lt header.last number_limit ≡ true) × (nat_lt header.end_position number_limit ≡ true)
header_low header keeps =
    eighth_and_last (field_fits (Four header.format)) (field_fits (Four (kind_number header.kind))) (field_fits (Eight header.name.birth)) (field_fits (Eight header.name.generation)) (field_fits (Eight header.savepoint)) (field_fits (Eight header.base))
    (field_fits (Eight header.first)) (field_fits (Eight header.last)) (field_fits (Four header.blocks)) (field_fits (Four header.pages)) (field_fits (Eight header.group_bytes)) (field_fits (Eight header.end_position))
    (and_right (medium_header_fits header) (fields_fit (medium_header_fields header)) keeps)

-- six of ten tests put in place of others
some_others : (a b c d e f g h i j : Bool) → (a && (b && (c && (d && (e && (f && (g && (h && (i && (j && true)))))))))) ≡ true → (b2 e2 f2 g2 i2 j2 : Bool) → b2 ≡ true → e2 ≡ true → f2 ≡ true → g2 ≡ true → i2 ≡ true → j2 ≡ true
    → (a && (b2 && (c && (d && (e2 && (f2 && (g2 && (h && (i2 && (j2 && true)))))))))) ≡ true
some_others a b c d e f g h i j all b2 e2 f2 g2 i2 j2 b_is e_is f_is g_is i_is j_is =
    let in_c = and_right b _ (and_right a _ all) in
    let in_d = and_right c _ in_c in
    let in_h = and_right g _ (and_right f _ (and_right e _ (and_right d _ in_d))) in
    let a_is = and_left a _ all in
    let c_is = and_left c _ in_c in
    let d_is = and_left d _ in_d in
    let h_is = and_left h _ in_h in
    λ k. a_is k && (b_is k && (c_is k && (d_is k && (e_is k && (f_is k && (g_is k && (h_is k && (i_is k && (j_is k && true)))))))))

-- the tests of the fields of a log info
fields_of : (info : LogInfo) → KeepsLimits log_info_format info → fields_fit (log_info_fields info) ≡ true
fields_of info keeps = and_right (log_info_fits info) (fields_fit (log_info_fields info)) keeps

-- what it says is saved
pub saved_low : (info : LogInfo) → KeepsLimits log_info_format info → (nat_lt info.saved_commit number_limit ≡ true) × (nat_lt info.saved_position number_limit ≡ true)
saved_low info keeps =
    let in_commit = and_right (field_fits (Eight info.name.generation)) _ (and_right (field_fits (Eight info.name.birth)) _ (and_right (field_fits (Eight info.slot)) _ (and_right (field_fits (Four info.format)) _ (fields_of info keeps)))) in
    (and_left (field_fits (Eight info.saved_commit)) _ in_commit, and_left (field_fits (Eight info.saved_position)) _ (and_right (field_fits (Eight info.saved_commit)) _ in_commit))

-- a log info with other numbers
pub info_keeps : (info : LogInfo) (slot commit position medium pending at : ℕ) → KeepsLimits log_info_format info → nat_lt slot number_limit ≡ true → nat_lt commit number_limit ≡ true → nat_lt position number_limit ≡ true → nat_le medium 99 ≡ true → nat_lt medium (2 ^ 32) ≡ true
    → nat_lt pending number_limit ≡ true → nat_lt at number_limit ≡ true
    → KeepsLimits log_info_format (record info { slot = slot; saved_commit = commit; saved_position = position; pending_medium = medium; pending_commit = pending; pending_position = at })
info_keeps info slot commit position medium pending at keeps slot_is commit_is position_is most medium_is pending_is at_is =
    let fits : (info.format == 1 && nat_le info.pending_medium 99) ≡ true = and_left (log_info_fits info) (fields_fit (log_info_fields info)) keeps in
    let format = and_left (info.format == 1) (nat_le info.pending_medium 99) fits in
    let fields =
    some_others (field_fits (Four info.format)) (field_fits (Eight info.slot)) (field_fits (Eight info.name.birth)) (field_fits (Eight info.name.generation)) (field_fits (Eight info.saved_commit)) (field_fits (Eight info.saved_position))
    (field_fits (Four info.pending_medium)) (field_fits (Four info.pages)) (field_fits (Eight info.pending_commit)) (field_fits (Eight info.pending_position)) (fields_of info keeps)
    (field_fits (Eight slot)) (field_fits (Eight commit)) (field_fits (Eight position)) (field_fits (Four medium)) (field_fits (Eight pending)) (field_fits (Eight at)) slot_is commit_is position_is medium_is pending_is at_is in
    λ k. (format k && most k) && fields k

-- the number of a medium
pub medium_low : (medium : ℕ) → IsTrue (is_medium medium) → medium ≤ 99
medium_low medium is = grind (arith, is)
