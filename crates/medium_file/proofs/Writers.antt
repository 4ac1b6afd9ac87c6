-- Writers between calls.
--     writing_beside      a write behind what was appended
--     writing_appended      one page more
--     writing_kept      calls that leave the medium alone
--     blank_synced      a blank medium that is synced is blank in each image
use Rattle.std.proofs.Common.{◌≡◌, sym, ap, subst, ◌∙◌, inl, ℕ, ◌+◌, ◌*◌, List, ◌++◌, length, Option, arith, length-append}
use Rattle.mdb_model.specs.declared.fault.Device.TheVariants.{Medium}
use Rattle.mdb_model.specs.Images.{Image, byte_at}
use Rattle.mdb_host.specs.Disk.{Disk, Goes, Torn, Has, Synced}
use Rattle.mdb_host.proofs.Moments.{Step}
use Rattle.mdb_bytes.specs.Parts.{page_len}
use Rattle.mdb_bytes.specs.SlotRecords.{slot_len}
use Rattle.medium_file.specs.declared.writer.MediumWriter.{MediumWriter}
use Rattle.medium_file.specs.Media.{gate_in, IsBlankMedium}
use Rattle.medium_file.specs.Writing.{LeavesBlank, IsWriting}
use Rattle.medium_file.proofs.Places.{has_append, has_kept}

-- a gate with the same byte
pub blank_same : (a b : Image) (m : ℕ) → gate_in b m ≡ gate_in a m → IsBlankMedium a m → IsBlankMedium b m
blank_same a b m same blank opened = blank (sym same ∙ opened)

-- a medium that is the same in both
pub blank_device : (a b : Image) (m : ℕ) → b (Medium m) ≡ a (Medium m) → IsBlankMedium a m → IsBlankMedium b m
blank_device a b m same blank = blank_same a b m (ap (λ (o : Option (List ℕ)). byte_at o slot_len) same) blank

-- a blank medium that is synced is blank in each image
pub blank_synced : (disk : Disk) (m : ℕ) → Synced disk (Medium m) → IsBlankMedium disk.seen m → LeavesBlank disk m
blank_synced disk m synced blank image left = blank_device disk.seen image m (synced image left) blank

-- calls that leave the medium alone, in each image and in what a read gives
pub writing_kept : (writer : MediumWriter) (content : List ℕ) (old new : Disk) (step : Step) → Goes old new step → ((a b : Image) → step a b → b (Medium writer.medium) ≡ a (Medium writer.medium))
    → new.seen (Medium writer.medium) ≡ old.seen (Medium writer.medium) → IsWriting writer content old → IsWriting writer content new
writing_kept writer content old new step goes alone same writing = record {
  count = writing.count;
  blank = λ image left. let a = goes.since new.now image goes.keeps.later (omega arith) left in blank_device a.0 image writer.medium (alone a.0 image a.2) (writing.blank a.0 a.1);
  behind = λ i lt. ap (λ (o : Option (List ℕ)). byte_at o (page_len + i)) same ∙ writing.behind i lt;
}

module _ (writer : MediumWriter) (content : List ℕ) (at n : ℕ) (old new : Disk) (writing : IsWriting writer content old) (place : at ≡ page_len * (1 + writer.appended))
    (goes : Goes old new (Torn (Medium writer.medium) at n)) (seen : Torn (Medium writer.medium) at n old.seen new.seen) where
  -- it begins where what was appended ends
  place_is : at ≡ page_len + length content
  place_is = omega (arith, place, writing.count)

  -- no image has anything on the medium
  still_blank : LeavesBlank new writer.medium
  still_blank image left =
      let a = goes.since new.now image goes.keeps.later (omega arith) left in
      blank_same a.0 image writer.medium (a.2.outside slot_len (inl (omega (arith, place)))) (writing.blank a.0 a.1)

  -- what was appended is still there
  still_behind : Has new.seen (Medium writer.medium) page_len content
  still_behind = has_kept (Medium writer.medium) at n page_len content old.seen new.seen seen (inl (omega (arith, place_is))) writing.behind

  -- a write that failed
  pub writing_beside : IsWriting writer content new
  writing_beside = record { count = writing.count; blank = still_blank; behind = still_behind }

  -- a page more
  pub writing_appended : (now : MediumWriter) (page : List ℕ) → now ≡ record writer { appended = writer.appended + 1 } → length page ≡ page_len → Has new.seen (Medium writer.medium) at page
      → IsWriting now (content ++ page) new
  writing_appended now page is long has = subst (λ (w : MediumWriter). IsWriting w (content ++ page) new) (sym is) (record {
    count = omega (arith, length-append content page, writing.count, long);
    blank = still_blank;
    behind = has_append new.seen (Medium writer.medium) page_len at content page place_is still_behind has;
  })
