-- A whole savepoint of a store, as images show it.
--     TakesSavepoint      an image that stands for a world, and what a savepoint of it brings
use Rattle.std.specs.Prelude.{◌≡◌, ◌⊎◌, ℕ, ◌+◌, ◌<◌, ◌≤◌, List, ◌++◌, get_or, sum, Some}
use Rattle.std.specs.List.{AllByRecursion}
use Rattle.mdb_model.specs.declared.change.Commit.{Commit}
use Rattle.mdb_model.specs.Images.{Image}
use Rattle.mdb_model.specs.Worlds.{World, Live}
use Rattle.mdb_bytes.specs.declared.converter_pages.ConverterEntry.{ConverterEntry}
use Rattle.mdb_bytes.specs.declared.restart_record.RestartRecord.{RestartRecord}
use Rattle.mdb_bytes.specs.Firsts.{leaf_count}
use Rattle.mdb_bytes.specs.KeptMaps.{KeptMap}
use Rattle.gate_slots.specs.declared.body.SlotBody.TheVariants.{Restart}
use Rattle.gate_slots.specs.declared.slots.Slots.{Slots}
use Rattle.gate_slots.specs.Slots.{IsReady}
use Rattle.savepoint.specs.Stands.{HasSavepoint}
use Rattle.page_store.specs.Store.{Store, block_count}
use Rattle.page_store.specs.WholeSavepoint.{IsBeside, IsInArea, saved_page, present_page}
use Rattle.standing.specs.Standing.{data_slots}
use Rattle.standing.specs.Looks.{look, log_info_in, open_medium, IsUnusedBy}
use Rattle.standing.specs.Switching.{IsNext, KeepsSaved, IsMark, IsNewMap}
use Rattle.shown_maps.specs.ShownMaps.{shown_map}

-- The image has the store's last savepoint under this record. The next record has the map with the
-- pages of the store, its mark lies after the first commits of the log, and what the image would
-- show then gives the same rows. No snapshot has a block that the
-- savepoint or a slot may write.
pub record TakesSavepoint (s : Store) (seen : Image) (slots : Slots) (was next : RestartRecord)
    (map : List ConverterEntry) (done rest : List Commit) (w : World) (image : Image)
    : Type 0 where
  pub live : w.area ≡ Live
  -- the store and the record are of one area
  pub sizes : s.sizes ≡ was.volumes.items
  pub conv : s.maps.conv ≡ 1 + leaf_count (sum was.volumes.items)
  pub big : 2 ≤ get_or was.volumes.items 0 0
  -- what the image has
  pub place : slots.place ≡ data_slots
  pub ready : IsReady slots (Restart was) image
  pub stands : HasSavepoint s.sizes was s.maps.saved s.maps.conv (saved_page s seen) image
  pub blocks : block_count s ≡ sum was.volumes.items
  pub area : IsInArea s.maps.conv (sum was.volumes.items) s.maps.saved
  pub snapshots : AllByRecursion (λ e. (kept : KeptMap) × (e.1 ≡ Some kept)
      × IsUnusedBy (λ b. IsBeside s b ⊎ (b < 2)) (sum was.volumes.items) kept)
      (look image).snapshots
  -- what the savepoint brings
  pub next_one : IsNext (open_medium image) was next
  pub saved : KeepsSaved (open_medium image) (log_info_in image) was next
  pub log : (look image).redo_log ≡ Some (done ++ rest)
  pub mark : IsMark was next done
  pub new_map : IsNewMap (look image) next (shown_map s.maps.conv map (present_page s seen)) rest w
