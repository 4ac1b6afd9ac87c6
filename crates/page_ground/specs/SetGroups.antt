-- Commits that are set on the rows of a store.
--     set_at      the point where a reader stands
--     HasTheseRows      the rows are known, and are these
--     SetsAll, RedoesAll      afterwards the devices stand for the world, and no commit that was
--         read is left to be set
use Rattle.std.specs.Prelude.{◌≡◌, ℕ, []}
use Rattle.mdb_model.specs.Images.{Image}
use Rattle.mdb_model.specs.Tables.{Tables}
use Rattle.mdb_host.specs.Disk.{Disk}
use Rattle.mdb_bytes.specs.declared.restart_record.RestartRecord.{RestartRecord}
use Rattle.gate_slots.specs.declared.slots.Slots.{Slots}
use Rattle.page_store.specs.Store.{Store}
use Rattle.redo_ring.specs.declared.reader.RingReader.{RingReader}
use Rattle.store_rows.specs.StoredRows.{stored_rows, HasRows}
use Rattle.page_ground.specs.declared.set_point.SetPoint.{SetPoint}
use Rattle.page_ground.specs.LogKnown.{left_in, ReadsOn}
use Rattle.page_ground.specs.Aims.{undone_in, StandsForWorld}

-- the point where a reader stands
abbrev pub set_at : RingReader → SetPoint
set_at reader = record { commit = reader.number; position = reader.position }

-- the rows are known, and are these
pub record HasTheseRows (tells : Type 0) (s : Store) (seen : Image) (rows : Tables) : Type 0 where
  pub known : HasRows tells s seen
  pub are : stored_rows s seen ≡ rows

-- the commit of this number is set, and those that the reader has left are not
pub record SetsAll (tells : Type 0) (slots : Slots) (r : RestartRecord) (old : RingReader)
    (number : ℕ) (s : Store) (d e : Disk) : Type 0 where
  pub reader : RingReader
  pub set : SetPoint
  pub stands : StandsForWorld tells slots r reader set s e
  pub reads : ReadsOn tells old reader d.seen e.seen
  pub at_number : set.commit ≡ number
  pub rest : undone_in reader set e.seen ≡ left_in old d.seen

-- all commits are set
pub record RedoesAll (tells : Type 0) (slots : Slots) (r : RestartRecord) (old : RingReader)
    (s : Store) (d e : Disk) : Type 0 where
  pub reader : RingReader
  pub set : SetPoint
  pub stands : StandsForWorld tells slots r reader set s e
  pub reads : ReadsOn tells old reader d.seen e.seen
  pub none : undone_in reader set e.seen ≡ []
