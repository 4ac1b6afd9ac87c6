-- What is free in a store that was opened on an image that stands.
--     free_left      room for a converter, and 159 blocks beside it
--     pages_spare      as many pages are spare
use Rattle.std.proofs.Common.{◌≡◌, inl, inr, refl, sym, ap, subst, ◌∙◌, ℕ, ◌+◌, ◌-◌, ◌<◌, ◌≤◌, true, List, Bool, None, arith, sum}
use Rattle.mdb_model.specs.Space.{has_room}
use Rattle.mdb_model.specs.Worlds.{World, Live}
use Rattle.mdb_host.specs.Disk.{Disk}
use Rattle.mdb_bytes.specs.declared.converter_pages.ConverterEntry.{ConverterEntry}
use Rattle.mdb_bytes.specs.declared.log_info.LogInfo.{LogInfo}
use Rattle.mdb_bytes.specs.declared.restart_record.RestartRecord.{RestartRecord}
use Rattle.free_blocks.specs.Free.{free_count}
use Rattle.free_blocks.specs.Marked.{IsMarked}
use Rattle.gate_slots.specs.declared.slots.Slots.{Slots}
use Rattle.converter.specs.Maps.{Maps, HasAt, block_of}
use Rattle.page_store.specs.Opens.{own_pages}
use Rattle.page_store.specs.Store.{Store, block_count, own_unmarked, spare_of, spare_while}
use Rattle.page_store.specs.WholeSavepoint.{live_below, spare_after}
use Rattle.page_store.proofs.Counting.{free_exact}
use Rattle.page_store.proofs.Opened.{none_marked}
use Rattle.row_spare.proofs.Spare.{spare_left}
use Rattle.store_rows.specs.StoredRows.{stored_rows}
use Rattle.opened_worlds.specs.Opened.{IsOpenedOn}
use Rattle.opened_worlds.proofs.Live.{blocks_are}
use Rattle.opened_worlds.proofs.OpenedMap.{conv_is, count_is, present_is}
use Rattle.opened_worlds.proofs.OpenedRows.{tables, rows_fit}

module _ (tells : Type 0) (slots : Slots) (r : RestartRecord) (info : LogInfo) (s : Store) (d : Disk) (w : World) (o : IsOpenedOn tells slots r info s d w) where
  live : w.area ≡ Live
  live = (o.stands.stage.generation refl).0

  thawed : s.maps.frozen_at ≡ None
  thawed = ap (λ (m : Maps). m.frozen_at) o.opened.maps

  unmarked : (b : ℕ) → IsMarked s.marks b → ⊥
  unmarked b marked = none_marked (sum r.volumes.items) b (subst (λ (marks : List (List Bool)). IsMarked marks b) o.opened.marks marked)

  -- the present map has each block that a map has
  in_present : (q b : ℕ) → 0 < b → HasAt s.maps q b → block_of s.maps.present q ≡ b
  in_present q b some (inl present) = present
  in_present q b some (inr (inl saved)) = ap (λ (m : List ConverterEntry). block_of m q) (present_is tells slots r info s d w o) ∙ saved
  in_present q b some (inr (inr frozen)) = absurd (omega (arith, some, frozen, o.store.thawed thawed q))

  own : (q : ℕ) → q < s.maps.conv → 0 < block_of s.maps.present q
  own q lt =
      let same = ap (λ (m : List ConverterEntry). block_of m q) (present_is tells slots r info s d w o) in
      omega (arith, same, o.own q lt)

  blocks_same : w.blocks ≡ block_count s
  blocks_same = blocks_are d.seen w r o.stands live o.restart ∙ sym (count_is tells slots r info s d w o)

  conv_same : s.maps.conv ≡ own_pages (block_count s)
  conv_same = conv_is tells slots r info s d w o ∙ ap own_pages (sym (count_is tells slots r info s d w o))

  after_is : 159 ≤ spare_after s
  after_is = spare_left s d.seen 0 (tables tells slots r info s d w o live) conv_same
      (subst (λ n. has_room (stored_rows s d.seen) (stored_rows s d.seen) 0 0 n ≡ true) blocks_same (rows_fit tells slots r info s d w o live))

  exact : free_count s.free + (2 + s.maps.conv + live_below s (block_count s)) ≡ block_count s
  exact = free_exact s o.sound o.store in_present unmarked (omega (arith, after_is)) own

  pub free_left : s.maps.conv + 159 ≤ free_count s.free
  free_left = omega (arith, exact, after_is)

  pub pages_spare : 159 ≤ spare_of s
  pages_spare =
      let is : spare_of s ≡ free_count s.free - s.maps.conv = ap (λ at. spare_while at s.maps.conv (free_count s.free) (own_unmarked s s.maps.conv)) thawed in
      omega (arith, is, free_left)
