-- A log info that names a backup as pending, the backup, and the log info that names it as saved.
--     slots_on_log      the slots of the log info stand in the first two pages of the log volume
--     to_save_on      what was to be saved still is
--     torn_pages, torn_slots, torn_on      the log info and the medium alone are written
--     pending_put, then_saved, then_put      what each of the three leaves
--     backed_up      what all of them leave
use Rattle.std.proofs.Common.{◌≡◌, sym, ap, subst, ◌∙◌, inl, inr, ◌⊎◌, ℕ, ◌+◌, ◌*◌, ◌%◌, List, ◌++◌, Option, Some, arith}
use Rattle.mdb_model.specs.declared.change.Commit.{Commit}
use Rattle.mdb_model.specs.declared.fault.Device.{Device}
use Rattle.mdb_model.specs.declared.fault.Device.TheVariants.{Log, Medium}
use Rattle.mdb_model.specs.Backups.{Backup}
use Rattle.mdb_model.specs.Images.{Image, size_of, byte_at}
use Rattle.mdb_host.specs.Disk.{Disk, Goes, Arrives, Torn}
use Rattle.mdb_host.proofs.Moments.{widen}
use Rattle.mdb_bytes.specs.declared.log_info.LogInfo.{LogInfo}
use Rattle.mdb_bytes.specs.declared.medium_pages.MediumHeader.{MediumHeader}
use Rattle.mdb_bytes.specs.LogReading.{IsLog}
use Rattle.mdb_bytes.specs.Rings.{ring_byte}
use Rattle.gate_slots.specs.declared.body.SlotBody.TheVariants.{Log as LogBody}
use Rattle.gate_slots.specs.declared.place.SlotPlace.{SlotPlace}
use Rattle.gate_slots.specs.declared.slots.Slots.{Slots}
use Rattle.gate_slots.specs.Slots.{in_force, IsReady}
use Rattle.gate_slots.specs.Steps.{SlotsTorn, Switches, HasSwitched}
use Rattle.gate_slots.proofs.Forces.{ready_force}
use Rattle.gate_slots.proofs.Kept.{ready_device}
use Rattle.gate_slots.proofs.Phases.{chain_on}
use Rattle.medium_file.specs.Writing.{LeavesBlank}
use Rattle.medium_file.proofs.Writers.{blank_device}
use Rattle.redo_ring.specs.declared.reader.RingReader.{RingReader}
use Rattle.log_backup.specs.Backing.{log_slots, pending_info, saved_info, LogAndMediumTorn, BacksUp, BackedUp}
use Rattle.log_backup.specs.Saving.{IsToSave, HoldsBackup, BackupTorn, Saves, Saved}

-- the slots of the log info stand in the first two pages of the log volume
pub slots_on_log : (place : SlotPlace) (a b : Image) → place ≡ log_slots → SlotsTorn place a b → Torn Log 0 16384 a b
slots_on_log place a b is torn = subst (λ (p : SlotPlace). Torn p.device (8192 * p.page) 16384 a b) is torn

-- what was to be saved still is
pub to_save_on : (reader : RingReader) (header : MediumHeader) (commits : List Commit) (a b : Image) → Torn Log 0 16384 a b → IsToSave reader a header commits → IsToSave reader b header commits
to_save_on reader header commits a b torn to =
    let same : ring_byte reader.size b ≡ ring_byte reader.size a = λ i position. torn.outside (16384 + position % reader.size) (inr (omega arith)) i in
    record {
      more = to.more;
      log = subst (λ (f : ℕ → ℕ). IsLog f reader.name reader.position reader.number (commits ++ to.more)) (sym same) to.log;
      room = to.room;
      last = to.last;
      ends = to.ends;
      header_is = to.header_is;
    }

module _ (m pages : ℕ) where
  -- the slots alone
  pub torn_slots : (a b : Image) → Torn Log 0 16384 a b → LogAndMediumTorn m pages a b
  torn_slots a b torn = record {
    others = λ e log medium. torn.others e log;
    log_size = torn.size;
    ring = λ k behind. torn.outside k (inr (omega (arith, behind)));
    medium_size = ap size_of (torn.others (Medium m) (λ e. cc));
    behind = λ k behind. ap (λ (o : Option (List ℕ)). byte_at o k) (torn.others (Medium m) (λ e. cc));
  }

  -- the medium alone
  pub torn_pages : (a b : Image) → BackupTorn m pages a b → LogAndMediumTorn m pages a b
  torn_pages a b torn = record {
    others = λ e log medium. torn.others e medium;
    log_size = ap size_of (torn.others Log (λ e. cc));
    ring = λ k behind. ap (λ (o : Option (List ℕ)). byte_at o k) (torn.others Log (λ e. cc));
    medium_size = torn.size;
    behind = λ k behind. torn.outside k (inr (omega (arith, behind)));
  }

  -- one after another
  pub torn_on : (a b c : Image) → LogAndMediumTorn m pages a b → LogAndMediumTorn m pages b c → LogAndMediumTorn m pages a c
  torn_on a b c one two = record {
    others = λ e log medium. two.others e log medium ∙ one.others e log medium;
    log_size = two.log_size ∙ one.log_size;
    ring = λ k behind. two.ring k behind ∙ one.ring k behind;
    medium_size = two.medium_size ∙ one.medium_size;
    behind = λ k behind. two.behind k behind ∙ one.behind k behind;
  }

  -- a medium that is the same holds the same
  holds_same : (a b : Image) (end : ℕ) (backup : Backup) → b (Medium m) ≡ a (Medium m) → HoldsBackup a m end backup → HoldsBackup b m end backup
  holds_same a b end backup same holds = (holds.0, same ∙ holds.1)

  module _ (slots s1 : Slots) (info : LogInfo) (header : MediumHeader) (backup : Backup) (place : slots.place ≡ log_slots) (place1 : s1.place ≡ slots.place) (d0 d1 : Disk) (blank : LeavesBlank d0 m)
      (one : Goes d0 d1 (Switches slots (LogBody (pending_info info m header)))) where
    -- the pending log info as a part of the whole
    pub pending_put : Goes d0 d1 (BacksUp slots info m pages header backup)
    pending_put = widen d0 d1 (Switches slots (LogBody (pending_info info m header))) (BacksUp slots info m pages header backup) one (λ a b left switches.
        let torn = slots_on_log slots.place a b place switches.torn in
        record {
          torn = torn_slots a b torn;
          stands = λ ready. inl (blank_device a b m (torn.others (Medium m) (λ e. cc)) (blank a left), switches.force (LogBody info) ready);
        })

    -- the medium is blank after it
    pub still_blank : LeavesBlank d1 m
    still_blank image left =
        let a = one.since d1.now image one.keeps.later (omega arith) left in
        let torn = slots_on_log slots.place a.0 image place a.2.torn in
        blank_device a.0 image m (torn.others (Medium m) (λ e. cc)) (blank a.0 a.1)

    module _ (here : Arrives d0 d1 (HasSwitched slots s1 (LogBody (pending_info info m header)))) (d2 : Disk) (two : Goes d1 d2 (Saves m pages header.end_position backup)) where
      -- the log volume is as before the backup
      pending_ready : (a b c : Image) → HasSwitched slots s1 (LogBody (pending_info info m header)) a b → BackupTorn m pages b c → IsReady slots (LogBody info) a → IsReady s1 (LogBody (pending_info info m header)) c
      pending_ready a b c switched torn ready =
          ready_device s1 (LogBody (pending_info info m header)) b c (subst (λ (d : Device). c d ≡ b d) (sym (ap (λ (p : SlotPlace). p.device) (place1 ∙ place))) (torn.others Log (λ e. cc))) (switched.ready (LogBody info) ready)

      -- the pending log info is in force
      pending_force : (c : Image) → IsReady s1 (LogBody (pending_info info m header)) c → in_force c slots.place ≡ Some (LogBody (pending_info info m header))
      pending_force c ready = subst (λ (p : SlotPlace). in_force c p ≡ Some (LogBody (pending_info info m header))) place1 (ready_force s1 (LogBody (pending_info info m header)) c ready)

      -- what both may write
      both_torn : (a b c : Image) → HasSwitched slots s1 (LogBody (pending_info info m header)) a b → BackupTorn m pages b c → LogAndMediumTorn m pages a c
      both_torn a b c switched torn = torn_on a b c (torn_slots a b (slots_on_log slots.place a b place switched.torn)) (torn_pages b c torn)

      -- the backup as a part of the whole
      pub then_saved : Goes d0 d2 (BacksUp slots info m pages header backup)
      then_saved = chain_on d0 d1 d2 (BacksUp slots info m pages header backup) (HasSwitched slots s1 (LogBody (pending_info info m header))) (Saves m pages header.end_position backup) (BacksUp slots info m pages header backup) pending_put here two (λ a b backs. backs)
          (λ a b c switched left saves. record {
            torn = both_torn a b c switched saves.torn;
            stands = λ ready.
                let force = pending_force c (pending_ready a b c switched saves.torn ready) in
                elim saves.holds [
                  | inl shut ↦ inl (shut, inr force)
                  | inr holds ↦ inr (holds, inl force)
                ];
          })

      -- the medium holds the backup, and the log info names it as pending
      record IsPending (a c : Image) : Type 0 where
        pub torn : LogAndMediumTorn m pages a c
        pub holds : HoldsBackup c m header.end_position backup
        pub ready : IsReady slots (LogBody info) a → IsReady s1 (LogBody (pending_info info m header)) c

      module _ (saved : Arrives d1 d2 (Saved m pages header.end_position backup)) where
        -- after the backup
        pending_arrives : Arrives d0 d2 IsPending
        pending_arrives image left =
            let b = saved image left in
            let a = here b.0 b.1 in
            (a.0, a.1, record { torn = both_torn a.0 b.0 image a.2 b.2.torn; holds = b.2.holds; ready = pending_ready a.0 b.0 image a.2 b.2.torn })

        module _ (d3 : Disk) (three : Goes d2 d3 (Switches s1 (LogBody (saved_info info header)))) where
          -- the slots alone are others then
          last_torn : (b c : Image) → SlotsTorn s1.place b c → Torn Log 0 16384 b c
          last_torn b c torn = slots_on_log s1.place b c (place1 ∙ place) torn

          -- the saved log info as a part of the whole
          pub then_put : Goes d0 d3 (BacksUp slots info m pages header backup)
          then_put = chain_on d0 d2 d3 (BacksUp slots info m pages header backup) IsPending (Switches s1 (LogBody (saved_info info header))) (BacksUp slots info m pages header backup) then_saved pending_arrives three (λ a b backs. backs)
              (λ a b c pending left switches.
              let torn = last_torn b c switches.torn in
              record {
                torn = torn_on a b c pending.torn (torn_slots b c torn);
                stands = λ ready. inr (
                  holds_same b c header.end_position backup (torn.others (Medium m) (λ e. cc)) pending.holds,
                  subst (λ (p : SlotPlace). (in_force c p ≡ Some (LogBody (pending_info info m header))) ⊎ (in_force c p ≡ Some (LogBody (saved_info info header)))) place1 (switches.force (LogBody (pending_info info m header)) (pending.ready ready)),
                );
              })

          -- after the whole
          pub backed_up : (s2 : Slots) → Arrives d2 d3 (HasSwitched s1 s2 (LogBody (saved_info info header))) → Arrives d0 d3 (BackedUp slots s2 info m pages header backup)
          backed_up s2 arrives image left =
              let b = arrives image left in
              let a = pending_arrives b.0 b.1 in
              let torn = last_torn b.0 image b.2.torn in (
                a.0,
                a.1,
                record {
                  torn = torn_on a.0 b.0 image a.2.torn (torn_slots b.0 image torn);
                  holds = holds_same b.0 image header.end_position backup (torn.others (Medium m) (λ e. cc)) a.2.holds;
                  ready = λ ready. b.2.ready (LogBody (pending_info info m header)) (a.2.ready ready);
                },
              )
