use Rattle.std.proofs.Common.{◌≡◌, refl, ap, subst, ◌∙◌}
use Rattle.std.proofs.lemmas.Result.{err_from_is_err_and}
use Rattle.mdb_model.specs.declared.fault.Device.TheVariants.{Log}
use Rattle.mdb_model.specs.Images.{size_of}
use Rattle.mdb_host.specs.Disk.{Goes, Arrives}
use Rattle.mdb_bytes.specs.declared.log_info.LogInfo.{LogInfo}
use Rattle.gate_slots.specs.declared.body.SlotBody.TheVariants.{Log as LogBody}
use Rattle.gate_slots.specs.declared.slots.Slots.{Slots}
use Rattle.gate_slots.specs.Steps.{Switches, HasSwitched}
use Rattle.log_backup.specs.Backing.{pending_info, saved_info}
use Rattle.log_backup.specs.Saving.{log_backup}
use Rattle.log_backup.proofs.Backed.{slots_on_log, to_save_on, torn_slots, torn_pages, torn_on, pending_put, still_blank, then_saved, then_put, backed_up}
use Rattle.log_backup.proofs.backing.backup_log.Goals as goal

pub returns-in_err-put_info-clause-any_moment : goal.returns-in_err-put_info-clause-any_moment
returns-in_err-put_info-clause-any_moment g c told commits to blank =
    let m = c.args.writer.medium in
    let pages = c.args.writer.pages in
    let slots = c.args.slots.now in
    let info = c.args.info.now in
    let header = c.args.header.now in
    let backup = log_backup c.args.reader.now header commits in
    let one : Goes (g.H.Host.disk c.args.host.now) (g.H.Host.disk c.put_info.new.host) (Switches slots (LogBody (pending_info info m header))) = subst (λ (i : LogInfo). Goes (g.H.Host.disk c.args.host.now) (g.H.Host.disk c.put_info.new.host) (Switches slots (LogBody i))) c.pending_of-pending.ensures.is (c.put_info.ensures.any_moment told) in
    pending_put m pages slots slots info header backup c.requires.place refl (g.H.Host.disk c.args.host.now) (g.H.Host.disk c.put_info.new.host) blank one

pub returns-in_err-save-clause-intact : goal.returns-in_err-save-clause-intact
returns-in_err-save-clause-intact g c told commits to blank damage is =
    let m = c.args.writer.medium in
    let pages = c.args.writer.pages in
    let slots = c.args.slots.now in
    let info = c.args.info.now in
    let header = c.args.header.now in
    let backup = log_backup c.args.reader.now header commits in
    let s1 = c.put_info.new.slots in
    let place1 : s1.place ≡ slots.place = ap (λ (s : Slots). s.place) c.in_ok-put_info.ensures.ok in
    let one : Goes (g.H.Host.disk c.args.host.now) (g.H.Host.disk c.put_info.new.host) (Switches slots (LogBody (pending_info info m header))) = subst (λ (i : LogInfo). Goes (g.H.Host.disk c.args.host.now) (g.H.Host.disk c.put_info.new.host) (Switches slots (LogBody i))) c.pending_of-pending.ensures.is (c.put_info.ensures.any_moment told) in
    let here : Arrives (g.H.Host.disk c.args.host.now) (g.H.Host.disk c.put_info.new.host) (HasSwitched slots s1 (LogBody (pending_info info m header))) = subst (λ (i : LogInfo). Arrives (g.H.Host.disk c.args.host.now) (g.H.Host.disk c.put_info.new.host) (HasSwitched slots s1 (LogBody i))) c.pending_of-pending.ensures.is (c.in_ok-put_info.ensures.there told) in
    let to1 = to_save_on c.args.reader.now header commits (g.H.Host.disk c.args.host.now).seen (g.H.Host.disk c.put_info.new.host).seen (slots_on_log slots.place (g.H.Host.disk c.args.host.now).seen (g.H.Host.disk c.put_info.new.host).seen c.requires.place (c.put_info.ensures.seen told)) to in
    let blank1 = still_blank m pages slots s1 info header backup c.requires.place place1 (g.H.Host.disk c.args.host.now) (g.H.Host.disk c.put_info.new.host) blank one in
    let p = err_from_is_err_and c.from_residual-in_err-save.result c.from_residual-in_err-save.ensures.1 in
    c.in_err-save.ensures.intact told commits to1 blank1 damage cc

pub returns-in_err-save-clause-any_moment : goal.returns-in_err-save-clause-any_moment
returns-in_err-save-clause-any_moment g c told commits to blank =
    let m = c.args.writer.medium in
    let pages = c.args.writer.pages in
    let slots = c.args.slots.now in
    let info = c.args.info.now in
    let header = c.args.header.now in
    let backup = log_backup c.args.reader.now header commits in
    let s1 = c.put_info.new.slots in
    let place1 : s1.place ≡ slots.place = ap (λ (s : Slots). s.place) c.in_ok-put_info.ensures.ok in
    let one : Goes (g.H.Host.disk c.args.host.now) (g.H.Host.disk c.put_info.new.host) (Switches slots (LogBody (pending_info info m header))) = subst (λ (i : LogInfo). Goes (g.H.Host.disk c.args.host.now) (g.H.Host.disk c.put_info.new.host) (Switches slots (LogBody i))) c.pending_of-pending.ensures.is (c.put_info.ensures.any_moment told) in
    let here : Arrives (g.H.Host.disk c.args.host.now) (g.H.Host.disk c.put_info.new.host) (HasSwitched slots s1 (LogBody (pending_info info m header))) = subst (λ (i : LogInfo). Arrives (g.H.Host.disk c.args.host.now) (g.H.Host.disk c.put_info.new.host) (HasSwitched slots s1 (LogBody i))) c.pending_of-pending.ensures.is (c.in_ok-put_info.ensures.there told) in
    let to1 = to_save_on c.args.reader.now header commits (g.H.Host.disk c.args.host.now).seen (g.H.Host.disk c.put_info.new.host).seen (slots_on_log slots.place (g.H.Host.disk c.args.host.now).seen (g.H.Host.disk c.put_info.new.host).seen c.requires.place (c.put_info.ensures.seen told)) to in
    let blank1 = still_blank m pages slots s1 info header backup c.requires.place place1 (g.H.Host.disk c.args.host.now) (g.H.Host.disk c.put_info.new.host) blank one in
    then_saved m pages slots s1 info header backup c.requires.place place1 (g.H.Host.disk c.args.host.now) (g.H.Host.disk c.put_info.new.host) blank one here (g.H.Host.disk c.save.new.host) (c.save.ensures.any_moment told commits to1 blank1)

pub put_info-requires-2-clause-within : goal.put_info-requires-2-clause-within
put_info-requires-2-clause-within g c told =
    let within = c.requires.slots told in
    let torn = slots_on_log c.args.slots.now.place (g.H.Host.disk c.args.host.now).seen (g.H.Host.disk c.put_info.new.host).seen c.requires.place (c.put_info.ensures.seen told) in
    (within.0, ap size_of ((c.save.ensures.seen told).others Log (λ e. cc)) ∙ torn.size ∙ within.1, within.2)

pub returns-in_err-put_info-2-clause-any_moment : goal.returns-in_err-put_info-2-clause-any_moment
returns-in_err-put_info-2-clause-any_moment g c told commits to blank =
    let m = c.args.writer.medium in
    let pages = c.args.writer.pages in
    let slots = c.args.slots.now in
    let info = c.args.info.now in
    let header = c.args.header.now in
    let backup = log_backup c.args.reader.now header commits in
    let s1 = c.put_info.new.slots in
    let place1 : s1.place ≡ slots.place = ap (λ (s : Slots). s.place) c.in_ok-put_info.ensures.ok in
    let one : Goes (g.H.Host.disk c.args.host.now) (g.H.Host.disk c.put_info.new.host) (Switches slots (LogBody (pending_info info m header))) = subst (λ (i : LogInfo). Goes (g.H.Host.disk c.args.host.now) (g.H.Host.disk c.put_info.new.host) (Switches slots (LogBody i))) c.pending_of-pending.ensures.is (c.put_info.ensures.any_moment told) in
    let here : Arrives (g.H.Host.disk c.args.host.now) (g.H.Host.disk c.put_info.new.host) (HasSwitched slots s1 (LogBody (pending_info info m header))) = subst (λ (i : LogInfo). Arrives (g.H.Host.disk c.args.host.now) (g.H.Host.disk c.put_info.new.host) (HasSwitched slots s1 (LogBody i))) c.pending_of-pending.ensures.is (c.in_ok-put_info.ensures.there told) in
    let to1 = to_save_on c.args.reader.now header commits (g.H.Host.disk c.args.host.now).seen (g.H.Host.disk c.put_info.new.host).seen (slots_on_log slots.place (g.H.Host.disk c.args.host.now).seen (g.H.Host.disk c.put_info.new.host).seen c.requires.place (c.put_info.ensures.seen told)) to in
    let blank1 = still_blank m pages slots s1 info header backup c.requires.place place1 (g.H.Host.disk c.args.host.now) (g.H.Host.disk c.put_info.new.host) blank one in
    let three : Goes (g.H.Host.disk c.save.new.host) (g.H.Host.disk c.put_info-2.new.host) (Switches s1 (LogBody (saved_info info header))) = subst (λ (i : LogInfo). Goes (g.H.Host.disk c.save.new.host) (g.H.Host.disk c.put_info-2.new.host) (Switches s1 (LogBody i))) c.saved_of-saved.ensures.is (c.put_info-2.ensures.any_moment told) in
    then_put m pages slots s1 info header backup c.requires.place place1 (g.H.Host.disk c.args.host.now) (g.H.Host.disk c.put_info.new.host) blank one here (g.H.Host.disk c.save.new.host) (c.save.ensures.any_moment told commits to1 blank1) (c.in_ok-save.ensures.there told commits to1 blank1) (g.H.Host.disk c.put_info-2.new.host) three

pub returns-clause-any_moment : goal.returns-clause-any_moment
returns-clause-any_moment g c told commits to blank =
    let m = c.args.writer.medium in
    let pages = c.args.writer.pages in
    let slots = c.args.slots.now in
    let info = c.args.info.now in
    let header = c.args.header.now in
    let backup = log_backup c.args.reader.now header commits in
    let s1 = c.put_info.new.slots in
    let place1 : s1.place ≡ slots.place = ap (λ (s : Slots). s.place) c.in_ok-put_info.ensures.ok in
    let one : Goes (g.H.Host.disk c.args.host.now) (g.H.Host.disk c.put_info.new.host) (Switches slots (LogBody (pending_info info m header))) = subst (λ (i : LogInfo). Goes (g.H.Host.disk c.args.host.now) (g.H.Host.disk c.put_info.new.host) (Switches slots (LogBody i))) c.pending_of-pending.ensures.is (c.put_info.ensures.any_moment told) in
    let here : Arrives (g.H.Host.disk c.args.host.now) (g.H.Host.disk c.put_info.new.host) (HasSwitched slots s1 (LogBody (pending_info info m header))) = subst (λ (i : LogInfo). Arrives (g.H.Host.disk c.args.host.now) (g.H.Host.disk c.put_info.new.host) (HasSwitched slots s1 (LogBody i))) c.pending_of-pending.ensures.is (c.in_ok-put_info.ensures.there told) in
    let to1 = to_save_on c.args.reader.now header commits (g.H.Host.disk c.args.host.now).seen (g.H.Host.disk c.put_info.new.host).seen (slots_on_log slots.place (g.H.Host.disk c.args.host.now).seen (g.H.Host.disk c.put_info.new.host).seen c.requires.place (c.put_info.ensures.seen told)) to in
    let blank1 = still_blank m pages slots s1 info header backup c.requires.place place1 (g.H.Host.disk c.args.host.now) (g.H.Host.disk c.put_info.new.host) blank one in
    let three : Goes (g.H.Host.disk c.save.new.host) (g.H.Host.disk c.put_info-2.new.host) (Switches s1 (LogBody (saved_info info header))) = subst (λ (i : LogInfo). Goes (g.H.Host.disk c.save.new.host) (g.H.Host.disk c.put_info-2.new.host) (Switches s1 (LogBody i))) c.saved_of-saved.ensures.is (c.put_info-2.ensures.any_moment told) in
    then_put m pages slots s1 info header backup c.requires.place place1 (g.H.Host.disk c.args.host.now) (g.H.Host.disk c.put_info.new.host) blank one here (g.H.Host.disk c.save.new.host) (c.save.ensures.any_moment told commits to1 blank1) (c.in_ok-save.ensures.there told commits to1 blank1) (g.H.Host.disk c.put_info-2.new.host) three

pub returns-clause-there : goal.returns-clause-there
returns-clause-there g c told commits to blank =
    let m = c.args.writer.medium in
    let pages = c.args.writer.pages in
    let slots = c.args.slots.now in
    let info = c.args.info.now in
    let header = c.args.header.now in
    let backup = log_backup c.args.reader.now header commits in
    let s1 = c.put_info.new.slots in
    let place1 : s1.place ≡ slots.place = ap (λ (s : Slots). s.place) c.in_ok-put_info.ensures.ok in
    let one : Goes (g.H.Host.disk c.args.host.now) (g.H.Host.disk c.put_info.new.host) (Switches slots (LogBody (pending_info info m header))) = subst (λ (i : LogInfo). Goes (g.H.Host.disk c.args.host.now) (g.H.Host.disk c.put_info.new.host) (Switches slots (LogBody i))) c.pending_of-pending.ensures.is (c.put_info.ensures.any_moment told) in
    let here : Arrives (g.H.Host.disk c.args.host.now) (g.H.Host.disk c.put_info.new.host) (HasSwitched slots s1 (LogBody (pending_info info m header))) = subst (λ (i : LogInfo). Arrives (g.H.Host.disk c.args.host.now) (g.H.Host.disk c.put_info.new.host) (HasSwitched slots s1 (LogBody i))) c.pending_of-pending.ensures.is (c.in_ok-put_info.ensures.there told) in
    let to1 = to_save_on c.args.reader.now header commits (g.H.Host.disk c.args.host.now).seen (g.H.Host.disk c.put_info.new.host).seen (slots_on_log slots.place (g.H.Host.disk c.args.host.now).seen (g.H.Host.disk c.put_info.new.host).seen c.requires.place (c.put_info.ensures.seen told)) to in
    let blank1 = still_blank m pages slots s1 info header backup c.requires.place place1 (g.H.Host.disk c.args.host.now) (g.H.Host.disk c.put_info.new.host) blank one in
    let three : Goes (g.H.Host.disk c.save.new.host) (g.H.Host.disk c.put_info-2.new.host) (Switches s1 (LogBody (saved_info info header))) = subst (λ (i : LogInfo). Goes (g.H.Host.disk c.save.new.host) (g.H.Host.disk c.put_info-2.new.host) (Switches s1 (LogBody i))) c.saved_of-saved.ensures.is (c.put_info-2.ensures.any_moment told) in
    let s2 = c.put_info-2.new.slots in
    backed_up m pages slots s1 info header backup c.requires.place place1 (g.H.Host.disk c.args.host.now) (g.H.Host.disk c.put_info.new.host) blank one here (g.H.Host.disk c.save.new.host) (c.save.ensures.any_moment told commits to1 blank1) (c.in_ok-save.ensures.there told commits to1 blank1) (g.H.Host.disk c.put_info-2.new.host) three s2 (subst (λ (i : LogInfo). Arrives (g.H.Host.disk c.save.new.host) (g.H.Host.disk c.put_info-2.new.host) (HasSwitched s1 s2 (LogBody i))) c.saved_of-saved.ensures.is (c.in_ok-put_info-2.ensures.there told))

pub returns-in_err-put_info-2-clause-seen : goal.returns-in_err-put_info-2-clause-seen
returns-in_err-put_info-2-clause-seen g c told =
    let m = c.args.writer.medium in
    let pages = c.args.writer.pages in
    let place1 : c.put_info.new.slots.place ≡ c.args.slots.now.place = ap (λ (s : Slots). s.place) c.in_ok-put_info.ensures.ok in
    torn_on m pages (g.H.Host.disk c.args.host.now).seen (g.H.Host.disk c.save.new.host).seen (g.H.Host.disk c.put_info-2.new.host).seen
    (torn_on m pages (g.H.Host.disk c.args.host.now).seen (g.H.Host.disk c.put_info.new.host).seen (g.H.Host.disk c.save.new.host).seen (torn_slots m pages (g.H.Host.disk c.args.host.now).seen (g.H.Host.disk c.put_info.new.host).seen (slots_on_log c.args.slots.now.place (g.H.Host.disk c.args.host.now).seen (g.H.Host.disk c.put_info.new.host).seen c.requires.place (c.put_info.ensures.seen told))) (torn_pages m pages (g.H.Host.disk c.put_info.new.host).seen (g.H.Host.disk c.save.new.host).seen (c.save.ensures.seen told)))
    (torn_slots m pages (g.H.Host.disk c.save.new.host).seen (g.H.Host.disk c.put_info-2.new.host).seen (slots_on_log c.put_info.new.slots.place (g.H.Host.disk c.save.new.host).seen (g.H.Host.disk c.put_info-2.new.host).seen (place1 ∙ c.requires.place) (c.put_info-2.ensures.seen told)))

pub returns-clause-seen : goal.returns-clause-seen
returns-clause-seen g c told =
    let m = c.args.writer.medium in
    let pages = c.args.writer.pages in
    let place1 : c.put_info.new.slots.place ≡ c.args.slots.now.place = ap (λ (s : Slots). s.place) c.in_ok-put_info.ensures.ok in
    torn_on m pages (g.H.Host.disk c.args.host.now).seen (g.H.Host.disk c.save.new.host).seen (g.H.Host.disk c.put_info-2.new.host).seen
    (torn_on m pages (g.H.Host.disk c.args.host.now).seen (g.H.Host.disk c.put_info.new.host).seen (g.H.Host.disk c.save.new.host).seen (torn_slots m pages (g.H.Host.disk c.args.host.now).seen (g.H.Host.disk c.put_info.new.host).seen (slots_on_log c.args.slots.now.place (g.H.Host.disk c.args.host.now).seen (g.H.Host.disk c.put_info.new.host).seen c.requires.place (c.put_info.ensures.seen told))) (torn_pages m pages (g.H.Host.disk c.put_info.new.host).seen (g.H.Host.disk c.save.new.host).seen (c.save.ensures.seen told)))
    (torn_slots m pages (g.H.Host.disk c.save.new.host).seen (g.H.Host.disk c.put_info-2.new.host).seen (slots_on_log c.put_info.new.slots.place (g.H.Host.disk c.save.new.host).seen (g.H.Host.disk c.put_info-2.new.host).seen (place1 ∙ c.requires.place) (c.put_info-2.ensures.seen told)))
