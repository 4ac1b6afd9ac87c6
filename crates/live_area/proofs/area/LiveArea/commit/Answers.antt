use Rattle.std.proofs.Common.{◌+◌, ◌-◌, ap, length, Err, subst, arith}
use Rattle.mdb_bytes.proofs.ChangeRuns.{group_long}
use Rattle.redo_ring.specs.Calls.{AppendAnswer}
use Rattle.redo_ring.specs.declared.fault.RingFault.{RingFault}
use Rattle.live_area.proofs.Appended.{each_either}
use Rattle.live_area.proofs.Committed.{can_save_after, group_some, sound_set, either, served, only_failed}
use Rattle.page_ground.specs.AimLaws.{keeps_through}
use Rattle.live_area.proofs.area.LiveArea.commit.Goals as goal

pub set_last-requires-clause-can_save : goal.set_last-requires-clause-can_save
set_last-requires-clause-can_save g c =
    can_save_after g.H.Host.tells c.args.self.now.in_force.slots c.args.self.now.in_force.record c.args.self.now.store c.args.self.now.ring c.args.group.now (g.H.Host.disk c.args.host.now) (g.H.Host.disk c.append.new.host)
    c.requires.due c.requires.sound.can_save (λ told c' spelled. c.append.ensures.any_moment told c'.changes spelled) c.append.ensures.elsewhere

pub set_last-requires-clause-count : goal.set_last-requires-clause-count
set_last-requires-clause-count g c =
    let some = group_some c.args.self.now.ring c.args.group.now c.requires.due in
    omega (arith, some, c.requires.sound.order.count, ap (λ r. r.last_commit) c.in-Ok.ensures.ok, ap (λ r. r.end_position) c.in-Ok.ensures.ok)

pub returns-in-Ok-set_last-clause-sound : goal.returns-in-Ok-set_last-clause-sound
returns-in-Ok-set_last-clause-sound g c =
    sound_set g.H.Host.tells c.set_last.new.self.in_force.slots c.set_last.new.self.in_force.record c.set_last.new.self.store c.args.self.now.ring c.append.new.self c.set_last.new.self.ring _ (g.H.Host.disk c.append.new.host) (g.H.Host.disk c.set_last.new.host)
    c.requires.sound.order c.in-Ok.ensures.ok c.set_last.ensures.ring (group_some c.args.self.now.ring c.args.group.now c.requires.due) c.requires.low c.in-Ok-set_last.ensures.can_save c.append.ensures.ring c.set_last.ensures.log

pub returns-in-Ok-set_last-clause-leaves : goal.returns-in-Ok-set_last-clause-leaves
returns-in-Ok-set_last-clause-leaves g c told w c' spelled serves can = (
  either g.H.Host.tells c.args.self.now.in_force c.set_last.new.self.in_force c.args.self.now.store c.set_last.new.self.store c.args.self.now.ring c.append.new.self c.set_last.new.self.ring (g.H.Host.disk c.args.host.now) (g.H.Host.disk c.append.new.host) (g.H.Host.disk c.set_last.new.host) w c' c.args.group.now _
      serves can c.requires.sound.order c.requires.low c.in-Ok.ensures.answer.0 c.in-Ok.ensures.answer.1 (c.append.ensures.any_moment told c'.changes spelled) (c.in-Ok.ensures.there told c'.changes spelled) (c.append.ensures.elsewhere told) c.append.ensures.ring
      (g.met.H.Host.seen_left c.args.host.now told) (g.met.H.Host.seen_left c.append.new.host told) (g.met.H.Host.seen_left c.set_last.new.host told) spelled c.requires.few c.in-Ok.ensures.ok c.set_last.ensures.ring c.in-Ok-set_last.ensures.sets,
  served g.H.Host.tells c.args.self.now.in_force c.set_last.new.self.in_force c.args.self.now.store c.set_last.new.self.store c.args.self.now.ring c.append.new.self c.set_last.new.self.ring (g.H.Host.disk c.args.host.now) (g.H.Host.disk c.append.new.host) (g.H.Host.disk c.set_last.new.host) w c' c.args.group.now _
      serves can c.requires.sound.order c.requires.low c.in-Ok.ensures.answer.0 c.in-Ok.ensures.answer.1 (c.append.ensures.any_moment told c'.changes spelled) (c.in-Ok.ensures.there told c'.changes spelled) (c.append.ensures.elsewhere told) c.append.ensures.ring
      (g.met.H.Host.seen_left c.args.host.now told) (g.met.H.Host.seen_left c.append.new.host told) (g.met.H.Host.seen_left c.set_last.new.host told) spelled c.requires.few c.in-Ok.ensures.ok c.set_last.ensures.ring c.in-Ok-set_last.ensures.sets,
)

pub returns-in-Err-Failed-set_last-clause-leaves : goal.returns-in-Err-Failed-set_last-clause-leaves
returns-in-Err-Failed-set_last-clause-leaves g c told w c' spelled serves can =
    either g.H.Host.tells c.args.self.now.in_force c.set_last.new.self.in_force c.args.self.now.store c.set_last.new.self.store c.args.self.now.ring c.append.new.self c.set_last.new.self.ring (g.H.Host.disk c.args.host.now) (g.H.Host.disk c.append.new.host) (g.H.Host.disk c.set_last.new.host) w c' c.args.group.now _
    serves can c.requires.sound.order c.requires.low c.in-Ok.ensures.answer.0 c.in-Ok.ensures.answer.1 (c.append.ensures.any_moment told c'.changes spelled) (c.in-Ok.ensures.there told c'.changes spelled) (c.append.ensures.elsewhere told) c.append.ensures.ring
    (g.met.H.Host.seen_left c.args.host.now told) (g.met.H.Host.seen_left c.append.new.host told) (g.met.H.Host.seen_left c.set_last.new.host told) spelled c.requires.few c.in-Ok.ensures.ok c.set_last.ensures.ring c.in-Err-Failed-set_last.ensures.sets

pub returns-in-Err-Damaged-clause-leaves : goal.returns-in-Err-Damaged-clause-leaves
returns-in-Err-Damaged-clause-leaves g c told w c' spelled serves can =
    let none =
    only_failed g.H.Host.tells c.args.self.now.in_force c.set_last.new.self.in_force c.args.self.now.store c.set_last.new.self.store c.args.self.now.ring c.append.new.self c.set_last.new.self.ring (g.H.Host.disk c.args.host.now) (g.H.Host.disk c.append.new.host) (g.H.Host.disk c.set_last.new.host) w c' c.args.group.now _
    serves can c.requires.sound.order c.requires.low c.in-Ok.ensures.answer.0 c.in-Ok.ensures.answer.1 (c.append.ensures.any_moment told c'.changes spelled) (c.in-Ok.ensures.there told c'.changes spelled) (c.append.ensures.elsewhere told) c.append.ensures.ring
    (g.met.H.Host.seen_left c.args.host.now told) (g.met.H.Host.seen_left c.append.new.host told) (g.met.H.Host.seen_left c.set_last.new.host told) spelled c.requires.few c.in-Ok.ensures.ok c.set_last.ensures.ring c.in-Err-Damaged.ensures.sets in
    absurd (cc none)

pub returns-in-Err-Failed-clause-leaves : goal.returns-in-Err-Failed-clause-leaves
returns-in-Err-Failed-clause-leaves g c told w c' spelled serves can =
    let answer = subst (λ (f : RingFault). AppendAnswer c.args.self.now.ring.size (c.args.self.now.ring.end_position - c.args.self.now.ring.saved_position) (c.args.self.now.ring.end_position - c.args.self.now.ring.redo_position) (length c.args.group.now) (Err f)) c.in-Err-Failed.field-0-is c.in-Err-Failed.ensures.answer in
    each_either g.H.Host.tells c.args.self.now.in_force.slots c.args.self.now.in_force.record c.args.self.now.store c.args.self.now.ring (g.H.Host.disk c.args.host.now) (g.H.Host.disk c.append.new.host) w c' _ c.args.group.now
    serves can c.requires.sound.order (group_long (record { name = c.args.self.now.ring.name; number = c.args.self.now.ring.last_commit + 1; changes = c'.changes }) c.args.group.now spelled).0 c.requires.low answer.0 answer.1 (c.append.ensures.any_moment told c'.changes spelled)

pub returns-in-Ok-set_last-clause-keeps : goal.returns-in-Ok-set_last-clause-keeps
returns-in-Ok-set_last-clause-keeps g c told =
    keeps_through (g.H.Host.disk c.args.host.now) (g.H.Host.disk c.append.new.host) (g.H.Host.disk c.set_last.new.host)
    (c.append.ensures.any_moment told c.requires.due.0 c.requires.due.1).keeps (c.set_last.ensures.keeps told)

pub returns-in-Err-Failed-set_last-clause-keeps : goal.returns-in-Err-Failed-set_last-clause-keeps
returns-in-Err-Failed-set_last-clause-keeps g c told =
    keeps_through (g.H.Host.disk c.args.host.now) (g.H.Host.disk c.append.new.host) (g.H.Host.disk c.set_last.new.host)
    (c.append.ensures.any_moment told c.requires.due.0 c.requires.due.1).keeps (c.set_last.ensures.keeps told)

pub returns-in-Err-Damaged-clause-keeps : goal.returns-in-Err-Damaged-clause-keeps
returns-in-Err-Damaged-clause-keeps g c told =
    keeps_through (g.H.Host.disk c.args.host.now) (g.H.Host.disk c.append.new.host) (g.H.Host.disk c.set_last.new.host)
    (c.append.ensures.any_moment told c.requires.due.0 c.requires.due.1).keeps (c.set_last.ensures.keeps told)
