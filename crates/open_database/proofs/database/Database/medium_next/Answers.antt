use Rattle.std.proofs.Common.{refl, sym, subst, arith}
use Rattle.mdb_model.specs.Images.{Image}
use Rattle.mdb_model.specs.Worlds.{off}
use Rattle.live_area.proofs.Found.{same_image}
use Rattle.open_database.specs.Outside.{StandsFor}
use Rattle.open_database.proofs.Answering.{serves_on}
use Rattle.open_database.proofs.MediaLines.{sound_beside_media}
use Rattle.open_database.proofs.MediaShown.{list_answer}
use Rattle.open_database.proofs.database.Database.medium_next.Goals as goal

pub returns-clause-sound : goal.returns-clause-sound
returns-clause-sound g c =
    let database = c.args.self.now in
    let d = g.H.Host.disk c.args.host.now in
    let e = g.H.Host.disk c.list_next.new.host in
    sound_beside_media g.H.Host.tells database d e c.requires.sound
    (c.media_come_and_go_beside.ensures.sound database.area.in_force.slots database.area.in_force.record database.area.store database.area.ring c.args.host.now c.list_next.new.host 0
    (λ told. (let calm = c.list_next.ensures.reads.calm told in record {
      seen = λ device other. c.list_next.ensures.reads.seen told device;
      left = λ image left. (let x = calm.since e.now image calm.keeps.later (omega arith) left in (x.0, x.1, λ device other. x.2 device));
    })) c.requires.sound.area)

pub returns-clause-reads : goal.returns-clause-reads
returns-clause-reads g c told ws fit =
    let database = c.args.self.now in
    let d = g.H.Host.disk c.args.host.now in
    let e = g.H.Host.disk c.list_next.new.host in
    let reads = c.list_next.ensures.reads in
    let calm = reads.calm told in
    let seen = reads.seen told in
    let stands = fit.serves.area.stand d.seen (g.met.H.Host.seen_left c.args.host.now told) in
    let answer = list_answer d.seen fit.w stands (c.a_world_that_stands.ensures.media d.seen (off fit.w) stands) fit.serves.no_backup c.args.after c.list_next.result (c.list_next.ensures.answer told) in
    record {
      quiet = calm.quiet;
      stand = λ t image from upto left.
          let x = calm.since t image from upto left in
          subst (λ (i : Image). StandsFor i (off fit.w)) (sym (same_image x.0 image x.2)) (fit.serves.area.stand x.0 x.1);
      is_next = answer.0;
      whole = answer.1;
      fit = record {
        w = fit.w;
        is = fit.is;
        serves = serves_on g.H.Host.tells database database d e fit.w fit.serves refl refl refl
            (c.saying_keeps_serving.ensures.serves database.area.in_force.slots database.area.in_force.record database.area.store database.area.ring c.args.host.now c.list_next.new.host (off fit.w) fit.serves.area calm.keeps seen
            (λ image left. (let x = calm.since e.now image calm.keeps.later (omega arith) left in subst (λ (i : Image). d.may_leave d.now i) (sym (same_image x.0 image x.2)) x.1)));
      };
    }
