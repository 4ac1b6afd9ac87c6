use Rattle.std.proofs.Common.{ap, subst, ◌∙◌, ◌-◌, arith}
use Rattle.page_ground.specs.declared.set_point.SetPoint.{SetPoint}
use Rattle.redo_ring.specs.declared.reader.RingReader.{RingReader}
use Rattle.live_area.specs.Serving.{IsSet}
use Rattle.live_area.proofs.area.LiveArea.set_last.Goals as goal

pub returns-clause-sets : goal.returns-clause-sets
returns-clause-sets g c =
    subst (λ (x : RingReader × SetPoint). IsSet g.H.Host.tells x.0 x.1 c.args.self.now.store c.set_group-result.new.store c.args.self.now.in_force c.set_group-result.new.in_force c.args.group.now (g.H.Host.disk c.args.host.now) (g.H.Host.disk c.set_group-result.new.host) c.set_group-result.result)
    (λ i. (c.reader-reader.ensures.begins i, record { commit = c.args.self.now.ring.last_commit - 1; position = c.args.self.now.ring.end_position - c.len.ensures.len i }))
    (record {
      rows = c.set_group-result.ensures.rows;
      kept = λ rows known stands next rest room.
          c.set_group-result.ensures.kept rows known stands next rest (ap (λ (r : RingReader). r.number) c.reader-reader.ensures.begins ∙ omega (arith, c.requires.some)) room;
      whole = c.set_group-result.ensures.whole;
    })
