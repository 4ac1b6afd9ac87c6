use Rattle.std.proofs.Common.{refl}
use Rattle.page_ground.proofs.Holds.{reads_so, holding_so, cause_so}
use Rattle.page_ground.proofs.ground.PageGroundRows.put.Goals as goal

pub returns-clause-set : goal.returns-clause-set
returns-clause-set g c = λ k. holding_so g.H.Host.tells _ _ _ _ c.args.self.now.reader _ c.put_row.result c.put_row.ensures.keeps (c.put_row.ensures.set k.0) k.1

pub returns-clause-cause : goal.returns-clause-cause
returns-clause-cause g c = cause_so c.put_row.ensures.cause

pub returns-clause-follows : goal.returns-clause-follows
returns-clause-follows g c = (
  refl,
  refl,
  refl,
  refl,
  refl,
  c.put_row.ensures.keeps,
  c.put_row.ensures.say_faults,
  reads_so g.H.Host.tells _ _ _ _ c.args.self.now.reader c.put_row.ensures.keeps,
)
