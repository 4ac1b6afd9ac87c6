use Rattle.std.proofs.Common.{refl}
use Rattle.page_ground.proofs.Holds.{reads_so, holding_so, cause_so}
use Rattle.page_ground.proofs.ground.PageGroundRows.del.Goals as goal

pub returns-clause-gone : goal.returns-clause-gone
returns-clause-gone g c = λ k. holding_so g.H.Host.tells _ _ _ _ c.args.self.now.reader _ c.del_row.result c.del_row.ensures.keeps (c.del_row.ensures.gone k.0) k.1

pub returns-clause-cause : goal.returns-clause-cause
returns-clause-cause g c = cause_so c.del_row.ensures.cause

pub returns-clause-follows : goal.returns-clause-follows
returns-clause-follows g c = (
  refl,
  refl,
  refl,
  refl,
  refl,
  c.del_row.ensures.keeps,
  c.del_row.ensures.say_faults,
  reads_so g.H.Host.tells _ _ _ _ c.args.self.now.reader c.del_row.ensures.keeps,
)
