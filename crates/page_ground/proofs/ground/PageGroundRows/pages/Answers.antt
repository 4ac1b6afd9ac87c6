use Rattle.std.proofs.Common.{refl}
use Rattle.page_ground.proofs.Holds.{reads_so, holding_so, cause_so}
use Rattle.page_ground.proofs.ground.PageGroundRows.pages.Goals as goal

pub returns-clause-same : goal.returns-clause-same
returns-clause-same g c = λ k. holding_so g.H.Host.tells _ _ _ _ c.args.self.now.reader _ c.pages_of_table.result c.pages_of_table.ensures.keeps (c.pages_of_table.ensures.same k.0) k.1

pub returns-clause-cause : goal.returns-clause-cause
returns-clause-cause g c = cause_so c.pages_of_table.ensures.cause

pub returns-clause-follows : goal.returns-clause-follows
returns-clause-follows g c = (
  refl,
  refl,
  refl,
  refl,
  refl,
  c.pages_of_table.ensures.keeps,
  c.pages_of_table.ensures.say_faults,
  reads_so g.H.Host.tells _ _ _ _ c.args.self.now.reader c.pages_of_table.ensures.keeps,
)
