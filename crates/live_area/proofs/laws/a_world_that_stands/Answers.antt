use Rattle.std.proofs.Common.{refl}
use Rattle.live_area.proofs.StoodFor.{live_now, saved_commits}
use Rattle.live_area.proofs.laws.a_world_that_stands.Goals as goal

pub returns-clause-state : goal.returns-clause-state
returns-clause-state c image w stands = stands.offline

pub returns-clause-area : goal.returns-clause-area
returns-clause-area c = live_now

pub returns-clause-media : goal.returns-clause-media
returns-clause-media c image w stands = (stands.stage.backups refl).blank

pub returns-clause-snapshots : goal.returns-clause-snapshots
returns-clause-snapshots c image w stands = stands.stage.snapshots refl

pub returns-clause-base : goal.returns-clause-base
returns-clause-base c image w stands = (stands.stage.backups refl).base

pub returns-clause-saved_low : goal.returns-clause-saved_low
returns-clause-saved_low c image w stands = (saved_commits image w stands).0

pub returns-clause-saved_high : goal.returns-clause-saved_high
returns-clause-saved_high c image w stands = (saved_commits image w stands).1
