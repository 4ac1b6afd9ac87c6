use Rattle.std.proofs.Common.{refl, ◌^◌, ◌+◌, arith, lt-ltb}
use Rattle.log_backup.proofs.Infos.{header_low, info_keeps}
use Rattle.log_backup.proofs.backing.saved_of.Goals as goal

pub returns-clause-keeps : goal.returns-clause-keeps
returns-clause-keeps c =
    let info = c.args.info.now in
    let header = c.args.header.now in
    let low = header_low header c.requires.header in
    info_keeps info (info.slot + 2) header.last header.end_position 0 0 0 c.requires.keeps (lt-ltb (info.slot + 2) (2 ^ 62) (omega (arith, c.requires.low))) low.0 low.1 refl refl refl refl
