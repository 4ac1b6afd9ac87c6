use Rattle.std.proofs.Common.{◌^◌, ◌+◌, arith, lt-ltb}
use Rattle.std.proofs.lemmas.Bool.{le-leb}
use Rattle.log_backup.proofs.Infos.{header_low, saved_low, info_keeps, medium_low}
use Rattle.log_backup.proofs.backing.pending_of.Goals as goal

pub returns-clause-keeps : goal.returns-clause-keeps
returns-clause-keeps c =
    let info = c.args.info.now in
    let header = c.args.header.now in
    let low = header_low header c.requires.header in
    let saved = saved_low info c.requires.keeps in
    let most = medium_low c.args.medium c.requires.medium in
    info_keeps info (info.slot + 1) info.saved_commit info.saved_position c.from.result header.last header.end_position c.requires.keeps (lt-ltb (info.slot + 1) (2 ^ 62) (omega (arith, c.requires.low))) saved.0 saved.1 (le-leb c.from.result 99 (omega (arith, most, c.from.ensures))) (lt-ltb c.from.result (2 ^ 32) (omega (arith, most, c.from.ensures)))
    low.0 low.1
