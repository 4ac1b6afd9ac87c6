use Rattle.std.proofs.Common.{arith, ◌≤◌, length}
use Rattle.std.proofs.lemmas.Result.{err_from_is_err_and}
use Rattle.log_backup.specs.Packing.{packed_len}
use Rattle.log_backup.proofs.Pages.{writes_on_same}
use Rattle.log_backup.proofs.Groups.{left_ends, left_long, left_count, left_packs, not_whole}
use Rattle.log_backup.proofs.saving.pack_backup.Goals as goal

pub returns-in_err-pack_groups-clause-intact : goal.returns-in_err-pack_groups-clause-intact
returns-in_err-pack_groups-clause-intact g c told all left damage is =
    let p = err_from_is_err_and c.from_residual.result c.from_residual.ensures.1 in
    c.in_err-pack_groups.ensures.intact told c.args.header.now all c.requires.last left damage cc

pub returns-then-not-is_whole-clause-intact : goal.returns-then-not-is_whole-clause-intact
returns-then-not-is_whole-clause-intact g c told all left damage is =
    let last : c.args.header.now.last ≤ c.pack_groups.new.reader.number = omega (arith, c.requires.last, c.in_ok-pack_groups.ensures.number) in
    let now = c.in_ok-pack_groups.ensures.left told c.args.header.now all c.requires.last left in
    let short : c.pack_groups.new.packing.used ≤ length c.pack_groups.new.page = omega (arith, c.in_ok-pack_groups.ensures.packing.used) in
    not_whole (packed_len c.pack_groups.new.packing) c.args.header.now.group_bytes c.pack_groups.new.reader.position c.args.header.now.end_position c.is_whole.result c.is_whole.ensures c.if-not-is_whole.true
    (left_count c.pack_groups.new.reader c.pack_groups.new.packing c.pack_groups.new.page (g.H.Host.disk c.pack_groups.new.host) c.args.header.now all short last now)
    (left_ends c.pack_groups.new.reader c.pack_groups.new.packing c.pack_groups.new.page (g.H.Host.disk c.pack_groups.new.host) c.args.header.now all short last now)

pub returns-in-Ok-clause-writing : goal.returns-in-Ok-clause-writing
returns-in-Ok-clause-writing g c told all left =
    let last : c.args.header.now.last ≤ c.pack_groups.new.reader.number = omega (arith, c.requires.last, c.in_ok-pack_groups.ensures.number) in
    let now = c.in_ok-pack_groups.ensures.left told c.args.header.now all c.requires.last left in
    let short : c.pack_groups.new.packing.used ≤ length c.pack_groups.new.page = omega (arith, c.in_ok-pack_groups.ensures.packing.used) in (
      left_long c.pack_groups.new.reader c.pack_groups.new.packing c.pack_groups.new.page (g.H.Host.disk c.pack_groups.new.host) c.args.header.now all short last now,
      c.in-Ok.ensures.packs told all (left_packs c.pack_groups.new.reader c.pack_groups.new.packing c.pack_groups.new.page (g.H.Host.disk c.pack_groups.new.host) c.args.header.now all short last now),
    )

pub returns-in-Ok-clause-writes : goal.returns-in-Ok-clause-writes
returns-in-Ok-clause-writes g c =
    writes_on_same g.H.Host c.args.packing.now.writer c.pack_groups.new.packing.writer c.args.host.now c.pack_groups.new.host c.fill.new.host c.pack_groups.ensures.same c.pack_groups.ensures.writes c.fill.ensures.writes

pub returns-in-Err-clause-writes : goal.returns-in-Err-clause-writes
returns-in-Err-clause-writes g c =
    writes_on_same g.H.Host c.args.packing.now.writer c.pack_groups.new.packing.writer c.args.host.now c.pack_groups.new.host c.fill.new.host c.pack_groups.ensures.same c.pack_groups.ensures.writes c.fill.ensures.writes
