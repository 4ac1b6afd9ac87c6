use Rattle.std.proofs.Common.{arith, ℕ, ◌+◌, ◌*◌, ◌∙◌, subst, sym}
use Rattle.std.proofs.lemmas.Result.{err_from_is_err_and}
use Rattle.mdb_model.specs.declared.fault.Device.TheVariants.{Medium}
use Rattle.mdb_host.specs.Disk.{Goes, Arrives, Torn, IsWithin}
use Rattle.mdb_bytes.specs.Parts.{page_len}
use Rattle.mdb_bytes.specs.WholeBackups.{groups_spelled}
use Rattle.medium_file.specs.Writing.{Seals, Sealed}
use Rattle.log_backup.specs.Packing.{filled}
use Rattle.log_backup.specs.Saving.{log_backup}
use Rattle.log_backup.proofs.Groups.{within_kept}
use Rattle.log_backup.proofs.Saved.{left_first, sealed_is_backup, packed_torn, all_torn, all_seen, packed_saves, saves, saved}
use Rattle.log_backup.proofs.saving.save.Goals as goal

pub returns-in_err-pack_backup-clause-intact : goal.returns-in_err-pack_backup-clause-intact
returns-in_err-pack_backup-clause-intact g c told commits to blank damage is =
    let reader = c.args.reader.now in
    let p = err_from_is_err_and c.from_residual.result c.from_residual.ensures.1 in
    c.in_err-pack_backup.ensures.intact told (groups_spelled reader.name (reader.number + 1) commits)
    (left_first reader c.args.writer c.args.page.now (g.H.Host.disk c.args.host.now) c.args.header.now commits c.requires.begins (c.requires.asked ∙ c.requires.pages) blank to) damage cc

pub returns-in_err-pack_backup-clause-any_moment : goal.returns-in_err-pack_backup-clause-any_moment
returns-in_err-pack_backup-clause-any_moment g c told commits to blank =
    packed_saves c.args.writer.medium c.args.writer.pages (omega (arith, c.requires.asked, c.requires.pages)) (g.H.Host.disk c.args.host.now) (g.H.Host.disk c.pack_backup.new.host) (c.pack_backup.ensures.writes.goes told)
    c.args.header.now.end_position (log_backup c.args.reader.now c.args.header.now commits) blank

pub returns-in_err-pack_backup-clause-torn : goal.returns-in_err-pack_backup-clause-torn
returns-in_err-pack_backup-clause-torn g c told =
    packed_torn c.args.writer.medium c.args.writer.pages (omega (arith, c.requires.asked, c.requires.pages)) (g.H.Host.disk c.args.host.now) (g.H.Host.disk c.pack_backup.new.host) (c.pack_backup.ensures.writes.goes told)

pub seal-requires-clause-within : goal.seal-requires-clause-within
seal-requires-clause-within g c told =
    let now = c.pack_backup.new.packing.writer in
    let same = c.pack_backup.ensures.same in
    let within = within_kept c.args.writer.medium c.args.writer.pages 0 (page_len * c.args.writer.pages) (g.H.Host.disk c.args.host.now).seen (g.H.Host.disk c.pack_backup.new.host).seen (c.pack_backup.ensures.writes.seen told) (c.requires.within told) in
    let room = c.in_ok-pack_backup.ensures.packing.room in
    subst (λ (m : ℕ). IsWithin (g.H.Host.disk c.pack_backup.new.host).seen (Medium m) 0 (page_len * (1 + now.appended))) (sym same.medium) (within.0, within.1, omega (arith, within.2, room, same.pages))

pub returns-in-Ok-clause-any_moment : goal.returns-in-Ok-clause-any_moment
returns-in-Ok-clause-any_moment g c told commits to blank =
    let same = c.pack_backup.ensures.same in
    let reader = c.args.reader.now in
    let header = c.args.header.now in
    let m = c.args.writer.medium in
    let packed = c.in_ok-pack_backup.ensures.writing told (groups_spelled reader.name (reader.number + 1) commits) (left_first reader c.args.writer c.args.page.now (g.H.Host.disk c.args.host.now) header commits c.requires.begins (c.requires.asked ∙ c.requires.pages) blank to) in
    saves m c.args.writer.pages (omega (arith, c.requires.asked, c.requires.pages)) (g.H.Host.disk c.args.host.now) (g.H.Host.disk c.pack_backup.new.host) (c.pack_backup.ensures.writes.goes told) header.end_position (log_backup reader header commits) blank header
    (filled (groups_spelled reader.name (reader.number + 1) commits)) (sealed_is_backup reader header commits (g.H.Host.disk c.args.host.now).seen m to packed.0) (g.H.Host.disk c.seal.new.host)
    (subst (λ (n : ℕ). Goes (g.H.Host.disk c.pack_backup.new.host) (g.H.Host.disk c.seal.new.host) (Seals n header (filled (groups_spelled reader.name (reader.number + 1) commits)))) same.medium (c.seal.ensures.any_moment told _ packed.1))

pub returns-in-Ok-clause-torn : goal.returns-in-Ok-clause-torn
returns-in-Ok-clause-torn g c told =
    all_torn c.args.writer.medium c.args.writer.pages (omega (arith, c.requires.asked, c.requires.pages)) (g.H.Host.disk c.args.host.now) (g.H.Host.disk c.pack_backup.new.host) (c.pack_backup.ensures.writes.goes told) (g.H.Host.disk c.seal.new.host)
    (subst (λ (n : ℕ). Goes (g.H.Host.disk c.pack_backup.new.host) (g.H.Host.disk c.seal.new.host) (Torn (Medium n) 0 page_len)) c.pack_backup.ensures.same.medium (c.seal.ensures.torn told))

pub returns-in-Ok-clause-seen : goal.returns-in-Ok-clause-seen
returns-in-Ok-clause-seen g c told =
    all_seen c.args.writer.medium c.args.writer.pages (omega (arith, c.requires.asked, c.requires.pages)) (g.H.Host.disk c.args.host.now) (g.H.Host.disk c.pack_backup.new.host) (c.pack_backup.ensures.writes.goes told)
    (g.H.Host.disk c.args.host.now).seen (g.H.Host.disk c.pack_backup.new.host).seen (g.H.Host.disk c.seal.new.host).seen (c.pack_backup.ensures.writes.seen told)
    (subst (λ (n : ℕ). Torn (Medium n) 0 page_len (g.H.Host.disk c.pack_backup.new.host).seen (g.H.Host.disk c.seal.new.host).seen) c.pack_backup.ensures.same.medium (c.seal.ensures.seen told))

pub returns-in-Err-clause-any_moment : goal.returns-in-Err-clause-any_moment
returns-in-Err-clause-any_moment g c told commits to blank =
    let same = c.pack_backup.ensures.same in
    let reader = c.args.reader.now in
    let header = c.args.header.now in
    let m = c.args.writer.medium in
    let packed = c.in_ok-pack_backup.ensures.writing told (groups_spelled reader.name (reader.number + 1) commits) (left_first reader c.args.writer c.args.page.now (g.H.Host.disk c.args.host.now) header commits c.requires.begins (c.requires.asked ∙ c.requires.pages) blank to) in
    saves m c.args.writer.pages (omega (arith, c.requires.asked, c.requires.pages)) (g.H.Host.disk c.args.host.now) (g.H.Host.disk c.pack_backup.new.host) (c.pack_backup.ensures.writes.goes told) header.end_position (log_backup reader header commits) blank header
    (filled (groups_spelled reader.name (reader.number + 1) commits)) (sealed_is_backup reader header commits (g.H.Host.disk c.args.host.now).seen m to packed.0) (g.H.Host.disk c.seal.new.host)
    (subst (λ (n : ℕ). Goes (g.H.Host.disk c.pack_backup.new.host) (g.H.Host.disk c.seal.new.host) (Seals n header (filled (groups_spelled reader.name (reader.number + 1) commits)))) same.medium (c.seal.ensures.any_moment told _ packed.1))

pub returns-in-Err-clause-torn : goal.returns-in-Err-clause-torn
returns-in-Err-clause-torn g c told =
    all_torn c.args.writer.medium c.args.writer.pages (omega (arith, c.requires.asked, c.requires.pages)) (g.H.Host.disk c.args.host.now) (g.H.Host.disk c.pack_backup.new.host) (c.pack_backup.ensures.writes.goes told) (g.H.Host.disk c.seal.new.host)
    (subst (λ (n : ℕ). Goes (g.H.Host.disk c.pack_backup.new.host) (g.H.Host.disk c.seal.new.host) (Torn (Medium n) 0 page_len)) c.pack_backup.ensures.same.medium (c.seal.ensures.torn told))

pub returns-in-Err-clause-seen : goal.returns-in-Err-clause-seen
returns-in-Err-clause-seen g c told =
    all_seen c.args.writer.medium c.args.writer.pages (omega (arith, c.requires.asked, c.requires.pages)) (g.H.Host.disk c.args.host.now) (g.H.Host.disk c.pack_backup.new.host) (c.pack_backup.ensures.writes.goes told)
    (g.H.Host.disk c.args.host.now).seen (g.H.Host.disk c.pack_backup.new.host).seen (g.H.Host.disk c.seal.new.host).seen (c.pack_backup.ensures.writes.seen told)
    (subst (λ (n : ℕ). Torn (Medium n) 0 page_len (g.H.Host.disk c.pack_backup.new.host).seen (g.H.Host.disk c.seal.new.host).seen) c.pack_backup.ensures.same.medium (c.seal.ensures.seen told))

pub returns-in-Ok-clause-there : goal.returns-in-Ok-clause-there
returns-in-Ok-clause-there g c told commits to blank =
    let same = c.pack_backup.ensures.same in
    let reader = c.args.reader.now in
    let header = c.args.header.now in
    let m = c.args.writer.medium in
    let packed = c.in_ok-pack_backup.ensures.writing told (groups_spelled reader.name (reader.number + 1) commits) (left_first reader c.args.writer c.args.page.now (g.H.Host.disk c.args.host.now) header commits c.requires.begins (c.requires.asked ∙ c.requires.pages) blank to) in
    saved m c.args.writer.pages (omega (arith, c.requires.asked, c.requires.pages)) (g.H.Host.disk c.args.host.now) (g.H.Host.disk c.pack_backup.new.host) (c.pack_backup.ensures.writes.goes told) header.end_position (log_backup reader header commits) blank header
    (filled (groups_spelled reader.name (reader.number + 1) commits)) (sealed_is_backup reader header commits (g.H.Host.disk c.args.host.now).seen m to packed.0) (g.H.Host.disk c.seal.new.host)
    (subst (λ (n : ℕ). Arrives (g.H.Host.disk c.pack_backup.new.host) (g.H.Host.disk c.seal.new.host) (Sealed n header (filled (groups_spelled reader.name (reader.number + 1) commits)))) same.medium (c.in-Ok.ensures.there told _ packed.1))
