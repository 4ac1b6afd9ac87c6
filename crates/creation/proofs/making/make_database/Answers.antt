use Rattle.std.proofs.Common.{◌≤◌, ℕ}
use Rattle.mdb_host.proofs.Moments.{on_ok}
use Rattle.volume_disk.specs.Blocks.{Writes}
use Rattle.creation.specs.Making.{Each, IsLogged}
use Rattle.standing.specs.Standing.{Site, IsSite, IsNew}
use Rattle.creation.proofs.Fresh.{any_goes, any_on}
use Rattle.creation.proofs.Stages.{area_of, all_written, log_within, data_within}
use Rattle.creation.proofs.making.make_database.Goals as goal

pub write_pages-requires-clause-there : goal.write_pages-requires-clause-there
write_pages-requires-clause-there g c told =
    area_of (record { birth = c.args.birth; volumes = c.args.volumes.now.items; log_pages = c.args.log_pages }) c.new-area.result c.new-area.ensures (g.H.Host.disk c.make_devices.new.host).seen
    ((c.in_ok-make_devices.ensures.made told c.args.birth) (g.H.Host.disk c.make_devices.new.host).seen (g.met.H.Host.seen_left c.make_devices.new.host told))

pub returns-in_err-write_pages-clause-goes : goal.returns-in_err-write_pages-clause-goes
returns-in_err-write_pages-clause-goes g c told =
    any_on (g.H.Host.disk c.args.host.now) (g.H.Host.disk c.make_devices.new.host) (g.H.Host.disk c.write_pages.new.host) (c.make_devices.ensures.goes told)
    (any_goes (g.H.Host.disk c.make_devices.new.host) (g.H.Host.disk c.write_pages.new.host) (Writes c.new-area.result (λ block. 2 ≤ block)) (c.write_pages.ensures.goes told))

pub open_log_info-requires-clause-within : goal.open_log_info-requires-clause-within
open_log_info-requires-clause-within g c told =
    let site : Site = (record { birth = c.args.birth; volumes = c.args.volumes.now.items; log_pages = c.args.log_pages }) in
    let written = all_written (g.H.Host.disk c.make_devices.new.host) (g.H.Host.disk c.write_pages.new.host) (record { birth = c.args.birth; volumes = c.args.volumes.now.items; log_pages = c.args.log_pages }) c.new-area.result c.new-area.ensures c.requires.site.volumes (c.in_ok-make_devices.ensures.made told c.args.birth) (c.write_pages.ensures.goes told) (c.in_ok-write_pages.ensures.pages told) in
    log_within site (g.H.Host.disk c.write_pages.new.host).seen c.requires.site (written (g.H.Host.disk c.write_pages.new.host).seen (g.met.H.Host.seen_left c.write_pages.new.host told)).sizes

pub returns-in_err-open_log_info-clause-goes : goal.returns-in_err-open_log_info-clause-goes
returns-in_err-open_log_info-clause-goes g c told =
    any_on (g.H.Host.disk c.args.host.now) (g.H.Host.disk c.write_pages.new.host) (g.H.Host.disk c.open_log_info.new.host) (any_on (g.H.Host.disk c.args.host.now) (g.H.Host.disk c.make_devices.new.host) (g.H.Host.disk c.write_pages.new.host) (c.make_devices.ensures.goes told)
    (any_goes (g.H.Host.disk c.make_devices.new.host) (g.H.Host.disk c.write_pages.new.host) (Writes c.new-area.result (λ block. 2 ≤ block)) (c.write_pages.ensures.goes told)))
    (c.open_log_info.ensures.goes told)

pub open_restart_record-requires-clause-within : goal.open_restart_record-requires-clause-within
open_restart_record-requires-clause-within g c told =
    let site : Site = (record { birth = c.args.birth; volumes = c.args.volumes.now.items; log_pages = c.args.log_pages }) in
    let logged = c.in_ok-open_log_info.ensures.logged told c.args.volumes.now.items c.requires.site.volumes (all_written (g.H.Host.disk c.make_devices.new.host) (g.H.Host.disk c.write_pages.new.host) (record { birth = c.args.birth; volumes = c.args.volumes.now.items; log_pages = c.args.log_pages }) c.new-area.result c.new-area.ensures c.requires.site.volumes (c.in_ok-make_devices.ensures.made told c.args.birth) (c.write_pages.ensures.goes told) (c.in_ok-write_pages.ensures.pages told)) in
    data_within site (g.H.Host.disk c.open_log_info.new.host).seen c.requires.site (logged (g.H.Host.disk c.open_log_info.new.host).seen (g.met.H.Host.seen_left c.open_log_info.new.host told)).sizes

pub returns-clause-made : goal.returns-clause-made
returns-clause-made g c =
    let site : Site = (record { birth = c.args.birth; volumes = c.args.volumes.now.items; log_pages = c.args.log_pages }) in
    on_ok c.open_restart_record.result
    (g.H.Host.tells → (log_pages : ℕ) → IsSite (record { birth = c.args.birth; volumes = c.args.volumes.now.items; log_pages = log_pages })
    → Each (g.H.Host.disk c.open_log_info.new.host) (IsLogged (record { birth = c.args.birth; volumes = c.args.volumes.now.items; log_pages = log_pages }))
    → Each (g.H.Host.disk c.open_restart_record.new.host) (IsNew (record { birth = c.args.birth; volumes = c.args.volumes.now.items; log_pages = log_pages })))
    (g.H.Host.tells → Each (g.H.Host.disk c.open_restart_record.new.host) (IsNew site))
    (λ stands told. stands told c.args.log_pages c.requires.site (c.in_ok-open_log_info.ensures.logged told c.args.volumes.now.items c.requires.site.volumes (all_written (g.H.Host.disk c.make_devices.new.host) (g.H.Host.disk c.write_pages.new.host) (record { birth = c.args.birth; volumes = c.args.volumes.now.items; log_pages = c.args.log_pages }) c.new-area.result c.new-area.ensures c.requires.site.volumes (c.in_ok-make_devices.ensures.made told c.args.birth) (c.write_pages.ensures.goes told) (c.in_ok-write_pages.ensures.pages told))))
    c.open_restart_record.ensures.stands

pub returns-clause-goes : goal.returns-clause-goes
returns-clause-goes g c told =
    any_on (g.H.Host.disk c.args.host.now) (g.H.Host.disk c.open_log_info.new.host) (g.H.Host.disk c.open_restart_record.new.host) (any_on (g.H.Host.disk c.args.host.now) (g.H.Host.disk c.write_pages.new.host) (g.H.Host.disk c.open_log_info.new.host) (any_on (g.H.Host.disk c.args.host.now) (g.H.Host.disk c.make_devices.new.host) (g.H.Host.disk c.write_pages.new.host) (c.make_devices.ensures.goes told)
    (any_goes (g.H.Host.disk c.make_devices.new.host) (g.H.Host.disk c.write_pages.new.host) (Writes c.new-area.result (λ block. 2 ≤ block)) (c.write_pages.ensures.goes told)))
    (c.open_log_info.ensures.goes told))
    (c.open_restart_record.ensures.goes told)
