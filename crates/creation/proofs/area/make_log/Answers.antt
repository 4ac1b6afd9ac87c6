use Rattle.std.proofs.Common.{◌≡◌, ◌*◌, ℕ, List, Some, replicate}
use Rattle.mdb_model.specs.declared.fault.Device.TheVariants.{Log}
use Rattle.mdb_host.specs.Disk.{Creates}
use Rattle.mdb_host.proofs.Moments.{on_ok}
use Rattle.creation.specs.Making.{Each, HasZeroVolumes}
use Rattle.creation.proofs.Fresh.{fresh_log, any_goes}
use Rattle.creation.proofs.area.make_log.Goals as goal

pub returns-clause-made : goal.returns-clause-made
returns-clause-made g c =
    on_ok c.make.result (g.H.Host.tells → (g.H.Host.disk c.make.new.self).seen Log ≡ Some (replicate (8192 * c.args.pages) 0))
    (g.H.Host.tells → (birth : ℕ) (volumes : List ℕ) → Each (g.H.Host.disk c.make.new.self) (HasZeroVolumes (record { birth = birth; volumes = volumes; log_pages = c.args.pages }) 0))
    (λ made told birth volumes. fresh_log (g.H.Host.disk c.args.host.now) (g.H.Host.disk c.make.new.self) (record { birth = birth; volumes = volumes; log_pages = c.args.pages }) (c.make.ensures.calls told) (made told)
    (λ image left. g.met.H.Host.sizes c.make.new.self image told left) (c.requires.absent told))
    c.make.ensures.made

pub returns-clause-goes : goal.returns-clause-goes
returns-clause-goes g c told = any_goes (g.H.Host.disk c.args.host.now) (g.H.Host.disk c.make.new.self) (Creates Log (8192 * c.args.pages)) (c.make.ensures.calls told).goes
