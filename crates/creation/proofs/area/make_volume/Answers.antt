use Rattle.std.proofs.Common.{◌≡◌, ◌+◌, ◌*◌, ℕ, Some, refl, sym, ap, get_or, replicate}
use Rattle.mdb_model.specs.declared.fault.Device.TheVariants.{Data}
use Rattle.mdb_host.specs.Disk.{Creates}
use Rattle.mdb_host.proofs.Moments.{on_ok}
use Rattle.creation.specs.Making.{Each, HasZeroVolumes}
use Rattle.standing.specs.Standing.{Site}
use Rattle.creation.proofs.Fresh.{fresh_more, any_goes}
use Rattle.creation.proofs.area.make_volume.Goals as goal

pub returns-clause-made : goal.returns-clause-made
returns-clause-made g c =
    on_ok c.make.result (g.H.Host.tells → (g.H.Host.disk c.make.new.self).seen (Data (c.args.volume + 1)) ≡ Some (replicate (8192 * c.args.blocks) 0))
    (g.H.Host.tells → (site : Site) → get_or site.volumes c.args.volume 0 ≡ c.args.blocks → Each (g.H.Host.disk c.args.host.now) (HasZeroVolumes site c.args.volume) → Each (g.H.Host.disk c.make.new.self) (HasZeroVolumes site (c.args.volume + 1)))
    (λ made told site is fresh. fresh_more (g.H.Host.disk c.args.host.now) (g.H.Host.disk c.make.new.self) site c.args.volume (Data (c.args.volume + 1)) (8192 * c.args.blocks) refl (ap (λ (n : ℕ). 8192 * n) (sym is)) c.requires.few (c.make.ensures.calls told) (made told)
    (λ image left. g.met.H.Host.sizes c.make.new.self image told left) fresh)
    c.make.ensures.made

pub returns-clause-goes : goal.returns-clause-goes
returns-clause-goes g c told = any_goes (g.H.Host.disk c.args.host.now) (g.H.Host.disk c.make.new.self) (Creates (Data (c.args.volume + 1)) (8192 * c.args.blocks)) (c.make.ensures.calls told).goes
