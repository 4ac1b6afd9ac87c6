use Rattle.std.proofs.Common.{◌≤◌, ◌-◌, ℕ, List, get_or, sym, subst, refl, arith}
use Rattle.volume_disk.specs.Blocks.{IsDurable, block_at}
use Rattle.converter.specs.Loads.{IsRead}
use Rattle.page_store.specs.Store.{block_count}
use Rattle.opened_worlds.proofs.Live.{big}
use Rattle.opened_worlds.proofs.Service.{starts}
use Rattle.opened_worlds.proofs.Spare.{free_left}
use Rattle.opened_worlds.proofs.laws.an_opened_store_starts_service.Goals as goal

pub returns : goal.returns
returns g c slots r info s d w o =
    let disk = g.H.Host.disk d in
    let sizes = sym o.opened.sizes_are in
    starts g.H.Host.tells slots r info s disk w o
    (c.opened_can_save.ensures slots r s d o.slots_read o.opened o.sound o.store
    (omega (arith, free_left g.H.Host.tells slots r info s disk w o))
    (subst (λ (z : List ℕ). 2 ≤ get_or z 0 0) sizes (big disk.seen w r o.stands (o.stands.stage.generation refl).0 o.restart))
    o.own
    (λ told. o.known)
    (λ told. subst (λ (z : List ℕ). IsRead s.maps.conv (block_count s) r.root (block_at z disk.seen) (s.maps.conv - 1) s.maps.saved) sizes o.read)
    (λ told. subst (λ (z : List ℕ). IsDurable z disk) sizes o.durable)
    (λ told. o.ready))
