use Rattle.std.proofs.Common.{◌≡◌, ◌∙◌, ◌+◌, ◌-◌, ℕ, List, length, ap, sym, subst, arith}
use Rattle.std.proofs.lemmas.List.{length-replicate}
use Rattle.std.specs.Prelude.{sum}
use Rattle.mdb_model.specs.Images.{Image}
use Rattle.volume_disk.specs.Blocks.{IsArea}
use Rattle.mdb_host.proofs.Moments.{same_image}
use Rattle.volume_disk.specs.Blocks.{block_at}
use Rattle.mdb_model.specs.declared.fault.Damage.{Damage}
use Rattle.converter.specs.Maps.{Maps, empty_maps}
use Rattle.converter.specs.Loads.{Breaks, IsRead, FaultReports}
use Rattle.page_store.specs.Opens.{OpenFaultReports, own_pages}
use Rattle.page_store.proofs.Opened.{opened_kept, opened_is, opened_known, tells_opening}
use Rattle.page_store.proofs.store.PageStore.open.Goals as goal

pub load-requires-clause-there : goal.load-requires-clause-there
load-requires-clause-there g c told = subst (λ (l : List ℕ). IsArea l (g.H.Host.disk c.args.host.now).seen) (sym c.new-volumes.ensures) (c.requires.there told)

pub invariant_of-result : goal.invariant_of-result
invariant_of-result g c =
    let m = c.load.new.self in
    let n = c.blocks-blocks.result in
    let sizes = c.new-volumes.result in
    let r = c.in-Ok.ensures in
    let owner : length c.in-Ok.room.converter.owner ≡ n = ap (λ (x : Maps). length x.owner) r.converter ∙ length-replicate n 0 in
    let area : length m.owner ≡ n = c.in-Ok-load.ensures.size ∙ owner in
    let loaded = subst (λ (k : ℕ). m ≡ record (empty_maps k m.owner) { present = m.saved; saved = m.saved }) owner c.in-Ok-load.ensures.maps in
    let count : sum sizes ≡ n = sym c.blocks-blocks.ensures.count in
    let conv : m.conv ≡ c.in-Ok.room.converter.conv = omega (arith, ap (λ (x : Maps). x.conv) loaded, ap (λ (x : Maps). x.conv) r.converter) in
    let places : length c.in-Ok.room.pinned.items ≡ m.conv + n = omega (arith, r.pinned, conv) in
    let freed = c.free_unused.ensures in
    opened_kept m n c.args.rec.now.savepoint c.free_unused.new.free c.in-Ok.room.marks sizes c.in-Ok.room.frames.items c.in-Ok.room.states.items c.in-Ok.room.pinned.items c.leaves-leaves.ensures.sound loaded area freed r.marks count r.frames r.states places c.requires.number

pub returns-clause-opened : goal.returns-clause-opened
returns-clause-opened g c =
    let m = c.load.new.self in
    let n = c.blocks-blocks.result in
    let sizes = c.new-volumes.result in
    let r = c.in-Ok.ensures in
    let owner : length c.in-Ok.room.converter.owner ≡ n = ap (λ (x : Maps). length x.owner) r.converter ∙ length-replicate n 0 in
    let area : length m.owner ≡ n = c.in-Ok-load.ensures.size ∙ owner in
    let loaded = subst (λ (k : ℕ). m ≡ record (empty_maps k m.owner) { present = m.saved; saved = m.saved }) owner c.in-Ok-load.ensures.maps in
    let count : sum sizes ≡ n = sym c.blocks-blocks.ensures.count in
    let conv : m.conv ≡ c.in-Ok.room.converter.conv = omega (arith, ap (λ (x : Maps). x.conv) loaded, ap (λ (x : Maps). x.conv) r.converter) in
    let places : length c.in-Ok.room.pinned.items ≡ m.conv + n = omega (arith, r.pinned, conv) in
    let freed = c.free_unused.ensures in
    opened_is m n c.args.rec.now.savepoint c.free_unused.new.free c.in-Ok.room.marks sizes c.in-Ok.room.frames.items c.in-Ok.room.states.items c.in-Ok.room.pinned.items c.leaves-leaves.ensures.sound loaded area freed r.marks count r.frames r.states places c.requires.number c.args.rec.now.volumes.items c.new-volumes.ensures

pub returns-clause-known : goal.returns-clause-known
returns-clause-known g c told =
    let m = c.load.new.self in
    let n = c.blocks-blocks.result in
    let sizes = c.new-volumes.result in
    let r = c.in-Ok.ensures in
    let owner : length c.in-Ok.room.converter.owner ≡ n = ap (λ (x : Maps). length x.owner) r.converter ∙ length-replicate n 0 in
    let area : length m.owner ≡ n = c.in-Ok-load.ensures.size ∙ owner in
    let loaded = subst (λ (k : ℕ). m ≡ record (empty_maps k m.owner) { present = m.saved; saved = m.saved }) owner c.in-Ok-load.ensures.maps in
    let count : sum sizes ≡ n = sym c.blocks-blocks.ensures.count in
    let conv : m.conv ≡ c.in-Ok.room.converter.conv = omega (arith, ap (λ (x : Maps). x.conv) loaded, ap (λ (x : Maps). x.conv) r.converter) in
    let places : length c.in-Ok.room.pinned.items ≡ m.conv + n = omega (arith, r.pinned, conv) in
    let freed = c.free_unused.ensures in
    let then = (g.H.Host.disk c.args.host.now).seen in
    let now = (g.H.Host.disk c.load.new.host).seen in
    let there : IsArea sizes now = subst (λ (x : Image). IsArea sizes x) (same_image then now (c.in-Ok-load.ensures.reads.seen told)) (subst (λ (l : List ℕ). IsArea l then) (sym c.new-volumes.ensures) (c.requires.there told)) in
    opened_known m n c.args.rec.now.savepoint c.free_unused.new.free c.in-Ok.room.marks sizes c.in-Ok.room.frames.items c.in-Ok.room.states.items c.in-Ok.room.pinned.items c.leaves-leaves.ensures.sound loaded area freed r.marks count r.frames r.states places c.requires.number g.H.Host.tells now told there

pub returns-clause-whole : goal.returns-clause-whole
returns-clause-whole g c told =
    let m = c.load.new.self in
    let then = (g.H.Host.disk c.args.host.now).seen in
    subst (λ (l : List ℕ). (damage : Damage) → Breaks l m.conv (length m.owner) c.args.rec.now.root (block_at l then) damage → ⊥) c.new-volumes.ensures (c.in-Ok-load.ensures.whole told)

pub returns-clause-read : goal.returns-clause-read
returns-clause-read g c told =
    let m = c.load.new.self in
    let then = (g.H.Host.disk c.args.host.now).seen in
    subst (λ (l : List ℕ). IsRead m.conv (length m.owner) c.args.rec.now.root (block_at l then) (m.conv - 1) m.saved) c.new-volumes.ensures (c.in-Ok-load.ensures.read told)

pub returns-in-Err-clause-broken : goal.returns-in-Err-clause-broken
returns-in-Err-clause-broken g c =
    let n = c.blocks-blocks.result in
    let then = (g.H.Host.disk c.args.host.now).seen in
    let root = c.args.rec.now.root in
    let items = c.args.rec.now.volumes.items in
    let e = c.in-Err.ensures in
    let r = c.in-Ok.ensures in
    let owner : length c.in-Ok.room.converter.owner ≡ n = ap (λ (x : Maps). length x.owner) r.converter ∙ length-replicate n 0 in
    let conv : c.load.new.self.conv ≡ own_pages n = ap (λ (x : Maps). x.conv) e.empty ∙ ap own_pages owner in
    let count : n ≡ sum items = c.blocks-blocks.ensures.count ∙ ap sum c.new-volumes.ensures in
    let told : FaultReports (λ damage. g.H.Host.tells → Breaks items (own_pages (sum items)) (sum items) root (block_at items then) damage) c.in-Err.fault =
    subst (λ (k : ℕ). FaultReports (λ damage. g.H.Host.tells → Breaks items (own_pages k) k root (block_at items then) damage) c.in-Err.fault) count
    (subst (λ (l : List ℕ). FaultReports (λ damage. g.H.Host.tells → Breaks l (own_pages n) n root (block_at l then) damage) c.in-Err.fault) c.new-volumes.ensures
    (subst (λ (k : ℕ). FaultReports (λ damage. g.H.Host.tells → Breaks c.new-volumes.result k n root (block_at c.new-volumes.result then) damage) c.in-Err.fault) conv
    (subst (λ (k : ℕ). FaultReports (λ damage. g.H.Host.tells → Breaks c.new-volumes.result c.load.new.self.conv k root (block_at c.new-volumes.result then) damage) c.in-Err.fault) owner e.broken))) in
    subst (λ fault. OpenFaultReports (λ damage. g.H.Host.tells → Breaks items (own_pages (sum items)) (sum items) root (block_at items then) damage) fault) (sym c.of_opening.ensures)
    (tells_opening (λ damage. g.H.Host.tells → Breaks items (own_pages (sum items)) (sum items) root (block_at items then) damage) c.in-Err.fault told)
