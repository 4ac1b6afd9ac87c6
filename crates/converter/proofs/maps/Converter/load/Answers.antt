use Rattle.std.proofs.Common.{◌≡◌, ℕ, zero, suc, ◌+◌, ◌-◌, ◌<◌, List, subst, sym, length, add-one, arith}
use Rattle.mdb_host.proofs.Moments.{on_ok}
use Rattle.volume_disk.specs.Blocks.{block_at}
use Rattle.converter.specs.Loads.{IsRead, IsUnderWay}
use Rattle.converter.specs.Maps.{Maps, block_of}
use Rattle.converter.proofs.Loaded.{read_of, whole_unbroken}
use Rattle.converter.proofs.maps.Converter.load.Goals as goal

pub returns-else-is_err-clause-read : goal.returns-else-is_err-clause-read
returns-else-is_err-clause-read g c =
    let row = block_at c.args.volumes.now (g.H.Host.disk c.args.host.now).seen in
    on_ok c.read_map-read.result _ _ (λ way told.
    subst (λ (n : ℕ). IsRead c.read_map-read.new.self.conv (length c.read_map-read.new.self.owner) c.args.root row (n - 1) c.read_map-read.new.self.saved) (sym way.conv)
    (read_of g.H.Host.tells c.empty.new.self c.read_map-read.new.self c.args.root row _ way c.leaves-leaves.ensures.sound told)) c.read_map-read.ensures.map.read

pub returns-else-is_err-clause-whole : goal.returns-else-is_err-clause-whole
returns-else-is_err-clause-whole g c =
    let row = block_at c.args.volumes.now (g.H.Host.disk c.args.host.now).seen in
    on_ok c.read_map-read.result _ _ (λ way told d breaks.
    whole_unbroken c.args.volumes.now c.read_map-read.new.self.conv (length c.read_map-read.new.self.owner) c.args.root row c.read_map-read.new.self.saved d
    (subst (λ (n : ℕ). IsRead c.read_map-read.new.self.conv (length c.read_map-read.new.self.owner) c.args.root row (n - 1) c.read_map-read.new.self.saved) (sym way.conv)
    (read_of g.H.Host.tells c.empty.new.self c.read_map-read.new.self c.args.root row _ way c.leaves-leaves.ensures.sound told)) breaks) c.read_map-read.ensures.map.read

-- each page of the converter has a block
own_all : (T : Type 0) (first now : Maps) (root : ℕ) (row : ℕ → List ℕ) (i : ℕ) → IsUnderWay T first now root row i → (q : ℕ) → q < now.conv → 1 < block_of now.saved q
own_all T first now root row i way zero lt = omega (arith, way.at, way.some)
own_all T first now root row i way (suc j) lt = subst (λ (n : ℕ). 1 < block_of now.saved n) (add-one j) (way.placed j (omega (arith, lt)))

pub returns-else-is_err-clause-own : goal.returns-else-is_err-clause-own
returns-else-is_err-clause-own g c =
    let row = block_at c.args.volumes.now (g.H.Host.disk c.args.host.now).seen in
    on_ok c.read_map-read.result _ _ (λ way. own_all g.H.Host.tells c.empty.new.self c.read_map-read.new.self c.args.root row _ way) c.read_map-read.ensures.map.read
