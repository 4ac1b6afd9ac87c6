use Rattle.std.proofs.Common.{◌∙◌, ℕ, ◌-◌, length, length-set, ap, sym, subst, refl, arith, rules}
use Rattle.std.specs.Prelude.{IsTrue, false}
use Rattle.mdb_model.specs.Images.{Image}
use Rattle.mdb_model.specs.declared.fault.PageFault.{PageFault}
use Rattle.mdb_model.specs.declared.fault.Rule.TheVariants.{Block}
use Rattle.mdb_host.proofs.Moments.{same_image, on_ok}
use Rattle.mdb_host.proofs.Reading.{reads_on}
use Rattle.volume_disk.specs.Blocks.{IsArea, block_at}
use Rattle.converter.specs.Maps.{Maps}
use Rattle.converter.specs.Tree.{IsRootOf}
use Rattle.converter.specs.Loads.{IsUnderWay, IsEntryRefused, Breaks, FaultReports, Admitted, row_of, named}
use Rattle.std.proofs.lemmas.Result.{IfErr-weaker}
use Rattle.converter.proofs.Loaded.{tells_on, under_row, way_begins, row_breaks, under_from}
use Rattle.converter.proofs.maps.Converter.read_map.Goals as goal

pub returns-then-not-admit_leaves-clause-map : goal.returns-then-not-admit_leaves-clause-map
returns-then-not-admit_leaves-clause-map g c =
    let sizes = c.args.volumes.now in
    let row = block_at sizes (g.H.Host.disk c.args.host.now).seen in
    let value = c.in_ok-value.value in
    let got = c.in_ok-value.ensures.is in
    let is = subst (λ (n : ℕ). IsRootOf n got.0 value) c.leaves-leaves.ensures.count got.1 in
    let bad = c.if-not-admit_leaves.ensures.refused (λ (yes : IsTrue false). absurd (cc)) in
    let refused = subst (λ (m : Maps). IsEntryRefused m (row_of value) bad.0) c.place.ensures bad.2 in
    record {
      read = tt;
      broken = subst (λ (f : PageFault). FaultReports (λ damage. g.H.Host.tells → Breaks sizes c.args.self.now.conv (length c.args.self.now.owner) c.args.root row damage) f) (sym c.broken.ensures)
          (λ told. row_breaks g.H.Host.tells c.args.self.now c.args.self.now c.args.root row value got.0 c.requires.blank is got.2 sizes (named sizes c.args.root Block) told bad.0 bad.1 refused refl);
      size = search rules;
    }

pub load_leaves-requires-clause-way : goal.load_leaves-requires-clause-way
load_leaves-requires-clause-way g c =
    let sizes = c.args.volumes.now in
    let value = c.in_ok-value.value in
    let got = c.in_ok-value.ensures.is in
    let is = subst (λ (n : ℕ). IsRootOf n got.0 value) c.leaves-leaves.ensures.count got.1 in
    let taken = subst (λ (m : Maps). Admitted m c.admit_leaves.new.self 1 (row_of value) (length value.leaves.items)) c.place.ensures (c.if-not-admit_leaves.ensures.taken refl) in
    under_row g.H.Host.tells c.admit_leaves.new.self c.admit_leaves.new.self c.args.root (block_at sizes (g.H.Host.disk c.args.host.now).seen) (block_at sizes (g.H.Host.disk c.read_root.new.host).seen) 0
    (λ told. ap (λ (i : Image). block_at sizes i) (same_image _ _ (c.read_root.ensures.reads.seen told)))
    (way_begins g.H.Host.tells c.args.self.now c.admit_leaves.new.self c.args.root (block_at sizes (g.H.Host.disk c.args.host.now).seen) value got.0 c.requires.blank is got.2 (omega (arith, c.if-root-lt2.false)) taken (c.if-not-admit_leaves.ensures.placed refl))

pub load_leaves-requires-clause-there : goal.load_leaves-requires-clause-there
load_leaves-requires-clause-there g c told = subst (λ (i : Image). IsArea c.args.volumes.now i) (same_image _ _ (c.read_root.ensures.reads.seen told)) (c.requires.there told)

pub returns-clause-map : goal.returns-clause-map
returns-clause-map g c =
    let sizes = c.args.volumes.now in
    let value = c.in_ok-value.value in
    let taken = subst (λ (m : Maps). Admitted m c.admit_leaves.new.self 1 (row_of value) (length value.leaves.items)) c.place.ensures (c.if-not-admit_leaves.ensures.taken refl) in
    record {
      read = on_ok c.load_leaves.result _ _ (λ way.
          subst (λ (n : ℕ). IsUnderWay g.H.Host.tells c.args.self.now c.load_leaves.new.self c.args.root (block_at sizes (g.H.Host.disk c.args.host.now).seen) (n - 1)) taken.conv
          (under_row g.H.Host.tells c.args.self.now c.load_leaves.new.self c.args.root (block_at sizes (g.H.Host.disk c.read_root.new.host).seen) (block_at sizes (g.H.Host.disk c.args.host.now).seen) (c.admit_leaves.new.self.conv - 1)
          (λ told. ap (λ (i : Image). block_at sizes i) (sym (same_image _ _ (c.read_root.ensures.reads.seen told))))
          (under_from g.H.Host.tells c.admit_leaves.new.self c.args.self.now c.load_leaves.new.self c.args.root (block_at sizes (g.H.Host.disk c.read_root.new.host).seen) (c.admit_leaves.new.self.conv - 1)
          taken.conv (taken.area ∙ length-set c.args.self.now.owner c.args.root 0) way))) c.load_leaves.ensures.map.read;
      broken = IfErr-weaker c.load_leaves.result _ _ (λ fault told_of.
          tells_on _ _ fault (λ d breaks told.
          subst (λ (n : ℕ). Breaks sizes n (length c.args.self.now.owner) c.args.root (block_at sizes (g.H.Host.disk c.args.host.now).seen) d) taken.conv
          (subst (λ (n : ℕ). Breaks sizes c.admit_leaves.new.self.conv n c.args.root (block_at sizes (g.H.Host.disk c.args.host.now).seen) d) (taken.area ∙ length-set c.args.self.now.owner c.args.root 0)
          (subst (λ (i : Image). Breaks sizes c.admit_leaves.new.self.conv (length c.admit_leaves.new.self.owner) c.args.root (block_at sizes i) d) (sym (same_image _ _ (c.read_root.ensures.reads.seen told))) (breaks told)))) told_of) c.load_leaves.ensures.map.broken;
      size = c.load_leaves.ensures.map.size ∙ taken.area ∙ length-set c.args.self.now.owner c.args.root 0;
    }

pub returns-clause-reads : goal.returns-clause-reads
returns-clause-reads g c = reads_on _ _ _ _ c.read_root.ensures.reads c.load_leaves.ensures.reads
