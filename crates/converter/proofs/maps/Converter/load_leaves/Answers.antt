use Rattle.std.proofs.Common.{◌∙◌, ◌+◌, ap, sym, subst, arith, rules}
use Rattle.mdb_model.specs.Images.{Image}
use Rattle.mdb_host.proofs.Moments.{same_image}
use Rattle.mdb_host.proofs.Reading.{reads_on}
use Rattle.volume_disk.specs.Blocks.{IsArea, block_at}
use Rattle.converter.specs.Maps.{block_of}
use Rattle.converter.specs.Loads.{RefusesLeaf}
use Rattle.converter.proofs.Loaded.{tells_passed, refused_breaks, under_more}
use Rattle.converter.proofs.maps.Converter.load_leaves.Goals as goal

pub load_leaf-requires-clause-there : goal.load_leaf-requires-clause-there
load_leaf-requires-clause-there g c told = subst (λ (i : Image). IsArea c.args.volumes.now i) (same_image _ _ (c.loop-leaf.invariant.reads.seen told)) (c.requires.there told)

pub returns-in_err-load_leaf-clause-map : goal.returns-in_err-load_leaf-clause-map
returns-in_err-load_leaf-clause-map g c = record {
  read = search rules;
  broken = tells_passed _ _ c.in_err-load_leaf.field-0.0 c.from_residual.result c.from_residual.ensures.1 (λ d breaks told.
      refused_breaks g.H.Host.tells c.args.self.now c.loop-leaf.self c.args.root (block_at c.args.volumes.now (g.H.Host.disk c.args.host.now).seen) c.loop-leaf.leaf c.loop-leaf.invariant.way c.load_leaf.ensures.sound c.args.volumes.now d told
      (omega (arith, c.loop-leaf-test.true, c.leaves-leaf-end.ensures.count, c.loop-leaf.invariant.way.conv))
      (subst (λ (i : Image). RefusesLeaf c.args.volumes.now c.loop-leaf.self c.loop-leaf.leaf (block_at c.args.volumes.now i (block_of c.loop-leaf.self.saved (c.loop-leaf.leaf + 1))) d) (sym (same_image _ _ (c.loop-leaf.invariant.reads.seen told))) (breaks told))) c.in_err-load_leaf.ensures.broken;
  size = search rules;
}

pub returns-in_err-load_leaf-clause-reads : goal.returns-in_err-load_leaf-clause-reads
returns-in_err-load_leaf-clause-reads g c = reads_on _ _ _ _ c.loop-leaf.invariant.reads c.load_leaf.ensures.reads

pub loop-leaf-preserved : goal.loop-leaf-preserved
loop-leaf-preserved g c =
    let seen = (g.H.Host.disk c.args.host.now).seen in
    let row = block_at c.args.volumes.now seen in
    let got = c.in_ok-load_leaf.ensures.taken in
    record {
      way = under_more g.H.Host.tells c.args.self.now c.loop-leaf.self c.args.root row c.loop-leaf.leaf c.loop-leaf.invariant.way c.load_leaf.ensures.sound c.load_leaf.new.self got.0
          (omega (arith, c.loop-leaf-test.true, c.leaves-leaf-end.ensures.count, c.loop-leaf.invariant.way.conv)) got.1
          (λ told. got.2 told ∙ ap (λ (i : Image). block_at c.args.volumes.now i (block_of c.loop-leaf.self.saved (c.loop-leaf.leaf + 1))) (sym (same_image _ _ (c.loop-leaf.invariant.reads.seen told))));
      reads = reads_on _ _ _ _ c.loop-leaf.invariant.reads c.load_leaf.ensures.reads;
    }
