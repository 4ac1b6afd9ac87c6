use Rattle.std.proofs.lemmas.Bool.{false≢true}
use Rattle.mdb_bytes.specs.declared.converter_pages.ConverterEntry.{ConverterEntry}
use Rattle.converter.specs.Maps.{block_of}
use Rattle.std.proofs.Common.{inr, refl, ap, ◌∙◌, ℕ, ◌+◌, sym, subst, arith}
use Rattle.mdb_host.proofs.Moments.{widen}
use Rattle.volume_disk.proofs.Writes.{writes_more}
use Rattle.free_blocks.specs.Free.{IsFree}
use Rattle.converter.proofs.OwnSteps.{took_one}
use Rattle.savepoint.proofs.writing.write_changed.Goals as goal

pub returns-then-leaf_changed-clause-one : goal.returns-then-leaf_changed-clause-one
returns-then-leaf_changed-clause-one g c = took_one _ _ _ _ (c.args.leaf + 1) c.args.map.now.savepoint _ refl c.requires.leaf c.requires.unused c.write_leaf.ensures.took

pub returns-then-leaf_changed-clause-goes : goal.returns-then-leaf_changed-clause-goes
returns-then-leaf_changed-clause-goes g c told =
    widen _ _ _ _ (c.write_leaf.ensures.calls told).goes (λ a b left writes.
    writes_more c.args.volumes.now _ _ a b (λ k is. subst (λ (x : ℕ). IsFree c.args.free.now x) (sym is) c.write_leaf.ensures.took.was_free) writes)

pub returns-then-leaf_changed-clause-placed : goal.returns-then-leaf_changed-clause-placed
returns-then-leaf_changed-clause-placed g c = (c.requires.unused _ c.write_leaf.ensures.took.was_free).0

pub returns-clause-placed : goal.returns-clause-placed
returns-clause-placed g c =
    let q = c.args.leaf + 1 in
    let had = (c.leaf_changed.ensures.same.0 (λ yes. absurd (false≢true (sym c.if-leaf_changed.false ∙ yes)))).had in
    c.leaf_changed.ensures.sound.high q (block_of c.args.converter.now.frozen q) (omega (arith, had, ap (λ (e : ConverterEntry). e.block) c.requires.later)) (inr (inr refl))
