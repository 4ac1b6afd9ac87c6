use Rattle.std.proofs.Common.{ℕ, ◌+◌, ◌∙◌, arith, length-set}
use Rattle.mdb_bytes.specs.Firsts.{no_entry}
use Rattle.converter.specs.Maps.{entry_at}
use Rattle.converter.proofs.Runs.{filled_more}
use Rattle.converter.proofs.kept.run_of.Goals as goal

pub loop-k-preserved : goal.loop-k-preserved
loop-k-preserved c = record {
  long = length-set c.loop-k.run c.loop-k.k _ ∙ c.loop-k.invariant.long;
  same = filled_more c.loop-k.run no_entry (λ (k : ℕ). entry_at c.args.map.now (c.args.at + k)) c.loop-k.k c.entry_of.result (omega arith) c.loop-k.invariant.same c.entry_of.ensures;
}
