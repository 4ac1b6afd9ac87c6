use Rattle.std.proofs.Common.{◌≡◌, ℕ, ◌≤◌, ◌<◌, sum}
use Rattle.mdb_host.specs.Disk.{Goes}
use Rattle.mdb_bytes.specs.Firsts.{first_block}
use Rattle.volume_disk.specs.Blocks.{block_at, Writes}
use Rattle.creation.proofs.pages.write_blocks.Given as goal

abbrev pub invariant-loop-block : goal.invariant-loop-block
invariant-loop-block g l = record {
  goes : g.H.Host.tells → Goes (g.H.Host.disk l.fn.host) (g.H.Host.disk l.host) (Writes l.fn.volumes (λ block. 2 ≤ block));
  seen : g.H.Host.tells → Writes l.fn.volumes (λ block. 2 ≤ block) (g.H.Host.disk l.fn.host).seen (g.H.Host.disk l.host).seen;
  written : g.H.Host.tells → (b : ℕ) → 2 ≤ b → b < l.block → block_at l.fn.volumes (g.H.Host.disk l.host).seen b ≡ first_block (sum l.fn.volumes) b;
  low : 2 ≤ l.block;
  faults : g.H.Host.faults l.fn.host ≤ g.H.Host.faults l.host;
  say_faults : g.H.Host.say_faults l.host ≡ g.H.Host.say_faults l.fn.host;
}
