use Rattle.std.proofs.Common.{◌∙◌, sym, rules}
use Rattle.free_blocks.specs.Free.{IsFree}
use Rattle.savepoint.proofs.AlongSteps.{goes_agree, writes_then_agree, settled_tree, still_area}
use Rattle.savepoint.proofs.writing.write_settled.Goals as goal

pub sync_all-requires : goal.sync_all-requires
sync_all-requires g c told =
    still_area c.args.volumes.now (IsFree c.args.free.now) (g.H.Host.disk c.args.host.now).seen (g.H.Host.disk c.write_tree.new.host).seen (c.write_tree.ensures.writes.seen told) (c.requires.may.there told)

pub returns-clause-held : goal.returns-clause-held
returns-clause-held g c told =
    settled_tree c.args.volumes.now c.write_tree.new.converter (g.H.Host.disk c.sync_all.new.host) (g.H.Host.disk c.write_tree.new.host).seen c.leaves-count.ensures.sound
    (c.requires.may.area.1 ∙ sym c.write_tree.ensures.writes.own.area) (c.sync_all.ensures.seen told) (c.in_ok-sync_all.ensures.settled told) (c.in_ok-root.ensures.held told)

pub returns-in_err-sync_all-clause-writes : goal.returns-in_err-sync_all-clause-writes
returns-in_err-sync_all-clause-writes g c = record {
  placed = search rules;
  own = c.write_tree.ensures.writes.own;
  fewer = c.write_tree.ensures.writes.fewer;
  unused = c.write_tree.ensures.writes.unused;
  taken = c.write_tree.ensures.writes.taken;
  goes = λ told. goes_agree c.args.volumes.now (IsFree c.args.free.now) _ _ _ (c.write_tree.ensures.writes.goes told) (c.sync_all.ensures.goes told);
  seen = λ told. writes_then_agree c.args.volumes.now (IsFree c.args.free.now) (g.H.Host.disk c.args.host.now).seen (g.H.Host.disk c.write_tree.new.host).seen (g.H.Host.disk c.sync_all.new.host).seen (c.write_tree.ensures.writes.seen told) (c.sync_all.ensures.seen told);
}

pub returns-clause-writes : goal.returns-clause-writes
returns-clause-writes g c = record {
  placed = search rules;
  own = c.write_tree.ensures.writes.own;
  fewer = c.write_tree.ensures.writes.fewer;
  unused = c.write_tree.ensures.writes.unused;
  taken = c.write_tree.ensures.writes.taken;
  goes = λ told. goes_agree c.args.volumes.now (IsFree c.args.free.now) _ _ _ (c.write_tree.ensures.writes.goes told) (c.sync_all.ensures.goes told);
  seen = λ told. writes_then_agree c.args.volumes.now (IsFree c.args.free.now) (g.H.Host.disk c.args.host.now).seen (g.H.Host.disk c.write_tree.new.host).seen (g.H.Host.disk c.sync_all.new.host).seen (c.write_tree.ensures.writes.seen told) (c.sync_all.ensures.seen told);
}
