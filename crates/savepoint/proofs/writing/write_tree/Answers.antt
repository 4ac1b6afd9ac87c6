use Rattle.std.proofs.Common.{◌∙◌, ◌-◌, ◌<◌, refl, sym, arith, rules}
use Rattle.std.proofs.lemmas.Grind.{common_steps}
use Rattle.mdb_host.proofs.Moments.{on_ok}
use Rattle.free_blocks.specs.Free.{IsFree}
use Rattle.converter.proofs.OwnSteps.{took_one, fewer_on, own_on}
use Rattle.savepoint.proofs.AlongSteps.{goes_taken, writes_taken, whole_tree, still_area, all_placed, always, root_taken, taken_any, seen_free}
use Rattle.savepoint.proofs.writing.write_tree.Goals as goal

pub write_root-root-requires-clause-there : goal.write_root-root-requires-clause-there
write_root-root-requires-clause-there g c told =
    still_area c.args.volumes.now (IsFree c.args.free.now) (g.H.Host.disk c.args.host.now).seen (g.H.Host.disk c.write_leaves.new.host).seen (c.write_leaves.ensures.seen told) (c.requires.may.there told)

pub returns-clause-held : goal.returns-clause-held
returns-clause-held g c = on_ok c.write_root-root.result _ _ (λ root told.
    let some : 0 < c.write_leaves.new.converter.conv = omega (arith, c.leaves-old.ensures.sound.leaves) in
    whole_tree c.args.volumes.now c.write_leaves.new.converter c.write_root-root.new.self c.write_leaves.new.free c.write_root-root.new.free (c.write_leaves.new.converter.conv - 1)
    (g.H.Host.disk c.write_leaves.new.host).seen (g.H.Host.disk c.write_root-root.new.host).seen c.leaves-old.ensures.sound c.write_leaves.ensures.unused (c.requires.may.area.1 ∙ sym c.write_leaves.ensures.own.area)
    (took_one c.write_leaves.new.converter _ c.write_leaves.new.free _ 0 c.args.map.now.savepoint _ refl some c.write_leaves.ensures.unused c.write_root-root.ensures.took)
    (writes_taken c.args.volumes.now c.write_leaves.new.free _ _ _ c.write_root-root.ensures.took.was_free (c.write_root-root.ensures.calls told).seen)
    (omega (arith, some)) (c.in_ok-write_leaves.ensures.held told) (root told)) c.write_root-root.ensures.written

pub returns-in_err-write_leaves-clause-writes : goal.returns-in_err-write_leaves-clause-writes
returns-in_err-write_leaves-clause-writes g c = record {
  placed = search rules;
  own = search rules;
  fewer = grind (arith, common_steps);
  unused = search rules;
  taken = taken_any c.args.free.now c.write_leaves.new.free c.write_leaves.new.converter c.write_leaves.ensures.taken;
  goes = search rules;
  seen = search rules;
}

pub returns-clause-writes : goal.returns-clause-writes
returns-clause-writes g c =
    let some : 0 < c.write_leaves.new.converter.conv = omega (arith, c.leaves-old.ensures.sound.leaves) in
    let one = took_one c.write_leaves.new.converter c.write_root-root.new.self c.write_leaves.new.free c.write_root-root.new.free 0 c.args.map.now.savepoint _ refl some c.write_leaves.ensures.unused c.write_root-root.ensures.took in
    record {
      placed = always c.write_root-root.result _ (all_placed c.args.volumes.now c.write_leaves.new.converter c.write_root-root.new.self c.write_leaves.new.free c.write_root-root.new.free c.leaves-new.ensures.sound c.write_leaves.ensures.unused
          (c.requires.may.area.1 ∙ sym c.write_leaves.ensures.own.area ∙ sym one.own.area) one c.write_root-root.ensures.took.was_free c.in_ok-write_leaves.ensures.placed);
      own = own_on _ _ _ c.write_leaves.ensures.own one.own;
      fewer = fewer_on c.args.free.now c.write_leaves.new.free c.write_root-root.new.free (c.args.converter.now.conv - 1) 1 c.args.converter.now.conv (omega (arith, some, c.write_leaves.ensures.own.conv)) c.write_leaves.ensures.fewer
          one.fewer;
      unused = one.unused;
      taken = root_taken c.write_leaves.new.converter c.write_root-root.new.self c.args.free.now c.write_leaves.new.free c.write_root-root.new.free c.write_leaves.ensures.taken
          one;
      goes = λ told. goes_taken c.args.volumes.now c.args.free.now c.write_leaves.new.free _ _ _ _ c.write_leaves.ensures.fewer.only c.write_root-root.ensures.took.was_free (c.write_leaves.ensures.goes told) (c.write_root-root.ensures.calls told).goes;
      seen = λ told. seen_free c.args.volumes.now c.args.free.now c.write_leaves.new.free _ _ _ c.write_leaves.ensures.fewer.only (c.write_leaves.ensures.seen told)
          (writes_taken c.args.volumes.now c.write_leaves.new.free _ _ _ c.write_root-root.ensures.took.was_free (c.write_root-root.ensures.calls told).seen);
    }
