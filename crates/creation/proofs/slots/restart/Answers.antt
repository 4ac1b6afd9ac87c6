use Rattle.std.proofs.Common.{◌≡◌, ◌∙◌, sym, ap, ◌<◌, ◌≤◌, ◌++◌, [], ◌∷◌, length, length-take, get_or, sum, arith}
use Rattle.std.proofs.lemmas.List.{take_more, take_all}
use Rattle.mdb_bytes.specs.declared.restart_record.AreaState.TheVariants.{Normal}
use Rattle.mdb_bytes.specs.Firsts.{first_name, first_root_block}
use Rattle.creation.proofs.slots.restart.Goals as goal

pub push-requires : goal.push-requires
push-requires c = omega (arith, c.loop-i-test.true, c.len-i-end.ensures.fits, c.len-i-end.ensures.value, ap length c.loop-i.invariant.sizes, length-take c.loop-i.i c.args.volumes.now.items)

pub loop-i-preserved : goal.loop-i-preserved
loop-i-preserved c =
    let less : c.loop-i.i < length c.args.volumes.now.items = omega (arith, c.loop-i-test.true, c.len-i-end.ensures.value) in
    record { sizes = c.push.ensures.items ∙ (λ k. c.loop-i.invariant.sizes k ++ get_or (c.deref.ensures.0 k) c.loop-i.i 0 ∷ []) ∙ sym (take_more c.args.volumes.now.items c.loop-i.i 0 less) }

pub returns : goal.returns
returns c =
    let all : length c.args.volumes.now.items ≤ c.loop-i.i = omega (arith, c.loop-i-test.false, c.len-i-end.ensures.value) in
    let root : c.root_block.result ≡ first_root_block (sum c.args.volumes.now.items) = c.root_block.ensures ∙ ap first_root_block c.requires.0 in
    let sizes : c.loop-i.sizes.items ≡ c.args.volumes.now.items = c.loop-i.invariant.sizes ∙ take_all c.loop-i.i c.args.volumes.now.items all in
    λ k. record {
      format = 1;
      state = Normal;
      slot = 1;
      name = first_name c.args.birth;
      savepoint = 1;
      commit = 0;
      position = 0;
      root = root k;
      volumes = record { items = sizes k };
      base = 0;
      pending_medium = 0;
      pending_savepoint = 0;
      snapshots = record { items = c.new.ensures k };
    }
