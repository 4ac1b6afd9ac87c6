use Rattle.std.proofs.Common.{arith}
use Rattle.std.proofs.lemmas.List.{ext_get_or}
use Rattle.mdb_bytes.specs.Firsts.{no_entry}
use Rattle.page_store.proofs.pins.keep_map.Goals as goal

pub returns-clause-map : goal.returns-clause-map
returns-clause-map c =
    let long = c.loop-place.invariant.long in
    ext_get_or no_entry c.loop-place.room c.args.converter.now.saved (omega (arith, long, c.requires.long, c.leaves-leaves.ensures.sound.saved_long))
    (λ q lt. c.loop-place.invariant.kept q (omega (arith, lt, long, c.loop-place-test.false, c.loop-place.auto.place-end, c.requires.long, c.leaves-leaves.ensures.sound.bound, c.leaves-leaves.ensures.sound.leaves)))
