use Rattle.std.proofs.Common.{◌≤◌, [], take, length, refl, sym, subst, arith, length-take}
use Rattle.redo_ring.specs.Reading.{HoldsGate}
use Rattle.redo_ring.proofs.Found.{finds_no_room, finds_other, finds_group, stands_as, front_stands, went_by}
use Rattle.redo_ring.proofs.reader.RingReader.take.Goals as goal

pub returns-then-not-has_room-clause-steps : goal.returns-then-not-has_room-clause-steps
returns-then-not-has_room-clause-steps c ring =
    let old = c.args.self.now in
    let rest = c.rest-rest.result.now in
    let whole = (subst HoldsGate (sym c.rest-rest.ensures) c.requires.holds).1 c.if-rest-ne-OPEN_GATE.false in
    record {
      bytes = [];
      group = tt;
      goes = refl;
      finds = λ there. finds_no_room old.size old.name ring old.start old.position old.number rest (omega (arith, whole)) (stands_as ring old.position rest c.args.window.now c.rest-rest.ensures there) c.if-rest-ne-OPEN_GATE.false c.group_len-bytes.result c.group_len-bytes.ensures c.damage.result c.damage.ensures [] c.if-not-has_room.ensures;
    }

pub returns-then-not-is_due-clause-steps : goal.returns-then-not-is_due-clause-steps
returns-then-not-is_due-clause-steps c ring =
    let old = c.args.self.now in
    let rest = c.rest-rest.result.now in
    let n = c.group_len-bytes.result in
    let whole = (subst HoldsGate (sym c.rest-rest.ensures) c.requires.holds).1 c.if-rest-ne-OPEN_GATE.false in
    let within : n ≤ length rest = omega (arith, whole, c.group_len-bytes.ensures) in
    record {
      bytes = [];
      group = tt;
      goes = refl;
      finds = λ there.
          let stands = stands_as ring old.position rest c.args.window.now c.rest-rest.ensures there in
          finds_other old.size old.name ring old.start old.position old.number rest (omega (arith, whole)) stands c.if-rest-ne-OPEN_GATE.false n c.group_len-bytes.ensures c.damage-then-not-is_due.result c.damage-then-not-is_due.ensures (take n rest) (take n rest) refl (omega (arith, within, length-take n rest)) (front_stands ring old.position n rest within stands) c.if-not-is_due.ensures;
    }

pub returns-clause-steps : goal.returns-clause-steps
returns-clause-steps c ring =
    let old = c.args.self.now in
    let rest = c.rest-rest.result.now in
    let n = c.group_len-bytes.result in
    let whole = (subst HoldsGate (sym c.rest-rest.ensures) c.requires.holds).1 c.if-rest-ne-OPEN_GATE.false in
    let within : n ≤ length rest = omega (arith, whole, c.group_len-bytes.ensures) in
    record {
      bytes = take n rest;
      group = λ more. c.if-not-is_due.ensures.0 refl;
      goes = went_by old n (length (take n rest)) (omega (arith, within, length-take n rest));
      finds = λ there. finds_group old.size old.name ring old.start old.position old.number (take n rest) (take n rest) refl (front_stands ring old.position n rest within (stands_as ring old.position rest c.args.window.now c.rest-rest.ensures there)) c.if-not-is_due.ensures;
    }
