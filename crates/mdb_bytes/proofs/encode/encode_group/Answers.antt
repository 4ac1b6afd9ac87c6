use Rattle.std.proofs.Common.{◌+◌, ◌≤◌, ◌++◌, length, refl, sym, ap, subst, ◌∙◌, arith}
use Rattle.std.specs.Prelude.{IsTrue}
use Rattle.std.specs.List.{flat_map}
use Rattle.std.proofs.lemmas.List.{append-nil, take_all}
use Rattle.mdb_model.specs.Sessions.{change_bytes}
use Rattle.mdb_bytes.specs.Fields.{spelled, fields_fit}
use Rattle.mdb_bytes.specs.Groups.{Group, change_fields, longest_group}
use Rattle.mdb_bytes.specs.GroupHeads.{group_head_fields, group_head_of}
use Rattle.mdb_bytes.proofs.GroupChecked.{group_limits}
use Rattle.mdb_bytes.proofs.Written.{count_small, room_for, written_more, fit_more, group_written}
use Rattle.mdb_bytes.proofs.encode.encode_group.Goals as goal

pub overflow_cast-changes : goal.overflow_cast-changes
overflow_cast-changes c =
    let v : Group = record { name = c.args.name; number = c.args.number; changes = c.args.changes.now } in
    let limits = group_limits v c.requires.fits in
    omega (arith, limits.2, count_small c.args.changes.now)

pub loop-change-init : goal.loop-change-init
unfolding spelled
loop-change-init c =
    let head = λ (n : _). spelled (group_head_fields (record { length = n; name = c.args.name; number = c.args.number; changes = length c.args.changes.now })) in
    record { bytes = c.begin_group.ensures ∙ ap head c.len_of-length.ensures ∙ sym (append-nil _); fit = refl }

pub put_change-requires-clause-room : goal.put_change-requires-clause-room
put_change-requires-clause-room c =
    let v : Group = record { name = c.args.name; number = c.args.number; changes = c.args.changes.now } in
    let limits = group_limits v c.requires.fits in
    subst (λ change. length c.loop-change.into + change_bytes change ≤ longest_group) (sym c.change-item.is)
    (room_for c.args.changes.now c.loop-change.change-index c.change-item.result (group_head_of v) c.loop-change.into c.loop-change-test.true limits.2 c.loop-change.invariant.bytes)

pub loop-change-preserved : goal.loop-change-preserved
loop-change-preserved c =
    let v : Group = record { name = c.args.name; number = c.args.number; changes = c.args.changes.now } in
    record {
      bytes = written_more c.args.changes.now c.loop-change.change-index c.change-item.result (spelled (group_head_fields (group_head_of v))) c.loop-change.into c.put_change.new.into c.loop-change-test.true
          c.loop-change.invariant.bytes (c.put_change.ensures.bytes ∙ ap (λ change. c.loop-change.into ++ spelled (change_fields change)) c.change-item.is);
      fit = fit_more c.args.changes.now c.loop-change.change-index c.change-item.result c.loop-change-test.true c.loop-change.invariant.fit
          (subst (λ change. IsTrue (fields_fit (change_fields change))) c.change-item.is c.put_change.ensures.fit);
    }

pub returns : goal.returns
returns c =
    let v : Group = record { name = c.args.name; number = c.args.number; changes = c.args.changes.now } in
    let past : length c.args.changes.now ≤ c.loop-change.change-index = omega arith in
    let all = take_all c.loop-change.change-index c.args.changes.now past in
    group_written c.args.name c.args.number c.args.changes.now c.loop-change.into c.requires.fits c.requires.numbers
    (c.loop-change.invariant.bytes ∙ ap (λ cs. spelled (group_head_fields (group_head_of v)) ++ spelled (flat_map change_fields cs)) all)
    (subst (λ cs. IsTrue (fields_fit (flat_map change_fields cs))) all c.loop-change.invariant.fit)
