use Rattle.std.proofs.Common.{◌≡◌, refl, sym, ap, ◌∙◌, subst, List, [], ◌∷◌, ◌++◌, append_assoc, arith}
use Rattle.std.specs.Prelude.{IsTrue}
use Rattle.std.specs.List.{flat_map}
use Rattle.std.specs.Map.{values_of}
use Rattle.std.proofs.lemmas.List.{append-nil}
use Rattle.std.proofs.lemmas.Map.Entries.{length-values_of}
use Rattle.mdb_model.specs.declared.change.Change.{Change}
use Rattle.mdb_bytes.specs.Fields.{spelled, fields_fit}
use Rattle.mdb_bytes.specs.Groups.{change_fields}
use Rattle.mdb_bytes.specs.GroupHeads.{group_head_fields, group_head_of}
use Rattle.mdb_bytes.proofs.Written.{count_small}
use Rattle.transactions.proofs.Encoding.{one_fits, written_push, fit_push, room_push, group_whole, group_length}
use Rattle.transactions.proofs.transaction.encode_changes.Goals as goal

pub overflow_cast-len : goal.overflow_cast-len
overflow_cast-len c =
    let cs = values_of c.args.changes.now.entries in
    omega (arith, c.len.ensures.len, length-values_of c.args.changes.now.entries, count_small cs, c.requires.kept.net.fit)

pub loop-change-init : goal.loop-change-init
unfolding spelled
loop-change-init c =
    let cs = values_of c.args.changes.now.entries in
    let count = c.len.ensures.len ∙ sym (length-values_of c.args.changes.now.entries) in (
      [],
      c.into_iter-change-iterator.ensures.into_iter_gives ∙ c.values-change-items.ensures.rest,
      c.begin_group.ensures
          ∙ (λ i. spelled (group_head_fields (record { length = c.requires.counted i; name = c.args.name; number = c.args.number; changes = count i })))
          ∙ sym (append-nil (spelled (group_head_fields (group_head_of (record { name = c.args.name; number = c.args.number; changes = cs }))))),
      refl,
    )

pub put_change-requires-clause-fits : goal.put_change-requires-clause-fits
put_change-requires-clause-fits c =
    one_fits c.loop-change.invariant.0 c.next.new.self (values_of c.args.changes.now.entries) c.in-Some.change.now
    (ap (λ l. c.loop-change.invariant.0 ++ l) (sym c.in-Some.ensures.steps) ∙ c.loop-change.invariant.1) c.requires.kept.net.each_fits

pub put_change-requires-clause-room : goal.put_change-requires-clause-room
put_change-requires-clause-room c =
    let cs = values_of c.args.changes.now.entries in
    room_push c.loop-change.invariant.0 c.next.new.self cs c.in-Some.change.now (group_head_of (record { name = c.args.name; number = c.args.number; changes = cs })) c.loop-change.into
    (ap (λ l. c.loop-change.invariant.0 ++ l) (sym c.in-Some.ensures.steps) ∙ c.loop-change.invariant.1) c.requires.kept.net.fit c.loop-change.invariant.2

pub loop-change-preserved : goal.loop-change-preserved
loop-change-preserved c =
    let cs = values_of c.args.changes.now.entries in
    let xs = c.loop-change.invariant.0 in
    let change = c.in-Some.change.now in (
      xs ++ change ∷ [],
      append_assoc xs (change ∷ []) c.next.new.self ∙ ap (λ l. xs ++ l) (sym c.in-Some.ensures.steps) ∙ c.loop-change.invariant.1,
      written_push xs change (spelled (group_head_fields (group_head_of (record { name = c.args.name; number = c.args.number; changes = cs })))) c.loop-change.into c.put_change.new.into c.loop-change.invariant.2 c.put_change.ensures.bytes,
      fit_push xs change c.loop-change.invariant.3 c.put_change.ensures.fit,
    )

pub returns-clause-group : goal.returns-clause-group
returns-clause-group c =
    let cs = values_of c.args.changes.now.entries in
    let xs = c.loop-change.invariant.0 in
    let all : xs ≡ cs = sym (append-nil xs) ∙ ap (λ l. xs ++ l) (sym c.in-None.ensures.steps.0) ∙ c.loop-change.invariant.1 in
    group_whole c.args.name c.args.number cs c.loop-change.into c.requires.kept.net c.requires.numbers
    (c.loop-change.invariant.2 ∙ ap (λ (l : List Change). spelled (group_head_fields (group_head_of (record { name = c.args.name; number = c.args.number; changes = cs }))) ++ spelled (flat_map change_fields l)) all)
    (subst (λ (l : List Change). IsTrue (fields_fit (flat_map change_fields l))) all c.loop-change.invariant.3)

pub returns-clause-len : goal.returns-clause-len
returns-clause-len c =
    let cs = values_of c.args.changes.now.entries in
    let xs = c.loop-change.invariant.0 in
    let all : xs ≡ cs = sym (append-nil xs) ∙ ap (λ l. xs ++ l) (sym c.in-None.ensures.steps.0) ∙ c.loop-change.invariant.1 in
    group_length (group_head_of (record { name = c.args.name; number = c.args.number; changes = cs })) cs c.loop-change.into
    (c.loop-change.invariant.2 ∙ ap (λ (l : List Change). spelled (group_head_fields (group_head_of (record { name = c.args.name; number = c.args.number; changes = cs }))) ++ spelled (flat_map change_fields l)) all)
    ∙ sym c.requires.counted
