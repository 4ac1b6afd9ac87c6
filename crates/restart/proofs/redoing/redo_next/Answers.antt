use Rattle.std.proofs.Common.{◌≡◌, ◌∙◌, ℕ, ◌+◌, List, Bool, sym, ap, subst, refl, arith}
use Rattle.std.proofs.lemmas.Option.{same_Some}
use Rattle.mdb_bytes.specs.declared.group.GroupHead.{GroupHead}
use Rattle.mdb_bytes.specs.Fields.{Spells}
use Rattle.mdb_bytes.specs.Groups.{Group, group_format}
use Rattle.mdb_bytes.specs.Held.{Holding, LogLeft, IsNextGroup}
use Rattle.restart.proofs.Steps.{first_undone, rows_are, fits_same, part_first, next-redone, made_log, upto-behind, number-small, cause_passed, if_passed}
use Rattle.restart.proofs.redoing.redo_next.Goals as goal

pub returns-in_default-clause-next : goal.returns-in_default-clause-next
returns-in_default-clause-next g c = λ k.
    let old = c.args.ground.now in
    let mid = c.next.new.self in
    let found = subst (λ (b : Bool). IsNextGroup b (g.G.Held.held old).log (g.G.Held.held mid).log c.next.new.into) c.if-not-branch.false (c.in_ok-next.ensures.found k) in
    let group : Group = record { name = (g.G.Held.held old).log.name; number = (g.G.Held.held old).log.after + 1; changes = found.0.changes } in
    let spelled = subst (λ (bs : List ℕ). Spells group_format group bs) (sym c.bytes.ensures.bytes) found.4 in
    absurd (c.in_default.not-Some _ (c.group_head.ensures.group group spelled))

pub returns-then-is_behind-clause-next : goal.returns-then-is_behind-clause-next
returns-then-is_behind-clause-next g c = λ k.
    let old = c.args.ground.now in
    let mid = c.next.new.self in
    let found = subst (λ (b : Bool). IsNextGroup b (g.G.Held.held old).log (g.G.Held.held mid).log c.next.new.into) c.if-not-branch.false (c.in_ok-next.ensures.found k) in
    let same = c.in_ok-next.ensures.same k in
    let group : Group = record { name = (g.G.Held.held old).log.name; number = (g.G.Held.held old).log.after + 1; changes = found.0.changes } in
    let spelled = subst (λ (bs : List ℕ). Spells group_format group bs) (sym c.bytes.ensures.bytes) found.4 in
    let number_is : c.in-Some.head.number ≡ (g.G.Held.held old).log.after + 1 = ap (λ (h : GroupHead). h.number) (same_Some _ _ (c.in-Some.ensures.group group spelled)) in
    (same.0, (ap (λ (h : Holding). h.rows) same.1, ap (λ (h : Holding). h.undo) same.1, upto-behind c.args.until (g.G.Held.held old).log c.in-Some.head.number number_is c.if-is_behind.ensures.behind))

pub returns-clause-next : goal.returns-clause-next
returns-clause-next g c = λ k.
    let old = c.args.ground.now in
    let mid = c.next.new.self in
    let found = subst (λ (b : Bool). IsNextGroup b (g.G.Held.held old).log (g.G.Held.held mid).log c.next.new.into) c.if-not-branch.false (c.in_ok-next.ensures.found k) in
    let same = c.in_ok-next.ensures.same k in
    let group : Group = record { name = (g.G.Held.held old).log.name; number = (g.G.Held.held old).log.after + 1; changes = found.0.changes } in
    let spelled = subst (λ (bs : List ℕ). Spells group_format group bs) (sym c.bytes.ensures.bytes) found.4 in
    let number_is : c.in-Some.head.number ≡ (g.G.Held.held old).log.after + 1 = ap (λ (h : GroupHead). h.number) (same_Some _ _ (c.in-Some.ensures.group group spelled)) in
    let made = c.in_ok-set_commit.ensures.made same.0 in (
      made.0,
      next-redone (g.G.Held.held old) (g.G.Held.held mid) (g.G.Held.held c.set_commit.new.ground) c.next.new.into c.args.until c.in-Some.head.number found same.1 made.1 number_is
          (number-small c.in-Some.head c.in-Some.ensures.head.0) c.if-is_behind.ensures.allowed,
    )

pub returns-clause-kept : goal.returns-clause-kept
returns-clause-kept g c = λ k s ready fits.
    let old = c.args.ground.now in
    let mid = c.next.new.self in
    let new = c.set_commit.new.ground in
    let found = subst (λ (b : Bool). IsNextGroup b (g.G.Held.held old).log (g.G.Held.held mid).log c.next.new.into) c.if-not-branch.false (c.in_ok-next.ensures.found k) in
    let same = c.in_ok-next.ensures.same k in
    let group : Group = record { name = (g.G.Held.held old).log.name; number = (g.G.Held.held old).log.after + 1; changes = found.0.changes } in
    let spelled = subst (λ (bs : List ℕ). Spells group_format group bs) (sym c.bytes.ensures.bytes) found.4 in
    let number_is : c.in-Some.head.number ≡ (g.G.Held.held old).log.after + 1 = ap (λ (h : GroupHead). h.number) (same_Some _ _ (c.in-Some.ensures.group group spelled)) in
    let read = g.met.G.Ground.keeps_by_calls old mid c.next.ensures.follows s in
    let at = read.1 in
    let on = c.in_ok-set_commit.ensures.kept same.0 at.0 (first_undone _ _ _ found same.1 _ _ _ _ _ ready at.1 at.2) refl (found.3 ∙ sym number_is)
    (number_is ∙ ap (λ (n : ℕ). n + 1) (sym (g.met.G.Ground.keeps_last old mid c.next.ensures.follows ∙ ready.at)))
    (fits_same (g.G.Ground.fits mid) at.2 (rows_are _ _ _ found same.1) (g.met.G.Ground.fits_on old mid (g.met.G.Ground.comes_by_calls old mid c.next.ensures.follows) _ _ fits)) in
    let log = made_log (g.G.Held.held old) (g.G.Held.held mid) (g.G.Held.held new) c.next.new.into found (c.in_ok-set_commit.ensures.made same.0).1 in
    (g.met.G.Ground.kept_on old mid new read.0 at.1 on.0, (on.1.0, on.1.1 ∙ at.1, on.1.2 ∙ ap (λ (l : LogLeft). l.commits) (sym log)))

pub returns-in_err-set_commit-clause-kept : goal.returns-in_err-set_commit-clause-kept
returns-in_err-set_commit-clause-kept g c = λ k s ready fits.
    let old = c.args.ground.now in
    let mid = c.next.new.self in
    let new = c.set_commit.new.ground in
    let found = subst (λ (b : Bool). IsNextGroup b (g.G.Held.held old).log (g.G.Held.held mid).log c.next.new.into) c.if-not-branch.false (c.in_ok-next.ensures.found k) in
    let same = c.in_ok-next.ensures.same k in
    let group : Group = record { name = (g.G.Held.held old).log.name; number = (g.G.Held.held old).log.after + 1; changes = found.0.changes } in
    let spelled = subst (λ (bs : List ℕ). Spells group_format group bs) (sym c.bytes.ensures.bytes) found.4 in
    let number_is : c.in-Some.head.number ≡ (g.G.Held.held old).log.after + 1 = ap (λ (h : GroupHead). h.number) (same_Some _ _ (c.in-Some.ensures.group group spelled)) in
    let read = g.met.G.Ground.keeps_by_calls old mid c.next.ensures.follows s in
    let at = read.1 in
    let on = c.in_err-set_commit.ensures.kept same.0 at.0 (first_undone _ _ _ found same.1 _ _ _ _ _ ready at.1 at.2) refl (found.3 ∙ sym number_is)
    (number_is ∙ ap (λ (n : ℕ). n + 1) (sym (g.met.G.Ground.keeps_last old mid c.next.ensures.follows ∙ ready.at)))
    (fits_same (g.G.Ground.fits mid) at.2 (rows_are _ _ _ found same.1) (g.met.G.Ground.fits_on old mid (g.met.G.Ground.comes_by_calls old mid c.next.ensures.follows) _ _ fits)) in
    (g.met.G.Ground.kept_on old mid new read.0 at.1 on.0, if_passed _ c.in_err-set_commit.field-0.0 c.from_residual-in_err-set_commit.result c.from_residual-in_err-set_commit.ensures.1)

pub returns-in_err-set_commit-clause-cause : goal.returns-in_err-set_commit-clause-cause
returns-in_err-set_commit-clause-cause g c =
    let old = c.args.ground.now in
    let mid = c.next.new.self in
    let first = g.met.G.Ground.comes_by_calls old mid c.next.ensures.follows in
    cause_passed _ _ _ c.in_err-set_commit.field-0.0 c.from_residual-in_err-set_commit.result c.from_residual-in_err-set_commit.ensures.1 c.next.ensures.cause.later (λ k. (c.in_ok-next.ensures.same k).0)
    (λ k short.
    let found = subst (λ (b : Bool). IsNextGroup b (g.G.Held.held old).log (g.G.Held.held mid).log c.next.new.into) c.if-not-branch.false (c.in_ok-next.ensures.found k) in
    let same = c.in_ok-next.ensures.same k in
    (short.0, g.met.G.Ground.comes_on old mid short.0 first short.1, short.2, part_first _ _ _ found same.1 (g.G.Held.held short.0).rows short.3, short.4))
    c.in_err-set_commit.ensures.cause

pub set_commit-requires-clause-numbers : goal.set_commit-requires-clause-numbers
set_commit-requires-clause-numbers g c =
    let old = c.args.ground.now in
    let mid = c.next.new.self in
    omega (arith, c.in_ok-next.ensures.shorter c.if-not-branch.false, g.met.G.Ground.keeps_numbers old mid c.next.ensures.follows, c.requires.numbers)
