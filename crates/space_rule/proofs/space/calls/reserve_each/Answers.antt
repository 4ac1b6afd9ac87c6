use Rattle.std.proofs.Common.{◌≡◌, ℕ, ◌+◌, [], ◌<◌, ap, ◌∙◌, set, get_or, length, vec_len, vec_capacity, arith}
use Rattle.std.specs.Prelude.{Vec, List}
use Rattle.std.specs.declared.alloc.Global.{Global}
use Rattle.std.proofs.lemmas.List.{set-get_or, length-set}
use Rattle.space_rule.specs.declared.open_change.OpenChange.{OpenChange}
use Rattle.space_rule.specs.Weighing.{lists}
use Rattle.space_rule.proofs.Noting.{lists-set, lists-at, set-all}
use Rattle.space_rule.proofs.space.calls.reserve_each.Goals as goal

-- the changes stay where those of one session stay
kept : (sessions : List (Vec OpenChange Global)) (s : ℕ) (v d : Vec OpenChange Global) → s < length sessions → v.items ≡ (get_or sessions s d).items → lists (set sessions s v) ≡ lists sessions
kept sessions s v d inside same =
    lists-set sessions s v ∙ ap (set (lists sessions) s) (same ∙ lists-at sessions s d inside) ∙ set-get_or (lists sessions) s []

pub loop-session-preserved : goal.loop-session-preserved
loop-session-preserved c =
    let i = c.loop-session.invariant in
    let inside : c.loop-session.session < length c.loop-session.sessions = (let m = i.many in let t = c.loop-session-test.true in omega arith) in
    record {
      same = kept c.loop-session.sessions c.loop-session.session _ c.index-sessions-session.result inside c.reserve_one.ensures.same ∙ i.same;
      many = length-set c.loop-session.sessions c.loop-session.session _ ∙ i.many;
      room = λ k d lt. set-all (λ k v. vec_len v < vec_capacity v) c.loop-session.sessions c.loop-session.session _ d (c.loop-session.session + 1) inside c.in_ok-reserve_one.ensures.room
          (λ k lt other. i.room k d (omega arith)) k lt;
    }

pub returns-in_err-reserve_one-clause-same : goal.returns-in_err-reserve_one-clause-same
returns-in_err-reserve_one-clause-same c =
    let i = c.loop-session.invariant in
    let inside : c.loop-session.session < length c.loop-session.sessions = (let m = i.many in let t = c.loop-session-test.true in omega arith) in
    kept c.loop-session.sessions c.loop-session.session _ c.index-sessions-session.result inside c.reserve_one.ensures.same ∙ i.same
