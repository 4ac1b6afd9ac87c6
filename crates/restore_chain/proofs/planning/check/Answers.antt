use Rattle.std.proofs.Common.{◌≡◌, sym, ap, ◌∙◌, subst, ◌+◌, ◌++◌, [], map, length, Some}
use Rattle.std.proofs.lemmas.List.{length-map, append-nil}
use Rattle.mdb_model.specs.Chains.{Chain, gap}
use Rattle.restore_chain.specs.Links.{link_of, log_part}
use Rattle.restore_chain.specs.Following.{Answers}
use Rattle.restore_chain.proofs.Media.{chain_fails, chain_planned}
use Rattle.restore_chain.proofs.planning.check.Goals as goal

pub returns-in_default : goal.returns-in_default
returns-in_default c =
    let links = map link_of c.args.headers.now in
    let fails : gap (links ++ (log_part c.args.log ++ [])) ≡ Some (length links + 1) = c.in_default.ensures links c.in_ok-reached.ensures [] in
    chain_fails (links ++ log_part c.args.log) c.args.until (length c.args.headers.now + 1)
    (ap (λ l. gap (links ++ l)) (sym (append-nil (log_part c.args.log))) ∙ fails ∙ ap (λ n. Some (n + 1)) (length-map c.args.headers.now link_of))

pub returns : goal.returns
returns c =
    let links = map link_of c.args.headers.now in
    subst (λ (chain : Chain). Answers chain c.plan_up_to.result)
    (sym (chain_planned (links ++ log_part c.args.log) c.args.until c.in-Some.whole (c.in-Some.ensures links c.in_ok-reached.ensures)))
    c.plan_up_to.ensures
