use Rattle.std.proofs.Common.{ap, subst, sym, ℕ, [], ◌∷◌, List}
use Rattle.clap.specs.Words.{Text, found_of, rows_of}
use Rattle.call_words.specs.Words.{Gains, Lacks, as_list, word_in}
use Rattle.call_words.proofs.Counts.{gains_none, gains_one, lacks_one}
use Rattle.call_words.proofs.MatchReads.{on_none, word_none, word_some}
use Rattle.call_words.proofs.words.read_volume.Goals as goal

pub returns-in_default-clause-gains : goal.returns-in_default-clause-gains
returns-in_default-clause-gains c =
    let none = ap as_list (word_none (found_of c.args.matches.now) c.args.name.now c.get_str.result c.get_str.ensures c.in_default.is) in
    subst (λ (l : List Text). Gains l c.args.volumes.now.items c.args.volumes.now.items) (sym none) (gains_none c.args.volumes.now.items)

pub returns-in_err-page_count-clause-gains : goal.returns-in_err-page_count-clause-gains
returns-in_err-page_count-clause-gains c =
    let is = ap as_list (word_some (found_of c.args.matches.now) c.args.name.now c.get_str.result c.in-Some.word c.get_str.ensures c.in-Some.is) in
    on_none c.from_residual.result (Lacks (word_in c.args.name.now (rows_of (found_of c.args.matches.now)))) (λ done. Gains (word_in c.args.name.now (rows_of (found_of c.args.matches.now))) c.args.volumes.now.items c.args.volumes.now.items) c.from_residual.ensures
    (subst Lacks (sym is) (lacks_one c.in-Some.word.now c.in_err-page_count.ensures))

pub returns-clause-gains : goal.returns-clause-gains
returns-clause-gains c =
    let is = ap as_list (word_some (found_of c.args.matches.now) c.args.name.now c.get_str.result c.in-Some.word c.get_str.ensures c.in-Some.is) in
    let v = c.args.volumes.now.items in
    subst (λ (l : List Text). Gains l v c.push.new.self.items) (sym is)
    (subst (λ (l : List ℕ). Gains (c.in-Some.word.now ∷ []) v l) (sym c.push.ensures.items) (gains_one c.in-Some.word.now c.in_ok-page_count.field-0 v c.in_ok-page_count.ensures))
