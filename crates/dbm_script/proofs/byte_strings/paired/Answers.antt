use Rattle.std.proofs.Common.{◌*◌, ◌/◌, ◌≤◌, List, ℕ, Bool, true, sym, ◌∙◌, ◌≡◌, rules, tests, length, arith}
use Rattle.std.specs.List.{list_all}
use Rattle.std.proofs.lemmas.Bool.{le-leb}
use Rattle.std.proofs.lemmas.Iterator.{YieldsList-from_slice}
use Rattle.std.proofs.lemmas.Iterator.Search.{all_from_yields_List}
use Rattle.dbm_script.specs.Spelling.{is_hex_digit, bytes_spelled, IsSpelled}
use Rattle.dbm_script.proofs.Spelled.{hex-length, hex_some, hex_digits-some, IsSpelled-paired}
use Rattle.dbm_script.proofs.byte_strings.paired.Goals as goal
use Rattle.dbm_script.proofs.byte_strings.paired.Goals.{then-text-gt3000-via-then-text-gt3000, then-text-gt3000-via-else-text-gt3000+then-text-ne0, then-text-gt3000-via-else-text-gt3000+else-text-ne0+then-not-all}

-- an even number of digits are sound
spelled : (text : List ℕ) (all : Bool) → length text ≤ 3000 → length text ≡ 2 * (length text / 2) → all ≡ list_all is_hex_digit text → all ≡ true → IsSpelled true text
spelled text all few even is holds =
    let some = hex_some text (length text / 2) even (sym is ∙ holds) in
    IsSpelled-paired text some.0 some.1 few

pub returns-then-text-gt3000 : goal.returns-then-text-gt3000
returns-then-text-gt3000 c = λ bytes few e.
    let l = hex-length c.args.text.now bytes e in
    elim c.then-text-gt3000.branch [
      | then-text-gt3000-via-then-text-gt3000 w ↦ omega arith
      | then-text-gt3000-via-else-text-gt3000+then-text-ne0 w ↦ omega arith
      | then-text-gt3000-via-else-text-gt3000+else-text-ne0+then-not-all w ↦ (
          let all = all_from_yields_List is_hex_digit _ _ w.all.result w.all.ensures.ran (YieldsList-from_slice c.args.text.now cc) (λ x b q k. search (rules, tests)) in
          let holds = hex_digits-some c.args.text.now bytes e in
          absurd (cc))
    ]

pub invariant_of-result : goal.invariant_of-result
invariant_of-result c =
    let all = all_from_yields_List is_hex_digit _ _ c.all.result c.all.ensures.ran (YieldsList-from_slice c.args.text.now cc) (λ x b q k. search (rules, tests)) in
    spelled c.args.text.now c.all.result c.if-text-gt3000.false (omega arith) all c.if-not-all.false

pub returns : goal.returns
returns c =
    let all = all_from_yields_List is_hex_digit _ _ c.all.result c.all.ensures.ran (YieldsList-from_slice c.args.text.now cc) (λ x b q k. search (rules, tests)) in
    let s = spelled c.args.text.now c.all.result c.if-text-gt3000.false (omega arith) all c.if-not-all.false in
    (s.0, le-leb (length (bytes_spelled true c.args.text.now)) 1500 s.1)
