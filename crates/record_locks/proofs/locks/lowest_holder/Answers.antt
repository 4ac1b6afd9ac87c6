use Rattle.std.proofs.Common.{◌≡◌, refl, sym, ap, ◌∙◌, ℕ, ◌+◌, ◌<◌, ◌≤◌, Bool, true, false, ◌==◌, nat_lt, List, length, arith}
use Rattle.std.proofs.lemmas.Bool.{eqb-true, eqb-false, ltb-true, ltb-false}
use Rattle.std.specs.List.{list_any}
use Rattle.mdb_model.specs.Worlds.{Lock}
use Rattle.mdb_model.specs.Sessions.{conflict}
use Rattle.record_locks.specs.Holding.{wanted_lock}
use Rattle.record_locks.specs.Holders.{IsBound}
use Rattle.record_locks.proofs.Found.{keeps, holder-here, holder-nowhere, bars-index, keeps-true, keeps-own, keeps-free}
use Rattle.record_locks.proofs.locks.lowest_holder.Goals as goal
use Rattle.record_locks.proofs.locks.lowest_holder.Goals.{else-number-session-via-then-number-session+else-bars, else-number-session-via-else-number-session}

-- one session more
one_more : (locks : List (List Lock)) (session : ℕ) (lock : Lock) (number : ℕ) → ((k : ℕ) → 1 ≤ k → k < number → keeps locks session lock k ≡ false) → keeps locks session lock number ≡ false
    → (k : ℕ) → 1 ≤ k → k < number + 1 → keeps locks session lock k ≡ false
one_more locks session lock number before here k from below = by_place (k == number) refl where
  by_place : (b : Bool) → (k == number) ≡ b → keeps locks session lock k ≡ false
  by_place true is = ap (keeps locks session lock) (eqb-true k number is) ∙ here
  by_place false is =
      let other = eqb-false k number is in
      before k from (omega (arith, below, other))

-- none past the highest session either
none_more : (locks : List (List Lock)) (session : ℕ) (lock : Lock) (highest number : ℕ) → IsBound locks highest → highest < number → ((k : ℕ) → 1 ≤ k → k < number → keeps locks session lock k ≡ false)
    → (k : ℕ) → 1 ≤ k → k < 65 → keeps locks session lock k ≡ false
none_more locks session lock highest number bound last before k from below = by_place (nat_lt k number) refl where
  by_place : (b : Bool) → nat_lt k number ≡ b → keeps locks session lock k ≡ false
  by_place true is = before k from (ltb-true k number is)
  by_place false is =
      let past = ltb-false k number is in
      keeps-free locks session k lock (bound.none_above k lock (omega (arith, past, last)))

pub loop-number-init : goal.loop-number-init
loop-number-init c = λ k from below. absurd (omega (arith, from, below))

pub returns-then-bars : goal.returns-then-bars
returns-then-bars c =
    let sessions = c.args.sessions.now in
    let lock = wanted_lock c.args.wanted in
    let number = c.loop-number.number in
    let inside : number < length sessions = omega (arith, c.loop-number-test.true, c.requires.long, c.requires.bound.most) in
    let barred = sym (bars-index sessions number c.index-sessions-number.result lock inside) ∙ ap (λ locks. list_any (conflict lock) locks) (sym c.index-sessions-number.is) ∙ sym c.if-bars.ensures in
    sym (holder-here sessions c.args.session.0 lock number c.loop-number.auto.number (omega (arith, c.loop-number-test.true, c.requires.bound.most)) c.loop-number.invariant (keeps-true sessions c.args.session.0 number lock c.if-number-session.true barred))

pub loop-number-preserved : goal.loop-number-preserved
loop-number-preserved c =
    let sessions = c.args.sessions.now in
    let lock = wanted_lock c.args.wanted in
    let number = c.loop-number.number in
    let inside : number < length sessions = omega (arith, c.loop-number-test.true, c.requires.long, c.requires.bound.most) in
    one_more sessions c.args.session.0 lock number c.loop-number.invariant (elim c.else-number-session.branch [
      | else-number-session-via-then-number-session+else-bars w ↦
          keeps-free sessions c.args.session.0 number lock
          (sym (bars-index sessions number w.index-sessions-number.result lock inside) ∙ ap (λ locks. list_any (conflict lock) locks) (sym w.index-sessions-number.is) ∙ sym w.if-bars.ensures)
      | else-number-session-via-else-number-session w ↦ keeps-own sessions c.args.session.0 number lock w.if-number-session.false
    ])

pub returns : goal.returns
returns c =
    let sessions = c.args.sessions.now in
    let lock = wanted_lock c.args.wanted in
    sym (holder-nowhere sessions c.args.session.0 lock (none_more sessions c.args.session.0 lock c.args.highest c.loop-number.number c.requires.bound (omega (arith, c.loop-number-test.false)) c.loop-number.invariant))
