use Rattle.std.proofs.Common.{◌≡◌, ℕ, ◌<◌, length, get_or, vec_len, vec_capacity}
use Rattle.std.specs.Prelude.{Vec}
use Rattle.std.specs.declared.alloc.Global.{Global}
use Rattle.space_rule.specs.declared.open_change.OpenChange.{OpenChange}
use Rattle.space_rule.specs.Weighing.{lists}
use Rattle.space_rule.proofs.space.calls.reserve_each.Given as goal

abbrev pub invariant-loop-session : goal.invariant-loop-session
invariant-loop-session l = record {
  same : lists l.sessions ≡ lists l.initial.sessions;
  many : length l.sessions ≡ 65;
  room : (i : ℕ) (d : Vec OpenChange Global) → i < l.session → vec_len (get_or l.sessions i d) < vec_capacity (get_or l.sessions i d);
}
