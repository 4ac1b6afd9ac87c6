use Rattle.std.proofs.Common.{◌≡◌, ℕ, List, ◌++◌, ◌∷◌, [], Bool, true, false, cond, inl, inr, is_ok}
use Rattle.mdb_model.specs.declared.fault.Device.{Device}
use Rattle.mdb_host.specs.declared.call.Call.{Call}
use Rattle.mdb_host.specs.declared.call.Range.{Range}
use Rattle.mdb_host.specs.declared.call.Call.TheVariants.{Tore}
use Rattle.mdb_host.specs.Memory.{RangeOf, ToreOrNot}
use Rattle.mdb_host.proofs.keep.keep_tear.Goals as goal

kept_or_not : (ok : Bool) (old new : List Call) (d : Device) (at : ℕ) (from : List ℕ) (r : Range) → RangeOf d at from r → new ≡ cond ok (old ++ Tore r ∷ []) old → ToreOrNot old new d at from
kept_or_not true old new d at from r is kept = inr (r, is, kept)
kept_or_not false old new d at from r is kept = inl kept

pub returns : goal.returns
returns c = kept_or_not (is_ok c.push.result) c.args.calls.now.items c.push.new.self.items c.args.device c.args.at c.args.from.now c.in-Ok.range c.in-Ok.ensures c.push.ensures.items
