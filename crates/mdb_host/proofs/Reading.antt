-- Calls that only read.
--     reads_on      one after another
use Rattle.std.proofs.Common.{◌∙◌, arith}
use Rattle.mdb_host.specs.Reads.{ReadsOnly}
use Rattle.mdb_host.specs.declared.host.Host as host
use Rattle.mdb_host.proofs.Moments.{agree_on, agree_twice}

-- one call after another
pub reads_on : {H : Type 0} (h : host.Ghosts H) (a b c : H) → ReadsOnly h a b → ReadsOnly h b c → ReadsOnly h a c
reads_on h a b c one two = record {
  calm = λ told. agree_on (h.disk a) (h.disk b) (h.disk c) (one.calm told) (two.calm told);
  seen = λ told. agree_twice (h.disk a).seen (h.disk b).seen (h.disk c).seen (one.seen told) (two.seen told);
  later = omega (arith, one.later, two.later);
  say_faults = two.say_faults ∙ one.say_faults;
}
