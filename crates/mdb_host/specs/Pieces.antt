-- How a source in memory hands out its bytes.
--     left_of, faults_of      what it tells as a source
--     piece_of      the most bytes of one call
--     source_fails_of      the numbers of the calls that are to fail
--     calls_of      how many calls there were
use Rattle.std.specs.Prelude.{ℕ, List, drop, Option, Some}
use Rattle.mdb_host.specs.declared.mem_source.MemSource.{MemSource}

abbrev pub left_of : MemSource → Option (List ℕ)
left_of source = Some (drop source.taken source.bytes.items)

abbrev pub faults_of : MemSource → ℕ
faults_of source = source.faults

abbrev pub piece_of : MemSource → ℕ
piece_of source = source.piece

abbrev pub source_fails_of : MemSource → List ℕ
source_fails_of source = source.plan.fails.items

abbrev pub calls_of : MemSource → ℕ
calls_of source = source.plan.calls
