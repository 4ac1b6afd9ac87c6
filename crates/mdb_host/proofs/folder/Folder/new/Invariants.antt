use Rattle.std.proofs.Common.{◌≡◌, length}
use Rattle.mdb_host.proofs.folder.Folder.new.Given as goal

abbrev pub invariant-loop : goal.invariant-loop
invariant-loop g l = length l.files.items ≡ l.counter
