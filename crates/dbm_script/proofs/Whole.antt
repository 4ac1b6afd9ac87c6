-- A whole line.
use Rattle.std.proofs.Common.{◌≡◌, ◌≤◌, ℕ, List, [], false, IsTrue, Err, nat_le, length}
use Rattle.std.proofs.lemmas.Bool.{and_right}
use Rattle.mdb_model.specs.declared.script.Command.{Command}
use Rattle.mdb_model.specs.Script.{parts_of, past_blanks, is_empty_or_comment, is_in_range, is_skipped, IsLineOf}
use Rattle.dbm_script.specs.declared.fault.LineFault.{LineFault}
use Rattle.dbm_script.specs.declared.fault.LineFault.TheVariants.{Syntax, Memory}
use Rattle.dbm_script.specs.Cutting.{FitsLine}
use Rattle.dbm_script.specs.Reading.{IsRest, IsParsed}
use Rattle.dbm_script.proofs.Cuts.{FitsLine-line, IsSpaced-line}
use Rattle.dbm_script.proofs.Fronts.{parts_proper}

-- a line with something but a comment is not skipped
pub not_skipped : (line : List ℕ) → is_empty_or_comment (past_blanks line) ≡ false → is_skipped line ≡ false
not_skipped line e = and_right (nat_le (length line) 8192) (is_empty_or_comment (past_blanks line)) e

-- a command that fits a line is spelled by it
pub line_of_rest : (line : List ℕ) (command : Command) → length line ≤ 8192 → IsTrue (is_in_range command) → FitsLine (parts_of command) line → IsLineOf line command
line_of_rest line command l i f = (l, i, IsSpaced-line (parts_of command) line (parts_proper command) f)

-- a fault past the blanks is a fault of the line
pub fault_of_rest : (line : List ℕ) (fault : LineFault) → length line ≤ 8192 → is_empty_or_comment (past_blanks line) ≡ false → IsRest [] line (Err fault) → IsParsed line (Err fault)
fault_of_rest line Syntax l e r = (not_skipped line e, λ command (few, i, s). r command i (FitsLine-line (parts_of command) line (parts_proper command) s))
fault_of_rest line Memory l e r = (not_skipped line e, (r.0, r.2, line_of_rest line r.0 l r.1 r.3))
