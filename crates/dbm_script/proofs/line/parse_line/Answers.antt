use Rattle.std.proofs.Common.{sym}
use Rattle.std.proofs.lemmas.Result.{err_from_is_err_and}
use Rattle.dbm_script.proofs.Whole.{not_skipped, line_of_rest, fault_of_rest}
use Rattle.dbm_script.proofs.line.parse_line.Goals as goal

pub returns : goal.returns
returns c = (
  not_skipped c.args.line.now (sym c.if-is_blank_or_comment.ensures),
  line_of_rest c.args.line.now c.in_ok-command.command c.if-line-gt-LONGEST_LINE.false c.in_ok-command.ensures.0 c.in_ok-command.ensures.1,
)

pub returns-in_err-command : goal.returns-in_err-command
returns-in_err-command c =
    let passed = err_from_is_err_and c.from_residual.result c.from_residual.ensures.1 in rw (passed.1, passed.2)
    (fault_of_rest c.args.line.now c.in_err-command.field-0.0 c.if-line-gt-LONGEST_LINE.false (sym c.if-is_blank_or_comment.ensures) c.in_err-command.ensures)
