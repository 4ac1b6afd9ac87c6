use Rattle.std.proofs.Common.{◌∙◌, ◌-◌, ap, arith, take}
use Rattle.script_lines.proofs.ReadingWindow.{window_moved}
use Rattle.script_lines.proofs.window.make_room.Goals as goal

pub returns : goal.returns
returns c = record {
  part = ap (take (c.args.end - c.args.start)) c.copy_within.ensures.items ∙ window_moved c.args.buffer.now.items c.args.start c.args.end c.requires.low (omega (arith, c.args.buffer.now.ok.0));
  bound = omega arith;
  room = λ h. omega (arith, h);
  len = c.copy_within.ensures.len;
}
