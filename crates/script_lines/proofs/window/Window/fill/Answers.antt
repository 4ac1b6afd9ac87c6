use Rattle.std.proofs.Common.{◌-◌, refl, arith}
use Rattle.script_lines.proofs.ReadingWindow.{window_read, window_kept, Pulls-taken, Pulls-none}
use Rattle.script_lines.proofs.window.Window.fill.Goals as goal

pub returns-clause-pulls : goal.returns-clause-pulls
returns-clause-pulls g c =
    let old = c.self.inside in
    let mid = c.make_room-start.new.buffer in
    let at = c.make_room-start.result in
    let n = c.in-Ok.count in
    let read = (c.in-Ok.ensures).read in
    let into = read.0 in
    Pulls-taken (g.S.Source.left c.args.source.now) (g.S.Source.left c.read_behind.new.source) n into c.args.self.now _ read.3.1
    (window_read old.buffer.items mid.items c.read_behind.new.buffer.items into c.args.self.now old.start old.end at (old.end - (old.start - at)) n
    c.self.view_is c.make_room-start.ensures.part c.make_room-start.ensures.bound (omega (arith, c.self.invariant)) refl
    (omega (arith, c.self.invariant, mid.ok.0, c.make_room-start.ensures.len)) read.1 read.3.0)

pub returns-in_default-clause-kept : goal.returns-in_default-clause-kept
returns-in_default-clause-kept g c =
    let old = c.self.inside in
    let mid = c.make_room-start.new.buffer in
    let at = c.make_room-start.result in
    let read = c.read_behind.ensures.read in
    window_kept old.buffer.items mid.items c.read_behind.new.buffer.items read.0 c.args.self.now old.start old.end at (old.end - (old.start - at))
    c.self.view_is c.make_room-start.ensures.part c.make_room-start.ensures.bound (omega (arith, c.self.invariant)) refl
    (omega (arith, c.self.invariant, mid.ok.0, c.make_room-start.ensures.len)) read.1

pub returns-in_default-clause-pulls : goal.returns-in_default-clause-pulls
returns-in_default-clause-pulls g c =
    let old = c.self.inside in
    let mid = c.make_room-start.new.buffer in
    let at = c.make_room-start.result in
    let read = c.read_behind.ensures.read in
    Pulls-none (g.S.Source.left c.args.source.now) (g.S.Source.left c.read_behind.new.source) c.args.self.now _ ((c.in_default.ensures).kept)
    (window_kept old.buffer.items mid.items c.read_behind.new.buffer.items read.0 c.args.self.now old.start old.end at (old.end - (old.start - at))
    c.self.view_is c.make_room-start.ensures.part c.make_room-start.ensures.bound (omega (arith, c.self.invariant)) refl
    (omega (arith, c.self.invariant, mid.ok.0, c.make_room-start.ensures.len)) read.1)
