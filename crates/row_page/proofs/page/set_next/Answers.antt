use Rattle.std.proofs.Common.{◌∙◌}
use Rattle.row_page.specs.Entries.{entries_of, page_head_of}
use Rattle.row_page.proofs.Edits.{renamed, page_parts}
use Rattle.row_page.proofs.ReadBack.{is_page, head_is, entries_are}
use Rattle.row_page.proofs.page.set_next.Goals as goal

pub returns : goal.returns
returns c =
    let p = c.args.page.now in
    let h = page_head_of p in
    let es = entries_of p in
    let parts = page_parts p h es c.requires.page in
    let s = renamed c.split_at_mut-head.result.0.now c.write_four.new.part c.split_at_mut-head.result.1.now h es c.args.next c.requires.page.head c.requires.leaf c.ranges.next.fits c.requires.page.entries
    (c.split_at_mut-head.ensures.front ∙ parts.0) c.write_four.ensures (c.split_at_mut-head.ensures.back ∙ parts.1) in
    record { page = is_page _ _ es s; head = head_is _ _ es s; entries = entries_are _ _ es s }
