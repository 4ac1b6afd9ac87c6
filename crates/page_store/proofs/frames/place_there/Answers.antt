use Rattle.std.proofs.Common.{◌∙◌, ◌*◌, ℕ, ap, sym, arith}
use Rattle.mdb_model.specs.declared.fault.Device.TheVariants.{Data}
use Rattle.mdb_host.specs.Disk.{page_count}
use Rattle.volume_disk.specs.Blocks.{place}
use Rattle.volume_disk.proofs.Pages.{block_within}
use Rattle.page_store.proofs.Reading.{none_within, short_within}
use Rattle.page_store.proofs.frames.place_there.Goals as goal

pub returns-in-None-clause-whole : goal.returns-in-None-clause-whole
returns-in-None-clause-whole g c told area =
    let sizes = c.args.volumes.now in
    let seen = (g.H.Host.disk c.args.host.now).seen in
    absurd (none_within seen (Data (place 1 sizes c.args.block).0) (8192 * (place 1 sizes c.args.block).1) 8192 (block_within sizes seen c.args.block c.requires area)
    (ap (λ (x : ℕ). page_count (seen (Data x))) (sym c.place_of-volume.ensures.volume) ∙ sym (c.size.ensures.pages told) ∙ c.in-None.is))

pub returns-else-from-pages-clause-whole : goal.returns-else-from-pages-clause-whole
returns-else-from-pages-clause-whole g c told area =
    let sizes = c.args.volumes.now in
    let seen = (g.H.Host.disk c.args.host.now).seen in
    absurd (short_within seen (Data (place 1 sizes c.args.block).0) (place 1 sizes c.args.block).1 c.in-Some.pages (block_within sizes seen c.args.block c.requires area)
    (ap (λ (x : ℕ). page_count (seen (Data x))) (sym c.place_of-volume.ensures.volume) ∙ sym (c.size.ensures.pages told) ∙ c.in-Some.is) (omega (arith, c.if-from-pages.false, c.from.ensures, c.place_of-volume.ensures.page)))
