use Rattle.std.proofs.Common.{◌≡◌, ◌∙◌, Bool, ap, sym}
use Rattle.std.specs.Prelude.{if◌then◌else◌}
use Rattle.mdb_bytes.specs.declared.converter_pages.ConverterEntry.{ConverterEntry}
use Rattle.converter.specs.Maps.{block_of}
use Rattle.page_store.specs.Store.{Store, is_marked}
use Rattle.page_store.proofs.Answering.{unmarked_false}
use Rattle.page_store.proofs.store.PageStore.unmarked_at.Goals as goal

pub returns-else-marked : goal.returns-else-marked
returns-else-marked c =
    let v = c.self.view_is in
    let place = c.args.place in
    let not_so = unmarked_false c.self.inside.marks c.saved_entry-entry.result.block c.marked.result c.if-marked.false c.marked.ensures.1 in
    let at : c.saved_entry-entry.result.block ≡ block_of c.self.inside.converter.saved place = ap (λ (e : ConverterEntry). e.block) c.saved_entry-entry.ensures.entry in
    sym (ap (λ (t : Bool). if t then 0 else 1) (ap (λ (s : Store). is_marked s.marks (block_of s.maps.saved place)) (sym v) ∙ ap (is_marked c.self.inside.marks) (sym at) ∙ not_so))
