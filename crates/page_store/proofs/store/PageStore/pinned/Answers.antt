use Rattle.std.proofs.Common.{◌≡◌, ◌∙◌, ◌+◌, ℕ, List, unwrap_or, Option, ap, sym, subst}
use Rattle.mdb_bytes.specs.declared.converter_pages.ConverterEntry.{ConverterEntry}
use Rattle.volume_disk.specs.Blocks.{IsArea, block_at}
use Rattle.converter.specs.Maps.{block_of}
use Rattle.page_store.specs.Store.{Store}
use Rattle.page_store.proofs.Pinned.{passed_fault}
use Rattle.page_store.proofs.store.PageStore.pinned.Goals as goal

pub returns-in_err-read_there-clause-whole : goal.returns-in_err-read_there-clause-whole
returns-in_err-read_there-clause-whole g c told area =
    let sizes = ap (λ (t : Store). t.sizes) c.self.view_is in
    passed_fault c.from_residual.result c.in_err-read_there.field-0.0 c.from_residual.ensures.1
    (c.in_err-read_there.ensures.whole told (subst (λ (l : List ℕ). IsArea l (g.H.Host.disk c.args.host.now).seen) (sym sizes) area))

pub returns-clause-bytes : goal.returns-clause-bytes
returns-clause-bytes g c m is page same told area =
    let seen = (g.H.Host.disk c.args.host.now).seen in
    let sizes = ap (λ (t : Store). t.sizes) c.self.view_is in
    let at : c.in-Some.page ≡ page = ap (λ (o : Option ℕ). unwrap_or o 0) same in
    let block : c.pinned_entry-b.result.block ≡ block_of m (c.args.self.now.maps.conv + page) =
    ap (λ (e : ConverterEntry). e.block) (c.pinned_entry-b.ensures.entry m is) ∙ ap (λ (p : ℕ). block_of m (c.args.self.now.maps.conv + p)) at in
    c.in_ok-read_there.ensures.bytes told (subst (λ (l : List ℕ). IsArea l seen) (sym sizes) area) ∙ (λ i. block_at (sizes i) seen (block i))
