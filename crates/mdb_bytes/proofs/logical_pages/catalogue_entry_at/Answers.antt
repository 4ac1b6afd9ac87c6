use Rattle.std.proofs.Common.{◌∙◌, sym, ap, List, ℕ, Some}
use Rattle.mdb_bytes.specs.LogicalPages.{catalogue_entry_reads}
use Rattle.mdb_bytes.proofs.CatalogueEntries.{entry_at}
use Rattle.mdb_bytes.proofs.logical_pages.catalogue_entry_at.Goals as goal

pub returns : goal.returns
returns c = λ v s.
    entry_at v c.args.bytes.now c.args.place c.requires s ∙ ap (λ (t : List ℕ). Some (catalogue_entry_reads t)) (sym c.split_at.ensures.back) ∙ ap Some (sym c.read.ensures)
