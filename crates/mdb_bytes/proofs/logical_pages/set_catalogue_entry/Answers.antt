use Rattle.std.proofs.Common.{◌≡◌, ◌+◌, ◌*◌, ◌∙◌, ap, ℕ, ◌++◌, drop, rules, arith}
use Rattle.std.proofs.lemmas.List.{drop-drop}
use Rattle.mdb_bytes.specs.Fields.{spelled}
use Rattle.mdb_bytes.specs.LogicalPages.{catalogue_entry_fields}
use Rattle.mdb_bytes.proofs.CatalogueEntries.{entry_set_at, replaced}
use Rattle.mdb_bytes.proofs.logical_pages.set_catalogue_entry.Goals as goal

pub returns : goal.returns
returns c = λ v s cost.
    let at = 64 + 16 * c.args.place in
    let behind : c.split_at_mut-at.result.1.now ≡ drop (at + 16) c.args.bytes.now =
    c.split_at_mut-at.ensures.back ∙ ap (drop 16) c.split_at_mut-rest.ensures.back ∙ drop-drop 16 at c.args.bytes.now ∙ ap (λ (k : ℕ). drop k c.args.bytes.now) (omega arith) in
    let is : c.split_at_mut-rest.result.0.now ++ (c.write.new.into ++ c.split_at_mut-at.result.1.now) ≡ replaced at 16 (spelled (catalogue_entry_fields c.args.entry.now)) c.args.bytes.now =
    (λ i. c.split_at_mut-rest.ensures.front i ++ (c.write.ensures i ++ behind i)) in
    entry_set_at v c.args.place c.args.entry.now c.args.bytes.now _ c.requires (search rules) (search rules) s cost is
