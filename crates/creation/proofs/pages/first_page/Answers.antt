use Rattle.std.proofs.Common.{◌∙◌, sym, subst, ap, arith}
use Rattle.mdb_bytes.specs.declared.converter_pages.ConverterLeaf.{ConverterLeaf}
use Rattle.mdb_bytes.specs.declared.converter_pages.ConverterRoot.{ConverterRoot}
use Rattle.mdb_bytes.specs.declared.logical_pages.Catalogue.{Catalogue}
use Rattle.mdb_bytes.specs.Fields.{Spells, spelled}
use Rattle.mdb_bytes.specs.Parts.{KeepsLimits}
use Rattle.mdb_bytes.specs.ConverterPages.{converter_leaf_fields, converter_root_fields, converter_leaf_format, converter_root_format}
use Rattle.mdb_bytes.specs.LogicalPages.{catalogue_fields, open_list_fields, catalogue_format, open_list_format}
use Rattle.standing.proofs.FirstBlocks.{block_two, block_three, block_leaf, block_root, root_keeps}
use Rattle.creation.proofs.pages.first_page.Goals as goal

pub encode_converter_root-requires-clause-keeps : goal.encode_converter_root-requires-clause-keeps
encode_converter_root-requires-clause-keeps c = subst (λ (v : ConverterRoot). KeepsLimits converter_root_format v) (sym c.root.ensures) (root_keeps c.args.blocks c.requires.area.1)

pub returns-then-block-eq2 : goal.returns-then-block-eq2
returns-then-block-eq2 c =
    let spells : Spells catalogue_format c.empty_catalogue.result c.encode_catalogue.new.into = c.encode_catalogue.ensures in
    spells.1 ∙ ap (λ (v : Catalogue). spelled (catalogue_fields v)) c.empty_catalogue.ensures ∙ block_two c.args.blocks c.args.block c.if-block-eq2.true

pub returns-then-block-eq3 : goal.returns-then-block-eq3
returns-then-block-eq3 c =
    let spells : Spells open_list_format (record { entries = c.new.result }) c.encode_open_list.new.into = c.encode_open_list.ensures in
    spells.1 ∙ ap (λ xs. spelled (open_list_fields (record { entries = record { items = xs } }))) c.new.ensures ∙ block_three c.args.blocks c.args.block c.if-block-eq3.true

pub returns-then-block-root_block : goal.returns-then-block-root_block
returns-then-block-root_block c =
    let spells : Spells converter_leaf_format c.leaf.result c.encode_converter_leaf.new.into = c.encode_converter_leaf.ensures in
    spells.1 ∙ ap (λ (v : ConverterLeaf). spelled (converter_leaf_fields v)) c.leaf.ensures
    ∙ block_leaf c.args.blocks c.args.block c.if-block-eq2.false c.if-block-eq3.false (omega (arith, c.if-block-root_block.true, c.root_block.ensures))

pub returns-else-block-root_block : goal.returns-else-block-root_block
returns-else-block-root_block c =
    let spells : Spells converter_root_format c.root.result c.encode_converter_root.new.into = c.encode_converter_root.ensures in
    spells.1 ∙ ap (λ (v : ConverterRoot). spelled (converter_root_fields v)) c.root.ensures
    ∙ block_root c.args.blocks c.args.block c.if-block-eq2.false c.if-block-eq3.false (omega (arith, c.if-block-root_block.false, c.root_block.ensures))
