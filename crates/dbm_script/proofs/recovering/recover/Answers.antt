use Rattle.std.proofs.Common.{[], ◌∷◌, codes, length, sym}
use Rattle.std.proofs.lemmas.Bool.{eqb-true}
use Rattle.std.proofs.lemmas.List.{nil_from_length}
use Rattle.mdb_model.specs.Script.{Word}
use Rattle.dbm_script.proofs.Recovered.{no_media, step_numbers}
use Rattle.dbm_script.proofs.recovering.recover.Goals as goal

pub returns-then-is_empty : goal.returns-then-is_empty
returns-then-is_empty c =
    no_media c.media-media.result.0.items c.args.rest.now c.media-media.result.1.now
    (nil_from_length c.media-media.result.0.items (eqb-true (length c.media-media.result.0.items) 0 (sym c.if-is_empty.ensures))) c.media-media.ensures.read c.media-media.ensures.whole

pub returns : goal.returns
returns c =
    step_numbers (Word (codes "recover") ∷ []) c.media-media.result.0.items c.args.rest.now c.media-media.result.1.now c.recover_options.result
    c.media-media.ensures.read c.recover_options.ensures
