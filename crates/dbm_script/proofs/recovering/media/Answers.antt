use Rattle.std.proofs.Common.{List, ℕ, [], ◌∷◌, true, ◌&&◌, refl, sym, ap, ◌∙◌, subst, arith}
use Rattle.std.specs.List.{list_all}
use Rattle.std.proofs.lemmas.Bool.{and_from}
use Rattle.std.proofs.lemmas.List.Folds.{list_all-append}
use Rattle.mdb_model.specs.Script.{is_medium}
use Rattle.dbm_script.specs.Cutting.{AreNumbers}
use Rattle.dbm_script.proofs.Recovered.{AreNumbers-push}
use Rattle.dbm_script.proofs.recovering.media.Goals as goal

pub loop-i-preserved : goal.loop-i-preserved
loop-i-preserved c =
    let before = c.loop-i.media.items in
    let n = c.in-Ok.number in
    record {
      count = omega (arith, c.push.ensures.len, c.loop-i.invariant.count);
      media =
          ap (list_all is_medium) c.push.ensures.items ∙ list_all-append is_medium before (n ∷ [])
          ∙ and_from (list_all is_medium before) (is_medium n && true) c.loop-i.invariant.media (and_from (is_medium n) true c.in-Ok.ensures.0 refl);
      read =
          subst (λ (ns : List ℕ). AreNumbers ns c.args.rest.now c.in-Ok.after.now) (sym c.push.ensures.items)
          (AreNumbers-push before n c.args.rest.now c.loop-i.left.now c.in-Ok.after.now c.loop-i.invariant.read c.in-Ok.ensures.1 c.in-Ok.ensures.2);
    }
