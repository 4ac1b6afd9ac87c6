use Rattle.std.proofs.Common.{◌≡◌, ◌∙◌, sym, subst, ap, ℕ, List, get_or, arith}
use Rattle.mdb_model.specs.declared.script.Refusal.{Refusal}
use Rattle.db_kernel.specs.Damages.{RefusesInFront}
use Rattle.db_kernel.proofs.Volumes.{other_size, too_small, too_many}
use Rattle.db_kernel.proofs.records.check_volume.Goals as goal
use Rattle.db_kernel.proofs.records.check_volume.Goals.{then-pages-size-via-then-pages-size, then-pages-size-via-else-pages-size+then-size-lt64, then-pages-size-via-else-pages-size+else-size-lt64+then-before-size}

pub returns-then-pages-size-clause-refuses : goal.returns-then-pages-size-clause-refuses
returns-then-pages-size-clause-refuses g c told has =
    let image = (g.H.Host.disk c.args.host.now).seen in
    let restart = c.args.restart.now in
    let size : get_or c.as_slice.result.now c.args.volume 0 ≡ get_or restart.volumes.items c.args.volume 0 = ap (λ (xs : List ℕ). get_or xs c.args.volume 0) c.as_slice.ensures.value in
    subst (λ (r : Refusal). RefusesInFront image r) (sym c.damaged-then-pages-size.ensures)
    (elim c.then-pages-size.branch [
      | then-pages-size-via-then-pages-size w ↦ other_size image restart c.args.volume has c.requires.inside c.in-Some.pages (sym c.in-Some.is ∙ c.size.ensures.pages told) (λ same. w.if-pages-size.true (same ∙ sym size))
      | then-pages-size-via-else-pages-size+then-size-lt64 w ↦ too_small image restart c.args.volume has c.requires.inside (omega (arith, w.if-size-lt64.true, size))
      | then-pages-size-via-else-pages-size+else-size-lt64+then-before-size w ↦ too_many image restart c.args.volume has c.requires.inside c.args.before c.requires.before (omega (arith, w.if-before-size.true, size, c.requires.small))
    ])
