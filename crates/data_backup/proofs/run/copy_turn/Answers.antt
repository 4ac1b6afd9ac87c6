use Rattle.std.proofs.Common.{rules, ap, subst, ◌∙◌, ◌+◌, ◌*◌, arith}
use Rattle.mdb_model.specs.Images.{Image}
use Rattle.mdb_model.specs.Pages.{PageMap}
use Rattle.mdb_bytes.specs.Parts.{page_len}
use Rattle.data_backup.specs.declared.run.BackupRun.{BackupRun}
use Rattle.data_backup.specs.Copying.{HasLeft, IsCopying}
use Rattle.data_backup.proofs.Turns.{same_run, turn_torn, turn_goes, blank_throughout}
use Rattle.data_backup.proofs.run.copy_turn.Goals as goal

pub returns-in_err-copy_next-clause-follows : goal.returns-in_err-copy_next-clause-follows
returns-in_err-copy_next-clause-follows g c =
    g.F.FrozenPages.follows_on c.args.pages.now c.loop-run.pages c.copy_next.new.pages c.loop-run.invariant.follows c.copy_next.ensures.follows

pub returns-in_err-copy_next-clause-copying : goal.returns-in_err-copy_next-clause-copying
returns-in_err-copy_next-clause-copying g c told known copying =
    let known1 = g.F.FrozenPages.stays_known c.args.pages.now c.loop-run.pages (g.H.Host.disk c.loop-run.host).seen c.loop-run.invariant.follows
    (g.F.FrozenPages.known_off_media c.args.pages.now c.args.run.now.writer.medium (g.H.Host.disk c.args.host.now).seen (g.H.Host.disk c.loop-run.host).seen (c.loop-run.invariant.seen told).others known) in
    let same =
    ap (λ (f : Image → PageMap). f (g.H.Host.disk c.loop-run.host).seen) (g.F.FrozenPages.stays_frozen c.args.pages.now c.loop-run.pages c.loop-run.invariant.follows)
    ∙ g.F.FrozenPages.off_media c.args.pages.now c.args.run.now.writer.medium (g.H.Host.disk c.args.host.now).seen (g.H.Host.disk c.loop-run.host).seen (c.loop-run.invariant.seen told).others in
    subst (λ (p : PageMap). IsCopying c.loop-run.run p (g.H.Host.disk c.loop-run.host) → IsCopying c.copy_next.new.self p (g.H.Host.disk c.copy_next.new.host)) same (c.copy_next.ensures.copying told known1)
    (c.loop-run.invariant.copying told known copying)

pub returns-in_err-copy_next-clause-goes : goal.returns-in_err-copy_next-clause-goes
returns-in_err-copy_next-clause-goes g c told =
    let appended = ap (λ (r : BackupRun). r.writer.appended) c.loop-run.invariant.run in
    let low = c.loop-run.invariant.low in
    let high = c.loop-run.invariant.high in
    let more = c.loop-run-test.true in
    let least = c.min.ensures in
    turn_goes c.args.run.now.writer.medium c.loop-run.run.writer.medium (page_len * (1 + c.loop-run.run.writer.appended)) page_len (page_len * (1 + c.args.run.now.writer.appended)) _ (ap (λ (r : BackupRun). r.writer.medium) c.loop-run.invariant.run)
    (omega (arith, appended)) (omega (arith, appended, low, high, more, least)) _ _ _ (c.loop-run.invariant.goes told) (c.copy_next.ensures.goes told)

pub returns-in_err-copy_next-clause-blank : goal.returns-in_err-copy_next-clause-blank
returns-in_err-copy_next-clause-blank g c told blank =
    let goes = returns-in_err-copy_next-clause-goes g c told in
    blank_throughout _ _ _ _ _ (omega arith) blank goes

pub returns-in_err-copy_next-clause-whole : goal.returns-in_err-copy_next-clause-whole
returns-in_err-copy_next-clause-whole g c told known =
    let known1 = g.F.FrozenPages.stays_known c.args.pages.now c.loop-run.pages (g.H.Host.disk c.loop-run.host).seen c.loop-run.invariant.follows
    (g.F.FrozenPages.known_off_media c.args.pages.now c.args.run.now.writer.medium (g.H.Host.disk c.args.host.now).seen (g.H.Host.disk c.loop-run.host).seen (c.loop-run.invariant.seen told).others known) in
    let is = c.in_err-copy_next.ensures.whole told known1 in
    search rules

pub loop-run-preserved : goal.loop-run-preserved
loop-run-preserved g c =
    let ok = c.in_ok-copy_next.ensures.ok in
    let was = c.loop-run.invariant.run in
    let fewer = ap (λ (r : BackupRun). r.left) ok in
    let one = ap (λ (r : BackupRun). r.writer.appended) ok in
    let appended = ap (λ (r : BackupRun). r.writer.appended) c.loop-run.invariant.run in
    let low = c.loop-run.invariant.low in
    let high = c.loop-run.invariant.high in
    let more = c.loop-run-test.true in
    let least = c.min.ensures in
    record {
      low = omega (arith, fewer, more);
      high = omega (arith, fewer, high);
      run =
          same_run c.copy_next.new.self _ _ _ _ (ap (λ (r : BackupRun). r.writer.medium) ok ∙ ap (λ (r : BackupRun). r.writer.medium) was) (ap (λ (r : BackupRun). r.writer.pages) ok ∙ ap (λ (r : BackupRun). r.writer.pages) was)
          (omega (arith, fewer, one, appended, high, more)) (ap (λ (r : BackupRun). r.base) ok ∙ ap (λ (r : BackupRun). r.base) was);
      left = λ image. subst (λ (f : Image → PageMap). HasLeft c.copy_next.new.self (f image)) (g.F.FrozenPages.stays_frozen c.args.pages.now c.loop-run.pages c.loop-run.invariant.follows) (c.copy_next.ensures.left image);
      follows = g.F.FrozenPages.follows_on c.args.pages.now c.loop-run.pages c.copy_next.new.pages c.loop-run.invariant.follows c.copy_next.ensures.follows;
      copying = λ told known copying. let known1 = g.F.FrozenPages.stays_known c.args.pages.now c.loop-run.pages (g.H.Host.disk c.loop-run.host).seen c.loop-run.invariant.follows
          (g.F.FrozenPages.known_off_media c.args.pages.now c.args.run.now.writer.medium (g.H.Host.disk c.args.host.now).seen (g.H.Host.disk c.loop-run.host).seen (c.loop-run.invariant.seen told).others known) in
          let same =
          ap (λ (f : Image → PageMap). f (g.H.Host.disk c.loop-run.host).seen) (g.F.FrozenPages.stays_frozen c.args.pages.now c.loop-run.pages c.loop-run.invariant.follows)
          ∙ g.F.FrozenPages.off_media c.args.pages.now c.args.run.now.writer.medium (g.H.Host.disk c.args.host.now).seen (g.H.Host.disk c.loop-run.host).seen (c.loop-run.invariant.seen told).others in
          subst (λ (p : PageMap). IsCopying c.loop-run.run p (g.H.Host.disk c.loop-run.host) → IsCopying c.copy_next.new.self p (g.H.Host.disk c.copy_next.new.host)) same (c.copy_next.ensures.copying told known1)
          (c.loop-run.invariant.copying told known copying);
      goes = λ told. turn_goes c.args.run.now.writer.medium c.loop-run.run.writer.medium (page_len * (1 + c.loop-run.run.writer.appended)) page_len (page_len * (1 + c.args.run.now.writer.appended)) _ (ap (λ (r : BackupRun). r.writer.medium) c.loop-run.invariant.run)
          (omega (arith, appended)) (omega (arith, appended, low, high, more, least)) _ _ _ (c.loop-run.invariant.goes told) (c.copy_next.ensures.goes told);
      seen = λ told. turn_torn c.args.run.now.writer.medium c.loop-run.run.writer.medium (page_len * (1 + c.loop-run.run.writer.appended)) page_len (page_len * (1 + c.args.run.now.writer.appended)) _ (ap (λ (r : BackupRun). r.writer.medium) c.loop-run.invariant.run)
          (omega (arith, appended)) (omega (arith, appended, low, high, more, least)) _ _ _ (c.loop-run.invariant.seen told) (c.copy_next.ensures.seen told);
      later = let a = c.loop-run.invariant.later in let b = c.copy_next.ensures.later in omega (arith, a, b);
      say_faults = c.copy_next.ensures.say_faults ∙ c.loop-run.invariant.say_faults;
    }
