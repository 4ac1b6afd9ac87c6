use Rattle.std.proofs.Common.{◌≡◌, refl, sym, ap, subst, ◌∙◌, ℕ, ◌+◌, List, Option, Some, arith}
use Rattle.medium_file.specs.declared.writer.MediumWriter.{MediumWriter}
use Rattle.data_backup.specs.Copying.{IsCopying}
use Rattle.data_backup.specs.Frozen.{IsFirstOf, pages_left}
use Rattle.data_backup.proofs.Copied.{agree_torn, agree_then_torn, left_count, none_left, copied_on, copying_kept, writing_agree}
use Rattle.data_backup.proofs.run.BackupRun.copy_next.Goals as goal

pub returns-in_err-number-clause-goes : goal.returns-in_err-number-clause-goes
returns-in_err-number-clause-goes g c told = agree_torn _ _ _ _ _ (c.next_page.ensures.reads.calm told)

pub returns-in_default-clause-goes : goal.returns-in_default-clause-goes
returns-in_default-clause-goes g c told = agree_torn _ _ _ _ _ (c.next_page.ensures.reads.calm told)

pub returns-in_default-clause-ok : goal.returns-in_default-clause-ok
returns-in_default-clause-ok g c =
    let image = λ (d : _). Rattle.std.proofs.Common.None in
    absurd (none_left _ c.args.self.now.left (c.requires.left image) c.requires.some
    (subst (λ (o : Option ℕ). IsFirstOf o (pages_left c.args.self.now.base c.args.self.now.last (g.F.FrozenPages.frozen c.args.pages.now image))) c.in_default.is (c.in_ok-number.ensures.found image)))

pub returns-in_default-append_page-clause-goes : goal.returns-in_default-append_page-clause-goes
returns-in_default-append_page-clause-goes g c told = agree_then_torn _ _ _ _ _ _ (c.next_page.ensures.reads.calm told) ((c.append_page.ensures.calls told).goes)

pub returns-clause-goes : goal.returns-clause-goes
returns-clause-goes g c told = agree_then_torn _ _ _ _ _ _ (c.next_page.ensures.reads.calm told) ((c.append_page.ensures.calls told).goes)

pub returns-clause-left : goal.returns-clause-left
returns-clause-left g c image =
    left_count c.args.self.now.base c.args.self.now.left c.args.self.now.last _ c.in-Some.number
    (subst (λ (o : Option ℕ). IsFirstOf o (pages_left c.args.self.now.base c.args.self.now.last (g.F.FrozenPages.frozen c.args.pages.now image))) c.in-Some.is (c.in_ok-number.ensures.found image))
    (c.requires.left image)

pub returns-clause-copying : goal.returns-clause-copying
returns-clause-copying g c told known copying =
    let seen = (g.H.Host.disk c.args.host.now).seen in
    let first =
    subst (λ (o : Option ℕ). IsFirstOf o (pages_left c.args.self.now.base c.args.self.now.last (g.F.FrozenPages.frozen c.args.pages.now seen))) c.in-Some.is (c.in_ok-number.ensures.found seen) in
    let mid = writing_agree c.args.self.now copying.content _ _ (c.next_page.ensures.reads.calm told) (c.next_page.ensures.reads.seen told) copying.writing in
    record {
      content = _;
      writing = c.in-Ok.ensures.writing told copying.content mid;
      copied =
          copied_on c.args.self.now _ _ copying.content c.next_page.new.into (c.in-Some.number, first.0) first.1 refl refl (ap (λ (w : MediumWriter). w.appended) c.in-Ok.ensures.ok) first.2
          (c.in_ok-number.ensures.bytes told known (c.in-Some.number, first.0) first.1 first.2) copying.copied;
    }

pub returns-in_err-number-clause-copying : goal.returns-in_err-number-clause-copying
returns-in_err-number-clause-copying g c told known copying =
    copying_kept c.args.self.now _ _ _ (λ content writing. writing_agree c.args.self.now content _ _ (c.next_page.ensures.reads.calm told) (c.next_page.ensures.reads.seen told) writing) copying

pub returns-in_default-append_page-clause-copying : goal.returns-in_default-append_page-clause-copying
returns-in_default-append_page-clause-copying g c told known copying =
    let pages = g.F.FrozenPages.frozen c.args.pages.now (g.H.Host.disk c.args.host.now).seen in
    let kept = copying_kept c.args.self.now pages (g.H.Host.disk c.args.host.now) (g.H.Host.disk c.append_page.new.host)
    (λ content writing.
    c.append_page.ensures.kept told content (writing_agree c.args.self.now content _ _ (c.next_page.ensures.reads.calm told) (c.next_page.ensures.reads.seen told) writing)) copying in
    subst (λ (w : MediumWriter). IsCopying record { writer = w; base = c.args.self.now.base; last = c.args.self.now.last; left = c.args.self.now.left } pages (g.H.Host.disk c.append_page.new.host))
    (sym c.in_default-append_page.ensures.err) kept
