use Rattle.std.proofs.Common.{ap, subst, ◌∙◌, ℕ, List}
use Rattle.mdb_model.specs.Pages.{written_after}
use Rattle.mdb_host.specs.Disk.{Goes, Arrives}
use Rattle.mdb_bytes.specs.WholeBackups.{pages_spelled}
use Rattle.medium_file.specs.Writing.{Seals, Sealed}
use Rattle.data_backup.proofs.Copied.{all_copied}
use Rattle.data_backup.proofs.run.finish.Goals as goal

pub returns-in-Ok-clause-any_moment : goal.returns-in-Ok-clause-any_moment
returns-in-Ok-clause-any_moment g c told pages has copying =
    let is = all_copied c.args.run pages copying.content has c.requires.copied copying.copied ∙ ap (λ (b : ℕ). pages_spelled (written_after b pages)) c.requires.kind.0 in
    subst (λ (l : List ℕ). Goes (g.H.Host.disk c.args.host.now) (g.H.Host.disk c.seal.new.host) (Seals c.args.run.writer.medium c.args.header.now l)) is
    (c.seal.ensures.any_moment told copying.content copying.writing)

pub returns-in-Err-clause-any_moment : goal.returns-in-Err-clause-any_moment
returns-in-Err-clause-any_moment g c told pages has copying =
    let is = all_copied c.args.run pages copying.content has c.requires.copied copying.copied ∙ ap (λ (b : ℕ). pages_spelled (written_after b pages)) c.requires.kind.0 in
    subst (λ (l : List ℕ). Goes (g.H.Host.disk c.args.host.now) (g.H.Host.disk c.seal.new.host) (Seals c.args.run.writer.medium c.args.header.now l)) is
    (c.seal.ensures.any_moment told copying.content copying.writing)

pub returns-in-Ok-clause-whole : goal.returns-in-Ok-clause-whole
returns-in-Ok-clause-whole g c told pages has copying =
    let is = all_copied c.args.run pages copying.content has c.requires.copied copying.copied ∙ ap (λ (b : ℕ). pages_spelled (written_after b pages)) c.requires.kind.0 in
    subst (λ (l : List ℕ). Arrives (g.H.Host.disk c.args.host.now) (g.H.Host.disk c.seal.new.host) (Sealed c.args.run.writer.medium c.args.header.now l)) is
    (c.in-Ok.ensures.there told copying.content copying.writing)
