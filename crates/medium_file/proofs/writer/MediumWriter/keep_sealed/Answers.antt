use Rattle.std.proofs.Common.{◌∙◌, ap, arith}
use Rattle.mdb_model.specs.Images.{size_of}
use Rattle.mdb_model.specs.declared.fault.Device.TheVariants.{Medium}
use Rattle.mdb_host.proofs.Moments.{on_ok}
use Rattle.mdb_bytes.specs.Parts.{page_len}
use Rattle.mdb_bytes.specs.SlotRecords.{slot_len}
use Rattle.medium_file.proofs.Sealing.{sync_torn, torn_on, sync_seals, header_seals, seals, sealed_arrives}
use Rattle.medium_file.proofs.writer.MediumWriter.keep_sealed.Goals as goal

pub returns-in_err-keep_pages-clause-any_moment : goal.returns-in_err-keep_pages-clause-any_moment
returns-in_err-keep_pages-clause-any_moment g c told content writing =
    sync_seals c.args.self.now.medium c.args.header.now content c.requires.keeps _ _ writing.blank (c.keep_pages.ensures.goes told)

pub returns-in_err-keep_pages-clause-torn : goal.returns-in_err-keep_pages-clause-torn
returns-in_err-keep_pages-clause-torn g c told = sync_torn (Medium c.args.self.now.medium) page_len _ _ (c.keep_pages.ensures.goes told)

pub returns-in_err-write_header-clause-any_moment : goal.returns-in_err-write_header-clause-any_moment
returns-in_err-write_header-clause-any_moment g c told content writing =
    header_seals c.args.self.now.medium c.args.header.now content c.requires.keeps _ _ writing.blank (c.keep_pages.ensures.goes told) _ (c.write_header.ensures.goes told)

pub returns-in_err-write_header-clause-torn : goal.returns-in_err-write_header-clause-torn
returns-in_err-write_header-clause-torn g c told =
    torn_on (Medium c.args.self.now.medium) 0 slot_len page_len _ _ _ (omega arith) (sync_torn (Medium c.args.self.now.medium) page_len _ _ (c.keep_pages.ensures.goes told)) (c.write_header.ensures.goes told)

pub returns-clause-torn : goal.returns-clause-torn
returns-clause-torn g c told =
    torn_on (Medium c.args.self.now.medium) slot_len 1 page_len _ _ _ (omega arith)
    (torn_on (Medium c.args.self.now.medium) 0 slot_len page_len _ _ _ (omega arith) (sync_torn (Medium c.args.self.now.medium) page_len _ _ (c.keep_pages.ensures.goes told)) (c.write_header.ensures.goes told))
    (c.write_gate.ensures.goes told)

pub returns-clause-any_moment : goal.returns-clause-any_moment
returns-clause-any_moment g c told content writing =
    let d = Medium c.args.self.now.medium in
    let within = c.requires.within told in
    seals c.args.self.now.medium c.args.header.now content c.requires.keeps _ _ writing.blank (c.keep_pages.ensures.goes told) _ (c.write_header.ensures.goes told) writing.behind (c.keep_pages.ensures.seen told)
    (c.in_ok-keep_pages.ensures.kept told)
    (λ image left. (
      within.0,
      g.met.H.Host.sizes c.write_header.new.host image told left d ∙ (c.write_header.ensures.seen told).size ∙ ap size_of (c.keep_pages.ensures.seen told d) ∙ within.1,
      omega (arith, within.2, writing.count),
    ))
    (c.in_ok-write_header.ensures.kept told) _ (c.write_gate.ensures.goes told)

pub returns-clause-there : goal.returns-clause-there
returns-clause-there g c = on_ok c.write_gate.result _ _ (λ opened told content writing.
    let d = Medium c.args.self.now.medium in
    let within = c.requires.within told in
    sealed_arrives c.args.self.now.medium c.args.header.now content c.requires.keeps _ _ writing.blank (c.keep_pages.ensures.goes told) _ (c.write_header.ensures.goes told) writing.behind (c.keep_pages.ensures.seen told)
    (c.in_ok-keep_pages.ensures.kept told)
    (λ image left. (
      within.0,
      g.met.H.Host.sizes c.write_header.new.host image told left d ∙ (c.write_header.ensures.seen told).size ∙ ap size_of (c.keep_pages.ensures.seen told d) ∙ within.1,
      omega (arith, within.2, writing.count),
    ))
    (c.in_ok-write_header.ensures.kept told) _ (c.write_gate.ensures.goes told) (opened told)) c.write_gate.ensures.kept
