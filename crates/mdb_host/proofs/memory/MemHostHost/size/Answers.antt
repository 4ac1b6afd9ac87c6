use Rattle.std.proofs.Common.{◌∙◌, sym, ap}
use Rattle.mdb_model.specs.Images.{size_of}
use Rattle.mdb_host.specs.Memory.{image_of, shape, at_first}
use Rattle.mdb_host.proofs.Whole.{whole_shape, whole_pages}
use Rattle.mdb_host.proofs.memory.MemHostHost.size.Goals as goal

pub returns-in-Some-clause-whole : goal.returns-in-Some-clause-whole
returns-in-Some-clause-whole c told =
    let start = image_of c.args.self.now.start.slots.items in
    let calls = c.args.self.now.calls.items in
    let seen = (shape calls (at_first start)).seen in
    whole_pages (seen c.args.device) c.in-Some.bytes (ap size_of (λ i. sym c.args.self.now.seen i c.args.device) ∙ sym c.size.ensures ∙ c.in-Some.is) (whole_shape calls (at_first start) c.args.self.now.whole c.args.device)
