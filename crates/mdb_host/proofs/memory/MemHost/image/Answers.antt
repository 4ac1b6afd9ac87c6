use Rattle.std.proofs.Common.{◌≡◌, ◌∙◌, sym, refl, subst, take}
use Rattle.mdb_host.specs.Memory.{AllWhole, image_of, shape, at_first, picked}
use Rattle.mdb_host.proofs.Moments.{same_image}
use Rattle.mdb_host.proofs.Picked.{picked_left}
use Rattle.mdb_host.proofs.Whole.{whole_picked}
use Rattle.mdb_host.proofs.memory.MemHost.image.Goals as goal

pub holding-requires : goal.holding-requires
holding-requires c = subst AllWhole (sym c.in-Ok.ensures) (whole_picked c.args.pick (take c.args.at c.args.self.now.calls.items) 0 (image_of c.args.self.now.start.slots.items) c.args.self.now.whole)

pub returns-in-Ok-holding-clause-left : goal.returns-in-Ok-holding-clause-left
returns-in-Ok-holding-clause-left c =
    let start = image_of c.args.self.now.start.slots.items in
    let calls = take c.args.at c.args.self.now.calls.items in
    let host = c.in-Ok-holding.host in
    let seen = (shape host.calls.items (at_first (image_of host.start.slots.items))).seen in
    let is : picked c.args.pick 0 calls start ≡ seen = sym c.in-Ok.ensures ∙ same_image (image_of c.in-Ok.devices.slots.items) seen c.in-Ok-holding.ensures.fresh.seen in
    (c.requires, subst (shape calls (at_first start)).left is (picked_left c.args.pick calls 0 (at_first start) start (λ e. refl) (λ e settles. refl)))
