use Rattle.std.proofs.Common.{◌∙◌, sym}
use Rattle.creation.proofs.Absent.{absent_same, none_size}
use Rattle.creation.proofs.devices.sync_device.Goals as goal

pub returns-then-is_none-clause-synced : goal.returns-then-is_none-clause-synced
returns-then-is_none-clause-synced g c told image left =
    absent_same ((g.H.Host.disk c.args.host.now).seen c.args.device) (image c.args.device)
    (sym (c.size.ensures.pages told) ∙ none_size c.size.result c.if-is_none.ensures) (g.met.H.Host.sizes c.args.host.now image told left c.args.device)
