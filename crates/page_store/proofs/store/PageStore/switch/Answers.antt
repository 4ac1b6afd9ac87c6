use Rattle.page_store.proofs.Knowing.{switch_known}
use Rattle.page_store.proofs.store.PageStore.switch.Goals as goal

pub returns-clause-known : goal.returns-clause-known
returns-clause-known g c big known =
    switch_known g.H.Host.tells c.args.self.now c.args.slots.now.place (g.H.Host.disk c.args.host.now).seen (g.H.Host.disk c.switch.new.host).seen c.blocks-blocks.ensures.sound c.requires.may.place big c.switch.ensures.switches.seen known
