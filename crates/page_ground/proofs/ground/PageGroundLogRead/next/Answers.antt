use Rattle.std.proofs.Common.{refl}
use Rattle.mdb_model.specs.declared.fault.Device.TheVariants.{Log}
use Rattle.page_store.proofs.Lending.{keeps_none}
use Rattle.page_ground.proofs.Log.{reads_next, next_found, next_shorter, next_cause}
use Rattle.page_ground.proofs.Holds.{holding_read}
use Rattle.page_ground.proofs.ground.PageGroundLogRead.next.Goals as goal

pub returns-clause-found : goal.returns-clause-found
returns-clause-found g c = λ k.
    let s = c.args.self.now in
    next_found g.H.Host.tells s.reader c.next_if_there.new.self (g.H.Host.disk s.host.now).seen (g.H.Host.disk c.next_if_there.new.host).seen c.next_if_there.new.into s.order c.next_if_there.result
    (λ told. c.next_if_there.ensures.seen told Log) c.next_if_there.ensures.goes (λ known. c.next_if_there.ensures.next known.told known.ring _ known.log known.room) k.1

pub returns-clause-same : goal.returns-clause-same
returns-clause-same g c = λ k.
    let s = c.args.self.now in
    let reads = reads_next g.H.Host.tells s.reader c.next_if_there.new.self (g.H.Host.disk s.host.now).seen (g.H.Host.disk c.next_if_there.new.host).seen c.next_if_there.new.into s.order c.next_if_there.result
    (λ told. c.next_if_there.ensures.seen told Log) c.next_if_there.ensures.goes (λ known. c.next_if_there.ensures.next known.told known.ring _ known.log known.room) in
    holding_read g.H.Host.tells s.store.now _ _ s.reader c.next_if_there.new.self c.next_if_there.result c.next_if_there.ensures.seen reads k.0 k.1

pub returns-clause-shorter : goal.returns-clause-shorter
returns-clause-shorter g c =
    let s = c.args.self.now in
    next_shorter g.H.Host.tells s.reader c.next_if_there.new.self (g.H.Host.disk s.host.now).seen (g.H.Host.disk c.next_if_there.new.host).seen c.next_if_there.new.into s.order c.next_if_there.result
    c.next_if_there.ensures.goes c.next_if_there.ensures.order

pub returns-clause-cause : goal.returns-clause-cause
returns-clause-cause g c =
    let s = c.args.self.now in
    next_cause g.H.Host.tells s.reader c.next_if_there.new.self (g.H.Host.disk s.host.now).seen (g.H.Host.disk c.next_if_there.new.host).seen c.next_if_there.new.into s.order _ _ c.next_if_there.result
    c.next_if_there.ensures.later c.next_if_there.ensures.cause (λ known. c.next_if_there.ensures.next known.told known.ring _ known.log known.room)

pub returns-clause-follows : goal.returns-clause-follows
returns-clause-follows g c =
    let s = c.args.self.now in (
      refl,
      refl,
      refl,
      refl,
      refl,
      keeps_none g.H.Host.tells s.store.now s.store.now (g.H.Host.disk s.host.now) (g.H.Host.disk c.next_if_there.new.host) refl c.next_if_there.ensures.calm c.next_if_there.ensures.seen,
      c.next_if_there.ensures.say_faults,
      reads_next g.H.Host.tells s.reader c.next_if_there.new.self (g.H.Host.disk s.host.now).seen (g.H.Host.disk c.next_if_there.new.host).seen c.next_if_there.new.into s.order c.next_if_there.result
          (λ told. c.next_if_there.ensures.seen told Log) c.next_if_there.ensures.goes (λ known. c.next_if_there.ensures.next known.told known.ring _ known.log known.room),
    )
