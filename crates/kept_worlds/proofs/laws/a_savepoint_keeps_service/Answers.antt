use Rattle.std.proofs.Common.{arith}
use Rattle.kept_worlds.proofs.Saving.{each_stands, service_saved}
use Rattle.kept_worlds.proofs.laws.a_savepoint_keeps_service.Goals as goal

pub returns-clause-at_each_moment : goal.returns-clause-at_each_moment
returns-clause-at_each_moment g c slots r info saved done rest s d e w commit position service sound rows ends saves stand plain way =
    each_stands g.H.Host.tells slots r info saved done rest s (g.H.Host.disk d) (g.H.Host.disk e) commit position service sound rows ends saves w stand plain way

pub returns-clause-after : goal.returns-clause-after
returns-clause-after g c slots slots2 r next info saved done rest s t d e w commit position service sound rows ends saves stand plain way can is same stamped area = (
  service_saved g.H.Host.tells slots r info saved done rest s (g.H.Host.disk d) (g.H.Host.disk e) commit position service sound rows ends saves w stand plain way t slots2 next can is same stamped area,
  (let each = each_stands g.H.Host.tells slots r info saved done rest s (g.H.Host.disk d) (g.H.Host.disk e) commit position service sound rows ends saves w stand plain way in
      λ image left. each.each (g.H.Host.disk e).now image each.keeps.later (omega arith) left),
)
