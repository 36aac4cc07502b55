use Rattle.std.proofs.Common.{rules}
use Rattle.links.proofs.Exchanges.{ever, own}
use Rattle.links.proofs.exchange.exchange.Goals as goal

pub returns-in_err-send-clause-ever : goal.returns-in_err-send-clause-ever
returns-in_err-send-clause-ever g c =
    let laws = g.L.Link.lawful in
    ever _ c.args.buffer.now _ (laws c.args.link.now) _ (laws c.send.new.self) (search rules)

pub returns-clause-own : goal.returns-clause-own
returns-clause-own g c = own _ _ _ (g.L.Link.lawful c.args.link.now) _ _ (search rules) (search rules)

pub returns-clause-ever : goal.returns-clause-ever
returns-clause-ever g c =
    let laws = g.L.Link.lawful in
    ever _ c.args.buffer.now _ (laws c.args.link.now) _ (laws c.take.new.self) (search rules)
