use Rattle.std.proofs.Common.{refl}
use Rattle.at_edge.proofs.ExchangeLaws.{gave_on}
use Rattle.at_edge.proofs.exchanges.Exchanges.give.Goals as goal

pub returns-clause-gave : goal.returns-clause-gave
returns-clause-gave c = λ before after kept.
    let now = c.args.self.now in
    gave_on now.is_under_way now.current (record { request = now.current.request; response = c.give.new.self }) now.earlier.items c.give.new.into c.give.result before after c.if-not-self.false refl c.give.ensures.bytes c.give.ensures.at c.give.ensures.given kept
