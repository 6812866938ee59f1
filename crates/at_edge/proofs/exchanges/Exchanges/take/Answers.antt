use Rattle.std.proofs.Common.{refl}
use Rattle.at_edge.proofs.ExchangeLaws.{took_none}
use Rattle.at_edge.proofs.exchanges.Exchanges.take.Goals as goal

pub returns-then-not-self-clause-undone : goal.returns-then-not-self-clause-undone
returns-then-not-self-clause-undone c = λ before after kept.
    let now = c.args.self.now in
    took_none now.is_under_way now.current now.current now.earlier.items before after refl refl kept

pub returns-in-Err-clause-undone : goal.returns-in-Err-clause-undone
returns-in-Err-clause-undone c = λ before after kept.
    let now = c.args.self.now in
    took_none now.is_under_way now.current (record { request = c.extend_from_slice.new.self; response = now.current.response }) now.earlier.items before after c.in-Err.ensures.items refl kept
