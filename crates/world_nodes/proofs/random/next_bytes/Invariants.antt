use Rattle.std.proofs.Common.{◌≡◌}
use Rattle.world_nodes.specs.Random.{state_after, word_bytes}
use Rattle.world_nodes.proofs.random.next_bytes.Given as goal

abbrev pub invariant-loop : goal.invariant-loop
invariant-loop l = (l.bytes.items ≡ word_bytes l.fn.state l.counter) × (l.generator ≡ state_after l.fn.state l.counter)
