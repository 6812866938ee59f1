use Rattle.std.proofs.Common.{◌≡◌, take}
use Rattle.record_model.specs.Seen.{chains_seen}
use Rattle.printing.specs.Lines.{chain_lines}
use Rattle.printing.proofs.chains.chains_text.Given as goal

abbrev pub invariant-loop-chain : goal.invariant-loop-chain
invariant-loop-chain l = l.out.items ≡ chain_lines (chains_seen (take l.chain-index l.chains))
