use Rattle.std.proofs.Common.{◌≡◌, ◌++◌}
use Rattle.std.specs.Prelude.{All}
use Rattle.std.specs.Map.{keys_of}
use Rattle.record_model.specs.Seen.{chains_seen}
use Rattle.chain_index.specs.Chains.{IsTag, counts_in}
use Rattle.chain_index.proofs.tags.Tags.list.Given as goal

abbrev pub invariant-loop-tag : goal.invariant-loop-tag
invariant-loop-tag l =
    All IsTag (keys_of l.tag-iterator) ×
    (chains_seen l.status.items ++ counts_in l.host l.tag-iterator ≡ chains_seen l.fn.status.items ++ counts_in l.host l.self)
