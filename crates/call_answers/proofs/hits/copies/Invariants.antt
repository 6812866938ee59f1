use Rattle.std.proofs.Common.{◌≡◌, take}
use Rattle.record_model.specs.Seen.{histories_seen}
use Rattle.search_query.specs.Answers.{seen_of}
use Rattle.call_answers.proofs.hits.copies.Given as goal

abbrev pub invariant-loop-command : goal.invariant-loop-command
invariant-loop-command l = histories_seen l.hits.items ≡ seen_of (take l.command-index l.shown)
