use Rattle.std.proofs.Common.{◌≡◌}
use Rattle.serde_json.specs.View.{members_view}
use Rattle.record_model.specs.Seen.{chains_seen}
use Rattle.record_json.specs.Statuses.{chains_under}
use Rattle.record_json.proofs.StatusesRead.{with_more}
use Rattle.record_json.proofs.status_reading.add_chains.Given as goal

abbrev pub invariant-tags : goal.invariant-tags
invariant-tags l = with_more (chains_seen l.chains.items) (chains_under l.host (members_view l.tag-iterator)) ≡ with_more (chains_seen l.fn.chains.items) (chains_under l.host (members_view l.tags.entries))
