use Rattle.std.proofs.Common.{ap, ◌∙◌}
use Rattle.record_model.specs.Seen.{chains_seen}
use Rattle.chain_index.proofs.Listing.{status_is}
use Rattle.chain_index.proofs.index.ChainIndex.status.Goals as goal

pub returns-in_ok-status-in-Some : goal.returns-in_ok-status-in-Some
returns-in_ok-status-in-Some c = λ filed is.
    ap chains_seen c.from_vec.ensures
    ∙ status_is c.args.self.now filed c.args.owner c.in-Some.chains.now (chains_seen c.in_ok-status-in-Some.field-0.items) c.in-Some.ensures c.in_ok-status-in-Some.ensures is
