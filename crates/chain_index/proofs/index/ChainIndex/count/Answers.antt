use Rattle.std.proofs.Common.{length, ap, ◌∙◌}
use Rattle.chain_index.specs.Chains.{OwnerSeen, chain_of_owner}
use Rattle.chain_index.proofs.Filing.{counted}
use Rattle.chain_index.proofs.index.ChainIndex.count.Goals as goal

pub returns-in-Some-clause-counts : goal.returns-in-Some-clause-counts
returns-in-Some-clause-counts c = λ filed is.
    c.count.ensures ∙ ap (λ (o : OwnerSeen). length (chain_of_owner o c.args.host c.args.tag.now).links) c.in-Some.ensures ∙ counted c.args.self.now filed is c.args.owner c.args.host c.args.tag.now
