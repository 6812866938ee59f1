use Rattle.std.proofs.Common.{subst}
use Rattle.chain_index.specs.Chains.{TagsSeen, TagsGrow}
use Rattle.chain_index.proofs.Levels.{tags_stay, tag_grows}
use Rattle.chain_index.proofs.tags.Tags.reserve_in.Goals as goal

pub invariant_of-self : goal.invariant_of-self
invariant_of-self c = tags_stay c.self.inside.chains.entries (c.get_mut.follows.lender c.reserve.new.self).entries c.args.tag.now c.in-Some.chain.now c.reserve.new.self c.in-Some.ensures.value (c.get_mut.follows.holds c.reserve.new.self).0 c.self.invariant

pub returns-clause-grows : goal.returns-clause-grows
returns-clause-grows c =
    subst (λ (ts : TagsSeen). TagsGrow ts (c.get_mut.follows.lender c.reserve.new.self).entries) c.self.view_is
    (tag_grows c.self.inside.chains.entries (c.get_mut.follows.lender c.reserve.new.self).entries c.args.tag.now c.in-Some.chain.now c.reserve.new.self c.in-Some.ensures.value (c.get_mut.follows.holds c.reserve.new.self).0 c.reserve.ensures.links c.reserve.ensures.kept)
