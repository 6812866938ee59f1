use Rattle.std.proofs.Common.{sym, ap, subst, ◌<◌, length, ◌∙◌}
use Rattle.chain_index.specs.Chains.{TagsSeen, ChainSeen, chain_in, PutsTag}
use Rattle.chain_index.proofs.Levels.{tags_stay, tag_put, tag_there}
use Rattle.chain_index.proofs.tags.Tags.add.Goals as goal

pub add-requires : goal.add-requires
add-requires c =
    subst (λ (x : ChainSeen). length x.links < x.reserved)
    (sym (tag_there c.self.inside.chains.entries c.args.tag.now c.in-Some.chain.now c.in-Some.ensures.value ∙ ap (λ (ts : TagsSeen). chain_in ts c.args.tag.now) c.self.view_is)) c.requires

pub invariant_of-self : goal.invariant_of-self
invariant_of-self c = tags_stay c.self.inside.chains.entries (c.get_mut.follows.lender c.add.new.self).entries c.args.tag.now c.in-Some.chain.now c.add.new.self c.in-Some.ensures.value (c.get_mut.follows.holds c.add.new.self).0 c.self.invariant

pub returns : goal.returns
returns c =
    subst (λ (ts : TagsSeen). PutsTag c.args.tag.now c.args.link ts (c.get_mut.follows.lender c.add.new.self).entries) c.self.view_is
    (tag_put c.self.inside.chains.entries (c.get_mut.follows.lender c.add.new.self).entries c.args.tag.now c.in-Some.chain.now c.add.new.self c.in-Some.ensures.value (c.get_mut.follows.holds c.add.new.self).0 c.args.link c.add.ensures.links c.add.ensures.kept)
