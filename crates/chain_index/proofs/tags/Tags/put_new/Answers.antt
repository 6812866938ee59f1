use Rattle.std.proofs.Common.{ap, ◌∙◌}
use Rattle.chain_index.specs.Chains.{TagsSeen, find_tag, chain_in}
use Rattle.chain_index.proofs.Levels.{tags_with, tags_alike, tag_new}
use Rattle.chain_index.proofs.tags.Tags.put_new.Goals as goal

pub invariant_of-self : goal.invariant_of-self
invariant_of-self c = tags_with c.self.inside.chains.entries c.insert.new.self.entries c.args.tag c.args.none c.in-Ok.ensures.entries c.requires.text c.self.invariant

pub returns-in-Ok-clause-same : goal.returns-in-Ok-clause-same
returns-in-Ok-clause-same c = λ t.
    tag_new c.self.inside.chains.entries c.insert.new.self.entries c.args.tag c.args.none c.in-Ok.ensures.entries
    (ap (λ (ts : TagsSeen). find_tag ts c.args.tag.items) c.self.view_is ∙ c.requires.absent) (λ i. record { links = c.requires.links i; reserved = c.requires.reserved i }) t
    ∙ ap (λ (ts : TagsSeen). chain_in ts t) c.self.view_is

pub invariant_of-self-2 : goal.invariant_of-self-2
invariant_of-self-2 c = tags_alike c.self.inside.chains.entries c.insert.new.self.entries c.in-Err.ensures.err c.self.invariant
