use Rattle.std.proofs.Common.{Option, ap, ◌∙◌}
use Rattle.std.specs.Option.{option_map}
use Rattle.chain_index.specs.declared.links.Link.{Link}
use Rattle.chain_index.proofs.Filing.{spot_found}
use Rattle.chain_index.proofs.index.ChainIndex.spot_at.Goals as goal

pub returns-in-Some : goal.returns-in-Some
returns-in-Some c = λ filed is. ap (λ (o : Option Link). option_map (λ (l : Link). (l.spot, l.at)) o) c.in-Some.ensures ∙ spot_found c.args.self.now filed is c.args.owner c.args.host c.args.tag.now c.args.idx

pub returns-in-None : goal.returns-in-None
returns-in-None c = λ filed is. ap (λ (o : Option Link). option_map (λ (l : Link). (l.spot, l.at)) o) c.in-None.ensures ∙ spot_found c.args.self.now filed is c.args.owner c.args.host c.args.tag.now c.args.idx
