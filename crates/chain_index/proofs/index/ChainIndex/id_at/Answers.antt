use Rattle.std.proofs.Common.{Option, ap, ◌∙◌}
use Rattle.std.specs.Option.{option_map}
use Rattle.chain_index.specs.declared.links.Link.{Link}
use Rattle.chain_index.specs.Meaning.{journal_of}
use Rattle.chain_index.proofs.Filing.{id_found, holder_found}
use Rattle.chain_index.proofs.index.ChainIndex.id_at.Goals as goal

pub returns-in-Some-clause-id : goal.returns-in-Some-clause-id
returns-in-Some-clause-id c = λ filed is. ap (λ (o : Option Link). option_map (λ (l : Link). l.id) o) c.in-Some.ensures ∙ id_found c.args.self.now filed is c.args.owner c.args.host c.args.tag.now c.args.idx

pub returns-in-Some-clause-holder : goal.returns-in-Some-clause-holder
returns-in-Some-clause-holder c = λ filed r is numbered stands.
    ap (λ (o : Option Link). option_map (λ (l : Link). l.id) o) c.in-Some.ensures ∙ id_found c.args.self.now filed is c.args.owner c.args.host c.args.tag.now c.args.idx
    ∙ holder_found (journal_of filed) c.args.owner c.args.host c.args.idx c.args.tag.now r numbered stands

pub returns-in-None-clause-id : goal.returns-in-None-clause-id
returns-in-None-clause-id c = λ filed is. ap (λ (o : Option Link). option_map (λ (l : Link). l.id) o) c.in-None.ensures ∙ id_found c.args.self.now filed is c.args.owner c.args.host c.args.tag.now c.args.idx

pub returns-in-None-clause-holder : goal.returns-in-None-clause-holder
returns-in-None-clause-holder c = λ filed r is numbered stands.
    ap (λ (o : Option Link). option_map (λ (l : Link). l.id) o) c.in-None.ensures ∙ id_found c.args.self.now filed is c.args.owner c.args.host c.args.tag.now c.args.idx
    ∙ holder_found (journal_of filed) c.args.owner c.args.host c.args.idx c.args.tag.now r numbered stands
