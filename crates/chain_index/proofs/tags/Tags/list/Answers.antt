use Rattle.std.proofs.Common.{◌≡◌, ◌++◌, List, Vec, Global, ℕ, sym, ap, subst, ◌∙◌}
use Rattle.std.specs.Prelude.{All}
use Rattle.std.specs.Map.{keys_of}
use Rattle.std.proofs.lemmas.List.Elements.{All-head, All-tail}
use Rattle.record_rules.specs.Journal.{ChainCount}
use Rattle.record_model.specs.Seen.{chains_seen}
use Rattle.chain_index.specs.Chains.{ChainSeen, TagsSeen, IsTag, counts_in}
use Rattle.chain_index.proofs.Listing.{listed_more}
use Rattle.chain_index.proofs.tags.Tags.list.Goals as goal

pub loop-tag-init : goal.loop-tag-init
loop-tag-init c =
    let given : c.into_iter-tag-iterator.result ≡ c.self.inside.chains.entries = c.into_iter-tag-iterator.ensures.into_iter_gives ∙ c.iter-tag-items.ensures.rest in
    (subst (λ (ts : TagsSeen). All IsTag (keys_of ts)) (sym given) c.self.invariant, ap (λ (ts : TagsSeen). chains_seen c.args.status.now.items ++ counts_in c.args.host ts) (given ∙ c.self.view_is))

pub list_one-requires : goal.list_one-requires
list_one-requires c =
    All-head IsTag c.in-Some.tag.now (keys_of c.next.new.self) (subst (λ (ts : TagsSeen). All IsTag (keys_of ts)) c.in-Some.ensures.steps c.loop-tag.invariant.0)

pub loop-tag-preserved : goal.loop-tag-preserved
loop-tag-preserved c =
    let e : Vec ℕ Global × ChainSeen = (c.in-Some.tag.now, c.in-Some.links.now) in
    let all : List ChainCount = chains_seen c.args.status.now.items ++ counts_in c.args.host c.args.self.now in (
      All-tail IsTag c.in-Some.tag.now (keys_of c.next.new.self) (subst (λ (ts : TagsSeen). All IsTag (keys_of ts)) c.in-Some.ensures.steps c.loop-tag.invariant.0),
      listed_more c.args.host e c.next.new.self c.len.result (chains_seen c.loop-tag.status.items) (chains_seen c.list_one.new.status.items) all c.len.ensures c.in_ok-list_one.ensures
          (subst (λ (ts : TagsSeen). chains_seen c.loop-tag.status.items ++ counts_in c.args.host ts ≡ all) c.in-Some.ensures.steps c.loop-tag.invariant.1),
    )
