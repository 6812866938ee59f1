use Rattle.std.proofs.Common.{List, ap}
use Rattle.serde_json.specs.View.{members_view}
use Rattle.record_model.specs.Seen.{chains_seen}
use Rattle.record_json.specs.Statuses.{chains_under}
use Rattle.record_json.proofs.Order.{members_rise}
use Rattle.record_json.proofs.StatusesRead.{Entry, with_more, chain_refused, chain_taken, chains_end}
use Rattle.record_json.proofs.status_reading.add_chains.Goals as goal

pub tags-init : goal.tags-init
tags-init c = ap (λ (es : List Entry). with_more (chains_seen c.args.chains.now.items) (chains_under c.args.host (members_view es))) c.into_iter-tag-iterator.ensures.into_iter_gives.0

pub returns-then-not-branch : goal.returns-then-not-branch
returns-then-not-branch c = record {
  value =
      chain_refused c.args.host c.in-Some.tag.now c.in-Some.value.now c.next.new.self c.tags.tag-iterator c.args.tags.now.entries (chains_seen c.args.chains.now.items) (chains_seen c.tags.chains.items) (chains_seen c.add_chain.new.chains.items) c.as_str.result.now c.in_ok-add_chain.field-0
      c.as_str.ensures.value c.in-Some.ensures.steps c.tags.invariant c.in_ok-add_chain.ensures c.if-not-branch.true;
  rises = members_rise c.args.tags.now.entries c.into_iter-tag-iterator.ensures.into_iter_gives.5;
}

pub tags-preserved : goal.tags-preserved
tags-preserved c =
    chain_taken c.args.host c.in-Some.tag.now c.in-Some.value.now c.next.new.self c.tags.tag-iterator c.args.tags.now.entries (chains_seen c.args.chains.now.items) (chains_seen c.tags.chains.items) (chains_seen c.add_chain.new.chains.items) c.as_str.result.now c.in_ok-add_chain.field-0
    c.as_str.ensures.value c.in-Some.ensures.steps c.tags.invariant c.in_ok-add_chain.ensures c.if-not-branch.false

pub returns : goal.returns
returns c = record {
  value = chains_end c.args.host c.tags.tag-iterator c.args.tags.now.entries (chains_seen c.args.chains.now.items) (chains_seen c.tags.chains.items) c.in-None.ensures.steps.0 c.tags.invariant;
  rises = members_rise c.args.tags.now.entries c.into_iter-tag-iterator.ensures.into_iter_gives.5;
}
