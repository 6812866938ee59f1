use Rattle.std.proofs.Common.{List, ap₂, subst, sym, ◌∙◌, ℕ}
use Rattle.record_model.specs.Seen.{chains_seen}
use Rattle.record_model.specs.declared.places.Chain.{Chain}
use Rattle.record_json.specs.Statuses.{chains_of_all}
use Rattle.record_json.specs.StatusOrder.{AllRise}
use Rattle.record_json.specs.StatusReading.{hosts_seen}
use Rattle.record_json.proofs.Order.{in_order}
use Rattle.record_json.proofs.StatusesRead.{Tags, with_more, all_refused, all_taken, all_end, with_none}
use Rattle.record_json.proofs.status_reading.chains_of.Goals as goal

abbrev Rising : List (ℕ × Tags) → Type 0
Rising es = AllRise (hosts_seen es)

pub hosts-init : goal.hosts-init
hosts-init c = (
  ap₂ (λ (l : List Chain) (es : List (ℕ × Tags)). with_more (chains_seen l) (chains_of_all (hosts_seen es))) c.new-chains.ensures.items c.into_iter-host-iterator.ensures.into_iter_gives.0
      ∙ with_none (chains_of_all (hosts_seen c.args.hosts.now.entries)),
  λ rising. subst Rising c.into_iter-host-iterator.ensures.into_iter_gives.0 rising,
)

pub returns-then-not-branch : goal.returns-then-not-branch
returns-then-not-branch c = record {
  value =
      all_refused c.in-Some.host.now c.in-Some.tags.now c.next.new.self c.hosts.host-iterator c.args.hosts.now.entries (chains_seen c.hosts.chains.items) (chains_seen c.add_chains.new.chains.items) c.in_ok-add_chains.field-0
      c.in-Some.ensures.steps c.hosts.invariant.0 c.in_ok-add_chains.ensures.value c.if-not-branch.true;
  in_order = tt;
}

pub hosts-preserved : goal.hosts-preserved
hosts-preserved c = (
  all_taken c.in-Some.host.now c.in-Some.tags.now c.next.new.self c.hosts.host-iterator c.args.hosts.now.entries (chains_seen c.hosts.chains.items) (chains_seen c.add_chains.new.chains.items) c.in_ok-add_chains.field-0
      c.in-Some.ensures.steps c.hosts.invariant.0 c.in_ok-add_chains.ensures.value c.if-not-branch.false,
  λ rising. c.hosts.invariant.1 (subst Rising (sym c.in-Some.ensures.steps) (c.in_ok-add_chains.ensures.rises, rising)),
)

pub returns : goal.returns
returns c =
    let all = all_end c.hosts.host-iterator c.args.hosts.now.entries (chains_seen c.hosts.chains.items) c.in-None.ensures.steps.0 c.hosts.invariant.0 in
    record {
      value = all;
      in_order = in_order c.args.hosts.now.entries (chains_seen c.hosts.chains.items) c.into_iter-host-iterator.ensures.into_iter_gives.5
          (c.hosts.invariant.1 (subst Rising (sym c.in-None.ensures.steps.0) tt)) all;
    }
