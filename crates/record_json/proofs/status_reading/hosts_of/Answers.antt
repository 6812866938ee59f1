use Rattle.std.proofs.Common.{ap₂, List, ℕ}
use Rattle.serde_json.specs.View.{members_view}
use Rattle.record_json.specs.Statuses.{hosts_in}
use Rattle.record_json.specs.StatusReading.{hosts_seen}
use Rattle.record_json.proofs.StatusesRead.{Entry, Tags, host_refused, host_taken, hosts_end}
use Rattle.record_json.proofs.status_reading.hosts_of.Goals as goal

pub members-init : goal.members-init
members-init c =
    ap₂ (λ (es : List Entry) (hs : List (ℕ × Tags)). hosts_in (members_view es) (hosts_seen hs)) c.into_iter-name-iterator.ensures.into_iter_gives.0 c.new-hosts.ensures.empty

pub returns-then-not-branch : goal.returns-then-not-branch
returns-then-not-branch c =
    host_refused c.in-Some.name.now c.in-Some.value.now c.next.new.self c.members.name-iterator c.args.members.now.entries (hosts_seen c.members.hosts.entries) (hosts_seen c.add_host.new.hosts.entries) c.as_str.result.now c.in_ok-add_host.field-0
    c.as_str.ensures.value c.in-Some.ensures.steps c.members.invariant c.in_ok-add_host.ensures c.if-not-branch.true

pub members-preserved : goal.members-preserved
members-preserved c =
    host_taken c.in-Some.name.now c.in-Some.value.now c.next.new.self c.members.name-iterator c.args.members.now.entries (hosts_seen c.members.hosts.entries) (hosts_seen c.add_host.new.hosts.entries) c.as_str.result.now c.in_ok-add_host.field-0
    c.as_str.ensures.value c.in-Some.ensures.steps c.members.invariant c.in_ok-add_host.ensures c.if-not-branch.false

pub returns : goal.returns
returns c = hosts_end c.members.name-iterator c.args.members.now.entries (hosts_seen c.members.hosts.entries) c.in-None.ensures.steps.0 c.members.invariant
