use Rattle.std.proofs.Common.{◌≡◌, ◌++◌, sym, ap, subst, ◌∙◌}
use Rattle.std.specs.List.Sorted.{IsStrictlySortedBy}
use Rattle.std.specs.Map.{keys_of}
use Rattle.std.specs.Ordering.{nat_cmp}
use Rattle.std.proofs.lemmas.List.{append-nil}
use Rattle.record_model.specs.Seen.{chains_seen}
use Rattle.chain_index.specs.Chains.{HostsSeen, OwnerSeen, counts_of_hosts}
use Rattle.chain_index.proofs.Listing.{AllRise, is_status}
use Rattle.chain_index.proofs.owner.OwnerChains.status.Goals as goal

pub returns : goal.returns
returns c =
    let listed = chains_seen c.loop-host.status.items in
    let hosts = c.args.self.now.hosts in
    let end = subst (λ (hs : HostsSeen). (listed ++ counts_of_hosts hs ≡ counts_of_hosts hosts) × (AllRise hs → AllRise hosts)) c.in-None.ensures.steps.0 c.loop-host.invariant in
    is_status c.args.self.now listed (sym (append-nil listed) ∙ end.0) (subst (λ (hs : HostsSeen). IsStrictlySortedBy nat_cmp (keys_of hs)) (ap (λ (o : OwnerSeen). o.hosts) c.self.view_is) c.iter-host-items.ensures.ordered) (end.1 tt)
