use Rattle.std.proofs.Common.{◌≡◌, rules}
use Rattle.disk_rules.specs.Calls.{Sync}
use Rattle.at_edge.specs.declared.medium.Change.TheVariants.{Synced}
use Rattle.at_edge.proofs.ChangeLaws.{history_push, keeps_synced, call_succeeds}
use Rattle.at_edge.proofs.medium.Medium.sync.Goals as goal

pub invariant_of-self-2 : goal.invariant_of-self-2
invariant_of-self-2 c =
    let old = c.args.self.now in
    let synced : c.in_ok-synced.synced.items ≡ old.shows.items = search rules in
    let blots : c.in_ok-blots.blots.items ≡ old.shows.items = search rules in
    let e = history_push old.first.items old.changes.items c.push.new.self.items Synced c.in_ok-push.ensures.items in
    record { kept = keeps_synced _ _ old.shows.items old.synced.items old.blots.items _ _ e old.kept synced blots }

pub returns-clause-synced : goal.returns-clause-synced
returns-clause-synced c =
    let old = c.args.self.now in
    let e = history_push old.first.items old.changes.items c.push.new.self.items Synced c.in_ok-push.ensures.items in
    call_succeeds old.tells Sync _ _ e
