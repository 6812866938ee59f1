use Rattle.std.proofs.Common.{◌≡◌, ℕ, List, length, replicate, ◌∙◌, ap, rules}
use Rattle.disk_rules.specs.Calls.{Write, overwritten}
use Rattle.at_edge.proofs.ChangeLaws.{history_write, keeps_written, call_succeeds}
use Rattle.at_edge.proofs.medium.Medium.overwrite.Goals as goal

pub invariant_of-self-2 : goal.invariant_of-self-2
invariant_of-self-2 c =
    let old = c.args.self.now in
    let at = c.args.at in
    let from = c.args.from.now in
    let same : c.in_ok-bytes.bytes.items ≡ from = search rules in
    let e = history_write old.first.items old.changes.items c.push.new.self.items at from (c.in_ok-bytes.bytes, same, c.in_ok-push.ensures.items) in
    let over = c.in_ok-shows.ensures ∙ ap (λ (s : List ℕ). overwritten s at from) c.deref.ensures.value in
    let blot = c.in_ok-blots.ensures ∙ ap (λ (s : List ℕ). overwritten s at (replicate (length from) 255)) c.deref-2.ensures.value in
    record { kept = keeps_written _ _ at from old.shows.items old.synced.items old.blots.items _ _ e old.kept over blot }

pub returns-clause-written : goal.returns-clause-written
returns-clause-written c =
    let old = c.args.self.now in
    let same : c.in_ok-bytes.bytes.items ≡ c.args.from.now = search rules in
    let e = history_write old.first.items old.changes.items c.push.new.self.items c.args.at c.args.from.now (c.in_ok-bytes.bytes, same, c.in_ok-push.ensures.items) in
    call_succeeds old.tells (Write c.args.at c.args.from.now) _ _ e
