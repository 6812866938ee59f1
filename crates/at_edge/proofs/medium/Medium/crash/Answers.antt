use Rattle.std.proofs.Common.{◌≡◌, ◌∙◌, map, rules}
use Rattle.disk_rules.proofs.Histories.{history_is_disk}
use Rattle.at_edge.specs.Changing.{call_of}
use Rattle.at_edge.specs.DiskViews.{kept_history}
use Rattle.at_edge.proofs.CrashLaws.{crashes_told}
use Rattle.at_edge.proofs.medium.Medium.crash.Goals as goal

pub returns-then-self : goal.returns-then-self
returns-then-self c =
    let now = c.args.self.now in
    let same : c.in_ok-left.left.items ≡ c.image.result.now = search rules in
    crashes_told c.args.pick now.tells (kept_history now) c.in_ok-left.left.items _ c.if-self.true (history_is_disk now.first.items (map call_of now.changes.items)) (same ∙ c.image.ensures) c.in_ok-medium.ensures
