use Rattle.std.proofs.Common.{List, [], ◌++◌, ℕ, Some, ap, ◌∙◌}
use Rattle.disk_rules.specs.History.{history_of}
use Rattle.at_edge.specs.Storing.{DiskSeen}
use Rattle.at_edge.specs.DiskViews.{sure_disk_seen}
use Rattle.world_nodes.proofs.Left.{new_node_of}
use Rattle.world_nodes.proofs.node.Node.create.Goals as goal

pub returns : goal.returns
returns c =
    new_node_of c.args.host c.args.key c.args.random (sure_disk_seen c.in_ok-new.field-0).history c.open.result c.ranges.host.fits c.ranges.random.fits (ap (λ (d : DiskSeen). d.history) c.in_ok-new.ensures ∙ ap (λ (bs : List ℕ). Some (history_of bs [])) (c.in_ok-extend_from_slice.ensures.items ∙ (λ i. c.new-empty_log.ensures.items i ++ c.write_header.ensures i))) c.open.ensures
