use Rattle.at_edge.specs.DiskViews.{sure_disk_seen}
use Rattle.world_nodes.proofs.Left.{crashed_node_of}
use Rattle.world_nodes.proofs.node.Node.crash.Goals as goal

pub returns : goal.returns
returns c =
    crashed_node_of c.args.self c.self.inside.store c.self.inside.key c.self.inside.random c.args.pick (sure_disk_seen c.into_disk.result) (sure_disk_seen c.in_ok-left.left) c.open.result
    c.self.view_is c.requires c.into_disk.ensures.disk c.in_ok-left.ensures.crashes c.open.ensures
