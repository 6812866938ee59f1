use Rattle.at_edge.specs.DiskViews.{sure_disk_seen}
use Rattle.world_nodes.proofs.Left.{opens_node}
use Rattle.world_nodes.proofs.node.Node.open.Goals as goal

pub returns-in-Ok : goal.returns-in-Ok
returns-in-Ok c = opens_node (sure_disk_seen c.args.disk) c.in-Ok.store c.args.key c.args.random c.in-Ok.ensures.opens
