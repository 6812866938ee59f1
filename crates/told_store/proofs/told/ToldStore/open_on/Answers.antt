use Rattle.std.proofs.Common.{subst}
use Rattle.at_edge.specs.Storing.{DiskSeen}
use Rattle.told_store.specs.Opening.{OpensTold}
use Rattle.told_store.proofs.Opened.{opened_note}
use Rattle.told_store.proofs.told.ToldStore.open_on.Goals as goal

pub chosen-noted-requires : goal.chosen-noted-requires
chosen-noted-requires g c = opened_note (g.D.Disk.disk c.of-disk_was.result.value) (g.D.Disk.disk c.args.disk) c.in-Ok.store (λ i. g.D.Disk.disk (c.of-disk_was.ensures i)) c.in-Ok.ensures.opens

pub returns-clause-opens : goal.returns-clause-opens
returns-clause-opens g c = subst (λ (d : DiskSeen). OpensTold d c.in-Ok.store c.chosen-noted.result.note) (λ i. g.D.Disk.disk (c.of-disk_was.ensures i)) c.chosen-noted.ensures
