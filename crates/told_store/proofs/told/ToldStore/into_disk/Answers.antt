use Rattle.std.proofs.Common.{◌≡◌, [], sym, ap, ◌∙◌, subst}
use Rattle.std.specs.Prelude.{◌≢◌}
use Rattle.at_edge.specs.Storing.{DiskSeen, Tells}
use Rattle.told_store.specs.Told.{ToldSeen, HoldsEntries, DoubtsEntries}
use Rattle.told_store.proofs.Telling.{holds_entries, doubts_entries}
use Rattle.told_store.proofs.told.ToldStore.into_disk.Goals as goal

pub returns-clause-counted : goal.returns-clause-counted
returns-clause-counted g c =
    subst (λ (t : ToldSeen). t.note.state.faults ≡ (g.D.Disk.disk c.into_disk.result).faults) c.self.view_is (c.self.invariant.counted ∙ sym (ap (λ (d : DiskSeen). d.faults) c.into_disk.ensures))

pub returns-clause-holds : goal.returns-clause-holds
returns-clause-holds g c =
    subst (λ (t : ToldSeen). t.note.state.doubt ≡ [] → Tells (g.D.Disk.disk c.into_disk.result) (HoldsEntries t.store.log.host t.note.state.entries)) c.self.view_is (λ none.
    subst (λ (d : DiskSeen). Tells d (HoldsEntries c.self.inside.store.log.host c.self.inside.noted.note.state.entries)) (sym c.into_disk.ensures) (holds_entries c.self.inside.store c.self.inside.noted.note c.self.invariant none))

pub returns-clause-doubts : goal.returns-clause-doubts
returns-clause-doubts g c =
    subst (λ (t : ToldSeen). t.note.state.doubt ≢ [] → Tells (g.D.Disk.disk c.into_disk.result) (DoubtsEntries t.store.log.host t.note.state.entries t.note.state.doubt)) c.self.view_is (λ some.
    subst (λ (d : DiskSeen). Tells d (DoubtsEntries c.self.inside.store.log.host c.self.inside.noted.note.state.entries c.self.inside.noted.note.state.doubt)) (sym c.into_disk.ensures) (doubts_entries c.self.inside.store c.self.inside.noted.note c.self.invariant some))
