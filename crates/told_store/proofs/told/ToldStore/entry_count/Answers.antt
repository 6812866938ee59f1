use Rattle.std.proofs.Common.{◌≡◌, length, subst}
use Rattle.told_store.specs.Told.{ToldSeen}
use Rattle.told_store.proofs.told.ToldStore.entry_count.Goals as goal

pub returns : goal.returns
returns g c = subst (λ (t : ToldSeen). c.front.result ≡ length t.note.state.entries) c.self.view_is (c.front.ensures _ _ c.self.invariant.is)
