use Rattle.told_store.proofs.Leaving.{state_leaves}
use Rattle.told_store.proofs.Telling.{rested_note, rested_told}
use Rattle.told_store.proofs.told.ToldStore.front.Goals as goal

pub chosen-noted-requires : goal.chosen-noted-requires
chosen-noted-requires g c = rested_note c.self.inside.noted.note

pub returns-clause-front : goal.returns-clause-front
returns-clause-front g c = c.front.ensures _ _ (rested_told c.self.inside.store c.self.inside.noted.note c.chosen-noted.result.note c.self.invariant c.chosen-noted.ensures).is

pub returns-clause-leaves : goal.returns-clause-leaves
returns-clause-leaves g c =
    state_leaves c.self.inside.store c.chosen-noted.result.note.state (rested_told c.self.inside.store c.self.inside.noted.note c.chosen-noted.result.note c.self.invariant c.chosen-noted.ensures).is
