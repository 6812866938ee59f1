use Rattle.std.proofs.Common.{subst}
use Rattle.step_rules.specs.ReadTurns.{status_read}
use Rattle.told_store.specs.Told.{ToldSeen}
use Rattle.told_store.specs.Asked.{AnswersRead, status_answer_seen}
use Rattle.told_store.proofs.Telling.{rested_note}
use Rattle.told_store.proofs.Paging.{status_told}
use Rattle.told_store.proofs.told.ToldStore.status.Goals as goal

pub chosen-noted-requires : goal.chosen-noted-requires
chosen-noted-requires g c = rested_note c.self.inside.noted.note

pub returns-clause-answers : goal.returns-clause-answers
returns-clause-answers g c =
    subst (λ (t : ToldSeen). AnswersRead t.note c.chosen-noted.result.note (status_read c.args.owner) (status_answer_seen c.status.result)) c.self.view_is
    (status_told c.self.inside.store c.self.inside.noted.note c.chosen-noted.result.note c.status.result c.args.owner c.self.invariant c.chosen-noted.ensures c.status.ensures)
