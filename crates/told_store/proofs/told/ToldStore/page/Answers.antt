use Rattle.std.proofs.Common.{subst}
use Rattle.step_rules.specs.ReadTurns.{page_read}
use Rattle.at_edge.specs.Storing.{Tells}
use Rattle.told_store.specs.Told.{ToldSeen}
use Rattle.told_store.specs.Asked.{AnswersRead, read_answer_seen}
use Rattle.told_store.proofs.Paging.{read_note, page_read_told}
use Rattle.told_store.proofs.told.ToldStore.page.Goals as goal

pub chosen-noted-requires : goal.chosen-noted-requires
chosen-noted-requires g c = read_note c.self.inside.store c.self.inside.noted.note c.page-records.new.self c.self.invariant c.page-records.ensures.same c.page-records.ensures.rests.disk.faults

pub returns-clause-answers : goal.returns-clause-answers
returns-clause-answers g c =
    subst (λ (t : ToldSeen). Tells t.store.log.disk (λ _. AnswersRead t.note c.chosen-noted.result.note (page_read c.args.owner c.args.host c.args.tag.now c.args.start c.args.count) (read_answer_seen c.page-records.result))) c.self.view_is
    (page_read_told c.self.inside.store c.self.inside.noted.note c.page-records.new.self c.chosen-noted.result.note c.page-records.result c.args.owner c.args.host c.args.tag.now c.args.start c.args.count c.self.invariant c.chosen-noted.ensures c.page-records.ensures.page)
