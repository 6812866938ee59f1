use Rattle.std.proofs.Common.{◌≡◌, List, ap, sym, ◌∙◌, subst}
use Rattle.definitions.specs.Journal.{HistoryRecord}
use Rattle.record_model.specs.Seen.{histories_seen}
use Rattle.step_rules.specs.Answers as answers
use Rattle.step_rules.specs.Calls.{search_call}
use Rattle.step_rules.specs.Step.{Shows}
use Rattle.model_words.specs.Seen.{query_seen}
use Rattle.search_query.specs.Answers.{seen_of}
use Rattle.call_answers.proofs.Shown.{shows_search}
use Rattle.call_answers.proofs.answering.hits.Goals as goal

pub returns : goal.returns
returns c = λ store journal keeps.
    let page = seen_of c.in_ok-shown.shown.items in
    let same : histories_seen c.from_vec.result ≡ page = ap histories_seen c.from_vec.ensures ∙ c.in_ok-copies.ensures ∙ ap seen_of c.as_slice.ensures.value in
    subst (λ (hits : List HistoryRecord). Shows store journal (search_call (query_seen c.args.query.now)) (answers.hits hits)) (sym same)
    (shows_search store journal c.args.history.now c.args.query.now page keeps c.in_ok-shown.ensures.answer)
