use Rattle.std.proofs.Common.{◌≡◌, ℕ, List, [], sym, ◌∙◌, ap, subst}
use Rattle.definitions.specs.Journal.{HistoryRecord}
use Rattle.record_model.specs.Seen.{histories_seen}
use Rattle.record_model.specs.declared.ended.History.{History}
use Rattle.model_words.specs.Seen.{query_seen, answer_seen}
use Rattle.step_rules.specs.Sealing.{keyed_store}
use Rattle.record_seal.proofs.StoreSealing.{record_sealing}
use Rattle.printing.specs.Lines.{PrintsHits}
use Rattle.store_commands.specs.Ends.{Prints}
use Rattle.store_commands.proofs.Hits.{answers_hits, hits_are, none_elsewhere, hits_printed}
use Rattle.store_commands.proofs.finding.print_hits.Goals as goal

pub unreachable-requires : goal.unreachable-requires
unreachable-requires g c =
    let key = c.requires.means.0 in
    let journal = c.requires.means.1.0 in
    let keyed = keyed_store record_sealing c.args.store.now.log.host key in
    let answered = answers_hits keyed journal (query_seen c.args.query) (answer_seen c.in-Ok.shown) (c.in-Ok.ensures key journal [] c.requires.means.1.1 c.requires.means.1.2) in
    none_elsewhere c.in-Ok.shown answered.page (sym c.in-None.ensures) answered.answer_is

pub returns : goal.returns
returns g c = λ key journal has is.
    let keyed = keyed_store record_sealing c.args.store.now.log.host key in
    let answered = answers_hits keyed journal (query_seen c.args.query) (answer_seen c.in-Ok.shown) (c.in-Ok.ensures key journal [] has is) in
    let page : histories_seen c.as_slice.result.now ≡ answered.page = ap (λ (hs : List History). histories_seen hs) c.as_slice.ensures ∙ hits_are c.in-Ok.shown c.in-Some.hits answered.page (sym c.in-Some.ensures) answered.answer_is in
    let lines = subst (λ (hs : List HistoryRecord). PrintsHits hs c.in-Ok-hits_text.text.items) page c.in-Ok-hits_text.ensures in
    let prints = subst (λ (t : List ℕ). Prints c.print.result (g.K.Sink.sink c.args.sink.now) (g.K.Sink.sink c.print.new.sink) t) c.as_slice-2.ensures.items c.print.ensures in
    hits_printed c.print.result c.args.store.now.log.host key journal (query_seen c.args.query) answered.page c.in-Ok-hits_text.text.items (g.K.Sink.sink c.args.sink.now) (g.K.Sink.sink c.print.new.sink) answered.found lines prints
