-- What a search is answered.
use Rattle.std.proofs.Common.{◌≡◌, ℕ, List, Some, None, Result, Ok, Err, subst}
use Rattle.definitions.specs.Journal.{HistoryRecord}
use Rattle.record_rules.specs.Records.{Entry}
use Rattle.record_model.specs.Seen.{histories_seen}
use Rattle.record_model.specs.declared.ended.History.{History}
use Rattle.record_model.specs.declared.replying.Answer as model
use Rattle.record_model.specs.declared.replying.Answer.TheVariants as answers
use Rattle.model_words.specs.Seen.{answer_seen}
use Rattle.view_rules.specs.Answers.{ScopedQuery, SearchAnswer}
use Rattle.step_rules.specs.Calls.{search_call}
use Rattle.step_rules.specs.Answers.{Answer, hits}
use Rattle.step_rules.specs.Store.{KeyedStore, shown_changes}
use Rattle.step_rules.specs.Sealing.{keyed_store}
use Rattle.step_rules.specs.Step.{Shows, shows_hits, shows_value, shows_no_value, shows_keys, shows_aliases, shows_places}
use Rattle.record_seal.proofs.StoreSealing.{record_sealing}
use Rattle.at_edge.specs.Writing.{SinkSeen}
use Rattle.printing.specs.Lines.{PrintsHits}
use Rattle.store_commands.specs.Ends.{Prints}
use Rattle.store_commands.specs.Finding.{hits_in, PrintsFound}
use Rattle.store_commands.specs.declared.ends.CommandFail.{CommandFail}
use Rattle.store_commands.specs.declared.ends.CommandFail.TheVariants as fails

-- a search is answered by hits alone
pub record AnswersHits (store : KeyedStore) (journal : List Entry) (asked : ScopedQuery) (answer : Answer) : Type 0 where
  pub page : List HistoryRecord
  pub found : SearchAnswer (shown_changes store journal) asked page
  pub answer_is : answer ≡ hits page

pub answers_hits : (store : KeyedStore) (journal : List Entry) (asked : ScopedQuery) (answer : Answer) → Shows store journal (search_call asked) answer → AnswersHits store journal asked answer
answers_hits store journal asked answer (shows_hits other page same found is) = record {
  page = page;
  found = let is_it : other ≡ asked = cc in subst (λ (q : ScopedQuery). SearchAnswer (shown_changes store journal) q page) is_it found;
  answer_is = is;
}
answers_hits store journal asked answer (shows_value namespace key value same shown is) = absurd (cc)
answers_hits store journal asked answer (shows_no_value namespace key same none is) = absurd (cc)
answers_hits store journal asked answer (shows_keys namespace after limit page same listed is) = absurd (cc)
answers_hits store journal asked answer (shows_aliases after limit page same listed is) = absurd (cc)
answers_hits store journal asked answer (shows_places same is) = absurd (cc)

-- so they are in the answer
pub hits_are : (answer : model.Answer) (found : List History) (page : List HistoryRecord) → hits_in answer ≡ Some found → answer_seen answer ≡ hits page → histories_seen found ≡ page
hits_are (answers.Hits shown) found page is same = cc
hits_are (answers.Begun id) found page is same = cc
hits_are (answers.Stored idx) found page is same = cc
hits_are (answers.Value value) found page is same = cc
hits_are (answers.Names names) found page is same = cc
hits_are (answers.Aliases named) found page is same = cc
hits_are (answers.Places chains) found page is same = cc

pub none_elsewhere : (answer : model.Answer) (page : List HistoryRecord) → hits_in answer ≡ None → answer_seen answer ≡ hits page → ⊥
none_elsewhere (answers.Hits shown) page none same = cc
none_elsewhere (answers.Begun id) page none same = cc
none_elsewhere (answers.Stored idx) page none same = cc
none_elsewhere (answers.Value value) page none same = cc
none_elsewhere (answers.Names names) page none same = cc
none_elsewhere (answers.Aliases named) page none same = cc
none_elsewhere (answers.Places chains) page none same = cc

-- the hits are printed
pub hits_printed : (result : Result (Unit {0}) CommandFail) (host : ℕ) (key : List ℕ) (journal : List Entry) (asked : ScopedQuery) (page : List HistoryRecord) (text : List ℕ) (old new : SinkSeen)
    → SearchAnswer (shown_changes (keyed_store record_sealing host key) journal) asked page → PrintsHits page text → Prints result old new text → PrintsFound result host key journal asked old new
hits_printed (Ok _) host key journal asked page text old new found lines prints = record { page = page; answer = found; text = text; lines = lines; prints = prints }
hits_printed (Err fails.SinkFault) host key journal asked page text old new found lines prints = record { page = page; answer = found; text = text; lines = lines; prints = prints }
hits_printed (Err fails.NoMemory) host key journal asked page text old new found lines prints = prints
hits_printed (Err fails.FaultyKeyText) host key journal asked page text old new found lines prints = absurd prints
hits_printed (Err (fails.Unopened fail)) host key journal asked page text old new found lines prints = absurd prints
