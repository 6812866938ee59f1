-- Which word of the rules a call or a reply stands for.
use Rattle.std.specs.Prelude.{List, map, Result, Ok, Err}
use Rattle.view_rules.specs.Answers.{Scope, of_all, of_hostname, of_session, of_cwd, ScopedQuery, Named}
use Rattle.step_rules.specs.Calls as asks
use Rattle.step_rules.specs.Answers as answers
use Rattle.record_model.specs.declared.asking.Call.{Call}
use Rattle.record_model.specs.declared.asking.Call.TheVariants as call
use Rattle.record_model.specs.declared.asking.Filter.{Filter}
use Rattle.record_model.specs.declared.asking.Filter.TheVariants as filter
use Rattle.record_model.specs.declared.asking.Query.{Query}
use Rattle.record_model.specs.declared.names.NamedText.{NamedText}
use Rattle.record_model.specs.declared.replying.Answer.{Answer}
use Rattle.record_model.specs.declared.replying.Answer.TheVariants as answer
use Rattle.record_model.specs.declared.replying.Refusal.{Refusal}
use Rattle.record_model.specs.declared.replying.Refusal.TheVariants as refusal
use Rattle.record_model.specs.declared.replying.Reply.{Reply}
use Rattle.record_model.specs.Seen.{histories_seen, chains_seen, mode_seen}

-- ---- calls

abbrev pub scope_seen : Filter → Scope
scope_seen filter.Global = of_all
scope_seen (filter.Host text) = of_hostname text
scope_seen (filter.Session text) = of_session text
scope_seen (filter.Directory text) = of_cwd text

abbrev pub query_seen : Query → ScopedQuery
query_seen q = record { scope = scope_seen q.filter; unique = q.unique; query = record { mode = mode_seen q.mode; text = q.text; offset = q.offset; limit = q.limit } }

abbrev pub call_seen : Call → asks.Call
call_seen (call.Start command cwd session hostname) = asks.start_call command cwd session hostname
call_seen (call.End id duration exit author) = asks.end_call id duration exit author
call_seen (call.Delete id) = asks.delete_call id
call_seen (call.Search query) = asks.search_call (query_seen query)
call_seen (call.KvSet namespace key value) = asks.kv_set_call namespace key value
call_seen (call.KvGet namespace key) = asks.kv_get_call namespace key
call_seen (call.KvDelete namespace key) = asks.kv_delete_call namespace key
call_seen (call.KvList namespace after limit) = asks.kv_list_call namespace after limit
call_seen (call.AliasSet name value) = asks.alias_set_call name value
call_seen (call.AliasDelete name) = asks.alias_delete_call name
call_seen (call.AliasList after limit) = asks.alias_list_call after limit
call_seen call.Status = asks.status_call

-- ---- replies

abbrev pub named_seen : NamedText → Named
named_seen n = record { name = n.name; value = n.value }

abbrev pub nameds_seen : List NamedText → List Named
nameds_seen all = map named_seen all

abbrev pub answer_seen : Answer → answers.Answer
answer_seen (answer.Begun id) = answers.began id
answer_seen (answer.Stored idx) = answers.stored idx
answer_seen (answer.Hits found) = answers.hits (histories_seen found)
answer_seen (answer.Value value) = answers.value_is value
answer_seen (answer.Names found) = answers.keys found
answer_seen (answer.Aliases found) = answers.aliases (nameds_seen found)
answer_seen (answer.Places found) = answers.places (chains_seen found)

abbrev pub refusal_seen : Refusal → answers.Refusal
refusal_seen (refusal.TooLong field length) = answers.too_long field length
refusal_seen (refusal.UnknownId id) = answers.unknown_id id
refusal_seen (refusal.UnknownName name) = answers.unknown_name name
refusal_seen (refusal.Full what held) = answers.full (record { what = what; held = held })
refusal_seen refusal.RandFault = answers.random_fault
refusal_seen (refusal.IdTaken id) = answers.id_taken id
refusal_seen refusal.DiskFault = answers.disk_fault
refusal_seen refusal.NoMemory = answers.no_memory

abbrev pub result_seen : Result Answer Refusal → answers.Answer
result_seen (Ok answer) = answer_seen answer
result_seen (Err refusal) = answers.refused (refusal_seen refusal)

abbrev pub reply_seen : Reply → answers.Reply
reply_seen r = record { front = r.front; answer = result_seen r.result }
