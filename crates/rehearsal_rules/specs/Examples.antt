-- Worked examples: the words of a generator, an event of each row, transfers among three nodes, and a whole rehearsal.
use Rattle.std.specs.Prelude.{◌≡◌, ℕ, nat_abs, List, [], ◌∷◌, ◌++◌, codes, decimal, drop, replicate, Option, Some, None}
use Rattle.definitions.specs.Ids.{id_text}
use Rattle.definitions.specs.Examples.{ls_ended}
use Rattle.payload_rules.specs.Payloads.{Payload, HistoryCreate, HistoryDelete, KvSet, KvDelete, AliasSet, AliasDelete}
use Rattle.record_rules.specs.Records.{SealedRecord, Caller, Entry, Started, Local}
use Rattle.record_rules.specs.Growth.{taken_entry}
use Rattle.record_rules.specs.Examples.{caller, placed_record, entry_of}
use Rattle.record_rules.specs.Journal.{status}
use Rattle.plan_rules.specs.Plans.{Upload, Download}
use Rattle.step_rules.specs.Store.{KeyedStore}
use Rattle.step_rules.specs.Calls.{Call, kv_set_call, status_call}
use Rattle.world_rules.specs.World.{World, empty_world, with_journal, WorldEvent, Append, Send, Deliver, Crash}
use Rattle.world_rules.specs.Examples.{command_record, made_entry}
use Rattle.rehearsal_rules.specs.Words.{nth_word, words_for, drawn_bytes}
use Rattle.rehearsal_rules.specs.Transfers.{with_taken, Transfers, plan_at, Uploads, Downloads, Syncs}
use Rattle.rehearsal_rules.specs.Moments.{Moment, first_moment}
use Rattle.rehearsal_rules.specs.Runs.{IsBadEvent, RunsTo, StopsAt}
use Rattle.rehearsal_rules.specs.Rehearsal.{key_of, hosts_of, RunsEvent, Rehearsed}

pub record WorkedWords : Type 0 where
  pub words : nth_word 0 0 ∷ nth_word 0 1 ∷ nth_word 0 2 ∷ [] ≡ 0xe220a8397b1dcdaf ∷ 0x6e789e6aa1b965f4 ∷ 0x06c45d188009454f ∷ []
  -- ten bytes are drawn from two words, and the next ones begin with the third word
  pub ten_bytes : drawn_bytes 1 0 10 ≡ 0xc1 ∷ 0x5c ∷ 0x02 ∷ 0x89 ∷ 0xec ∷ 0x2d ∷ 0x0a ∷ 0x91 ∷ 0x67 ∷ 0xec ∷ []
  pub next_bytes : drawn_bytes 1 2 4 ≡ 0x5e ∷ 0x55 ∷ 0x32 ∷ 0xfb ∷ []
  pub words_drawn : words_for 0 ∷ words_for 1 ∷ words_for 8 ∷ words_for 10 ∷ words_for 106 ∷ [] ≡ 0 ∷ 1 ∷ 1 ∷ 2 ∷ 14 ∷ []
  pub key : key_of 0x0102 ≡ 0 ∷ 0 ∷ 0 ∷ 0 ∷ 0 ∷ 0 ∷ 1 ∷ 2 ∷ 0 ∷ 0 ∷ 0 ∷ 0 ∷ 0 ∷ 0 ∷ 1 ∷ 2 ∷ 0 ∷ 0 ∷ 0 ∷ 0 ∷ 0 ∷ 0 ∷ 1 ∷ 2 ∷ 0 ∷ 0 ∷ 0 ∷ 0 ∷ 0 ∷ 0 ∷ 1 ∷ 2 ∷ []
  pub three_hosts : hosts_of 3 ≡ 1 ∷ 2 ∷ 3 ∷ []

-- ---- a store in the open

-- what a payload says
abbrev pub said : Payload → List ℕ
said (HistoryCreate h) = h.command ++ (h.cwd ++ (h.session ++ (h.hostname ++ decimal (nat_abs h.duration))))
said (HistoryDelete id) = id_text id
said (KvSet namespace key value) = namespace ++ (key ++ value)
said (KvDelete namespace key) = namespace ++ key
said (AliasSet name value) = name ++ value
said (AliasDelete name) = name

-- A store that seals nothing: a record has what its payload says, the key, and the last two of the random bytes. Each record opens as one payload, or none does.
abbrev pub open_store : Option Payload → List ℕ → KeyedStore
open_store opened key = record {
  host = 0;
  seal = λ head payload random. record { sealed = said payload; wrapped = key ++ drop 94 random };
  weight_of = λ payload. 1000;
  opens = λ r. opened;
}

-- the record number idx of a chain, from its id, its time, what it says and its last two random bytes, under the key of zeros
abbrev pub said_record : (host : ℕ) (tag : List ℕ) (idx id time : ℕ) (says last : List ℕ) → SealedRecord
said_record host tag idx id time says last =
    record { id = id; idx = idx; host = host; host_name = []; timestamp = time; version = codes "v0"; tag = tag; sealed = says; wrapped = replicate 32 0 ++ last }

-- ---- one event of each row, of seed 0 and number 5, at host 1, with 12 for a

-- the moment when host 1 has this journal, the clock was read twice, and host 1 has drawn 16 words
abbrev pub moment_at : List Entry → Moment
moment_at journal = record { world = with_journal empty_world 2 journal; readings = 2; drawn = λ node. 16 }

-- what one call there leaves: one record more of a chain, which the third reading and the words from the 17th on made
abbrev pub one_more : List Entry → (tag : List ℕ) (idx : ℕ) (says : List ℕ) → List Entry
one_more journal tag idx says = journal ++ entry_of (Local None (said_record 2 tag idx 0x018bcfe5680272e79a9de0043c33d4f3 1700000000002000000 says (0x82 ∷ 0x6d ∷ []))) ∷ []

-- such an event from this journal leads to that one
pub record OneEvent (opened : Option Payload) (row : ℕ) (journal after : List Entry) : Type 0 where
  pub next : Moment
  pub runs : RunsEvent (open_store opened (replicate 32 0)) 0 (moment_at journal) 5 1 row 12 next
  pub journal_is : next.world.journal 2 ≡ after
  pub readings_are : next.readings ≡ 3
  pub words_are : next.drawn 2 ≡ 30
  pub others_are : next.drawn 1 ≡ 16

-- such an event leaves all
abbrev pub NoEvent : Option Payload → (row : ℕ) → List Entry → Type 0
NoEvent opened row journal = RunsEvent (open_store opened (replicate 32 0)) 0 (moment_at journal) 5 1 row 12 (moment_at journal)

-- an alias that host 1 has, and a command that ended there
abbrev pub an_alias : Entry
an_alias = entry_of (Local None (placed_record 2 (codes "dotfiles-shell-alias") 0 11))

abbrev pub ended : Entry
ended = made_entry 2 0 11

pub record WorkedRows : Type 0 where
  -- a command starts and ends: the clock is read twice, and 2 and 14 words are drawn
  pub ran : Moment
  pub runs_two : RunsEvent (open_store None (replicate 32 0)) 0 first_moment 5 1 2 12 ran
  pub ran_journal : ran.world.journal 2
      ≡ entry_of (Started (record { id = 0x018bcfe568007e56971cde355897421e; timestamp = 1700000000000000000; command = codes "c12"; cwd = codes "/"; session = codes "s1"; hostname = codes "h1:u" }))
      ∷ entry_of (Local (Some 0x018bcfe568007e56971cde355897421e) (said_record 2 (codes "history") 0 0x018bcfe568017f53beddbfbc7b9864f6 1700000000001000000 (codes "c12/s1h1:u12000") (0x19 ∷ 0x32 ∷ []))) ∷ []
  pub ran_readings : ran.readings ≡ 2
  pub ran_words : ran.drawn 2 ≡ 16
  -- the first hit is deleted, and nothing is where none is there
  pub deletes_hit : OneEvent (Some (HistoryCreate ls_ended)) 3 (ended ∷ []) (one_more (ended ∷ []) (codes "history") 1 (id_text ls_ended.id))
  pub deletes_none : NoEvent None 3 []
  pub hit_stays : NoEvent (Some (HistoryCreate ls_ended)) 3 (ended ∷ []) → ⊥
  pub sets_key : OneEvent None 4 [] (one_more [] (codes "kv") 0 (codes "nk12v5"))
  pub sets_name : OneEvent None 5 [] (one_more [] (codes "dotfiles-shell-alias") 0 (codes "a12v5"))
  -- the alias is deleted, and nothing is where it isn't there
  pub ends_name : OneEvent (Some (AliasSet (codes "a12") (codes "v1"))) 6 (an_alias ∷ []) (one_more (an_alias ∷ []) (codes "dotfiles-shell-alias") 1 (codes "a12"))
  pub ends_none : NoEvent None 6 []
  pub alias_stays : NoEvent (Some (AliasSet (codes "a12") (codes "v1"))) 6 (an_alias ∷ []) → ⊥
  -- a crash leaves all, and leaves no other way
  pub crashed : NoEvent None 9 (ended ∷ [])
  pub crash_leaves : (next : Moment) → RunsEvent (open_store None (replicate 32 0)) 0 (moment_at (ended ∷ [])) 5 1 9 12 next → next ≡ moment_at (ended ∷ [])

-- ---- transfers: node 1 has a record of its own, and the server has one of host 2

abbrev pub taken : SealedRecord → Entry
taken r = taken_entry caller 0 r

abbrev pub apart : World
apart = with_journal (with_journal empty_world 0 (taken (command_record 2 0 21) ∷ [])) 1 (made_entry 1 0 11 ∷ [])

-- node 1 has three records, and the server has the first of them
abbrev pub three : World
three = with_journal (with_journal empty_world 0 (taken (command_record 1 0 11) ∷ [])) 1 (made_entry 1 0 11 ∷ made_entry 1 1 12 ∷ made_entry 1 2 13 ∷ [])

-- the world with these journals of the server and of node 1, where these pages were sent
pub record HasJournals (w : World) (of_server of_node : List Entry) (sent : List (List SealedRecord)) : Type 0 where
  pub server : w.journal 0 ≡ of_server
  pub node : w.journal 1 ≡ of_node
  pub pages : w.sent ≡ sent

pub record WorkedTransfers : Type 0 where
  pub plan_is : plan_at 1 apart ≡ Upload (record { host = 1; tag = codes "history" }) 0 1 ∷ Download (record { host = 2; tag = codes "history" }) 0 1 ∷ []
  -- one way, the other way, and both by one plan
  pub up : World
  pub uploads : Uploads 1 apart up
  pub up_has : HasJournals up (taken (command_record 2 0 21) ∷ taken (command_record 1 0 11) ∷ []) (made_entry 1 0 11 ∷ []) ((command_record 1 0 11 ∷ []) ∷ [])
  pub down : World
  pub downloads : Downloads 1 apart down
  pub down_has : HasJournals down (taken (command_record 2 0 21) ∷ []) (made_entry 1 0 11 ∷ taken (command_record 2 0 21) ∷ []) ((command_record 2 0 21 ∷ []) ∷ [])
  pub both : World
  pub syncs_both : Syncs 1 apart both
  pub both_have : HasJournals both (taken (command_record 2 0 21) ∷ taken (command_record 1 0 11) ∷ []) (made_entry 1 0 11 ∷ taken (command_record 2 0 21) ∷ []) ((command_record 1 0 11 ∷ []) ∷ (command_record 2 0 21 ∷ []) ∷ [])
  -- as two rows have it
  pub row_seven : RunsEvent (open_store None []) 0 (record { world = apart; readings = 0; drawn = λ node. 0 }) 5 0 7 12 (record { world = both; readings = 0; drawn = λ node. 0 })
  pub row_eight : RunsEvent (open_store None []) 0 (record { world = apart; readings = 0; drawn = λ node. 0 }) 5 0 8 12 (record { world = both; readings = 0; drawn = λ node. 0 })
  -- of three records only the second one is handed over
  pub second_only : Transfers 1 0 (record { host = 1; tag = codes "history" }) 1 2 (caller ∷ []) three (with_taken three (command_record 1 1 12 ∷ []) 0 (taken (command_record 1 1 12) ∷ []))
  -- and nothing is handed over where the part is empty
  pub none_handed : (callers : List Caller) (new : World) → Transfers 1 0 (record { host = 1; tag = codes "history" }) 1 1 callers apart new → new ≡ apart

-- ---- a whole rehearsal: seed 0, one host, three events

-- the values under `k14` and `k13`, which the second and the third event set; the first found nothing to delete
abbrev pub first_value : SealedRecord
first_value = said_record 1 (codes "kv") 0 0x018bcfe56800715c8289ec2d0a9167ec 1700000000000000000 (codes "nk14v2") (0x8a ∷ 0xa2 ∷ [])

abbrev pub second_value : SealedRecord
second_value = said_record 1 (codes "kv") 1 0x018bcfe5680178578c6fae6d9b6f3b4a 1700000000001000000 (codes "nk13v3") (0xab ∷ 0xf7 ∷ [])

pub record WorkedRehearsal : Type 0 where
  pub world : World
  pub rehearsed : Rehearsed (open_store None) 0 1 3 world
  pub of_host : world.journal 1 ≡ entry_of (Local None first_value) ∷ entry_of (Local None second_value) ∷ []
  -- the last transfers brought both to the server, in one page
  pub of_server : world.journal 0 ≡ taken first_value ∷ taken second_value ∷ []
  pub sent : world.sent ≡ (first_value ∷ second_value ∷ []) ∷ []
  pub status_of_host : status (world.journal 1) 0 ≡ record { host = 1; tag = codes "kv"; count = 2 } ∷ []
  pub status_of_server : status (world.journal 0) 0 ≡ record { host = 1; tag = codes "kv"; count = 2 } ∷ []

-- ---- a run by a list of events: host 7 sets a value, sends it to the server, and the server crashes

abbrev pub value_of_seven : SealedRecord
value_of_seven = said_record 7 (codes "kv") 0 0x018bcfe56800715c8289ec2d0a9167ec 1700000000000000000 (codes "nkv") (0x8a ∷ 0xa2 ∷ [])

abbrev pub run_events : List (WorldEvent Call)
run_events = Append 1 (kv_set_call (codes "n") (codes "k") (codes "v")) ∷ Append 1 status_call ∷ Send 1 7 (codes "kv") 0 10 ∷ Deliver 0 0 caller ∷ Crash 0 ∷ []

-- it stops at the event of this number, which is bad
abbrev pub StopsBadly : List (WorldEvent Call) → ℕ → Type 0
StopsBadly events number = StopsAt (open_store None (replicate 32 0)) (7 ∷ []) events number (λ r event. IsBadEvent (7 ∷ []) r.world event)

pub record WorkedRun : Type 0 where
  pub moment : Moment
  pub runs : RunsTo (open_store None (replicate 32 0)) (7 ∷ []) run_events moment
  pub of_host : moment.world.journal 1 ≡ entry_of (Local None value_of_seven) ∷ []
  pub of_server : moment.world.journal 0 ≡ taken value_of_seven ∷ []
  -- the call that only asked read no clock, and drew nothing
  pub readings : moment.readings ≡ 1
  pub drawn : moment.drawn 1 ≡ 14
  -- a page that wasn't sent, a node that isn't there, and a call at the server
  pub unsent : StopsBadly (Deliver 0 0 caller ∷ []) 0
  pub no_node : StopsBadly (Crash 1 ∷ Crash 2 ∷ []) 1
  pub at_server : StopsBadly (Append 0 status_call ∷ []) 0
