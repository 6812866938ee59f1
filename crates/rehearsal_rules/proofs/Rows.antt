-- The worked rows, computed.
use Rattle.std.proofs.Common.{◌≡◌, ℕ, ◌+◌, inl, inr, List, [], ◌∷◌, length, Some, None, refl, ap, arith}
use Rattle.std.specs.Prelude.{codes, replicate, pos, map, Option}
use Rattle.std.specs.List.{range_with_len}
use Rattle.std.proofs.lemmas.List.FromFn.{length-map-range_with_len}
use Rattle.std.specs.Fmt.{digits}
use Rattle.std.proofs.lemmas.List.Sorted.{IsPermutation-refl}
use Rattle.definitions.specs.Ids.{id_text}
use Rattle.definitions.specs.Uses.{Used}
use Rattle.definitions.specs.Journal.{finished}
use Rattle.definitions.specs.Examples.{ls_ended}
use Rattle.payload_rules.specs.Payloads.{Payload, HistoryCreate, HistoryDelete, KvSet, AliasSet, AliasDelete}
use Rattle.record_rules.specs.Records.{SealedRecord, Caller, Entry, Started, Local}
use Rattle.record_rules.specs.Journal.{status}
use Rattle.record_rules.specs.Examples.{caller, placed_record, entry_of}
use Rattle.view_rules.specs.Changes.{changes_of}
use Rattle.view_rules.specs.Views.{of_name, ShowsAlias}
use Rattle.view_rules.proofs.Settings.{shown_from}
use Rattle.view_rules.proofs.Searches.{search_one}
use Rattle.step_rules.specs.Calls.{Call, delete_call, kv_set_call, alias_set_call, alias_delete_call, end_call}
use Rattle.step_rules.specs.Answers.{too_long, full, id_taken, began, stored, hits, value_is, keys, aliases, places, refused}
use Rattle.step_rules.specs.Store.{KeyedStore}
use Rattle.step_rules.specs.Step.{start_draft, record_draft, started_record, start_drafts, end_drafts, delete_drafts, kv_set_drafts, alias_set_drafts, alias_delete_drafts, drawn_id, Shows, shows_hits, shows_value, shows_no_value, shows_keys, shows_aliases, shows_places, Step, long_step, unknown_step, full_step, taken_step, append_step, read_step}
use Rattle.step_rules.proofs.Examples.{whole_page, command_shown, found_of_one}
use Rattle.world_rules.specs.Stores.{at_host}
use Rattle.world_rules.specs.Examples.{command_record}
use Rattle.rehearsal_rules.specs.Moments.{Moment, first_moment, reading_at, next_used, moment_after}
use Rattle.rehearsal_rules.specs.Rehearsal.{HostCalls, start_of, numbered, FindsFirst, HasName, RunsEvent, runs, deletes, finds_nothing, sets_value, sets_alias, ends_alias, lacks_alias, syncs, crashes}
use Rattle.rehearsal_rules.specs.Examples.{open_store, said_record, moment_at, one_more, ended, an_alias, WorkedRows}
use Rattle.rehearsal_rules.proofs.Examples.{nothing_found}

abbrev zeros : List ℕ
zeros = replicate 32 0

-- ---- a command that starts and ends

abbrev start_id : ℕ
start_id = 0x018bcfe568007e56971cde355897421e

abbrev started : Entry
started = entry_of (Started (record { id = 0x018bcfe568007e56971cde355897421e; timestamp = 1700000000000000000; command = codes "c12"; cwd = codes "/"; session = codes "s1"; hostname = codes "h1:u" }))

abbrev finished_there : Entry
finished_there = entry_of (Local (Some start_id) (said_record 2 (codes "history") 0 0x018bcfe568017f53beddbfbc7b9864f6 1700000000001000000 (codes "c12/s1h1:u12000") (0x19 ∷ 0x32 ∷ [])))

abbrev between : Moment
between = moment_after first_moment 2 (started ∷ []) 1 10

abbrev ran_there : Moment
ran_there = moment_after between 2 (started ∷ finished_there ∷ []) 1 106

starts : HostCalls (open_store None zeros) 0 first_moment 1 (start_of 1 12) (began start_id) between
unfolding digits
starts = record {
  caller = caller;
  readings = 1;
  bytes = 10;
  journal = started ∷ [];
  fits = record { numbers = tt; texts = omega arith };
  stepped = append_step 1700000000000000000 _ (start_draft (codes "c12") (codes "/") (codes "s1") (codes "h1:u")) refl refl (record { short = refl; drafts = start_drafts _ _ _ _ refl refl; room = refl }) refl refl refl;
  becomes = refl;
}

ends : HostCalls (open_store None zeros) 0 between 1 (end_call start_id (pos 12000) (pos 0) None) (stored 0) ran_there
unfolding digits
ends = record {
  caller = caller;
  readings = 1;
  bytes = 106;
  journal = started ∷ finished_there ∷ [];
  fits = record { numbers = (omega arith, omega arith, omega arith); texts = omega arith };
  stepped = append_step 1700000000001000000 _ (record_draft (Some start_id) (HistoryCreate (finished (started_record start_id 1700000000000000000 (codes "c12") (codes "/") (codes "s1") (codes "h1:u")) (pos 12000) (pos 0) None))) refl refl (record { short = refl; drafts = end_drafts start_id _ _ None (started_record start_id 1700000000000000000 (codes "c12") (codes "/") (codes "s1") (codes "h1:u")) refl refl refl; room = refl }) refl refl refl;
  becomes = refl;
}

-- ---- one call

-- the moment after one call of host 1
abbrev after_call : List Entry → List Entry → Moment
after_call journal after = moment_after (moment_at journal) 2 after 1 106

abbrev ended_store : Option Payload
ended_store = Some (HistoryCreate ls_ended)

abbrev alias_store : Option Payload
alias_store = Some (AliasSet (codes "a12") (codes "v1"))

hit_found : FindsFirst (open_store ended_store zeros) (moment_at (ended ∷ [])) 1 (ls_ended ∷ [])
hit_found =
    found_of_one (open_store ended_store zeros) (command_record 2 0 11) refl _ (ls_ended ∷ [])
    (record { in_order = ls_ended ∷ []; found = IsPermutation-refl (ls_ended ∷ []); sorted = λ k d low high. absurd (omega arith); cut = whole_page 1 (ls_ended ∷ []) (omega arith, inl (omega arith)) })

abbrev hit_gone : List Entry
hit_gone = one_more (ended ∷ []) (codes "history") 1 (id_text ls_ended.id)

deletes_it : HostCalls (open_store ended_store zeros) 0 (moment_at (ended ∷ [])) 1 (delete_call ls_ended.id) (stored 1) (after_call (ended ∷ []) hit_gone)
deletes_it = record {
  caller = caller;
  readings = 1;
  bytes = 106;
  journal = hit_gone;
  fits = record { numbers = omega arith; texts = omega arith };
  stepped = append_step 1700000000002000000 _ (record_draft None (HistoryDelete ls_ended.id)) refl refl (record { short = refl; drafts = delete_drafts ls_ended.id refl (ls_ended, command_shown (open_store ended_store zeros) (command_record 2 0 11) refl, refl) refl; room = refl }) refl refl refl;
  becomes = refl;
}

abbrev key_set : List Entry
key_set = one_more [] (codes "kv") 0 (codes "nk12v5")

sets_it : HostCalls (open_store None zeros) 0 (moment_at []) 1 (kv_set_call (codes "n") (numbered (codes "k") 12) (numbered (codes "v") 5)) (stored 0) (after_call [] key_set)
unfolding digits
sets_it = record {
  caller = caller;
  readings = 1;
  bytes = 106;
  journal = key_set;
  fits = record { numbers = tt; texts = omega arith };
  stepped = append_step 1700000000002000000 _ (record_draft None (KvSet (codes "n") (codes "k12") (codes "v5"))) refl refl (record { short = refl; drafts = kv_set_drafts _ _ _ refl refl; room = refl }) refl refl refl;
  becomes = refl;
}

abbrev name_set : List Entry
name_set = one_more [] (codes "dotfiles-shell-alias") 0 (codes "a12v5")

names_it : HostCalls (open_store None zeros) 0 (moment_at []) 1 (alias_set_call (numbered (codes "a") 12) (numbered (codes "v") 5)) (stored 0) (after_call [] name_set)
unfolding digits
names_it = record {
  caller = caller;
  readings = 1;
  bytes = 106;
  journal = name_set;
  fits = record { numbers = tt; texts = omega arith };
  stepped = append_step 1700000000002000000 _ (record_draft None (AliasSet (codes "a12") (codes "v5"))) refl refl (record { short = refl; drafts = alias_set_drafts _ _ refl refl; room = refl }) refl refl refl;
  becomes = refl;
}

-- ---- an alias that is there

abbrev alias_record : SealedRecord
alias_record = placed_record 2 (codes "dotfiles-shell-alias") 0 11

alias_there : ShowsAlias (changes_of (open_store alias_store zeros).opens (alias_record ∷ [])) (codes "a12") (codes "v1")
alias_there = shown_from (of_name (codes "a12")) (changes_of (open_store alias_store zeros).opens (alias_record ∷ [])) (codes "v1") refl

abbrev name_gone : List Entry
name_gone = one_more (an_alias ∷ []) (codes "dotfiles-shell-alias") 1 (codes "a12")

ends_it : HostCalls (open_store alias_store zeros) 0 (moment_at (an_alias ∷ [])) 1 (alias_delete_call (numbered (codes "a") 12)) (stored 1) (after_call (an_alias ∷ []) name_gone)
unfolding digits
ends_it = record {
  caller = caller;
  readings = 1;
  bytes = 106;
  journal = name_gone;
  fits = record { numbers = tt; texts = omega arith };
  stepped = append_step 1700000000002000000 _ (record_draft None (AliasDelete (codes "a12"))) refl refl (record { short = refl; drafts = alias_delete_drafts (codes "a12") refl (codes "v1", alias_there) refl; room = refl }) refl refl refl;
  becomes = refl;
}

-- ---- what may not be left

-- a call that stores something reads the clock
reads_once : (store : KeyedStore) (journal : List Entry) (call : Call) (used : Used) (after : List Entry) (caller : Caller) (idx : ℕ) → Step store journal caller call used after (stored idx) → length used.readings ≡ 1
reads_once store journal call used after caller idx (long_step now long used_is is_long refuses) = let other : stored idx ≡ refused (too_long long.field long.length) = refuses.answer_is in cc
reads_once store journal call used after caller idx (unknown_step now refusal used_is _ unknown refuses) = let other : stored idx ≡ refused refusal = refuses.answer_is in cc
reads_once store journal call used after caller idx (full_step now draft passed used_is short drafts is_full refuses) = let other : stored idx ≡ refused (full passed) = refuses.answer_is in cc
reads_once store journal call used after caller idx (taken_step now drawn draft used_is drew ready taken refuses) = let other : stored idx ≡ refused (id_taken (drawn_id now drawn)) = refuses.answer_is in cc
reads_once store journal call used after caller idx (append_step now drawn draft used_is drew ready free after_is answer_is) = ap (λ (u : Used). length u.readings) used_is
reads_once store journal call used after caller idx (read_step used_is shows stays) = absurd (no_stored shows)
  where
    no_stored : Shows store journal call (stored idx) → ⊥
    no_stored (shows_hits asked page _ _ is) = let other : stored idx ≡ hits page = is in cc
    no_stored (shows_value namespace key value _ _ is) = let other : stored idx ≡ value_is (Some value) = is in cc
    no_stored (shows_no_value namespace key _ _ is) = let other : stored idx ≡ value_is None = is in cc
    no_stored (shows_keys namespace above limit page _ _ is) = let other : stored idx ≡ keys (map (λ item. item.name) page) = is in cc
    no_stored (shows_aliases above limit page _ _ is) = let other : stored idx ≡ aliases page = is in cc
    no_stored (shows_places _ is) = let other : stored idx ≡ places (status journal 0) = is in cc

-- so none leaves the number of readings
call_is_made : (store : KeyedStore) (journal : List Entry) (call : Call) (idx : ℕ) → HostCalls store 0 (moment_at journal) 1 call (stored idx) (moment_at journal) → ⊥
call_is_made store journal call idx calls =
    let counted : 2 ≡ 2 + calls.readings = ap (λ (r : Moment). r.readings) calls.becomes in
    let once : length (map reading_at (range_with_len 2 calls.readings)) ≡ 1 = reads_once (at_host store 2) ((moment_at journal).world.journal 2) call (next_used 0 (moment_at journal) 2 calls.readings calls.bytes) calls.journal calls.caller idx calls.stepped in
    let many : length (map reading_at (range_with_len 2 calls.readings)) ≡ calls.readings = length-map-range_with_len reading_at 2 calls.readings in
    absurd (omega (arith, counted, once, many))

hit_is_found : FindsFirst (open_store ended_store zeros) (moment_at (ended ∷ [])) 1 [] → ⊥
hit_is_found none = let many : 1 ≡ 0 = ap length (search_one _ _ (ls_ended ∷ []) [] hit_found none) in absurd (omega (arith, many))

not_left : RunsEvent (open_store ended_store zeros) 0 (moment_at (ended ∷ [])) 5 1 3 12 (moment_at (ended ∷ [])) → ⊥
not_left (runs _ _ _ at _ _) = absurd (omega (arith, at))
not_left (deletes hit idx _ _ makes) = call_is_made (open_store ended_store zeros) (ended ∷ []) (delete_call hit.id) idx makes
not_left (finds_nothing _ none _) = hit_is_found none
not_left (sets_value _ at _) = absurd (omega (arith, at))
not_left (sets_alias _ at _) = absurd (omega (arith, at))
not_left (ends_alias _ at _) = absurd (omega (arith, at))
not_left (lacks_alias at _ _) = absurd (omega (arith, at))
not_left (syncs _ (inl at) _ _) = absurd (omega (arith, at))
not_left (syncs _ (inr at) _ _) = absurd (omega (arith, at))
not_left (crashes at _) = absurd (omega (arith, at))

alias_not_left : RunsEvent (open_store alias_store zeros) 0 (moment_at (an_alias ∷ [])) 5 1 6 12 (moment_at (an_alias ∷ [])) → ⊥
unfolding digits
alias_not_left (runs _ _ _ at _ _) = absurd (omega (arith, at))
alias_not_left (deletes _ _ at _ _) = absurd (omega (arith, at))
alias_not_left (finds_nothing at _ _) = absurd (omega (arith, at))
alias_not_left (sets_value _ at _) = absurd (omega (arith, at))
alias_not_left (sets_alias _ at _) = absurd (omega (arith, at))
alias_not_left (ends_alias idx _ makes) = call_is_made (open_store alias_store zeros) (an_alias ∷ []) _ idx makes
alias_not_left (lacks_alias _ lacks _) = lacks (codes "v1", alias_there)
alias_not_left (syncs _ (inl at) _ _) = absurd (omega (arith, at))
alias_not_left (syncs _ (inr at) _ _) = absurd (omega (arith, at))
alias_not_left (crashes at _) = absurd (omega (arith, at))

-- ---- all rows

no_alias : (name : List ℕ) → HasName (open_store None zeros) (moment_at []) 1 name → ⊥
no_alias name named = let below = named.1.1.here.among.1 in absurd (omega arith)

nothing_leaves : (next : Moment) → RunsEvent (open_store None zeros) 0 (moment_at (ended ∷ [])) 5 1 9 12 next → next ≡ moment_at (ended ∷ [])
nothing_leaves next (runs _ _ _ at _ _) = absurd (omega (arith, at))
nothing_leaves next (deletes _ _ at _ _) = absurd (omega (arith, at))
nothing_leaves next (finds_nothing at _ _) = absurd (omega (arith, at))
nothing_leaves next (sets_value _ at _) = absurd (omega (arith, at))
nothing_leaves next (sets_alias _ at _) = absurd (omega (arith, at))
nothing_leaves next (ends_alias _ at _) = absurd (omega (arith, at))
nothing_leaves next (lacks_alias at _ _) = absurd (omega (arith, at))
nothing_leaves next (syncs _ (inl at) _ _) = absurd (omega (arith, at))
nothing_leaves next (syncs _ (inr at) _ _) = absurd (omega (arith, at))
nothing_leaves next (crashes _ same) = same

pub rows : WorkedRows
rows = record {
  ran = ran_there;
  runs_two = runs start_id 0 between (omega arith) starts ends;
  ran_journal = refl;
  ran_readings = refl;
  ran_words = refl;
  deletes_hit = record { next = after_call (ended ∷ []) hit_gone; runs = deletes ls_ended 1 refl hit_found deletes_it; journal_is = refl; readings_are = refl; words_are = refl; others_are = refl };
  deletes_none = finds_nothing refl (nothing_found zeros (moment_at []) 1) refl;
  hit_stays = not_left;
  sets_key = record { next = after_call [] key_set; runs = sets_value 0 refl sets_it; journal_is = refl; readings_are = refl; words_are = refl; others_are = refl };
  sets_name = record { next = after_call [] name_set; runs = sets_alias 0 refl names_it; journal_is = refl; readings_are = refl; words_are = refl; others_are = refl };
  ends_name = record { next = after_call (an_alias ∷ []) name_gone; runs = ends_alias 1 refl ends_it; journal_is = refl; readings_are = refl; words_are = refl; others_are = refl };
  ends_none = lacks_alias refl (no_alias (numbered (codes "a") 12)) refl;
  alias_stays = alias_not_left;
  crashed = crashes refl refl;
  crash_leaves = nothing_leaves;
}
