-- The examples, computed.
use Rattle.std.proofs.Common.{◌≡◌, ℕ, zero, suc, false, ◌||◌, cond, inl, inr, Bool, true, List, [], ◌∷◌, ◌++◌, length, Some, None, Result, Ok, Err, refl, sym, ◌∙◌, ap, subst, arith}
use Rattle.std.specs.Prelude.{◌+◌, ◌<◌, ◌≤◌, ◌^◌, pos, nat_lt, codes, take, drop, replicate, bytes_eq, sum_by}
use Rattle.std.specs.Option.{option_or}
use Rattle.std.specs.List.{list_all}
use Rattle.std.proofs.lemmas.Str.{IsUtf8-from_ascii}
use Rattle.std.proofs.lemmas.Str.Ascii.{IsAscii-nil}
use Rattle.std.proofs.lemmas.Bool.{eq-eqb, true≢false, ltb-true}
use Rattle.std.proofs.lemmas.Option.{none-some, same_Some}
use Rattle.std.proofs.lemmas.List.{append-nil, length-append, length-replicate}
use Rattle.std.proofs.lemmas.Slice.Eq.{bytes_eq-Decides}
use Rattle.definitions.specs.Spelling.{IsBytes}
use Rattle.definitions.proofs.Items.{both_true}
use Rattle.definitions.specs.Calls.{by_prefix}
use Rattle.definitions.specs.Journal.{HistoryRecord}
use Rattle.definitions.specs.Search.{hit_bytes, IsPage, FitsPage}
use Rattle.definitions.proofs.Among.{HaveDistinctIds-none, HaveDistinctIds-more}
use Rattle.std.proofs.lemmas.List.Sorted.{IsPermutation-refl}
use Rattle.std.specs.List.{Contains, filter}
use Rattle.std.specs.List.Sorted.{IsPermutation}
use Rattle.definitions.specs.Uses.{Used, used_nothing, read_clock, read_and_drew}
use Rattle.definitions.specs.Examples.{first_time, ten_bytes, first_id, ls, ls_ended}
use Rattle.record_rules.specs.Examples.{ls_entry}
use Rattle.payload_rules.specs.Payloads.{Payload, HistoryCreate, HistoryDelete, KvSet, AliasSet, AliasDelete, version_0, version_text, tag_of, history_tag, payload_version, written_payload}
use Rattle.definitions.specs.Limits.{most_value_bytes, most_name_bytes, most_page_weight, most_held_weight, most_call_bytes}
use Rattle.record_rules.specs.Records.{SealedRecord, Caller, Entry, Local, record_weight, event_weight}
use Rattle.record_rules.specs.Growth.{PageRefusal, PageGap}
use Rattle.record_rules.specs.Journal.{ChainCount, chain, own_events, entries_passed, weight_passed, places_passed, first_limit_passed, status}
use Rattle.std.specs.declared.cmp.Ordering.TheVariants.{Less}
use Rattle.view_rules.specs.Changes.{change_of, gives, changes_of}
use Rattle.view_rules.specs.Views.{ShowsHistory, by_deletion, of_key, of_name, ShowsKv, ShowsAlias}
use Rattle.view_rules.specs.Answers.{of_all, ScopedQuery, is_found, IsScopedAnswer, SearchAnswer}
use Rattle.view_rules.proofs.Records.{Has-from_Contains, Contains-from_Has, holds, gives_once, computed_list}
use Rattle.view_rules.proofs.Settings.{of_key_set, of_name_set}
use Rattle.view_rules.proofs.Alone.{none_of_none, says_alone, said_alone, command_alone, created_alone}
use Rattle.step_rules.specs.Calls.{Call, end_call, kv_list_call, alias_list_call, is_read, name_field, value_field, first_long}
use Rattle.step_rules.specs.Answers.{Refusal, too_long, unknown_id, id_taken, disk_fault, no_memory, Answer, began, stored, hits, value_is, keys, aliases, places, refused, Reply}
use Rattle.step_rules.specs.Store.{Head, KeyedStore, sealed_record, payload_text_bytes, SealsWell}
use Rattle.step_rules.specs.Step.{Draft, start_draft, record_draft, Drafts, start_drafts, end_drafts, delete_drafts, kv_set_drafts, kv_delete_drafts, alias_set_drafts, alias_delete_drafts, Unknown, end_unknown, delete_unknown, key_unknown, alias_unknown, draft_passes, Ready, draws, Step, long_step, unknown_step, full_step, taken_step, append_step, read_step, Shows, shows_hits, shows_value, shows_no_value, shows_keys, shows_aliases, shows_places}
use Rattle.step_rules.specs.Turn.{is_refusal, settled, UsedBeforeFailing, used_clock, used_bytes, Turn, read_turn, short_unread_turn, unsettled_turn, undrawn_turn, step_turn, uncommitted_turn, short_turn, short_settled_turn}
use Rattle.step_rules.specs.PageTurns.{page_faulted, PageTurn, unsettled_page, taken_page, refused_page, uncommitted_page, short_page, short_settled_page}
use Rattle.step_rules.specs.ReadTurns.{status_read, front_read, read_faulted, read_no_memory, ReadTurn, tells_status, tells_page, tells_front, faults_on_page, wants_memory}
use Rattle.step_rules.specs.Examples.{end_id, end_head, end_record, end_settled, second_time, third_time, other_bytes, other_id, call_of, ls_call, other_entry, end_entry, OfExample, zeros_store, one_made, second_taken, WorkedStore, WorkedCommand, WorkedTexts, WorkedViews, WorkedDrafts, RunOf, WorkedRun, WorkedAsked, WorkedDoubt, WorkedPageTurns, WorkedReadTurns}
use Rattle.step_rules.proofs.Following.{seal_bytes, tag_fits, version_length}
use Rattle.step_rules.proofs.Outcomes.{shows_read, Step-one}
use Rattle.view_rules.specs.Answers.{Named, IsAbove, IsKey}
use Rattle.view_rules.proofs.ListExamples.{whole_list}
use Rattle.record_rules.proofs.Members.{Has}
use Rattle.std.specs.Cmp.Lexicographic.{slice_cmp}
use Rattle.std.specs.Ordering.{nat_cmp}

ls_ready : (store : KeyedStore) (journal : List Entry) → draft_passes store journal (start_draft (codes "ls") (codes "/") (codes "s1") (codes "h:u")) ≡ None → Ready store journal ls_call (start_draft (codes "ls") (codes "/") (codes "s1") (codes "h:u"))
ls_ready store journal room = record { short = refl; drafts = start_drafts _ _ _ _ refl refl; room = room }

ls_starts : (store : KeyedStore) → Step store [] (call_of 1) ls_call (read_and_drew first_time ten_bytes) (ls_entry ∷ []) (began first_id)
ls_starts store = append_step first_time ten_bytes (start_draft (codes "ls") (codes "/") (codes "s1") (codes "h:u")) refl refl (ls_ready store [] refl) refl refl refl

end_room : (store : KeyedStore) → OfExample store → draft_passes store (ls_entry ∷ []) (record_draft (Some first_id) (HistoryCreate ls_ended)) ≡ None
end_room store of_example = ap (λ w. first_limit_passed (ls_entry ∷ []) 0 w (Some (record { host = store.host; tag = history_tag }))) of_example.weight

ls_ends : (store : KeyedStore) (drawn : List ℕ) (caller : Caller) → OfExample store → length drawn ≡ 106 → Step store (ls_entry ∷ []) caller (end_call first_id (pos 1000) (pos 0) None) (read_and_drew second_time drawn) (ls_entry ∷ record { caller = caller; event = Local (Some first_id) (end_record store drawn) } ∷ []) (stored 0)
ls_ends store drawn caller of_example many =
    append_step second_time drawn (record_draft (Some first_id) (HistoryCreate ls_ended)) refl many
    (record { short = refl; drafts = end_drafts first_id (pos 1000) (pos 0) None ls refl refl refl; room = end_room store of_example }) refl refl refl

-- ---- a store of zeros

zeros_weigh : (head : Head) (payload : Payload) (now : ℕ) (random : List ℕ) → head.tag ≡ tag_of payload → head.version ≡ version_text (payload_version payload) → length random ≡ 96 → record_weight (sealed_record head now (zeros_store.seal head payload random)) ≡ zeros_store.weight_of payload
zeros_weigh head payload now random tag_is version_is many =
    let tag : length head.tag ≡ length (tag_of payload) = ap (λ (text : List ℕ). length text) tag_is in
    let version : length head.version ≡ 2 = ap (λ (text : List ℕ). length text) version_is ∙ version_length (payload_version payload) in
    let zeros : List ℕ = replicate (127 + payload_text_bytes payload) 0 in
    let many_zeros : length zeros ≡ 127 + payload_text_bytes payload = length-replicate (127 + payload_text_bytes payload) 0 in
    let sealed : length (random ++ zeros) ≡ length random + length zeros = length-append random zeros in
    omega (arith, tag, version, many_zeros, sealed, many)

zeros_light : (payload : Payload) → payload_text_bytes payload ≤ most_call_bytes → zeros_store.weight_of payload ≤ most_page_weight
zeros_light payload few = let tag = tag_fits payload in omega (arith, tag, few)

-- a record that opens has the tag of history
zeros_open : (payload : Payload) (tag : List ℕ) (same : Bool) → bytes_eq tag history_tag ≡ same → cond same (Some (HistoryCreate ls_ended)) None ≡ Some payload → tag ≡ tag_of payload
zeros_open payload tag true same opened = (bytes_eq-Decides tag history_tag).0 same ∙ ap tag_of (same_Some (HistoryCreate ls_ended) payload opened)
zeros_open payload tag false same opened = absurd (none-some payload opened)

zeros_example : OfExample zeros_store
zeros_example = record { host = refl; weight = refl }

-- what a record says in the open that ends the empty name
abbrev empty_end : Head
empty_end = record { id = 0; idx = 0; version = version_text version_0; tag = tag_of (AliasDelete []); host = 1 }

abbrev all_bytes : List ℕ → Bool
all_bytes bytes = list_all (λ (b : ℕ). nat_lt b 256) bytes

are_bytes : (bytes : List ℕ) → all_bytes bytes ≡ true → IsBytes bytes
are_bytes [] e i = omega arith
are_bytes (b ∷ bytes) e zero = ltb-true b 256 (both_true (nat_lt b 256) (all_bytes bytes) e).0
are_bytes (b ∷ bytes) e (suc i) = are_bytes bytes (both_true (nat_lt b 256) (all_bytes bytes) e).1 i

pub a_store : WorkedStore
a_store = record {
  seals_well = record { weighs = zeros_weigh; light = zeros_light };
  of_example = zeros_example;
  opens_by_tag = λ r payload opened. zeros_open payload r.tag (bytes_eq r.tag history_tag) refl opened;
  opens_end = λ drawn. refl;
  tells_less = λ well. let told = well.weighs empty_end (AliasDelete []) 0 (replicate 96 0) refl refl refl in omega (arith, told);
  too_heavy = λ well. let light = well.light (AliasDelete []) (omega arith) in omega (arith, light);
  closed_seals = record { weighs = zeros_weigh; light = zeros_light };
  never_opens = λ opens.
      none-some (AliasDelete []) (opens empty_end (AliasDelete []) 0 (replicate 96 0) refl refl tt (record { utf8 = IsUtf8-from_ascii [] IsAscii-nil; short = omega arith }) (are_bytes (written_payload (AliasDelete [])) refl) refl (are_bytes (replicate 96 0) refl));
}

pub commands : WorkedCommand
commands = record {
  starts = ls_starts;
  starts_again = λ store. taken_step first_time ten_bytes (start_draft (codes "ls") (codes "/") (codes "s1") (codes "h:u")) refl refl (ls_ready store (ls_entry ∷ []) refl) refl (record { stays = refl; answer_is = refl });
  ends = λ store drawn of_example many. ls_ends store drawn (call_of 2) of_example many;
  end_taken = λ store drawn r of_example many same.
      taken_step second_time drawn (record_draft (Some first_id) (HistoryCreate ls_ended)) refl many
      (record { short = refl; drafts = end_drafts first_id (pos 1000) (pos 0) None ls refl refl refl; room = end_room store of_example })
      (ap (λ b. b || false) (eq-eqb r.id (end_id drawn) same)) (record { stays = refl; answer_is = refl });
  is_full = λ store journal passes. full_step first_time (start_draft (codes "ls") (codes "/") (codes "s1") (codes "h:u")) _ refl refl (start_drafts _ _ _ _ refl refl) passes (record { stays = refl; answer_is = refl });
  other_runs = λ store. unknown_step second_time _ refl refl (end_unknown 7 (pos 1000) (pos 0) None refl refl refl) (record { stays = refl; answer_is = refl });
  starts_beside = λ store r same. append_step first_time ten_bytes (start_draft (codes "ls") (codes "/") (codes "s1") (codes "h:u")) refl refl (ls_ready store _ refl) refl refl refl;
  ends_again = λ store drawn. unknown_step second_time _ refl refl (end_unknown first_id (pos 1000) (pos 0) None refl refl refl) (record { stays = refl; answer_is = refl });
  never_ran = λ store. unknown_step first_time _ refl refl (end_unknown _ (pos 0) (pos 0) None refl refl refl) (record { stays = refl; answer_is = refl });
}

long_author : (store : KeyedStore) (id : ℕ) (author : List ℕ) → length author ≡ 4097 → Step store [] (call_of 1) (end_call id (pos 0) (pos 0) (Some author)) (read_clock first_time) [] (refused (too_long 4 4097))
long_author store id author at = long_step first_time (record { field = 4; length = 4097 }) refl (λ i. cond (nat_lt most_name_bytes (at i)) (Some (record { field = 4; length = at i })) None) (record { stays = refl; answer_is = refl })

pub texts : WorkedTexts
texts = record {
  command_at_most = λ command at i. cond (nat_lt most_value_bytes (at i)) (Some (record { field = 1; length = at i })) None;
  command_above = λ store command at. long_step first_time (record { field = 1; length = 262145 }) refl (λ i. cond (nat_lt most_value_bytes (at i)) (Some (record { field = 1; length = at i })) None) (record { stays = refl; answer_is = refl });
  cwd_above = λ command cwd session hostname at above i. cond (nat_lt most_value_bytes (at i)) (Some (record { field = 1; length = at i })) (cond (nat_lt most_name_bytes (above i)) (Some (record { field = 2; length = above i })) (first_long (name_field 3 session ∷ name_field 4 hostname ∷ [])));
  session_above = λ session hostname above i. cond (nat_lt most_name_bytes (above i)) (Some (record { field = 3; length = above i })) (first_long (name_field 4 hostname ∷ []));
  hostname_above = λ hostname above i. cond (nat_lt most_name_bytes (above i)) (Some (record { field = 4; length = above i })) None;
  hostname_at_most = λ hostname at i. cond (nat_lt most_name_bytes (at i)) (Some (record { field = 4; length = at i })) None;
  namespace_above = λ namespace key value above i. cond (nat_lt most_name_bytes (above i)) (Some (record { field = 1; length = above i })) (first_long (name_field 2 key ∷ value_field 3 value ∷ []));
  key_above = λ key value above i. cond (nat_lt most_name_bytes (above i)) (Some (record { field = 2; length = above i })) (first_long (value_field 3 value ∷ []));
  kv_value_above = λ value above i. cond (nat_lt most_value_bytes (above i)) (Some (record { field = 3; length = above i })) None;
  kv_value_at_most = λ value at i. cond (nat_lt most_value_bytes (at i)) (Some (record { field = 3; length = at i })) None;
  name_above = λ name value above i. cond (nat_lt most_name_bytes (above i)) (Some (record { field = 1; length = above i })) (first_long (value_field 2 value ∷ []));
  alias_value_above = λ value above i. cond (nat_lt most_value_bytes (above i)) (Some (record { field = 2; length = above i })) None;
  author_at_most = λ id author at i. cond (nat_lt most_name_bytes (at i)) (Some (record { field = 4; length = at i })) None;
  author_above = long_author;
  author_first = λ store id author after answer at step unknown.
      let same = Step-one store [] (call_of 1) (end_call id (pos 0) (pos 0) (Some author)) (read_clock first_time) [] after (refused (too_long 4 4097)) answer refl (long_author store id author at) step in
      let told : refused (too_long 4 4097) ≡ refused (unknown_id id) = same.1 ∙ unknown in
      absurd cc;
  alias_value_at_most = λ value at i. cond (nat_lt most_value_bytes (at i)) (Some (record { field = 2; length = at i })) None;
}

abbrev n_k_v : Payload
n_k_v = KvSet (codes "n") (codes "k") (codes "v")

abbrev g_v : Payload
g_v = AliasSet (codes "g") (codes "v")

module _ (store : KeyedStore) (r : SealedRecord) (opened : store.opens r ≡ Some n_k_v) where
  shown : ShowsKv (changes_of store.opens (r ∷ [])) (codes "n") (codes "k") (codes "v")
  shown = says_alone store.opens r n_k_v opened (of_key (codes "n") (codes "k")) (codes "v") refl

  not_shown : ((value : List ℕ) × ShowsKv (changes_of store.opens (r ∷ [])) (codes "n") (codes "other") value) → ⊥
  not_shown found = let none : None ≡ Some (Some found.0) = said_alone store.opens r n_k_v opened (of_key (codes "n") (codes "other")) found.1.0 (Some found.0) found.1.1 in cc

module _ (store : KeyedStore) (r : SealedRecord) (opened : store.opens r ≡ Some n_k_v) where
  abbrev k_item : Named
  k_item = record { name = codes "k"; value = [] }

  abbrev IsN : Named → Type 0
  IsN item = IsKey (changes_of store.opens (r ∷ [])) (codes "n") item

  k_is_key : IsN k_item
  k_is_key = (refl, (codes "v", shown store r opened))

  name_is : (item : Named) → IsN item → codes "k" ≡ item.name
  name_is item is = (of_key_set (codes "n") item.name (codes "n") (codes "k") (codes "v") (Some is.1.0) (said_alone store.opens r n_k_v opened (of_key (codes "n") item.name) is.1.1.0 (Some is.1.0) is.1.1.1)).1

  item_is : (item : Named) → IsN item → k_item ≡ item
  item_is item is = ap (λ name. record { name = name; value = [] }) (name_is item is) ∙ ap (λ value. record { name = item.name; value = value }) (sym is.0)

  k_from : (item : Named) → Has (k_item ∷ []) item → IsN item × IsAbove [] item.name
  k_from item (inl e) = (subst IsN e k_is_key, inl refl)
  k_from item (inr none) = absurd none

  k_listed : Shows store (record { caller = call_of 1; event = Local None r } ∷ []) (kv_list_call (codes "n") [] 5) (keys (codes "k" ∷ []))
  k_listed = shows_keys (codes "n") [] 5 (k_item ∷ []) refl (whole_list 5 IsN [] (k_item ∷ []) (λ item. (λ c. k_from item (Has-from_Contains (k_item ∷ []) item c), λ l. Contains-from_Has (k_item ∷ []) item (inl (item_is item l.0)))) (tt, tt) (omega arith, inl (omega arith))) refl

  none_above : (item : Named) → IsN item → IsAbove (codes "k") item.name → ⊥
  none_above item is (inl e) = absurd cc
  none_above item is (inr less) = absurd (let turned : slice_cmp nat_cmp (codes "k") (codes "k") ≡ Less = subst (λ name. slice_cmp nat_cmp (codes "k") name ≡ Less) (sym (name_is item is)) less in cc)

  none_listed : Shows store (record { caller = call_of 1; event = Local None r } ∷ []) (kv_list_call (codes "n") (codes "k") 5) (keys [])
  none_listed = shows_keys (codes "n") (codes "k") 5 [] refl (whole_list 5 IsN (codes "k") [] (λ item. (λ c. absurd (let below = c.1 in omega arith), λ l. absurd (none_above item l.0 l.1))) tt (omega arith, inl (omega arith))) refl

module _ (store : KeyedStore) (r : SealedRecord) (opened : store.opens r ≡ Some g_v) where
  abbrev IsG : Named → Type 0
  IsG item = ShowsAlias (changes_of store.opens (r ∷ [])) item.name item.value

  g_is : (item : Named) → IsG item → codes "g" ≡ item.name
  g_is item is = (of_name_set item.name (codes "g") (codes "v") (Some item.value) (said_alone store.opens r g_v opened (of_name item.name) is.0 (Some item.value) is.1)).0

  none_above_g : (item : Named) → IsG item → IsAbove (codes "g") item.name → ⊥
  none_above_g item is (inl e) = absurd cc
  none_above_g item is (inr less) = absurd (let turned : slice_cmp nat_cmp (codes "g") (codes "g") ≡ Less = subst (λ name. slice_cmp nat_cmp (codes "g") name ≡ Less) (sym (g_is item is)) less in cc)

  no_alias_listed : Shows store (record { caller = call_of 1; event = Local None r } ∷ []) (alias_list_call (codes "g") 5) (aliases [])
  no_alias_listed = shows_aliases (codes "g") 5 [] refl (whole_list 5 IsG (codes "g") [] (λ item. (λ c. absurd (let below = c.1 in omega arith), λ l. absurd (none_above_g item l.0 l.1))) tt (omega arith, inl (omega arith))) refl

pub views : WorkedViews
views = record {
  no_pair = λ store. unknown_step first_time _ refl refl (key_unknown (codes "n") (codes "k") refl (λ shown. none_of_none shown.1.0 shown.1.1.here.among) refl) (record { stays = refl; answer_is = refl });
  no_alias = λ store. unknown_step first_time _ refl refl (alias_unknown (codes "zz") refl (λ named. none_of_none named.1.0 named.1.1.here.among) refl) (record { stays = refl; answer_is = refl });
  a_key = k_listed;
  no_key_above = none_listed;
  no_alias_above = no_alias_listed;
  a_value = λ store r opened. read_turn (value_is (Some (codes "v"))) refl (shows_value (codes "n") (codes "k") (codes "v") refl (shown store r opened) refl) (record { journal_is = refl; doubt_is = refl; reply_is = refl });
  no_value = λ store r opened. read_turn (value_is None) refl (shows_no_value (codes "n") (codes "other") refl (not_shown store r opened) refl) (record { journal_is = refl; doubt_is = refl; reply_is = refl });
}

module _ (store : KeyedStore) (r : SealedRecord) (opened : store.opens r ≡ Some (HistoryCreate ls_ended)) where
  pub command_shown : ShowsHistory (changes_of store.opens (r ∷ [])) ls_ended
  command_shown = command_alone store.opens r (HistoryCreate ls_ended) opened ls_ended refl refl

  only_command : (h : HistoryRecord) → ShowsHistory (changes_of store.opens (r ∷ [])) h → ls_ended ≡ h
  only_command h shown = same_command (created_alone store.opens r (HistoryCreate ls_ended) opened h shown)
    where
      same_command : HistoryCreate ls_ended ≡ HistoryCreate h → ls_ended ≡ h
      same_command e = cc

  no_other : ((h : HistoryRecord) × ShowsHistory (changes_of store.opens (r ∷ [])) h × (h.id ≡ 7)) → ⊥
  no_other found =
      let id_is : first_id ≡ 7 = ap (λ (h : HistoryRecord). h.id) (only_command found.0 found.1) ∙ found.2 in
      omega (arith, id_is)

module _ (store : KeyedStore) (r : SealedRecord) (opened : store.opens r ≡ Some g_v) where
  pub alias_shown : ShowsAlias (changes_of store.opens (r ∷ [])) (codes "g") (codes "v")
  alias_shown = says_alone store.opens r g_v opened (of_name (codes "g")) (codes "v") refl

  no_other_name : ((value : List ℕ) × ShowsAlias (changes_of store.opens (r ∷ [])) (codes "v") value) → ⊥
  no_other_name found = let none : None ≡ Some (Some found.0) = said_alone store.opens r g_v opened (of_name (codes "v")) found.1.0 (Some found.0) found.1.1 in cc

-- a command that the second of two records deletes
module _ (store : KeyedStore) (r s : SealedRecord) (opened : store.opens s ≡ Some (HistoryDelete first_id)) where
  deleted : (h : HistoryRecord) → ShowsHistory (changes_of store.opens (r ∷ s ∷ [])) h → h.id ≡ first_id → ⊥
  deleted h shown same =
      let changes = changes_of store.opens (r ∷ s ∷ []) in
      let has = holds (gives store.opens) (gives_once store.opens) (r ∷ s ∷ []) changes s (HistoryDelete first_id) (computed_list store.opens (r ∷ s ∷ [])) (inr (inl refl)) opened in
      shown.1.alive (by_deletion (change_of s (HistoryDelete first_id)) (Contains-from_Has changes (change_of s (HistoryDelete first_id)) has) (ap HistoryDelete (sym same)))

one_reading : (now : ℕ) → read_clock now ≡ used_nothing → ⊥
one_reading now e = let same : ◌≡◌ {A = ℕ} 1 0 = ap (λ (u : Used). length u.readings) e in omega arith

-- an End of what doesn't run is told just that
no_end_drafts : (store : KeyedStore) (draft : Draft) → Drafts store [] (end_call 7 (pos 0) (pos 0) None) draft → ⊥
no_end_drafts store draft (start_drafts _ _ _ _ e _) = absurd cc
no_end_drafts store draft (end_drafts _ _ _ _ s _ runs _) = none-some s runs
no_end_drafts store draft (delete_drafts _ e _ _) = absurd cc
no_end_drafts store draft (kv_set_drafts _ _ _ e _) = absurd cc
no_end_drafts store draft (kv_delete_drafts _ _ e _ _) = absurd cc
no_end_drafts store draft (alias_set_drafts _ _ e _) = absurd cc
no_end_drafts store draft (alias_delete_drafts _ e _ _) = absurd cc

unknown_told : (store : KeyedStore) (refusal : Refusal) → Unknown store [] (end_call 7 (pos 0) (pos 0) None) refusal → (id : ℕ) × (refusal ≡ unknown_id id)
unknown_told store refusal (end_unknown id _ _ _ _ _ is) = (id, is)
unknown_told store refusal (delete_unknown _ e _ _) = absurd cc
unknown_told store refusal (key_unknown _ _ e _ _) = absurd cc
unknown_told store refusal (alias_unknown _ e _ _) = absurd cc

end_told : (store : KeyedStore) (after : List Entry) (answer : Answer) → Step store [] (call_of 1) (end_call 7 (pos 0) (pos 0) None) (read_clock first_time) after answer → (id : ℕ) × (answer ≡ refused (unknown_id id))
end_told store after answer (long_step _ long _ is _) = absurd (none-some long is)
end_told store after answer (unknown_step _ refusal _ _ unknown refuses) = let told = unknown_told store refusal unknown in (told.0, refuses.answer_is ∙ ap refused told.1)
end_told store after answer (full_step _ draft _ _ _ drafts _ _) = absurd (no_end_drafts store draft drafts)
end_told store after answer (taken_step _ _ draft _ _ ready _ _) = absurd (no_end_drafts store draft ready.drafts)
end_told store after answer (append_step _ _ draft _ _ ready _ _ _) = absurd (no_end_drafts store draft ready.drafts)
end_told store after answer (read_step e _ _) = absurd (one_reading first_time e)

no_fault_told : (store : KeyedStore) (after doubt_after : List Entry) (front : ℕ) → Turn store [] [] (call_of 1) (end_call 7 (pos 0) (pos 0) None) (read_clock first_time) after doubt_after (record { front = front; answer = refused disk_fault }) → ⊥
no_fault_told store after doubt_after front (read_turn _ e _ _) = one_reading first_time e
no_fault_told store after doubt_after front (short_unread_turn e _) = one_reading first_time e
no_fault_told store after doubt_after front (unsettled_turn _ _ some _ _) = some refl
no_fault_told store after doubt_after front (step_turn made answer _ step leaves) =
    let told = end_told store made answer step in
    let same : refused disk_fault ≡ refused (unknown_id told.0) = ap (λ (r : Reply). r.answer) leaves.reply_is ∙ told.1 in
    absurd cc
no_fault_told store after doubt_after front (undrawn_turn _ draft ready _ _) = no_end_drafts store draft ready.drafts
no_fault_told store after doubt_after front (uncommitted_turn batch _ answer _ denies step _ _) = let told = end_told store batch answer step in true≢false (sym (ap is_refusal told.1) ∙ denies)
no_fault_told store after doubt_after front (short_turn _ _ _ leaves) = absurd (let same : refused disk_fault ≡ refused no_memory = ap (λ (r : Reply). r.answer) leaves.reply_is in cc)
no_fault_told store after doubt_after front (short_settled_turn _ _ leaves) = absurd (let same : refused disk_fault ≡ refused no_memory = ap (λ (r : Reply). r.answer) leaves.reply_is in cc)

some_drawn : (draft : Draft) → draws draft ≡ 9 → ⊥
some_drawn (start_draft _ _ _ _) nine = omega arith
some_drawn (record_draft _ _) nine = omega arith

module _ (store : KeyedStore) (journal : List Entry) (call : Call) (used : Used) where
  clock_was_read : UsedBeforeFailing store journal call used → used ≡ used_nothing → ⊥
  clock_was_read (used_clock now e) none = one_reading now (sym e ∙ none)
  clock_was_read (used_bytes now _ drawn _ _ e) none = let same : ◌≡◌ {A = ℕ} 1 0 = ap (λ (u : Used). length u.readings) (sym e ∙ none) in omega arith

  not_nine_drawn : UsedBeforeFailing store journal call used → length used.drawn ≡ 9 → ⊥
  not_nine_drawn (used_clock now e) nine = absurd (let none : length used.drawn ≡ 0 = ap (λ (u : Used). length u.drawn) e in omega arith)
  not_nine_drawn (used_bytes now draft drawn _ many e) nine = some_drawn draft (sym many ∙ sym (ap (λ (u : Used). length u.drawn) e) ∙ nine)

-- ten bytes aren't none
ten_drawn : {other : Used} → read_and_drew first_time ten_bytes ≡ other → length other.drawn ≡ 0 → ⊥
ten_drawn same none = let ten : ◌≡◌ {A = ℕ} 10 0 = ap (λ (u : Used). length u.drawn) same ∙ none in omega (arith, ten)

one_left : (entry : Entry) → entry ∷ [] ≡ [] → ⊥
one_left entry same = let one : ◌≡◌ {A = ℕ} 1 0 = ap length same in omega (arith, one)

not_drawn_in_doubt : (store : KeyedStore) (drawn : List ℕ) → Turn store (ls_entry ∷ []) (end_entry store drawn ∷ []) (call_of 3) ls_call (read_and_drew first_time ten_bytes) (ls_entry ∷ []) (end_entry store drawn ∷ []) (record { front = 1; answer = refused no_memory }) → ⊥
not_drawn_in_doubt store drawn (read_turn _ e _ _) = ten_drawn e refl
not_drawn_in_doubt store drawn (short_unread_turn e _) = ten_drawn e refl
not_drawn_in_doubt store drawn (unsettled_turn _ _ _ e _) = ten_drawn e refl
not_drawn_in_doubt store drawn (step_turn _ _ _ _ leaves) = one_left _ leaves.doubt_is
not_drawn_in_doubt store drawn (undrawn_turn _ _ _ _ leaves) = one_left _ leaves.doubt_is
not_drawn_in_doubt store drawn (uncommitted_turn _ _ _ _ _ _ _ leaves) = absurd (let same : refused no_memory ≡ refused disk_fault = ap (λ (r : Reply). r.answer) leaves.reply_is in cc)
not_drawn_in_doubt store drawn (short_turn _ _ e _) = ten_drawn e refl
not_drawn_in_doubt store drawn (short_settled_turn _ _ leaves) = one_left _ leaves.doubt_is

not_drawn_unready : (store : KeyedStore) → UsedBeforeFailing store [] (end_call 7 (pos 0) (pos 0) None) (read_and_drew first_time ten_bytes) → ⊥
not_drawn_unready store (used_clock _ e) = ten_drawn e refl
not_drawn_unready store (used_bytes _ draft _ ready _ _) = no_end_drafts store draft ready.drafts

-- a page of no records can only be taken or want memory, where nothing is in doubt
abbrev batch_of : Result (List Entry) PageRefusal → List Entry
batch_of (Ok batch) = batch
batch_of (Err refusal) = []

no_page_fault : (after doubt_after : List Entry) → PageTurn [] [] (call_of 1) 5 [] after doubt_after page_faulted → ⊥
no_page_fault after doubt_after (unsettled_page some _ _) = some refl
no_page_fault after doubt_after (taken_page _ _ _ e) = absurd cc
no_page_fault after doubt_after (refused_page _ _ _ e) = absurd cc
no_page_fault after doubt_after (uncommitted_page batch _ is some _ _ _) = some (ap batch_of (sym is))
no_page_fault after doubt_after (short_page _ e) = absurd cc
no_page_fault after doubt_after (short_settled_page _ e) = absurd cc

-- with a host of 1 the end stands in that host's chain
abbrev status_with : KeyedStore → List ℕ → List Entry → ℕ → List ChainCount
status_with store drawn later host = status (ls_entry ∷ record { caller = record { number = 0; call = 2; settled_for = 1 }; event = Local (Some first_id) (record (end_record store drawn) { host = host }) } ∷ later) 0

chain_told : (store : KeyedStore) (drawn : List ℕ) → OfExample store → status (ls_entry ∷ end_settled store drawn ∷ []) 0 ≡ record { host = 1; tag = history_tag; count = 1 } ∷ []
chain_told store drawn of_example = ap (status_with store drawn []) of_example.host

chain_behind : (store : KeyedStore) (drawn : List ℕ) → OfExample store → status (ls_entry ∷ end_settled store drawn ∷ other_entry ∷ []) 0 ≡ record { host = 1; tag = history_tag; count = 1 } ∷ []
chain_behind store drawn of_example = ap (status_with store drawn (other_entry ∷ [])) of_example.host

-- both weigh 720 bytes, which leaves room
both_weigh : (store : KeyedStore) (drawn : List ℕ) → SealsWell store → OfExample store → length drawn ≡ 106 → sum_by event_weight (own_events (ls_entry ∷ end_settled store drawn ∷ []) 0) ≡ 720
both_weigh store drawn well of_example many = ap (λ w. 136 + w) (well.weighs (end_head store drawn) (HistoryCreate ls_ended) second_time (drop 10 drawn) refl refl (seal_bytes drawn many) ∙ of_example.weight)

room_for_more : (store : KeyedStore) (drawn : List ℕ) → SealsWell store → OfExample store → length drawn ≡ 106 → draft_passes store (ls_entry ∷ end_settled store drawn ∷ []) (start_draft (codes "ls") (codes "/") (codes "s1") (codes "h:u")) ≡ None
room_for_more store drawn well of_example many =
    let light : weight_passed (own_events (ls_entry ∷ end_settled store drawn ∷ []) 0) 136 ≡ None = ap (λ sum. cond (nat_lt most_held_weight (sum + 136)) (Some (record { what = 2; held = sum })) None) (both_weigh store drawn well of_example many) in
    ap (λ o. option_or (entries_passed (own_events (ls_entry ∷ end_settled store drawn ∷ []) 0)) (option_or o (places_passed (own_events (ls_entry ∷ end_settled store drawn ∷ []) 0) None))) light

nothing_read : {other : Used} → used_nothing ≡ other → length other.readings ≡ 1 → ⊥
nothing_read same one = let none : ◌≡◌ {A = ℕ} 0 1 = ap (λ (u : Used). length u.readings) same ∙ one in omega (arith, none)

write_reads : (store : KeyedStore) (journal : List Entry) (caller : Caller) (call : Call) (after : List Entry) (answer : Answer) → is_read call ≡ false → Step store journal caller call used_nothing after answer → ⊥
write_reads store journal caller call after answer writes (long_step _ _ e _ _) = nothing_read e refl
write_reads store journal caller call after answer writes (unknown_step _ _ e _ _ _) = nothing_read e refl
write_reads store journal caller call after answer writes (full_step _ _ _ e _ _ _ _) = nothing_read e refl
write_reads store journal caller call after answer writes (taken_step _ _ _ e _ _ _ _) = nothing_read e refl
write_reads store journal caller call after answer writes (append_step _ _ _ e _ _ _ _ _) = nothing_read e refl
write_reads store journal caller call after answer writes (read_step _ shows _) = true≢false (sym (shows_read store journal caller call answer shows) ∙ writes)

write_unread : (store : KeyedStore) (after doubt_after : List Entry) (reply : Reply) → Turn store [] [] (call_of 1) ls_call used_nothing after doubt_after reply → (after ≡ []) × (doubt_after ≡ []) × (reply.answer ≡ refused no_memory)
write_unread store after doubt_after reply (read_turn answer _ shows _) = absurd (true≢false (sym (shows_read store [] (call_of 1) ls_call answer shows)))
write_unread store after doubt_after reply (short_unread_turn _ leaves) = (leaves.journal_is, leaves.doubt_is, ap (λ (r : Reply). r.answer) leaves.reply_is)
write_unread store after doubt_after reply (unsettled_turn _ _ some _ _) = absurd (some refl)
write_unread store after doubt_after reply (step_turn made answer writes step _) = absurd (write_reads store [] (call_of 1) ls_call made answer writes step)
write_unread store after doubt_after reply (undrawn_turn _ _ _ e _) = absurd (nothing_read e refl)
write_unread store after doubt_after reply (uncommitted_turn batch _ answer writes _ step _ _) = absurd (write_reads store [] (call_of 1) ls_call batch answer writes step)
write_unread store after doubt_after reply (short_turn _ _ e _) = absurd (nothing_read e refl)
write_unread store after doubt_after reply (short_settled_turn _ some _) = absurd (clock_was_read store [] ls_call used_nothing some refl)

end_ready_behind : Ready zeros_store (settled [] (ls_entry ∷ [])) (end_call first_id (pos 1000) (pos 0) None) (record_draft (Some first_id) (HistoryCreate ls_ended))
end_ready_behind = record { short = refl; drafts = end_drafts first_id (pos 1000) (pos 0) None ls refl refl refl; room = refl }

pub doubt : WorkedDoubt
doubt = record {
  in_doubt = λ store drawn of_example many. uncommitted_turn (end_entry store drawn ∷ []) (end_entry store drawn ∷ []) (stored 0) refl refl (ls_ends store drawn (call_of 2) of_example many) (inr refl) (record { journal_is = refl; doubt_is = refl; reply_is = refl });
  lost = λ store drawn of_example many. uncommitted_turn (end_entry store drawn ∷ []) [] (stored 0) refl refl (ls_ends store drawn (call_of 2) of_example many) (inl refl) (record { journal_is = refl; doubt_is = refl; reply_is = refl });
  not_shown = λ store drawn. read_turn (places []) refl (shows_places refl refl) (record { journal_is = refl; doubt_is = refl; reply_is = refl });
  is_settled = λ store drawn well of_example many. step_turn (ls_entry ∷ end_settled store drawn ∷ []) (refused (id_taken first_id)) refl
      (taken_step first_time ten_bytes (start_draft (codes "ls") (codes "/") (codes "s1") (codes "h:u")) refl refl (ls_ready store (ls_entry ∷ end_settled store drawn ∷ []) (room_for_more store drawn well of_example many)) refl (record { stays = refl; answer_is = refl }))
      (record { journal_is = refl; doubt_is = refl; reply_is = refl });
  then_starts = λ store drawn well of_example many. step_turn (ls_entry ∷ end_settled store drawn ∷ other_entry ∷ []) (began other_id) refl
      (append_step third_time other_bytes (start_draft (codes "ls") (codes "/") (codes "s1") (codes "h:u")) refl refl (ls_ready store (ls_entry ∷ end_settled store drawn ∷ []) (room_for_more store drawn well of_example many)) refl refl refl)
      (record { journal_is = refl; doubt_is = refl; reply_is = refl });
  then_shown = λ store drawn of_example. read_turn (places (record { host = 1; tag = history_tag; count = 1 } ∷ [])) refl (shows_places refl (ap places (sym (chain_told store drawn of_example)))) (record { journal_is = refl; doubt_is = refl; reply_is = refl });
  shown_behind = λ store drawn of_example. read_turn (places (record { host = 1; tag = history_tag; count = 1 } ∷ [])) refl (shows_places refl (ap places (sym (chain_behind store drawn of_example)))) (record { journal_is = refl; doubt_is = refl; reply_is = refl });
  stays_in_doubt = λ store drawn. unsettled_turn second_time refl (λ e. cc) refl (record { journal_is = refl; doubt_is = refl; reply_is = refl });
  undrawn_behind = undrawn_turn second_time (record_draft (Some first_id) (HistoryCreate ls_ended)) end_ready_behind refl (record { journal_is = refl; doubt_is = refl; reply_is = refl });
  short_behind = short_settled_turn refl (used_bytes second_time (record_draft (Some first_id) (HistoryCreate ls_ended)) (replicate 106 0) end_ready_behind refl refl) (record { journal_is = refl; doubt_is = refl; reply_is = refl });
  short_unread = λ store. short_unread_turn refl (record { journal_is = refl; doubt_is = refl; reply_is = refl });
  only_short_unread = write_unread;
  not_drawn = λ store. undrawn_turn first_time _ (ls_ready store [] refl) refl (record { journal_is = refl; doubt_is = refl; reply_is = refl });
  again = λ store drawn of_example many. step_turn (ls_entry ∷ record { caller = call_of 3; event = Local (Some first_id) (end_record store drawn) } ∷ []) (stored 0) refl (ls_ends store drawn (call_of 3) of_example many) (record { journal_is = refl; doubt_is = refl; reply_is = refl });
  short_read = λ store drawn. short_unread_turn refl (record { journal_is = refl; doubt_is = refl; reply_is = refl });
  short = λ store drawn. short_turn second_time refl refl (record { journal_is = refl; doubt_is = refl; reply_is = refl });
  short_settled = λ store drawn well of_example many. short_settled_turn refl
      (used_bytes first_time (start_draft (codes "ls") (codes "/") (codes "s1") (codes "h:u")) ten_bytes (ls_ready store (ls_entry ∷ end_settled store drawn ∷ []) (room_for_more store drawn well of_example many)) refl refl) (record { journal_is = refl; doubt_is = refl; reply_is = refl });
  clock_unread = λ store journal used. clock_was_read store journal ls_call used_nothing used refl;
  nine_drawn = λ store journal used. not_nine_drawn store journal ls_call (read_and_drew first_time (take 9 ten_bytes)) used refl;
  drawn_in_doubt = not_drawn_in_doubt;
  drawn_unready = not_drawn_unready;
  no_fault = no_fault_told;
}

pub drafts : WorkedDrafts
drafts = record {
  sets_key = λ store. kv_set_drafts _ _ _ refl refl;
  deletes_key = λ store r opened. kv_delete_drafts (codes "n") (codes "k") refl (codes "v", shown store r opened) refl;
  sets_alias = λ store. alias_set_drafts _ _ refl refl;
  deletes = λ store r opened. delete_drafts first_id refl (ls_ended, command_shown store r opened, refl) refl;
  no_command = λ store r opened. unknown_step first_time _ refl refl (delete_unknown 7 refl (no_other store r opened) refl) (record { stays = refl; answer_is = refl });
  runs_still = λ store. unknown_step second_time _ refl refl (delete_unknown first_id refl (λ shown. none_of_none shown.1.0 shown.1.1.created.among) refl) (record { stays = refl; answer_is = refl });
  deleted_before = λ store r s opened. unknown_step first_time _ refl refl (delete_unknown first_id refl (λ shown. deleted store r s opened shown.0 shown.1 shown.2) refl) (record { stays = refl; answer_is = refl });
  deletes_alias = λ store r opened. alias_delete_drafts (codes "g") refl (codes "v", alias_shown store r opened) refl;
  no_name = λ store r opened. unknown_step first_time _ refl refl (alias_unknown (codes "v") refl (no_other_name store r opened) refl) (record { stays = refl; answer_is = refl });
  next_idx = λ store id of_example. ap (λ host. record { id = id; idx = length (chain (one_made ∷ []) 0 host history_tag); version = version_text version_0; tag = history_tag; host = host }) of_example.host;
  next_told = λ store id of_example. ap (λ host. stored (length (chain (one_made ∷ []) 0 host history_tag))) of_example.host;
  takes_place = λ store of_example. ap (λ host. Some (record { host = host; tag = history_tag })) of_example.host;
  takes_none = λ store. refl;
}

-- ---- a command that is started, ended and found

-- a page of all that is left
pub whole_page : (limit : ℕ) (page : List HistoryRecord) → FitsPage hit_bytes limit page → IsPage hit_bytes limit page page
whole_page limit page fits = record { rest = []; begins = sym (append-nil page); fits = fits; most = λ next others e more. absurd cc }

abbrev no_hits : List HistoryRecord
no_hits = []

abbrev search_for : (text : List ℕ) (offset : ℕ) → ScopedQuery
search_for text offset = record { scope = of_all; unique = false; query = record { mode = by_prefix; text = text; offset = offset; limit = 100 } }

none_are_shown : (text : List ℕ) (entries : List HistoryRecord) → filter (is_found (search_for text 0)) entries ≡ no_hits → IsScopedAnswer (search_for text 0) entries no_hits
none_are_shown text entries none = record {
  in_order = no_hits;
  found = subst (λ (found : List HistoryRecord). IsPermutation found no_hits) (sym none) (IsPermutation-refl no_hits);
  sorted = λ k d low high. absurd (omega arith);
  cut = whole_page 100 no_hits (omega arith, inl (omega arith));
}

none_ended_found : (store : KeyedStore) → SearchAnswer [] (search_for (codes "ls") 0) no_hits
none_ended_found store = record {
  entries = no_hits;
  listed = record { own = HaveDistinctIds-none HistoryRecord (λ h. h.id); same = λ h. (λ among. absurd (let below = among.1 in omega arith), λ shown. absurd (none_of_none shown.0 shown.1.created.among)) };
  answer = none_are_shown (codes "ls") no_hits refl;
}

module _ (store : KeyedStore) (r : SealedRecord) (opened : store.opens r ≡ Some (HistoryCreate ls_ended)) where
  is_listed : (h : HistoryRecord) → Contains (ls_ended ∷ []) h → ShowsHistory (changes_of store.opens (r ∷ [])) h
  is_listed h among = elim (Has-from_Contains (ls_ended ∷ []) h among) [
    | inl here ↦ subst (ShowsHistory (changes_of store.opens (r ∷ []))) here (command_shown store r opened)
    | inr later ↦ absurd later
  ]

  pub found_of_one : (asked : ScopedQuery) (page : List HistoryRecord) → IsScopedAnswer asked (ls_ended ∷ []) page → SearchAnswer (changes_of store.opens (r ∷ [])) asked page
  found_of_one asked page answer = record {
    entries = ls_ended ∷ [];
    listed = record { own = HaveDistinctIds-more HistoryRecord (λ h. h.id) [] ls_ended (HaveDistinctIds-none HistoryRecord (λ h. h.id)) refl; same = λ h. (is_listed h, λ shown. Contains-from_Has (ls_ended ∷ []) h (inl (only_command store r opened h shown))) };
    answer = answer;
  }

-- one command is in order, whatever the page shows of it
one_in_order : (offset : ℕ) (page : List HistoryRecord) → IsPage hit_bytes 100 (drop offset (ls_ended ∷ [])) page → IsScopedAnswer (search_for (codes "ls") offset) (ls_ended ∷ []) page
one_in_order offset page cut = record { in_order = ls_ended ∷ []; found = IsPermutation-refl (ls_ended ∷ []); sorted = λ k d low high. absurd (omega arith); cut = cut }

run_of : (store : KeyedStore) (drawn : List ℕ) → OfExample store → length drawn ≡ 106 → store.opens (end_record store drawn) ≡ Some (HistoryCreate ls_ended) → RunOf store drawn
run_of store drawn of_example many opened = record {
  starts = step_turn (ls_entry ∷ []) (began first_id) refl (ls_starts store) (record { journal_is = refl; doubt_is = refl; reply_is = refl });
  none_ended = read_turn (hits no_hits) refl (shows_hits (search_for (codes "ls") 0) no_hits refl (none_ended_found store) refl) (record { journal_is = refl; doubt_is = refl; reply_is = refl });
  ends = step_turn (ls_entry ∷ end_entry store drawn ∷ []) (stored 0) refl (ls_ends store drawn (call_of 2) of_example many) (record { journal_is = refl; doubt_is = refl; reply_is = refl });
  is_found = read_turn (hits (ls_ended ∷ [])) refl (shows_hits (search_for (codes "ls") 0) (ls_ended ∷ []) refl (found_of_one store (end_record store drawn) opened (search_for (codes "ls") 0) (ls_ended ∷ []) (one_in_order 0 (ls_ended ∷ []) (whole_page 100 (ls_ended ∷ []) (omega arith, inl (omega arith))))) refl) (record { journal_is = refl; doubt_is = refl; reply_is = refl });
  other_text = read_turn (hits no_hits) refl (shows_hits (search_for (codes "pwd") 0) no_hits refl (found_of_one store (end_record store drawn) opened (search_for (codes "pwd") 0) no_hits (none_are_shown (codes "pwd") (ls_ended ∷ []) refl)) refl) (record { journal_is = refl; doubt_is = refl; reply_is = refl });
  no_second = read_turn (hits no_hits) refl (shows_hits (search_for (codes "ls") 1) no_hits refl (found_of_one store (end_record store drawn) opened (search_for (codes "ls") 1) no_hits (one_in_order 1 no_hits (whole_page 100 no_hits (omega arith, inl (omega arith))))) refl) (record { journal_is = refl; doubt_is = refl; reply_is = refl });
}

pub run : WorkedRun
run = record { at_store = run_of; at_zeros = λ drawn many. run_of zeros_store drawn zeros_example many refl }

pub asked : WorkedAsked
asked = record {
  id_at_most = record { numbers = omega arith; texts = omega arith };
  id_above = λ fits. let h = fits.numbers in omega arith;
  end_id_above = λ fits. let h = fits.numbers.0 in omega arith;
  end_at_most = record { numbers = (omega arith, record { sfits = omega arith }, record { sfits = omega arith }); texts = omega arith };
  duration_above = λ fits. let h : 2 ^ 63 < 2 ^ 63 = fits.numbers.1.sfits in omega arith;
  status_below = λ fits. let h : 2 ^ 63 < 2 ^ 63 = fits.numbers.2.sfits in omega arith;
  one_key = record { numbers = (omega arith, omega arith); texts = omega arith };
  keys_at_most = record { numbers = (omega arith, omega arith); texts = omega arith };
  no_keys = λ fits. let h = fits.numbers.0 in omega arith;
  keys_above = λ fits. let h = fits.numbers.1 in omega arith;
  aliases_above = λ fits. let h = fits.numbers.1 in omega arith;
  hits_above = λ fits. let h = fits.numbers.1.1 in omega arith;
  offset_at_most = record { numbers = (omega arith, (omega arith, omega arith)); texts = omega arith };
  offset_above = λ fits. let h = fits.numbers.0 in omega arith;
  texts_at_most = λ text long. record { numbers = (omega arith, (omega arith, omega arith)); texts = omega (arith, long) };
  texts_above = λ text long fits. let h = fits.texts in omega (arith, long);
  of_start = refl;
  of_end = refl;
  of_authored_end = refl;
  of_delete = refl;
  of_search = refl;
  of_host_search = refl;
  of_session_search = refl;
  of_kv_set = refl;
  of_kv_delete = refl;
  of_kv_get = refl;
  of_kv_list = refl;
  of_alias_set = refl;
  of_alias_delete = refl;
  of_alias_list = refl;
  of_status = refl;
  of_creation = refl;
  of_deletion = refl;
  of_value = refl;
  of_no_value = refl;
  of_authored = refl;
  of_alias = refl;
  of_ending = refl;
}

pub page_turns : WorkedPageTurns
page_turns = record {
  taken = taken_page (second_taken ∷ []) refl (record { journal_is = refl; doubt_is = refl }) refl;
  taken_again = taken_page [] refl (record { journal_is = refl; doubt_is = refl }) refl;
  gap = refused_page (PageGap 0 1) refl (record { journal_is = refl; doubt_is = refl }) refl;
  stays_in_doubt = unsettled_page (λ e. cc) (record { journal_is = refl; doubt_is = refl }) refl;
  in_doubt = uncommitted_page (second_taken ∷ []) (second_taken ∷ []) refl (λ e. cc) (inr refl) (record { journal_is = refl; doubt_is = refl }) refl;
  lost = uncommitted_page (second_taken ∷ []) [] refl (λ e. cc) (inl refl) (record { journal_is = refl; doubt_is = refl }) refl;
  short = short_page (record { journal_is = refl; doubt_is = refl }) refl;
  short_settled = short_settled_page (record { journal_is = refl; doubt_is = refl }) refl;
  no_fault = no_page_fault;
}

-- ---- reads beside a session

no_fault_of_status : (owner : ℕ) (after doubt_after : List Entry) → ReadTurn [] [] (status_read owner) after doubt_after read_faulted → ⊥
no_fault_of_status owner after doubt_after (tells_status _ _ _ e) = absurd cc
no_fault_of_status owner after doubt_after (tells_page _ _ _ _ _ _ _ e) = absurd cc
no_fault_of_status owner after doubt_after (tells_front _ _ e) = absurd cc
no_fault_of_status owner after doubt_after (faults_on_page _ _ _ _ _ e _ _) = absurd cc
no_fault_of_status owner after doubt_after (wants_memory _ _ e) = absurd cc

no_fault_of_front : (after doubt_after : List Entry) → ReadTurn [] [] front_read after doubt_after read_faulted → ⊥
no_fault_of_front after doubt_after (tells_status _ _ _ e) = absurd cc
no_fault_of_front after doubt_after (tells_page _ _ _ _ _ _ _ e) = absurd cc
no_fault_of_front after doubt_after (tells_front _ _ e) = absurd cc
no_fault_of_front after doubt_after (faults_on_page _ _ _ _ _ e _ _) = absurd cc
no_fault_of_front after doubt_after (wants_memory _ _ e) = absurd cc

no_want_of_front : (after doubt_after : List Entry) → ReadTurn [] [] front_read after doubt_after read_no_memory → ⊥
no_want_of_front after doubt_after (tells_status _ _ _ e) = absurd cc
no_want_of_front after doubt_after (tells_page _ _ _ _ _ _ _ e) = absurd cc
no_want_of_front after doubt_after (tells_front _ _ e) = absurd cc
no_want_of_front after doubt_after (faults_on_page _ _ _ _ _ _ _ e) = absurd cc
no_want_of_front after doubt_after (wants_memory other _ _) = other refl

pub read_turns : WorkedReadTurns
read_turns = record {
  status_in_doubt = tells_status 5 refl (record { journal_is = refl; doubt_is = refl }) refl;
  page_in_doubt = tells_page 5 2 _ 0 100 refl (record { journal_is = refl; doubt_is = refl }) refl;
  front_in_doubt = tells_front refl (record { journal_is = refl; doubt_is = refl }) refl;
  a_status = tells_status 5 refl (record { journal_is = refl; doubt_is = refl }) refl;
  other_owner = tells_status 0 refl (record { journal_is = refl; doubt_is = refl }) refl;
  a_page = tells_page 5 2 _ 0 100 refl (record { journal_is = refl; doubt_is = refl }) refl;
  from_one = tells_page 5 2 _ 1 100 refl (record { journal_is = refl; doubt_is = refl }) refl;
  one_record = tells_page 5 2 _ 0 1 refl (record { journal_is = refl; doubt_is = refl }) refl;
  a_front = tells_front refl (record { journal_is = refl; doubt_is = refl }) refl;
  page_fault = faults_on_page 5 2 _ 0 100 refl (record { journal_is = refl; doubt_is = refl }) refl;
  no_status_fault = no_fault_of_status;
  no_front_fault = no_fault_of_front;
  short_status = wants_memory (λ e. cc) (record { journal_is = refl; doubt_is = refl }) refl;
  short_page = wants_memory (λ e. cc) (record { journal_is = refl; doubt_is = refl }) refl;
  no_short_front = no_want_of_front;
}
