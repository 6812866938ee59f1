-- The worked examples, computed.
use Rattle.std.proofs.Common.{◌≡◌, ℕ, ◌+◌, inl, inr, List, [], ◌∷◌, None, Ok, Err, refl, sym, subst, arith}
use Rattle.std.specs.Prelude.{codes, replicate}
use Rattle.std.specs.Fmt.{digits}
use Rattle.std.specs.List.{Contains}
use Rattle.std.proofs.lemmas.Option.{same_Some}
use Rattle.std.proofs.lemmas.List.Sorted.{IsPermutation-refl}
use Rattle.definitions.specs.Journal.{HistoryRecord}
use Rattle.definitions.proofs.Among.{HaveDistinctIds-none}
use Rattle.payload_rules.specs.Payloads.{KvSet}
use Rattle.record_rules.specs.Records.{Caller, SealedRecord, Entry, Local}
use Rattle.record_rules.specs.Journal.{PassedLimit}
use Rattle.record_rules.specs.Growth.{PageFull, grow}
use Rattle.record_rules.specs.Examples.{caller, entry_of}
use Rattle.view_rules.specs.Changes.{Change, viewed, changes_of}
use Rattle.view_rules.specs.Views.{ShowsHistory}
use Rattle.view_rules.proofs.Alone.{none_of_none}
use Rattle.step_rules.specs.Calls.{kv_set_call, status_call}
use Rattle.step_rules.specs.Answers.{stored, places, refused}
use Rattle.step_rules.specs.Store.{KeyedStore}
use Rattle.step_rules.specs.Step.{record_draft, kv_set_drafts, append_step, shows_places, read_step}
use Rattle.step_rules.proofs.Examples.{whole_page}
use Rattle.world_rules.specs.World.{World, with_journal, with_page, Append, Deliver, Crash}
use Rattle.world_rules.specs.Examples.{command_record}
use Rattle.rehearsal_rules.specs.Transfers.{with_taken, Transfers, Syncs}
use Rattle.rehearsal_rules.specs.Moments.{Moment, first_moment, moment_after}
use Rattle.rehearsal_rules.specs.Runs.{IsAnswered, HasNoRoom}
use Rattle.rehearsal_rules.specs.Rehearsal.{HostCalls, numbered, FindsFirst, finds_nothing, sets_value, syncs}
use Rattle.rehearsal_rules.specs.Examples.{open_store, apart, taken, first_value, second_value, value_of_seven, WorkedWords, WorkedTransfers, WorkedRehearsal, WorkedRun}

pub words : WorkedWords
words = record { words = refl; ten_bytes = refl; next_bytes = refl; words_drawn = refl; key = refl; three_hosts = refl }

-- ---- transfers

abbrev up_there : World
up_there = with_taken apart (command_record 1 0 11 ∷ []) 0 (taken (command_record 1 0 11) ∷ [])

abbrev down_here : World → World
down_here w = with_taken w (command_record 2 0 21 ∷ []) 1 (taken (command_record 2 0 21) ∷ [])

none_left : (callers : List Caller) (new : World) → Transfers 1 0 (record { host = 1; tag = codes "history" }) 1 1 callers apart new → new ≡ apart
none_left [] new hands = hands.1
none_left (c ∷ callers) new hands = absurd (let less = hands.0 in omega (arith, less))

both_ways : Syncs 1 apart (down_here up_there)
both_ways = (up_there, (up_there, (caller ∷ [], (omega arith, (taken (command_record 1 0 11) ∷ [], refl, (omega arith, refl)))), (up_there, refl, refl)), (up_there, refl, (down_here up_there, (caller ∷ [], (omega arith, (taken (command_record 2 0 21) ∷ [], refl, (omega arith, refl)))), refl)))

pub transfers : WorkedTransfers
transfers = record {
  plan_is = refl;
  up = up_there;
  uploads = (up_there, (caller ∷ [], (omega arith, (taken (command_record 1 0 11) ∷ [], refl, (omega arith, refl)))), (up_there, refl, refl));
  up_has = record { server = refl; node = refl; pages = refl };
  down = down_here apart;
  downloads = (apart, refl, (down_here apart, (caller ∷ [], (omega arith, (taken (command_record 2 0 21) ∷ [], refl, (omega arith, refl)))), refl));
  down_has = record { server = refl; node = refl; pages = refl };
  both = down_here up_there;
  syncs_both = both_ways;
  both_have = record { server = refl; node = refl; pages = refl };
  row_seven = syncs (down_here up_there) (inl refl) both_ways refl;
  row_eight = syncs (down_here up_there) (inr refl) both_ways refl;
  second_only = (omega arith, (taken (command_record 1 1 12) ∷ [], refl, (omega arith, refl)));
  none_handed = none_left;
}

-- ---- a whole rehearsal

-- where no record opens nothing is shown
none_open : (records : List SealedRecord) → changes_of (λ r. None) records ≡ []
none_open [] = refl
none_open (r ∷ records) = none_open records

nothing_shown : (records : List SealedRecord) (h : HistoryRecord) → ShowsHistory (changes_of (λ r. None) records) h → ⊥
nothing_shown records h shown = none_of_none shown.0 (subst (λ (changes : List Change). Contains changes shown.0) (none_open records) shown.1.created.among)

-- and a search for all finds nothing
pub nothing_found : (key : List ℕ) (r : Moment) (host : ℕ) → FindsFirst (open_store None key) r host []
nothing_found key r host = record {
  entries = [];
  listed = record { own = HaveDistinctIds-none HistoryRecord (λ h. h.id); same = λ h. (λ among. absurd (let below = among.1 in omega arith), λ shown. absurd (nothing_shown (viewed (r.world.journal (host + 1))) h shown)) };
  answer = record { in_order = []; found = IsPermutation-refl []; sorted = λ k d low high. absurd (omega arith); cut = whole_page 1 [] (omega arith, inl (omega arith)) };
}

-- the moment after one call of host 0, which drew 106 bytes
abbrev after_one : Moment → List Entry → Moment
after_one r journal = moment_after r 1 journal 1 106

abbrev first_set : Moment
first_set = after_one first_moment (entry_of (Local None first_value) ∷ [])

abbrev both_set : Moment
both_set = after_one first_set (entry_of (Local None first_value) ∷ entry_of (Local None second_value) ∷ [])

sets_first : HostCalls (open_store None (replicate 32 0)) 0 first_moment 0 (kv_set_call (codes "n") (numbered (codes "k") 14) (numbered (codes "v") 2)) (stored 0) first_set
unfolding digits
sets_first = record {
  caller = caller;
  readings = 1;
  bytes = 106;
  journal = entry_of (Local None first_value) ∷ [];
  fits = record { numbers = tt; texts = omega arith };
  stepped = append_step 1700000000000000000 _ (record_draft None (KvSet (codes "n") (numbered (codes "k") 14) (numbered (codes "v") 2))) refl refl (record { short = refl; drafts = kv_set_drafts _ _ _ refl refl; room = refl }) refl refl refl;
  becomes = refl;
}

sets_second : HostCalls (open_store None (replicate 32 0)) 0 first_set 0 (kv_set_call (codes "n") (numbered (codes "k") 13) (numbered (codes "v") 3)) (stored 1) both_set
unfolding digits
sets_second = record {
  caller = caller;
  readings = 1;
  bytes = 106;
  journal = entry_of (Local None first_value) ∷ entry_of (Local None second_value) ∷ [];
  fits = record { numbers = tt; texts = omega arith };
  stepped = append_step 1700000000001000000 _ (record_draft None (KvSet (codes "n") (numbered (codes "k") 13) (numbered (codes "v") 3))) refl refl (record { short = refl; drafts = kv_set_drafts _ _ _ refl refl; room = refl }) refl refl refl;
  becomes = refl;
}

abbrev in_the_end : World
in_the_end = with_taken both_set.world (first_value ∷ second_value ∷ []) 0 (taken first_value ∷ taken second_value ∷ [])

pub rehearsal : WorkedRehearsal
rehearsal = record {
  world = in_the_end;
  rehearsed = record {
    played = both_set;
    uploaded = in_the_end;
    ran = (first_moment, finds_nothing refl (nothing_found (replicate 32 0) first_moment 0) refl, (first_set, sets_value 0 refl sets_first, (both_set, sets_value 1 refl sets_second, refl)));
    uploads = (in_the_end, (in_the_end, (caller ∷ [], (omega arith, (taken first_value ∷ taken second_value ∷ [], refl, (omega arith, refl)))), refl), refl);
    downloads = (in_the_end, refl, refl);
  };
  of_host = refl;
  of_server = refl;
  sent = refl;
  status_of_host = refl;
  status_of_server = refl;
}

-- ---- a run

abbrev seven_set : Moment
seven_set = moment_after first_moment 1 (entry_of (Local None value_of_seven) ∷ []) 1 106

abbrev seven_asked : Moment
seven_asked = moment_after seven_set 1 (entry_of (Local None value_of_seven) ∷ []) 0 0

abbrev seven_sent : Moment
seven_sent = record seven_asked { world = with_page seven_asked.world (value_of_seven ∷ []) }

abbrev seven_taken : Moment
seven_taken = record seven_sent { world = with_journal seven_sent.world 0 (taken value_of_seven ∷ []) }

abbrev seven : KeyedStore
seven = open_store None (replicate 32 0)

seven_sets : IsAnswered seven (7 ∷ []) first_moment 1 (kv_set_call (codes "n") (codes "k") (codes "v")) seven_set
seven_sets = record {
  answer = stored 0;
  answers = record {
    host = 7;
    at_host = refl;
    at_no_server = omega arith;
    calls = record {
      caller = caller;
      readings = 1;
      bytes = 106;
      journal = entry_of (Local None value_of_seven) ∷ [];
      fits = record { numbers = tt; texts = omega arith };
      stepped = append_step 1700000000000000000 _ (record_draft None (KvSet (codes "n") (codes "k") (codes "v"))) refl refl (record { short = refl; drafts = kv_set_drafts _ _ _ refl refl; room = refl }) refl refl refl;
      becomes = refl;
    };
  };
  granted = λ refusal same. let other : stored 0 ≡ refused refusal = same in cc;
}

seven_asks : IsAnswered seven (7 ∷ []) seven_set 1 status_call seven_asked
seven_asks = record {
  answer = places (record { host = 7; tag = codes "kv"; count = 1 } ∷ []);
  answers = record {
    host = 7;
    at_host = refl;
    at_no_server = omega arith;
    calls = record {
      caller = caller;
      readings = 0;
      bytes = 0;
      journal = entry_of (Local None value_of_seven) ∷ [];
      fits = record { numbers = tt; texts = omega arith };
      stepped = read_step refl (shows_places refl refl) refl;
      becomes = refl;
    };
  };
  granted = λ refusal same. let other : places (record { host = 7; tag = codes "kv"; count = 1 } ∷ []) ≡ refused refusal = same in cc;
}

has_room : (passed : PassedLimit) → HasNoRoom (7 ∷ []) seven_sent.world 0 0 caller passed → ⊥
has_room passed no_room =
    let page : value_of_seven ∷ [] ≡ no_room.records = same_Some (value_of_seven ∷ []) no_room.records no_room.was_sent in
    let taken_it : Ok (taken value_of_seven ∷ []) ≡ Err (PageFull passed) = subst (λ (records : List SealedRecord). grow [] caller 0 records ≡ Err (PageFull passed)) (sym page) no_room.refuses in
    cc

pub run : WorkedRun
run = record {
  moment = seven_taken;
  runs = (
    seven_set,
    seven_sets,
    (seven_asked, seven_asks, (seven_sent, (seven_sent.world, record { of_host = 7; at_node = refl; becomes = refl }, refl), (seven_taken, (has_room, (seven_taken.world, record { of_host = 0; records = value_of_seven ∷ []; at_node = refl; was_sent = refl; becomes = refl }, refl)), (seven_taken, (0, refl, refl), refl)))),
  );
  of_host = refl;
  of_server = refl;
  readings = refl;
  drawn = refl;
  unsent = record { event = Deliver 0 0 caller; moment = first_moment; at = refl; before = refl; here = inl (omega arith) };
  no_node = record { event = Crash 2; moment = first_moment; at = refl; before = (first_moment, (7, refl, refl), refl); here = omega arith };
  at_server = record { event = Append 0 status_call; moment = first_moment; at = refl; before = refl; here = inl refl };
}
