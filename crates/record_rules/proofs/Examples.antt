-- The examples, computed.
use Rattle.std.proofs.Common.{◌≡◌, ℕ, zero, suc, ◌+◌, ◌<◌, ◌≤◌, false, ◌||◌, cond, List, [], ◌∷◌, ◌++◌, length, map, Option, Some, None, Ok, refl, sym, ap, arith}
use Rattle.std.specs.Prelude.{sum_by, codes, nat_lt, nat_le, replicate}
use Rattle.std.proofs.lemmas.Option.{none-some}
use Rattle.std.specs.Option.{option_or}
use Rattle.std.proofs.lemmas.Bool.{true≢false}
use Rattle.definitions.specs.Limits.{most_entries, most_held_weight, most_places}
use Rattle.record_rules.specs.Records.{SealedRecord, Entry, Started, Local, Taken, record_weight, page_weight, event_weight}
use Rattle.record_rules.specs.Journal.{PassedLimit, own_events, records_of, places_of, places_added, chain, first_limit_passed, RecordFits, Sound}
use Rattle.record_rules.specs.Examples.{WorkedHundred, WorkedFull, WorkedLimits, caller, kv_page, kv_record, placed_record, started_ls, entry_of, local_entry, WorkedTotals, WorkedStatus, WorkedRunning, WorkedPages, WorkedPrefixes, WorkedUnsound, WorkedSound, WorkedOwners}
use Rattle.record_rules.specs.Growth.{PageTooLong, has_long_text, GoOn, taken_entry, grow}
use Rattle.record_rules.proofs.FullOwner.{gap_is_told, full_is_told}
use Rattle.record_rules.proofs.NextPage.{next_page_is_taken}
use Rattle.record_rules.proofs.PageLimits.{full_page_and_more}
use Rattle.record_rules.proofs.Repeats.{repeated_page}
use Rattle.record_rules.proofs.Soundness.{empty_sound, Sound-push, taken_not_started, local_not_started}

-- the first limit passed, of the numbers alone
abbrev limit_by : (entries weight places added_weight added_places : ℕ) → Option PassedLimit
limit_by entries weight places added_weight added_places = option_or (cond (nat_lt most_entries (entries + 1)) (Some (record { what = 1; held = entries })) None) (option_or (cond (nat_lt most_held_weight (weight + added_weight)) (Some (record { what = 2; held = weight })) None) (cond (nat_lt most_places (places + added_places)) (Some (record { what = 3; held = places })) None))

pub totals : WorkedTotals
totals = record {
  sealed_command = refl;
  with_host_name = refl;
  of_owner_0 = refl;
  of_owner_5 = refl;
  entries_full = λ journal owner weight place few i. limit_by (few i) (sum_by event_weight (own_events journal owner)) (length (places_of (records_of (own_events journal owner)))) weight (places_added (own_events journal owner) place);
  weight_full = λ journal owner place few light i. limit_by (few i) (light i) (length (places_of (records_of (own_events journal owner)))) 1 (places_added (own_events journal owner) place);
  places_full = λ journal owner place few light narrow new i. limit_by (few i) (light i) (narrow i) 128 (new i);
  just_fits = λ journal owner place few light narrow new i. limit_by (few i) (light i) (narrow i) 128 (new i);
}

pub limits : WorkedLimits
limits = record {
  started_at_most = λ s command cwd session hostname. record { command = omega arith; cwd = omega arith; session = omega arith; hostname = omega arith };
  command_above = λ s long fits. let h = fits.command in omega arith;
  cwd_above = λ s long fits. let h = fits.cwd in omega arith;
  session_above = λ s long fits. let h = fits.session in omega arith;
  hostname_above = λ s long fits. let h = fits.hostname in omega arith;
  record_at_most = λ r name version tag weight. record { host_name = omega arith; version = omega arith; tag = omega arith; weight = omega (arith, weight) };
  host_name_above = λ r long fits. let h = fits.host_name in omega arith;
  version_above = λ r long fits. let h = fits.version in omega arith;
  tag_above = λ r long fits. let h = fits.tag in omega arith;
  weight_above = λ r heavy fits. let h : record_weight r ≤ 4194304 = fits.weight in omega (arith, heavy, h);
  page_at_most = λ earlier r count weight name version tag i. cond ((nat_le 100 (count i) || nat_lt 4194304 (weight i)) || ((nat_lt 256 (tag i) || nat_lt 256 (version i)) || nat_lt 4096 (name i))) (Some (PageTooLong (length earlier) (page_weight (earlier ++ r ∷ [])))) None;
  page_above = λ earlier r count weight i. cond ((nat_le 100 (count i) || nat_lt 4194304 (weight i)) || has_long_text r) (Some (PageTooLong (count i) (weight i))) None;
}

pub statuses : WorkedStatus
statuses = record {
  in_order = refl;
  of_none = refl;
  two_from_one = refl;
  past_the_end = refl;
  rises = ((refl, (refl, tt)), ((refl, tt), (tt, tt)));
  twice = λ rises. let h = rises.0.0 in cc;
  falls = λ rises. let h = rises.0.0 in cc;
}

pub runs : WorkedRunning
runs = record { begun = refl; ended = refl; ended_before = refl }

pub pages : WorkedPages
pages = record { first_time = refl; second_time = refl; overlapping = refl; gap = refl; gap_within = refl; fork = refl; fork_within = refl; twice_within = refl; long_tag = refl; long_version = refl; long_host_name = refl; full_tag = refl; least_position = refl; other_owner = refl; first_held = refl; none_held = refl; place_taken = refl; place_free = refl; held_with = refl }

kv_goes_on : (count idx : ℕ) → GoOn 2 (codes "kv") idx (kv_page count idx)
kv_goes_on zero idx = tt
kv_goes_on (suc count) idx = (refl, refl, refl, kv_goes_on count (idx + 1))

pub prefixes : WorkedPrefixes
prefixes = record {
  goes_on = kv_goes_on 3 3;
  from_another = λ go. let h : ◌≡◌ {A = ℕ} 3 2 = go.2 in omega arith;
  other_host = λ go. let h : ◌≡◌ {A = ℕ} 2 1 = go.0 in omega arith;
  other_tag = λ go. let h : ◌≡◌ {A = ℕ} 2 7 = ap (λ (tag : List ℕ). length tag) go.1 in omega arith;
  leaves_one = λ go. let h : ◌≡◌ {A = ℕ} 5 4 = go.3.2 in omega arith;
  prefix = refl;
  whole = refl;
  longer = λ is. let h : ◌≡◌ {A = ℕ} 3 2 = ap (λ (l : List SealedRecord). length l) is in omega arith;
  later = λ is. let h : ◌≡◌ {A = ℕ} 1 0 = ap idx_of_first is in omega arith;
  two = record { is_prefix = refl; within = omega arith; longest = λ shorter. omega arith };
  one = record { is_prefix = refl; within = omega arith; longest = λ shorter. omega arith };
  all = record { is_prefix = refl; within = omega arith; longest = λ shorter. omega arith };
  not_longest = λ is. let h : 264 < 264 = is.longest (omega arith) in omega arith;
  too_heavy = λ is. let h : 264 ≤ 263 = is.within in omega arith;
  no_prefix = λ is. let h : ◌≡◌ {A = ℕ} 1 0 = ap idx_of_first is.is_prefix in omega arith;
}
  where
    idx_of_first : List SealedRecord → ℕ
    idx_of_first [] = 9
    idx_of_first (r ∷ records) = r.idx

taken_whole : grow [] caller 5 (kv_page 100 0) ≡ Ok (map (taken_entry caller 5) (kv_page 100 0))
taken_whole = next_page_is_taken [] caller 5 2 (codes "kv") (kv_page 100 0) (λ k r held. absurd (none-some r held)) (kv_goes_on 100 0) refl (record { entries = omega arith; weight = omega arith; places = omega arith })

pub hundred : WorkedHundred
hundred = record {
  first_time = taken_whole;
  second_time = repeated_page [] caller caller 5 (kv_page 100 0) (map (taken_entry caller 5) (kv_page 100 0)) taken_whole;
  gap = refl;
  fork = refl;
  too_long = full_page_and_more [] caller 5 (kv_page 100 0) [] (kv_record 100 1100) (map (taken_entry caller 5) (kv_page 100 0)) taken_whole refl;
}

pub full_owner : WorkedFull
full_owner = record {
  full = λ journal owner r many short fresh same. full_is_told journal caller owner r short fresh many same;
  gap = λ journal owner r many short fresh differ. gap_is_told journal caller owner r short fresh differ;
}

pub unsound : WorkedUnsound
unsound = record {
  begins_late = λ sound. let h : ◌≡◌ {A = ℕ} 1 0 = sound.numbered 5 2 (codes "kv") 0 (kv_record 1 1001) refl in omega arith;
  idx_twice = λ sound. let h : ◌≡◌ {A = ℕ} 0 1 = sound.numbered 5 2 (codes "kv") 1 (kv_record 0 1001) refl in omega arith;
  other_host = λ sound. let h : ◌≡◌ {A = ℕ} 1 2 = sound.made_here 0 (Local None (placed_record 1 (codes "history") 0 11)) (omega arith) in omega arith;
  never_begun = λ sound. true≢false (sym (sound.closes_running 0 7 (placed_record 1 (codes "history") 0 11) refl));
  other_begun = λ sound. true≢false (sym (sound.closes_running 1 8 (placed_record 1 (codes "history") 0 11) refl));
  ended_twice = λ sound. true≢false (sym (sound.closes_running 2 7 (placed_record 1 (codes "history") 1 12) refl));
  ended_before = λ sound. true≢false (sym (sound.closes_running 0 7 (placed_record 1 (codes "history") 0 11) refl));
  begun_at_once = λ sound. sound.started_apart 0 1 (started_ls 7) (started_ls 7) (omega arith) refl refl refl;
  begun_twice = λ sound. sound.started_apart 0 2 (started_ls 7) (started_ls 7) (omega arith) refl refl refl;
  long_tag = λ sound. let fit : RecordFits (placed_record 2 (replicate 257 0) 0 1) = sound.events_fit 0 (Taken 5 (placed_record 2 (replicate 257 0) 0 1)) (omega arith) in let h : 257 ≤ 256 = fit.tag in omega arith;
  too_many = λ journal many sound. let few = (sound.held_fits 5).entries in omega (arith, many, few);
}

-- a record that was taken in may follow where it is next, fits, and its owner has room
taken_follows : (journal : List Entry) (host owner : ℕ) (r : SealedRecord) → Sound journal host → r.idx ≡ length (chain journal owner r.host r.tag) → RecordFits r → first_limit_passed journal owner (record_weight r) (Some (record { host = r.host; tag = r.tag })) ≡ None → Sound (journal ++ entry_of (Taken owner r) ∷ []) host
taken_follows journal host owner r sound next fit room = Sound-push journal (entry_of (Taken owner r)) host sound (record {
  numbered = next;
  made_here = tt;
  closes_running = λ closed closes. absurd (true≢false (sym closes));
  started_apart = λ k s t at is. absurd (taken_not_started owner r t is);
  event_fits = fit;
  held_fits = room;
})

kv_fits : (idx id : ℕ) → RecordFits (kv_record idx id)
kv_fits idx id = record { host_name = omega arith; version = omega arith; tag = omega arith; weight = omega arith }

after_start : Sound (entry_of (Started (started_ls 7)) ∷ []) 1
after_start = Sound-push [] (entry_of (Started (started_ls 7))) 1 (empty_sound 1) (record {
  numbered = tt;
  made_here = tt;
  closes_running = λ closed closes. absurd (true≢false (sym closes));
  started_apart = λ k s t at is. absurd (none-some (Started s) at);
  event_fits = record { command = omega arith; cwd = omega arith; session = omega arith; hostname = omega arith };
  held_fits = refl;
})

after_end : Sound (entry_of (Started (started_ls 7)) ∷ local_entry (Some 7) 0 11 ∷ []) 1
after_end = Sound-push (entry_of (Started (started_ls 7)) ∷ []) (local_entry (Some 7) 0 11) 1 after_start (record {
  numbered = refl;
  made_here = refl;
  closes_running = λ closed closes. ap (λ b. b || false) closes;
  started_apart = λ k s t at is. absurd (local_not_started (Some 7) (placed_record 1 (codes "history") 0 11) t is);
  event_fits = record { host_name = omega arith; version = omega arith; tag = omega arith; weight = omega arith };
  held_fits = refl;
})

pub sound_journal : WorkedSound
sound_journal =
    let ended = entry_of (Started (started_ls 7)) ∷ local_entry (Some 7) 0 11 ∷ [] in
    let first : Sound (ended ++ entry_of (Taken 5 (kv_record 0 1000)) ∷ []) 1 = taken_follows ended 1 5 (kv_record 0 1000) after_end refl (kv_fits 0 1000) refl in
    let second : Sound ((ended ++ entry_of (Taken 5 (kv_record 0 1000)) ∷ []) ++ entry_of (Taken 6 (kv_record 0 1001)) ∷ []) 1 = taken_follows (ended ++ entry_of (Taken 5 (kv_record 0 1000)) ∷ []) 1 6 (kv_record 0 1001) first refl (kv_fits 0 1001) refl in
    record { of_three_owners = taken_follows ((ended ++ entry_of (Taken 5 (kv_record 0 1000)) ∷ []) ++ entry_of (Taken 6 (kv_record 0 1001)) ∷ []) 1 5 (kv_record 1 1002) second refl (kv_fits 1 1002) refl }

pub owners : WorkedOwners
owners = record { each_alone = refl }
