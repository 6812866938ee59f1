-- The examples, computed.
use Rattle.std.proofs.Common.{◌≡◌, ◌≢◌, ℕ, zero, suc, ◌+◌, ◌<◌, ◌≤◌, ◌^◌, inl, inr, List, [], ◌∷◌, ◌++◌, length, get_or, drop, refl, sym, ◌∙◌, ap, arith, length-append}
use Rattle.std.specs.Prelude.{false, ◌||◌, take, replicate, slice_get, codes}
use Rattle.std.specs.List.{flat_map, AllByRecursion}
use Rattle.std.specs.Str.{IsAscii}
use Rattle.std.proofs.lemmas.Str.{IsUtf8-from_ascii}
use Rattle.std.proofs.lemmas.Str.Ascii.{IsAscii-nil}
use Rattle.std.specs.Int.{w32, to_be_bytes}
use Rattle.std.proofs.lemmas.List.{append-nil}
use Rattle.std.proofs.lemmas.Option.{none-some}
use Rattle.std.proofs.lemmas.Bool.{true≢false}
use Rattle.definitions.specs.Spelling.{TextFits}
use Rattle.definitions.specs.Examples.{first_id, ls}
use Rattle.record_rules.specs.Examples.{ls_entry}
use Rattle.record_rules.specs.Records.{Event, Started, Local, Taken}
use Rattle.record_rules.specs.Journal.{events_of, Sound}
use Rattle.record_rules.proofs.Soundness.{empty_sound, Sound-push}
use Rattle.log_rules.specs.Body.{HasEventBytes, IsBatch, event_bytes, body_bytes}
use Rattle.log_rules.specs.Log.{Form, current_form, old_form, HasNoHeader, batch_bytes, header_bytes, IsLogPrefix, StandsFor, DamagedAt, HoldsGoodBatch, payload_bytes}
use Rattle.log_rules.specs.Examples.{new_log, ended_ls, ended_entry, started_empty, ls_log, WorkedBodies, WorkedFields, WorkedNewLog, WorkedFirstBatch}
use Rattle.log_rules.specs.Opened.{opened_journal}
use Rattle.log_rules.proofs.Fields.{number_4, body_apart}
use Rattle.log_rules.proofs.Callers.{opened_events, opened_sound}

pub empty_prefix : (form : Form) (host : ℕ) → host < 2 ^ 128 → IsLogPrefix form (header_bytes form host) host []
empty_prefix form host fits = record { host_fits = fits; batches = []; opened = tt; events_are = refl; bytes_are = refl }

pub ascii_cons : (byte : ℕ) (bytes : List ℕ) → byte < 128 → IsAscii bytes → IsAscii (byte ∷ bytes)
ascii_cons byte bytes below others zero = below
ascii_cons byte bytes below others (suc k) = others k

ls_text : TextFits (codes "ls")
ls_text = record { utf8 = IsUtf8-from_ascii (codes "ls") (ascii_cons 0x6c (0x73 ∷ []) (omega arith) (ascii_cons 0x73 [] (omega arith) IsAscii-nil)); short = omega arith }

root_text : TextFits (codes "/")
root_text = record { utf8 = IsUtf8-from_ascii (codes "/") (ascii_cons 0x2f [] (omega arith) IsAscii-nil); short = omega arith }

session_text : TextFits (codes "s1")
session_text = record { utf8 = IsUtf8-from_ascii (codes "s1") (ascii_cons 0x73 (0x31 ∷ []) (omega arith) (ascii_cons 0x31 [] (omega arith) IsAscii-nil)); short = omega arith }

hostname_text : TextFits (codes "h:u")
hostname_text = record { utf8 = IsUtf8-from_ascii (codes "h:u") (ascii_cons 0x68 (0x3a ∷ 0x75 ∷ []) (omega arith) (ascii_cons 0x3a (0x75 ∷ []) (omega arith) (ascii_cons 0x75 [] (omega arith) IsAscii-nil))); short = omega arith }

pub ls_batch : IsBatch (Started ls ∷ [])
ls_batch = record {
  some = omega arith;
  few = omega arith;
  each = (record { id = omega arith; timestamp = omega arith; command = ls_text; cwd = root_text; session = session_text; hostname = hostname_text }, tt);
  body = omega arith;
}

pub ls_sound : Sound (ls_entry ∷ []) 1
ls_sound = Sound-push [] ls_entry 1 (empty_sound 1) (record {
  numbered = tt;
  made_here = tt;
  closes_running = λ closed closes. absurd (true≢false (sym closes));
  started_apart = λ k s t at is. absurd (none-some (Started s) at);
  event_fits = record { command = omega arith; cwd = omega arith; session = omega arith; hostname = omega arith };
  held_fits = refl;
})

pub ls_prefix : (gate : ℕ) → gate ≢ 0 → IsLogPrefix old_form (header_bytes old_form 1 ++ batch_bytes old_form 32 (record { gate = gate; events = Started ls ∷ [] })) 1 (Started ls ∷ [])
ls_prefix gate opened = record { host_fits = omega arith; batches = record { gate = gate; events = Started ls ∷ [] } ∷ []; opened = (record { gate = opened; batch_events = ls_batch }, tt); events_are = refl; bytes_are = refl }

pub ls_stands : (gate : ℕ) → gate ≢ 0 → StandsFor old_form (ls_log old_form gate) 1 (ls_entry ∷ [])
ls_stands gate opened = record { prefix = header_bytes old_form 1 ++ batch_bytes old_form 32 (record { gate = gate; events = Started ls ∷ [] }); behind = []; opened = ls_prefix gate opened; bytes_are = refl; sound = ls_sound }

pub ended_batch : IsBatch (ended_ls ∷ [])
ended_batch = record {
  some = omega arith;
  few = omega arith;
  each = (record { closed_id = omega arith; sealed_record = record { id = omega arith; idx = omega arith; host = omega arith; host_name = no_bytes; timestamp = omega arith; version = version_text; tag = tag_text; sealed = no_bytes; wrapped = no_bytes } }, tt);
  body = omega arith;
}
  where
    no_bytes : TextFits []
    no_bytes = record { utf8 = IsUtf8-from_ascii [] IsAscii-nil; short = omega arith }

    version_text : TextFits (codes "v0")
    version_text = record { utf8 = IsUtf8-from_ascii (codes "v0") (ascii_cons 0x76 (0x30 ∷ []) (omega arith) (ascii_cons 0x30 [] (omega arith) IsAscii-nil)); short = omega arith }

    tag_text : TextFits (codes "history")
    tag_text = record { utf8 = IsUtf8-from_ascii (codes "history") (ascii_cons 0x68 (codes "istory") (omega arith) (ascii_cons 0x69 (codes "story") (omega arith) (ascii_cons 0x73 (codes "tory") (omega arith) (ascii_cons 0x74 (codes "ory") (omega arith) (ascii_cons 0x6f (codes "ry") (omega arith) (ascii_cons 0x72 (codes "y") (omega arith) (ascii_cons 0x79 [] (omega arith) IsAscii-nil))))))); short = omega arith }

pub ended_sound : Sound (ls_entry ∷ ended_entry ∷ []) 1
ended_sound = Sound-push (ls_entry ∷ []) ended_entry 1 ls_sound (record {
  numbered = refl;
  made_here = refl;
  closes_running = λ closed closes. ap (λ b. b || false) closes;
  started_apart = λ k s t at is. cc;
  event_fits = record { host_name = omega arith; version = omega arith; tag = omega arith; weight = omega arith };
  held_fits = refl;
})

ended_prefix : IsLogPrefix old_form (header_bytes old_form 1 ++ batch_bytes old_form 32 (record { gate = 1; events = Started ls ∷ [] }) ++ batch_bytes old_form 90 (record { gate = 7; events = ended_ls ∷ [] })) 1 (Started ls ∷ ended_ls ∷ [])
ended_prefix = record {
  host_fits = omega arith;
  batches = record { gate = 1; events = Started ls ∷ [] } ∷ record { gate = 7; events = ended_ls ∷ [] } ∷ [];
  opened = (record { gate = λ e. absurd (omega arith); batch_events = ls_batch }, (record { gate = λ e. absurd (omega arith); batch_events = ended_batch }, tt));
  events_are = refl;
  bytes_are = refl;
}

-- without a digest the length and the body alone stand behind the gate
plain : (at : ℕ) (rest : List ℕ) (host : ℕ) (before : List Event) (good : HoldsGoodBatch old_form at rest host before) → rest ≡ (to_be_bytes w32 (length (body_bytes good.events)) ++ body_bytes good.events) ++ good.gate ∷ good.behind
plain at rest host before good = good.bytes_are ∙ ap (λ (l : List ℕ). (to_be_bytes w32 (length (body_bytes good.events)) ++ l) ++ good.gate ∷ good.behind) (append-nil (body_bytes good.events))

-- a body of 54 bytes and a gate don't fit into 54 bytes
too_long : HoldsGoodBatch old_form 32 (0 ∷ 0 ∷ 0 ∷ 0x36 ∷ drop 37 (ls_log old_form 1)) 1 [] → ⊥
too_long good =
    let numbers = number_4 0x36 (length (body_bytes good.events)) (drop 37 (ls_log old_form 1)) (body_bytes good.events ++ good.gate ∷ good.behind) (omega arith) good.batch.body (plain _ _ _ _ good) in
    let long : 54 ≡ length (body_bytes good.events) = numbers.0 in
    let all : ◌≡◌ {A = ℕ} 54 (length (body_bytes good.events ++ good.gate ∷ good.behind)) = ap (λ (l : List ℕ). length l) numbers.1 in
    let parts : length (body_bytes good.events ++ good.gate ∷ good.behind) ≡ length (body_bytes good.events) + (1 + length good.behind) = length-append (body_bytes good.events) (good.gate ∷ good.behind) ∙ omega arith in
    omega (arith, long, all, parts)

-- 53 bytes and no gate don't hold a body of 53 bytes and a gate
no_next_gate : HoldsGoodBatch old_form 32 (take 57 (drop 33 (ls_log old_form 1))) 1 [] → ⊥
no_next_gate good =
    let numbers = number_4 0x35 (length (body_bytes good.events)) (take 53 (drop 37 (ls_log old_form 1))) (body_bytes good.events ++ good.gate ∷ good.behind) (omega arith) good.batch.body (plain _ _ _ _ good) in
    let long : 53 ≡ length (body_bytes good.events) = numbers.0 in
    let all : ◌≡◌ {A = ℕ} 53 (length (body_bytes good.events ++ good.gate ∷ good.behind)) = ap (λ (l : List ℕ). length l) numbers.1 in
    let parts : length (body_bytes good.events ++ good.gate ∷ good.behind) ≡ length (body_bytes good.events) + (1 + length good.behind) = length-append (body_bytes good.events) (good.gate ∷ good.behind) ∙ omega arith in
    omega (arith, long, all, parts)

-- no event is of a kind 9
no_kind_9 : (events : List Event) (rest more : List ℕ) → length events < 2 ^ 32 → 0 ∷ 0 ∷ 0 ∷ 1 ∷ 9 ∷ rest ≡ body_bytes events ++ more → ⊥
no_kind_9 events rest more few e =
    let numbers = number_4 1 (length events) (9 ∷ rest) (flat_map event_bytes events ++ more) (omega arith) few e in
    by_events events rest more numbers.0 numbers.1
  where
    by_events : (events : List Event) (rest more : List ℕ) → 1 ≡ length events → 9 ∷ rest ≡ flat_map event_bytes events ++ more → ⊥
    by_events [] rest more count e = omega arith
    by_events (Started s ∷ events) rest more count e = let h : ◌≡◌ {A = ℕ} 9 1 = ap (λ (l : List ℕ). get_or l 0 0) e in omega arith
    by_events (Local closes r ∷ events) rest more count e = let h : ◌≡◌ {A = ℕ} 9 2 = ap (λ (l : List ℕ). get_or l 0 0) e in omega arith
    by_events (Taken owner r ∷ events) rest more count e = let h : ◌≡◌ {A = ℕ} 9 3 = ap (λ (l : List ℕ). get_or l 0 0) e in omega arith

no_such_event : HoldsGoodBatch old_form 32 (take 8 (drop 33 (ls_log old_form 1)) ++ 9 ∷ drop 42 (ls_log old_form 1)) 1 [] → ⊥
no_such_event good =
    let few : length good.events < 2 ^ 32 = let h = good.batch.few in omega arith in
    no_kind_9 good.events (drop 42 (ls_log old_form 1)) (good.gate ∷ good.behind) few (ap (λ (l : List ℕ). drop 4 l) (plain _ _ _ _ good))

-- `ls` can't be started twice with one id
not_twice : HoldsGoodBatch old_form 90 (drop 33 (ls_log old_form 1)) 1 (Started ls ∷ []) → ⊥
not_twice good =
    let same = body_apart (Started ls ∷ []) good.events (0 ∷ []) (good.gate ∷ good.behind) ls_batch good.batch (ap (λ (l : List ℕ). drop 4 l) (plain _ _ _ _ good)) in
    let twice : events_of (opened_journal (Started ls ∷ good.events)) ≡ Started ls ∷ Started ls ∷ [] = opened_events (Started ls ∷ good.events) ∙ ap (λ (events : List Event). Started ls ∷ events) (sym same.0) in
    good.sound.started_apart 0 1 ls ls (omega arith) (ap (λ (events : List Event). slice_get events 0) twice) (ap (λ (events : List Event). slice_get events 1) twice) refl

empty_text : TextFits []
empty_text = record { utf8 = IsUtf8-from_ascii [] IsAscii-nil; short = omega arith }

empty_has : HasEventBytes started_empty
empty_has = record { id = omega arith; timestamp = omega arith; command = empty_text; cwd = empty_text; session = empty_text; hostname = empty_text }

all_empty : (count : ℕ) → AllByRecursion HasEventBytes (replicate count started_empty)
all_empty zero = tt
all_empty (suc count) = (empty_has, all_empty count)

pub bodies : WorkedBodies
bodies = record {
  made_here = refl;
  closing = refl;
  taken_in = refl;
  two = refl;
  one = record { some = omega arith; few = omega arith; each = (empty_has, tt); body = omega arith };
  hundred = record { some = omega arith; few = omega arith; each = all_empty 100; body = omega arith };
  none = λ batch. let h : 1 ≤ 0 = batch.some in omega arith;
  more = λ batch. let h : 101 ≤ 100 = batch.few in omega arith;
  body_at_most = λ events some few each e. record { some = some; few = few; each = each; body = omega arith };
  body_above = λ events e batch. let low = batch.body in omega arith;
}

pub fields : WorkedFields
fields = record {
  text_at_most = λ text utf8 e. record { utf8 = utf8; short = omega arith };
  text_above = λ text e is. let low = is.short in omega arith;
  no_text = λ text other is. other is.utf8;
  started_at_most = λ text is. record { id = omega arith; timestamp = omega arith; command = is; cwd = is; session = is; hostname = is };
  started_id_above = λ s e has. let low = has.id in omega arith;
  started_timestamp_above = λ s e has. let low = has.timestamp in omega arith;
  hostname_above = λ s other has. other has.hostname;
  made_here_at_most = λ text is. record { closed_id = omega arith; sealed_record = record { id = omega arith; idx = omega arith; host = omega arith; host_name = is; timestamp = omega arith; version = is; tag = is; sealed = is; wrapped = is } };
  closed_above = λ r has. let low : 0x100000000000000000000000000000000 < 2 ^ 128 = has.closed_id in omega arith;
  taken_in_at_most = λ text is. record { owner_number = omega arith; sealed_record = record { id = omega arith; idx = omega arith; host = omega arith; host_name = is; timestamp = omega arith; version = is; tag = is; sealed = is; wrapped = is } };
  owner_above = λ r has. let low : 0x100000000 < 2 ^ 32 = has.owner_number in omega arith;
  id_above = λ closes r e has. let low = has.sealed_record.id in omega arith;
  idx_above = λ closes r e has. let low = has.sealed_record.idx in omega arith;
  host_above = λ owner r e has. let low = has.sealed_record.host in omega arith;
  timestamp_above = λ owner r e has. let low = has.sealed_record.timestamp in omega arith;
  wrapped_above = λ owner r other has. other has.sealed_record.wrapped;
}

-- no header where the eighth byte is another
other_digit : (form : Form) (bytes : List ℕ) (digit : ℕ) → get_or (take 32 bytes) 7 0 ≡ digit → digit ≢ form.digit → HasNoHeader form bytes
other_digit form bytes digit is differ = inr (λ host fits e. differ (sym is ∙ ap (λ (l : List ℕ). get_or l 7 0) e))

-- a log of neither form
abbrev third_log : List ℕ
third_log = take 7 (new_log current_form 1) ++ 0x33 ∷ drop 8 (new_log current_form 1)

three_not_two : ◌≢◌ {A = ℕ} 0x33 0x32
three_not_two e = absurd (omega arith)

three_not_one : ◌≢◌ {A = ℕ} 0x33 0x31
three_not_one e = absurd (omega arith)

two_not_one : ◌≢◌ {A = ℕ} 0x32 0x31
two_not_one e = absurd (omega arith)

pub new_store : WorkedNewLog
new_store = record {
  bytes = refl;
  count = refl;
  stands = record { prefix = header_bytes current_form first_id; behind = []; opened = empty_prefix current_form first_id (omega arith); bytes_are = refl; sound = empty_sound first_id };
  fault = refl;
  no_magic = refl;
  other_magic = refl;
  cut_host = refl;
  cut_zeros = refl;
  other_zeros = refl;
  no_gate_at_all = inl (omega arith);
  no_gate = refl;
  old = (1, record { long = omega arith; host_fits = omega arith; header = refl });
  not_old = other_digit old_form (new_log current_form 1) 0x32 refl two_not_one;
  old_magic = refl;
  neither = (inl (omega arith), inl (omega arith));
  other_format = (other_digit current_form third_log 0x33 refl three_not_two, other_digit old_form third_log 0x33 refl three_not_one);
}

-- damaged at the first batch behind an open gate 1
damaged_at_first : (rest : List ℕ) → (HoldsGoodBatch old_form 32 rest 1 [] → ⊥) → DamagedAt old_form (header_bytes old_form 1 ++ 1 ∷ rest) 32
damaged_at_first rest bad = record {
  host = 1;
  before = [];
  prefix = header_bytes old_form 1;
  gate = 1;
  rest = rest;
  opened = empty_prefix old_form 1 (omega arith);
  sound = empty_sound 1;
  bytes_are = refl;
  offset_is = refl;
  gate_open = λ e. absurd (omega arith);
  bad = bad;
}

pub first_batch : WorkedFirstBatch
first_batch = record {
  count = refl;
  gate = refl;
  length_bytes = refl;
  body = refl;
  closed = refl;
  stands = ls_stands 1 (λ e. absurd (omega arith));
  other_gate = refl;
  stands_too = ls_stands 7 (λ e. absurd (omega arith));
  stands_closed = record { prefix = header_bytes old_form 1; behind = payload_bytes old_form 32 (Started ls ∷ []) ++ 0 ∷ []; opened = empty_prefix old_form 1 (omega arith); bytes_are = refl; sound = empty_sound 1 };
  stands_ended = record { prefix = header_bytes old_form 1 ++ batch_bytes old_form 32 (record { gate = 1; events = Started ls ∷ [] }) ++ batch_bytes old_form 90 (record { gate = 7; events = ended_ls ∷ [] }); behind = []; opened = ended_prefix; bytes_are = refl; sound = ended_sound };
  damaged = damaged_at_first (0 ∷ 0 ∷ 0 ∷ 0x36 ∷ drop 37 (ls_log old_form 1)) too_long;
  cut = damaged_at_first (take 57 (drop 33 (ls_log old_form 1))) no_next_gate;
  unknown_kind = damaged_at_first (take 8 (drop 33 (ls_log old_form 1)) ++ 9 ∷ drop 42 (ls_log old_form 1)) no_such_event;
  repeated = record {
    host = 1;
    before = Started ls ∷ [];
    prefix = header_bytes old_form 1 ++ batch_bytes old_form 32 (record { gate = 1; events = Started ls ∷ [] });
    gate = 1;
    rest = drop 33 (ls_log old_form 1);
    opened = ls_prefix 1 (λ e. absurd (omega arith));
    sound = opened_sound (ls_entry ∷ []) (Started ls ∷ []) 1 refl ls_sound;
    bytes_are = refl;
    offset_is = refl;
    gate_open = λ e. absurd (omega arith);
    bad = not_twice;
  };
}
