-- Turns in which a store answers by a step, and what those use.
use Rattle.std.proofs.Common.{◌≡◌, ℕ, false, ◌≤◌, List, [], ◌∷◌, length, take, Option, Some, refl, sym, ap, ◌∙◌, subst, append-nil, arith}
use Rattle.definitions.specs.Uses.{Used, read_clock, read_and_drew}
use Rattle.record_rules.specs.Records.{Caller, Entry}
use Rattle.record_rules.specs.Journal.{events_of}
use Rattle.log_rules.specs.Opened.{opened_journal}
use Rattle.step_rules.specs.Calls.{Call}
use Rattle.step_rules.specs.Answers.{Refusal, Answer, refused, random_fault, disk_fault, no_memory, Reply}
use Rattle.step_rules.specs.Answers as answers
use Rattle.record_model.specs.declared.replying.Answer as model
use Rattle.record_model.specs.declared.replying.Answer.TheVariants as given
use Rattle.model_words.specs.Seen.{answer_seen}
use Rattle.step_rules.specs.Store.{KeyedStore}
use Rattle.step_rules.specs.Step.{Draft, start_draft, record_draft, draws, draft_answer, draft_event, drawn_id, Shows, shows_hits, shows_value, shows_no_value, shows_keys, shows_aliases, shows_places, Step, long_step, unknown_step, full_step, taken_step, append_step, read_step}
use Rattle.step_rules.specs.Turn.{settled, Turn, read_turn, short_unread_turn, unsettled_turn, step_turn, undrawn_turn, uncommitted_turn, short_turn, short_settled_turn}
use Rattle.session_rules.specs.Sessions.{a_call, to_call}
use Rattle.session_rules.specs.Turns.{TurnAnswers, answers_call, answers_unread, answers_bad, answers_page, answers_read, answers_unrouted}
use Rattle.at_edge.specs.Coming.{Gives, padded}
use Rattle.at_edge.specs.MemoryForms.{readings_from}
use Rattle.call_supplies.specs.Supplies.{Supplies, Uses}
use Rattle.rehearsal_rules.specs.Words.{drawn_bytes}
use Rattle.rehearsal_rules.specs.Moments.{reading_at}
use Rattle.world_nodes.specs.Random.{word_bytes, readings_of, bytes_of, used_from}
use Rattle.world_nodes.specs.Faults.{is_fault, IsOfStep}
use Rattle.world_nodes.proofs.Given.{given_front, first_reading}
use Rattle.world_nodes.proofs.WordBytes.{ten_of, all_of, length_of}
use Rattle.world_nodes.proofs.Left.{nobodys_append}
use Rattle.store_core.specs.Opening.{nobody}

-- ---- the turn

module _ (store : KeyedStore) (journal : List Entry) (caller : Caller) (call : Call) (used : Used) (after doubt_after : List Entry) where
  -- it was a step, and nothing is in doubt
  pub record Stepped (answer : Answer) : Type 0 where
    pub stepped : Step store journal caller call used after answer
    pub none : doubt_after ≡ []

  turn_steps : (doubt : List Entry) (reply : Reply) → doubt ≡ [] → IsOfStep reply.answer → Turn store journal doubt caller call used after doubt_after reply → Stepped reply.answer
  turn_steps doubt reply none of_step (read_turn answer is_used shows leaves) = record {
    stepped = subst (Step store journal caller call used after) (sym (ap (λ (r : Reply). r.answer) leaves.reply_is)) (read_step is_used shows leaves.journal_is);
    none = leaves.doubt_is ∙ none;
  }
  turn_steps doubt reply none of_step (short_unread_turn _ leaves) = absurd (of_step.memory (ap (λ (r : Reply). r.answer) leaves.reply_is))
  turn_steps doubt reply none of_step (unsettled_turn _ _ _ _ leaves) = absurd (of_step.no_disk_fault (ap (λ (r : Reply). r.answer) leaves.reply_is))
  turn_steps doubt reply none of_step (step_turn made answer _ step leaves) =
      let same : settled journal doubt ≡ journal = ap (settled journal) none ∙ append-nil journal in
      let made_is : after ≡ made = leaves.journal_is in
      let answer_is : reply.answer ≡ answer = ap (λ (r : Reply). r.answer) leaves.reply_is in
      record {
        stepped = subst (Step store journal caller call used after) (sym answer_is) (subst (λ (j : List Entry). Step store journal caller call used j answer) (sym made_is) (subst (λ (j : List Entry). Step store j caller call used made answer) same step));
        none = leaves.doubt_is;
      }
  turn_steps doubt reply none of_step (undrawn_turn _ _ _ _ leaves) = absurd (of_step.no_random_fault (ap (λ (r : Reply). r.answer) leaves.reply_is))
  turn_steps doubt reply none of_step (uncommitted_turn _ _ _ _ _ _ _ leaves) = absurd (of_step.no_disk_fault (ap (λ (r : Reply). r.answer) leaves.reply_is))
  turn_steps doubt reply none of_step (short_turn _ _ _ leaves) = absurd (of_step.memory (ap (λ (r : Reply). r.answer) leaves.reply_is))
  turn_steps doubt reply none of_step (short_settled_turn _ _ leaves) = absurd (of_step.memory (ap (λ (r : Reply). r.answer) leaves.reply_is))

-- of a call the answers of a turn are its reply's
call_of : (asked call : Call) → a_call asked ≡ a_call call → call ≡ asked
call_of asked call same = cc

answer_of : (one other : Answer) → to_call one ≡ to_call other → one ≡ other
answer_of one other same = cc

pub answers_step : (store : KeyedStore) (journal doubt : List Entry) (caller : Caller) (call : Call) (used : Used) (after doubt_after : List Entry) (answer : Answer) → doubt ≡ [] → IsOfStep answer
    → TurnAnswers store journal doubt caller (a_call call) used after doubt_after (to_call answer) → Stepped store journal caller call used after doubt_after answer
answers_step store journal doubt caller call used after doubt_after answer none of_step (answers_call asked reply is turn told) =
    let same : answer ≡ reply.answer = answer_of answer reply.answer told in
    let turned : Turn store journal doubt caller call used after doubt_after reply = subst (λ (c : Call). Turn store journal doubt caller c used after doubt_after reply) (call_of call asked is) turn in
    subst (Stepped store journal caller call used after doubt_after) (sym same) (turn_steps store journal caller call used after doubt_after doubt reply none (subst IsOfStep same of_step) turned)
answers_step store journal doubt caller call used after doubt_after answer none of_step (answers_unread _ _ _ _ told) = absurd (of_step.memory (answer_of answer (refused no_memory) told))
answers_step store journal doubt caller call used after doubt_after answer none of_step (answers_bad _ is _ _ _) = absurd cc
answers_step store journal doubt caller call used after doubt_after answer none of_step (answers_page _ _ _ is _ _ _) = absurd cc
answers_step store journal doubt caller call used after doubt_after answer none of_step (answers_read _ _ is _ _ _) = absurd cc
answers_step store journal doubt caller call used after doubt_after answer none of_step (answers_unrouted _ is _ _ _) = absurd cc

-- ---- what it used

-- so much, from this reading on and from this state of the generator on; and where the call isn't refused its answer tells how much
pub record UsedAsAnswered (first state : ℕ) (used : Used) (answer : Answer) : Type 0 where
  pub readings : ℕ
  pub bytes : ℕ
  pub used_is : used ≡ used_from first state readings bytes
  pub by_answer : ((refusal : Refusal) → answer ≡ refused refusal → ⊥) → (readings ≡ readings_of answer) × (bytes ≡ bytes_of answer)

module _ (first state : ℕ) (before after : Supplies) (rand_is : before.rand.coming ≡ Some (padded (word_bytes state 14))) (clock_is : before.clock.coming ≡ Some (readings_from 1000000 (reading_at first))) where
  read_at : (used : Used) (now : ℕ) → used.readings ≡ now ∷ [] → Uses before after used → now ≡ reading_at first
  read_at used now is uses =
      first_reading 1000000 (reading_at first) now after.clock.coming (subst (λ (items : List ℕ). Gives (Some (readings_from 1000000 (reading_at first))) after.clock.coming items) is (subst (λ (seen : Option (ℕ → ℕ)). Gives seen after.clock.coming used.readings) clock_is uses.told.coming))

  drew_front : (used : Used) (drawn : List ℕ) → used.drawn ≡ drawn → length drawn ≤ 112 → Uses before after used → drawn ≡ take (length drawn) (word_bytes state 14)
  drew_front used drawn is short uses =
      given_front (word_bytes state 14) drawn after.rand.coming (let long = length_of state in omega (arith, short, long)) (subst (λ (items : List ℕ). Gives (Some (padded (word_bytes state 14))) after.rand.coming items) is (subst (λ (seen : Option (ℕ → ℕ)). Gives seen after.rand.coming used.drawn) rand_is uses.drew.coming))

  drew_draft : (draft : Draft) (used : Used) (drawn : List ℕ) → used.drawn ≡ drawn → length drawn ≡ draws draft → Uses before after used → drawn ≡ drawn_bytes state 0 (draws draft)
  drew_draft (start_draft command cwd session hostname) used drawn is long uses = drew_front used drawn is (omega (arith, long)) uses ∙ ap (λ n. take n (word_bytes state 14)) long ∙ ten_of state
  drew_draft (record_draft closes payload) used drawn is long uses = drew_front used drawn is (omega (arith, long)) uses ∙ ap (λ n. take n (word_bytes state 14)) long ∙ all_of state

  used_clock : (used : Used) (now : ℕ) → used ≡ read_clock now → Uses before after used → used ≡ used_from first state 1 0
  used_clock used now is uses = is ∙ (λ i. record { readings = read_at used now (ap (λ (u : Used). u.readings) is) uses i ∷ []; drawn = []; faults = 0 })

  used_drawn : (used : Used) (now : ℕ) (drawn : List ℕ) (draft : Draft) → used ≡ read_and_drew now drawn → length drawn ≡ draws draft → Uses before after used → used ≡ used_from first state 1 (draws draft)
  used_drawn used now drawn draft is long uses =
      is ∙ (λ i. record { readings = read_at used now (ap (λ (u : Used). u.readings) is) uses i ∷ []; drawn = drew_draft draft used drawn (ap (λ (u : Used). u.drawn) is) long uses i; faults = 0 })

  refused_so : (used : Used) (answer : Answer) (refusal : Refusal) (bytes : ℕ) → used ≡ used_from first state 1 bytes → answer ≡ refused refusal → UsedAsAnswered first state used answer
  refused_so used answer refusal bytes is refuses = record { readings = 1; bytes = bytes; used_is = is; by_answer = λ granted. absurd (granted refusal refuses) }

  draft_bytes : (store : KeyedStore) (journal : List Entry) (draft : Draft) (id : ℕ) → draws draft ≡ bytes_of (draft_answer store journal draft id)
  draft_bytes store journal (start_draft command cwd session hostname) id = refl
  draft_bytes store journal (record_draft closes payload) id = refl

  draft_readings : (store : KeyedStore) (journal : List Entry) (draft : Draft) (id : ℕ) → 1 ≡ readings_of (draft_answer store journal draft id)
  draft_readings store journal (start_draft command cwd session hostname) id = refl
  draft_readings store journal (record_draft closes payload) id = refl

  shown_uses : (store : KeyedStore) (journal : List Entry) (call : Call) (answer : Answer) → Shows store journal call answer → (0 ≡ readings_of answer) × (0 ≡ bytes_of answer)
  shown_uses store journal call answer (shows_hits _ page _ _ is) = (ap readings_of (sym is), ap bytes_of (sym is))
  shown_uses store journal call answer (shows_value _ _ value _ _ is) = (ap readings_of (sym is), ap bytes_of (sym is))
  shown_uses store journal call answer (shows_no_value _ _ _ _ is) = (ap readings_of (sym is), ap bytes_of (sym is))
  shown_uses store journal call answer (shows_keys _ _ _ page _ _ is) = (ap readings_of (sym is), ap bytes_of (sym is))
  shown_uses store journal call answer (shows_aliases _ _ page _ _ is) = (ap readings_of (sym is), ap bytes_of (sym is))
  shown_uses store journal call answer (shows_places _ is) = (ap readings_of (sym is), ap bytes_of (sym is))

  pub step_uses : (store : KeyedStore) (journal : List Entry) (caller : Caller) (call : Call) (used : Used) (made : List Entry) (answer : Answer) → Step store journal caller call used made answer → Uses before after used → UsedAsAnswered first state used answer
  step_uses store journal caller call used made answer (long_step now _ is _ refuses) uses = refused_so used answer _ 0 (used_clock used now is uses) refuses.answer_is
  step_uses store journal caller call used made answer (unknown_step now refusal is _ _ refuses) uses = refused_so used answer refusal 0 (used_clock used now is uses) refuses.answer_is
  step_uses store journal caller call used made answer (full_step now _ _ is _ _ _ refuses) uses = refused_so used answer _ 0 (used_clock used now is uses) refuses.answer_is
  step_uses store journal caller call used made answer (taken_step now drawn draft is long _ _ refuses) uses = refused_so used answer _ (draws draft) (used_drawn used now drawn draft is long uses) refuses.answer_is
  step_uses store journal caller call used made answer (append_step now drawn draft is long _ _ _ answer_is) uses = record {
    readings = 1;
    bytes = draws draft;
    used_is = used_drawn used now drawn draft is long uses;
    by_answer = λ granted. (draft_readings store journal draft (drawn_id now drawn) ∙ ap readings_of (sym answer_is), draft_bytes store journal draft (drawn_id now drawn) ∙ ap bytes_of (sym answer_is));
  }
  step_uses store journal caller call used made answer (read_step is shows _) uses = record { readings = 0; bytes = 0; used_is = is; by_answer = λ granted. shown_uses store journal call answer shows }

-- ---- the journal

pub entry_is_nobodys : (store : KeyedStore) (journal : List Entry) (call : Call) (used : Used) (made : List Entry) (answer : Answer) → Step store journal nobody call used made answer → opened_journal (events_of journal) ≡ journal → opened_journal (events_of made) ≡ made
entry_is_nobodys store journal call used made answer (long_step _ _ _ _ refuses) nobodys = subst (λ (j : List Entry). opened_journal (events_of j) ≡ j) (sym refuses.stays) nobodys
entry_is_nobodys store journal call used made answer (unknown_step _ _ _ _ _ refuses) nobodys = subst (λ (j : List Entry). opened_journal (events_of j) ≡ j) (sym refuses.stays) nobodys
entry_is_nobodys store journal call used made answer (full_step _ _ _ _ _ _ _ refuses) nobodys = subst (λ (j : List Entry). opened_journal (events_of j) ≡ j) (sym refuses.stays) nobodys
entry_is_nobodys store journal call used made answer (taken_step _ _ _ _ _ _ _ refuses) nobodys = subst (λ (j : List Entry). opened_journal (events_of j) ≡ j) (sym refuses.stays) nobodys
entry_is_nobodys store journal call used made answer (append_step now drawn draft _ _ _ _ made_is _) nobodys =
    subst (λ (j : List Entry). opened_journal (events_of j) ≡ j) (sym made_is) (nobodys_append journal (record { caller = nobody; event = draft_event store journal draft now drawn } ∷ []) nobodys refl)
entry_is_nobodys store journal call used made answer (read_step _ _ stays) nobodys = subst (λ (j : List Entry). opened_journal (events_of j) ≡ j) (sym stays) nobodys

-- a refused call leaves the journal
draft_is_granted : (store : KeyedStore) (journal : List Entry) (draft : Draft) (id : ℕ) (refusal : Refusal) → refused refusal ≡ draft_answer store journal draft id → ⊥
draft_is_granted store journal (start_draft command cwd session hostname) id refusal e = cc
draft_is_granted store journal (record_draft closes payload) id refusal e = cc

pub refused_stays : (store : KeyedStore) (journal : List Entry) (caller : Caller) (call : Call) (used : Used) (made : List Entry) (refusal : Refusal) → Step store journal caller call used made (refused refusal) → made ≡ journal
refused_stays store journal caller call used made refusal (long_step _ _ _ _ refuses) = refuses.stays
refused_stays store journal caller call used made refusal (unknown_step _ _ _ _ _ refuses) = refuses.stays
refused_stays store journal caller call used made refusal (full_step _ _ _ _ _ _ _ refuses) = refuses.stays
refused_stays store journal caller call used made refusal (taken_step _ _ _ _ _ _ _ refuses) = refuses.stays
refused_stays store journal caller call used made refusal (append_step now drawn draft _ _ _ _ _ answer_is) = absurd (draft_is_granted store journal draft (drawn_id now drawn) refusal answer_is)
refused_stays store journal caller call used made refusal (read_step _ _ stays) = stays

-- ---- which answers are a step's

pub refusal_of_step : (refusal : Refusal) → is_fault refusal ≡ false → IsOfStep (refused refusal)
refusal_of_step (answers.too_long field length) none = record { no_disk_fault = λ e. absurd cc; no_random_fault = λ e. absurd cc; memory = λ e. absurd cc }
refusal_of_step (answers.unknown_id id) none = record { no_disk_fault = λ e. absurd cc; no_random_fault = λ e. absurd cc; memory = λ e. absurd cc }
refusal_of_step (answers.unknown_name name) none = record { no_disk_fault = λ e. absurd cc; no_random_fault = λ e. absurd cc; memory = λ e. absurd cc }
refusal_of_step (answers.full passed) none = record { no_disk_fault = λ e. absurd cc; no_random_fault = λ e. absurd cc; memory = λ e. absurd cc }
refusal_of_step answers.random_fault none = absurd cc
refusal_of_step (answers.id_taken id) none = record { no_disk_fault = λ e. absurd cc; no_random_fault = λ e. absurd cc; memory = λ e. absurd cc }
refusal_of_step answers.disk_fault none = absurd cc
refusal_of_step answers.no_memory none = absurd cc
refusal_of_step (answers.bad_request place) none = record { no_disk_fault = λ e. absurd cc; no_random_fault = λ e. absurd cc; memory = λ e. absurd cc }

-- what is answered is no refusal
pub given_is_granted : (answer : model.Answer) (refusal : Refusal) → answer_seen answer ≡ refused refusal → ⊥
given_is_granted (given.Begun id) refusal e = cc
given_is_granted (given.Stored idx) refusal e = cc
given_is_granted (given.Hits found) refusal e = cc
given_is_granted (given.Value value) refusal e = cc
given_is_granted (given.Names found) refusal e = cc
given_is_granted (given.Aliases found) refusal e = cc
given_is_granted (given.Places found) refusal e = cc

pub granted_of_step : (answer : Answer) → ((refusal : Refusal) → answer ≡ refused refusal → ⊥) → IsOfStep answer
granted_of_step answer granted = record { no_disk_fault = granted disk_fault; no_random_fault = granted random_fault; memory = granted no_memory }
