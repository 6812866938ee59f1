-- Where a reply may be too long for the room that is kept, its turn may tell of want of memory in its place.
use Rattle.std.proofs.Common.{◌≡◌, ℕ, false, inr, List, [], refl, sym, ◌∙◌, ap, subst}
use Rattle.std.proofs.lemmas.Bool.{true≢false}
use Rattle.definitions.specs.Uses.{Used}
use Rattle.record_rules.specs.Records.{Caller, Entry}
use Rattle.step_rules.specs.Calls.{Call, is_read}
use Rattle.step_rules.specs.Answers.{refused, random_fault, disk_fault, no_memory, Answer, Reply}
use Rattle.step_rules.specs.Store.{KeyedStore}
use Rattle.step_rules.specs.Step.{Draft, start_draft, record_draft, draft_answer, drawn_id, Step, long_step, unknown_step, full_step, taken_step, append_step, read_step}
use Rattle.step_rules.specs.Turn.{settled, TurnLeaves, used_clock, used_bytes, Turn, read_turn, short_unread_turn, unsettled_turn, step_turn, undrawn_turn, uncommitted_turn, short_turn, short_settled_turn}
use Rattle.step_rules.proofs.Outcomes.{shows_read}
use Rattle.session_rules.specs.Sessions.{a_call, a_page, a_read, unrouted, SessionAnswer, to_call}
use Rattle.session_rules.specs.Turns.{TurnAnswers, answers_call, answers_unread, answers_bad, answers_page, answers_read, answers_unrouted}
use Rattle.daemon_wire.specs.Writing.{IsShort}
use Rattle.session_seats.specs.Answering.{wanting}

-- the same turn, with want of memory for its answer
leaves_wanting : (journal doubt after doubt_after : List Entry) (reply : Reply) (answer : Answer) → TurnLeaves journal doubt after doubt_after reply answer → TurnLeaves journal doubt after doubt_after (wanting reply.front) (refused no_memory)
leaves_wanting journal doubt after doubt_after reply answer l = record { journal_is = l.journal_is; doubt_is = l.doubt_is; reply_is = ap (λ (r : Reply). wanting r.front) l.reply_is }

-- from a journal that stayed
leaves_stayed : (journal made doubt after doubt_after : List Entry) (reply : Reply) (answer : Answer) → made ≡ journal → TurnLeaves made doubt after doubt_after reply answer → TurnLeaves journal doubt after doubt_after (wanting reply.front) (refused no_memory)
leaves_stayed journal made doubt after doubt_after reply answer stays l = record { journal_is = l.journal_is ∙ stays; doubt_is = l.doubt_is; reply_is = ap (λ (r : Reply). wanting r.front) l.reply_is }

-- what is appended is told in a short reply
drafted_short : (store : KeyedStore) (journal : List Entry) (draft : Draft) (id : ℕ) → IsShort (draft_answer store journal draft id)
drafted_short store journal (start_draft command cwd session hostname) id = tt
drafted_short store journal (record_draft closes payload) id = tt

module _ (store : KeyedStore) (journal doubt : List Entry) (caller : Caller) (call : Call) (used : Used) (after doubt_after : List Entry) (reply : Reply) (long : IsShort reply.answer → ⊥) where
  abbrev Wants : Type 0
  Wants = Turn store journal doubt caller call used after doubt_after (wanting reply.front)

  -- a short answer is no long one
  not_short : (made left : List Entry) (answer : Answer) → IsShort answer → TurnLeaves made left after doubt_after reply answer → Wants
  not_short made left answer short l = absurd (long (subst (λ (r : Reply). IsShort r.answer) (sym l.reply_is) short))

  step_wants : (made : List Entry) (answer : Answer) → is_read call ≡ false → Step store (settled journal doubt) caller call used made answer → TurnLeaves made [] after doubt_after reply answer → Wants
  step_wants made answer writes (long_step now _ u _ r) l = short_settled_turn writes (used_clock now u) (leaves_stayed (settled journal doubt) made [] after doubt_after reply answer r.stays l)
  step_wants made answer writes (unknown_step now _ u _ _ r) l = short_settled_turn writes (used_clock now u) (leaves_stayed (settled journal doubt) made [] after doubt_after reply answer r.stays l)
  step_wants made answer writes (full_step now _ _ u _ _ _ r) l = short_settled_turn writes (used_clock now u) (leaves_stayed (settled journal doubt) made [] after doubt_after reply answer r.stays l)
  step_wants made answer writes (taken_step now drawn draft u many ready _ r) l = short_settled_turn writes (used_bytes now draft drawn ready many u) (leaves_stayed (settled journal doubt) made [] after doubt_after reply answer r.stays l)
  step_wants made answer writes (append_step now drawn draft _ _ _ _ _ is) l = not_short made [] answer (subst IsShort (sym is) (drafted_short store (settled journal doubt) draft (drawn_id now drawn))) l
  step_wants made answer writes (read_step _ shows _) l = absurd (true≢false (sym (shows_read store (settled journal doubt) caller call answer shows) ∙ writes))

  pub turn_wants : Turn store journal doubt caller call used after doubt_after reply → Wants
  turn_wants (read_turn answer u _ l) = short_unread_turn u (leaves_wanting journal doubt after doubt_after reply answer l)
  turn_wants (short_unread_turn u l) = short_unread_turn u (leaves_wanting journal doubt after doubt_after reply (refused no_memory) l)
  turn_wants (unsettled_turn _ _ _ _ l) = not_short journal doubt (refused disk_fault) tt l
  turn_wants (step_turn made answer writes step l) = step_wants made answer writes step l
  turn_wants (undrawn_turn _ _ _ _ l) = not_short (settled journal doubt) [] (refused random_fault) tt l
  turn_wants (uncommitted_turn _ left _ _ _ _ _ l) = not_short (settled journal doubt) left (refused disk_fault) tt l
  turn_wants (short_turn now writes u l) = short_turn now writes u (leaves_wanting journal doubt after doubt_after reply (refused no_memory) l)
  turn_wants (short_settled_turn writes u l) = short_settled_turn writes u (leaves_wanting (settled journal doubt) [] after doubt_after reply (refused no_memory) l)

-- what a reply to a call answers
abbrev answer_in : SessionAnswer → Answer
answer_in (to_call answer) = answer
answer_in _ = refused no_memory

pub answers_want : (store : KeyedStore) (journal doubt : List Entry) (caller : Caller) (call : Call) (used : Used) (after doubt_after : List Entry) (answer : Answer) → (IsShort answer → ⊥)
    → TurnAnswers store journal doubt caller (a_call call) used after doubt_after (to_call answer) → TurnAnswers store journal doubt caller (a_call call) used after doubt_after (to_call (refused no_memory))
answers_want store journal doubt caller call used after doubt_after answer long (answers_call other reply is turn told) =
    let same : answer ≡ reply.answer = ap answer_in told in
    answers_call other (wanting reply.front) is (turn_wants store journal doubt caller other used after doubt_after reply (λ short. long (subst IsShort (sym same) short)) turn) refl
answers_want store journal doubt caller call used after doubt_after answer long (answers_unread other is u l _) = answers_unread other is u l refl
answers_want store journal doubt caller call used after doubt_after answer long (answers_bad place is u l _) = answers_bad place is u l (inr refl)
answers_want store journal doubt caller call used after doubt_after answer long (answers_page owner records given is _ _ _) = absurd (let clash : a_call call ≡ a_page owner records = is in cc clash)
answers_want store journal doubt caller call used after doubt_after answer long (answers_read read given is _ _ _) = absurd (let clash : a_call call ≡ a_read read = is in cc clash)
answers_want store journal doubt caller call used after doubt_after answer long (answers_unrouted code is _ _ _) = absurd (let clash : a_call call ≡ unrouted code = is in cc clash)
