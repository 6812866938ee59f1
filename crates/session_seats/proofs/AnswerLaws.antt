-- A payload that was read and answered, and the frame of its reply.
use Rattle.std.proofs.Common.{◌≡◌, ℕ, ◌-◌, false, inl, inr, Ok, Err, List, [], ◌∷◌, ◌++◌, length, drop, ◌+◌, ◌≤◌, refl, sym, ap, subst, ◌∙◌, arith}
use Rattle.std.proofs.lemmas.Bool.{true≢false}
use Rattle.std.proofs.lemmas.List.{length-append}
use Rattle.std.specs.Int.{w32, to_be_bytes}
use Rattle.definitions.specs.Uses.{Used, used_nothing}
use Rattle.definitions.specs.Frames.{frame}
use Rattle.step_rules.specs.Calls as asks
use Rattle.step_rules.specs.Answers.{refused, no_memory, bad_request, Answer, began, stored, hits, value_is, keys, aliases, places, Reply}
use Rattle.session_rules.specs.Sessions.{Asked, a_call, no_call, to_call, caller_of}
use Rattle.session_rules.specs.Passes.{tells_disk_fault}
use Rattle.session_rules.specs.Reading.{Reads}
use Rattle.session_rules.specs.Turns.{TurnAnswers, answers_unread, answers_bad}
use Rattle.session_rules.specs.Bytes.{reply_bytes}
use Rattle.session_rules.specs.Within.{most_reply_bytes, ShowsWithin}
use Rattle.session_rules.proofs.Within.{answer-short}
use Rattle.record_model.specs.declared.asking.Call.{Call}
use Rattle.model_words.specs.Seen.{call_seen}
use Rattle.daemon_wire.specs.declared.fail.CallFail.{CallFail}
use Rattle.daemon_wire.specs.declared.fail.CallFail.TheVariants as fails
use Rattle.daemon_wire.specs.Calls.{IsRead}
use Rattle.daemon_wire.specs.Writing.{IsCounted, IsShort}
use Rattle.session_seats.specs.Stores.{StoreSeen, AnswersIn, FrontTold}
use Rattle.call_supplies.specs.Supplies.{Supplies, Uses}
use Rattle.session_seats.specs.Answering.{AnswersCall, AnswerStands, AnswerFramed, ReplyTold, FailTold, bad_at, wanting}
use Rattle.session_seats.proofs.SupplyLaws.{Uses-nothing}
use Rattle.session_seats.proofs.WantingLaws.{answers_want}

-- ---- a payload that spells a call

-- the turn may tell of want of memory in place of a long reply
wants_in : (old new : StoreSeen) (number : ℕ) (call : asks.Call) (used : Used) (reply : Reply) → (IsShort reply.answer → ⊥) → AnswersIn old new number (a_call call) used reply → AnswersIn old new number (a_call call) used (wanting reply.front)
wants_in old new number call used reply long t = record {
  found = t.found;
  left = t.left;
  turn = t.turn;
  answers = record {
    answers = answers_want old.fixed.keyed t.found.entries t.found.doubt (caller_of old.fixed.number number) call used t.left.entries t.left.doubt reply.answer long t.answers.answers;
    counted = t.answers.counted;
    told = λ fault. absurd (true≢false (sym fault));
  };
  front = t.front;
}

pub call_answered : (old new : StoreSeen) (before after : Supplies) (number : ℕ) (payload stood stands : List ℕ) (call : Call) (reply : Reply) → IsRead payload (Ok call)
    → AnswersCall old new before after number (call_seen call) reply → ReplyTold reply stood stands → AnswerStands old new before after number payload stood stands
call_answered old new before after number payload stood stands call reply read answer (inl told) =
    (reply, record { asked = a_call (call_seen call); used = answer.0; reads = (read (call_seen call)).1 refl; turn = answer.1; uses = answer.2 }, told)
call_answered old new before after number payload stood stands call reply read answer (inr told) = (
  wanting reply.front,
  record { asked = a_call (call_seen call); used = answer.0; reads = (read (call_seen call)).1 refl; turn = wants_in old new number (call_seen call) answer.0 reply told.0 answer.1; uses = answer.2 },
  told.1,
)

-- ---- what asks the store its front alone

front_in : (old new : StoreSeen) (number front : ℕ) (asked : Asked) (answer : Answer) (t : FrontTold old new front) → tells_disk_fault (to_call answer) ≡ false
    → TurnAnswers old.fixed.keyed t.found.entries t.found.doubt (caller_of old.fixed.number number) asked used_nothing t.left.entries t.left.doubt (to_call answer)
    → AnswersIn old new number asked used_nothing (record { front = front; answer = answer })
front_in old new number front asked answer t none turn = record {
  found = t.found;
  left = t.left;
  turn = t.turn;
  answers = record { answers = turn; counted = t.counted; told = λ fault. absurd (true≢false (sym fault ∙ none)) };
  front = t.front_is;
}

-- with supplies of which nothing was used
stands_so : (old new : StoreSeen) (before after : Supplies) (number : ℕ) (payload stood stands : List ℕ) (asked : Asked) (reply : Reply) → after ≡ before → Reads payload asked → AnswersIn old new number asked used_nothing reply
    → stands ≡ stood ++ reply_bytes reply → AnswerStands old new before after number payload stood stands
stands_so old new before after number payload stood stands asked reply unused reads turn told =
    (reply, record { asked = asked; used = used_nothing; reads = reads; turn = turn; uses = subst (λ (s : Supplies). Uses before s used_nothing) (sym unused) (Uses-nothing before) }, told)

pub fail_answered : (old new : StoreSeen) (before after : Supplies) (number : ℕ) (payload stood stands : List ℕ) (front : ℕ) (fail : CallFail) → after ≡ before → IsRead payload (Err fail) → FrontTold old new front → FailTold fail front stood stands
    → AnswerStands old new before after number payload stood stands
fail_answered old new before after number payload stood stands front (fails.BadRequest place) unused read t told =
    stands_so old new before after number payload stood stands (no_call place) (bad_at front place) unused ((read place).1 refl)
    (front_in old new number front (no_call place) (refused (bad_request place)) t refl (answers_bad place refl refl t.rests (inl refl))) told
fail_answered old new before after number payload stood stands front fails.NoMemory unused read t told =
    stands_so old new before after number payload stood stands (a_call read.0) (wanting front) unused read.1
    (front_in old new number front (a_call read.0) (refused no_memory) t refl (answers_unread read.0 refl refl t.rests refl)) told

-- ---- how long a reply is

-- what is shown within its bounds is counted within an array's
pub within_counted : (answer : Answer) → ShowsWithin answer → IsCounted answer
within_counted (began id) within = tt
within_counted (stored idx) within = tt
within_counted (hits found) within = omega (arith, within.0)
within_counted (value_is value) within = tt
within_counted (keys found) within = omega (arith, within.0)
within_counted (aliases found) within = omega (arith, within.0)
within_counted (places found) within = omega (arith, within.0)
within_counted (refused refusal) within = tt

behind_short : (reply : Reply) (stood stands : List ℕ) → ShowsWithin reply.answer → stands ≡ stood ++ reply_bytes reply → length stands ≤ length stood + most_reply_bytes
behind_short reply stood stands within told = omega (arith, ap (λ (l : List ℕ). length l) told, length-append stood (reply_bytes reply), answer-short reply.front reply.answer within)

pub reply_short : (reply : Reply) (stood stands : List ℕ) → ShowsWithin reply.answer → ReplyTold reply stood stands → length stands ≤ length stood + most_reply_bytes
reply_short reply stood stands within (inl told) = behind_short reply stood stands within told
reply_short reply stood stands within (inr told) = behind_short (wanting reply.front) stood stands tt told.1

pub fail_short : (fail : CallFail) (front : ℕ) (stood stands : List ℕ) → FailTold fail front stood stands → length stands ≤ length stood + most_reply_bytes
fail_short (fails.BadRequest place) front stood stands told = behind_short (bad_at front place) stood stands tt told
fail_short fails.NoMemory front stood stands told = behind_short (wanting front) stood stands tt told

-- ---- the frame of a reply

abbrev pub four_zeros : List ℕ
four_zeros = 0 ∷ 0 ∷ 0 ∷ 0 ∷ []

-- the length, written over the four bytes that stand before a reply, makes its frame
frame_is : (bytes before after written : List ℕ) (n : ℕ) → before ≡ four_zeros → after ≡ before ++ bytes → n ≡ length after - 4
    → written ≡ to_be_bytes w32 n ++ drop 4 after → written ≡ frame bytes
frame_is bytes before after written n zeros appended counted over =
    let whole : after ≡ four_zeros ++ bytes = appended ∙ ap (λ (l : List ℕ). l ++ bytes) zeros in
    let len : n ≡ length bytes = counted ∙ ap (λ (l : List ℕ). length l - 4) whole ∙ omega arith in
    over ∙ ap (λ (k : ℕ). to_be_bytes w32 k ++ drop 4 after) len ∙ ap (λ (l : List ℕ). to_be_bytes w32 (length bytes) ++ drop 4 l) whole

pub answer_framed : (old new : StoreSeen) (before after : Supplies) (number : ℕ) (payload stood stands written : List ℕ) (n : ℕ) → AnswerStands old new before after number payload stood stands → stood ≡ four_zeros → n ≡ length stands - 4
    → written ≡ to_be_bytes w32 n ++ drop 4 stands → AnswerFramed old new before after number payload written
answer_framed old new before after number payload stood stands written n answer zeros counted over =
    (answer.0, answer.1, frame_is (reply_bytes answer.0) stood stands written n zeros answer.2 counted over)
