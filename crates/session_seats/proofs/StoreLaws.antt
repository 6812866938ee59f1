-- One turn more at a lent store: its session, its run and its turns get longer by that reply.
use Rattle.std.proofs.Common.{◌≡◌, ℕ, suc, ◌+◌, true, List, [], ◌∷◌, ◌++◌, length, map, Option, Some, None, refl, sym, ◌∙◌, ap, subst, append-nil, arith}
use Rattle.std.proofs.lemmas.List.{map-append}
use Rattle.definitions.specs.Uses.{Used, used_nothing, then_used}
use Rattle.definitions.proofs.Uses.{then_used-assoc, nothing-then_used, then_used-nothing}
use Rattle.definitions.proofs.Counts.{Rose-has_risen}
use Rattle.record_rules.specs.Records.{Entry}
use Rattle.step_rules.specs.Answers.{Reply}
use Rattle.step_rules.specs.Store.{KeyedStore}
use Rattle.session_rules.specs.Sessions.{Asked, SessionRequest, SessionReply, to_call, call_reply, caller_of, numbered_from, Session}
use Rattle.session_rules.specs.Reading.{Reads, ReadsEach}
use Rattle.session_rules.specs.Turns.{TurnAnswers}
use Rattle.session_rules.specs.Passes.{TurnItem, TurnsFor}
use Rattle.session_rules.specs.Stores.{StoreState, StoreTurn, RunTurn, IsRunTurn, IsRun, last_left, run_used}
use Rattle.session_rules.proofs.Growing.{session_grows}
use Rattle.session_rules.proofs.Turns.{turns_follow}
use Rattle.session_crashes.specs.Crashes.{TurnLeaves}
use Rattle.session_crashes.proofs.Runs.{leaves_more}
use Rattle.session_seats.specs.Stores.{StoreFixed, StoreSeen, store_turn, AddsTurn, TurnsTold, AnswersIn, RunsAlone}

-- ---- requests

numbered-more : (call : ℕ) (asked : List Asked) (one : Asked) → numbered_from call (asked ++ one ∷ []) ≡ numbered_from call asked ++ record { call = call + length asked; asked = one } ∷ []
numbered-more call [] one = let here : call ≡ call + 0 = omega arith in ap (λ (n : ℕ). record { call = n; asked = one } ∷ []) here
numbered-more call (x ∷ asked) one =
    let here : (call + 1) + length asked ≡ call + length (x ∷ asked) = omega arith in
    let first : SessionRequest = record { call = call; asked = x } in
    ap (λ (rest : List SessionRequest). first ∷ rest) (numbered-more (call + 1) asked one ∙ ap (λ (n : ℕ). numbered_from (call + 1) asked ++ record { call = n; asked = one } ∷ []) here)

-- the request behind those that were asked
pub asked_more : (asked : List Asked) (one : Asked) (requests : ℕ) → length asked ≡ requests → numbered_from 1 asked ++ record { call = requests + 1; asked = one } ∷ [] ≡ numbered_from 1 (asked ++ one ∷ [])
asked_more asked one requests many =
    let here : requests + 1 ≡ 1 + length asked = omega (arith, many) in
    ap (λ (n : ℕ). numbered_from 1 asked ++ record { call = n; asked = one } ∷ []) here ∙ sym (numbered-more 1 asked one)

pub reads_more : (payloads : List (List ℕ)) (asked : List Asked) (payload : List ℕ) (one : Asked) → ReadsEach payloads asked → Reads payload one → ReadsEach (payloads ++ payload ∷ []) (asked ++ one ∷ [])
reads_more [] [] payload one each reads = (reads, tt)
reads_more (p ∷ payloads) (a ∷ asked) payload one each reads = (each.0, reads_more payloads asked payload one each.1 reads)
reads_more [] (a ∷ asked) payload one each reads = absurd each
reads_more (p ∷ payloads) [] payload one each reads = absurd each

pub reads_many : (payloads : List (List ℕ)) (asked : List Asked) → ReadsEach payloads asked → length asked ≡ length payloads
reads_many [] [] each = refl
reads_many (p ∷ payloads) (a ∷ asked) each = ap suc (reads_many payloads asked each.1)
reads_many [] (a ∷ asked) each = absurd each
reads_many (p ∷ payloads) [] each = absurd each

pub replies_more : (replies : List Reply) (reply : Reply) → map call_reply replies ++ call_reply reply ∷ [] ≡ map call_reply (replies ++ reply ∷ [])
replies_more replies reply = sym (map-append call_reply replies (reply ∷ []))

-- ---- the session

pub session_more : (seen : List Entry) (requests : List SessionRequest) (used : Used) (replies : List SessionReply) (old new : StoreSeen) (call : ℕ) (one : Asked) (used_here : Used) (reply : Reply)
    → Session old.fixed.keyed seen old.fixed.number requests used replies old.state.entries → AnswersIn old new call one used_here reply
    → Session old.fixed.keyed seen old.fixed.number (requests ++ record { call = call; asked = one } ∷ []) (then_used used used_here) (replies ++ call_reply reply ∷ []) new.state.entries
session_more seen requests used replies old new call one used_here reply session t =
    let asked : SessionRequest = record { call = call; asked = one } in
    let turn : TurnAnswers old.fixed.keyed (old.state.entries ++ t.turn.since) t.found.doubt (caller_of old.fixed.number call) one used_here t.left.entries t.left.doubt (to_call reply.answer) =
    subst (λ (entries : List Entry). TurnAnswers old.fixed.keyed entries t.found.doubt (caller_of old.fixed.number call) one used_here t.left.entries t.left.doubt (to_call reply.answer)) t.turn.found_is t.answers.answers in
    let grown = session_grows old.fixed.keyed seen old.fixed.number requests used replies old.state.entries t.turn.since t.found.doubt asked used_here t.left.entries t.left.doubt (to_call reply.answer) t.turn.named session t.turn.of_others turn in
    subst (λ (entries : List Entry). Session old.fixed.keyed seen old.fixed.number (requests ++ asked ∷ []) (then_used used used_here) (replies ++ call_reply reply ∷ []) entries) t.turn.left_is
    (subst (λ (n : ℕ). Session old.fixed.keyed seen old.fixed.number (requests ++ asked ∷ []) (then_used used used_here) (replies ++ record { front = n; answer = to_call reply.answer } ∷ []) t.left.entries) (sym t.front) grown)

-- ---- the run of a store that is lent alone

run_more : (store : KeyedStore) (number : ℕ) (old : StoreState) (turns : List RunTurn) (one : RunTurn) → IsRun store number old turns → IsRunTurn store number (last_left old turns) one → IsRun store number old (turns ++ one ∷ [])
run_more store number old [] one run turn = (turn, tt)
run_more store number old (x ∷ turns) one run turn = (run.0, run_more store number x.left turns one run.1 turn)

last_more : (old : StoreState) (turns : List RunTurn) (one : RunTurn) → last_left old (turns ++ one ∷ []) ≡ one.left
last_more old [] one = refl
last_more old (x ∷ turns) one = last_more x.left turns one

used_more : (turns : List RunTurn) (one : RunTurn) → run_used (turns ++ one ∷ []) ≡ then_used (run_used turns) one.used
used_more [] one = then_used-nothing one.used ∙ sym (nothing-then_used one.used)
used_more (x ∷ turns) one = ap (then_used x.used) (used_more turns one) ∙ sym (then_used-assoc x.used (run_used turns) one.used)

pub runs_nothing : (old : StoreSeen) → RunsAlone old old [] used_nothing []
runs_nothing old = record { turns = []; run = tt; left_is = refl; requests_are = refl; used_is = refl; replies_are = refl; crash = refl }

-- the turn of a store that was found as it was left
turn_alone : (old new : StoreSeen) (state : StoreState) (call : ℕ) (one : Asked) (used : Used) (reply : Reply) → old.fixed.alone ≡ true → state ≡ old.state → AnswersIn old new call one used reply
    → IsRunTurn old.fixed.keyed old.fixed.number state (record { request = record { call = call; asked = one }; used = used; reply = call_reply reply; left = new.state })
turn_alone old new state call one used reply alone is t =
    let both = t.turn.alone alone in
    record {
      turn = subst (λ (found : StoreState). StoreTurn old.fixed.keyed found (caller_of old.fixed.number call) one used new.state (to_call reply.answer)) (both.0 ∙ sym is)
          (subst (λ (left : StoreState). StoreTurn old.fixed.keyed t.found (caller_of old.fixed.number call) one used left (to_call reply.answer)) both.1 t.answers);
      front = t.front ∙ ap (λ (left : StoreState). length left.entries) both.1;
    }

pub runs_more : (first old new : StoreSeen) (requests : List SessionRequest) (used : Used) (replies : List SessionReply) (call : ℕ) (one : Asked) (used_here : Used) (reply : Reply) → first.fixed ≡ old.fixed → old.fixed.alone ≡ true
    → RunsAlone first old requests used replies → AnswersIn old new call one used_here reply → RunsAlone first new (requests ++ record { call = call; asked = one } ∷ []) (then_used used used_here) (replies ++ call_reply reply ∷ [])
runs_more first old new requests used replies call one used_here reply fixed alone runs t =
    let item : RunTurn = record { request = record { call = call; asked = one }; used = used_here; reply = call_reply reply; left = new.state } in
    let turn : IsRunTurn first.fixed.keyed first.fixed.number (last_left first.state runs.turns) item =
    subst (λ (f : StoreFixed). IsRunTurn f.keyed f.number (last_left first.state runs.turns) item) (sym fixed) (turn_alone old new (last_left first.state runs.turns) call one used_here reply alone runs.left_is t) in
    let leaves : TurnLeaves first.fixed.keyed.host (last_left first.state runs.turns) new.state old.history new.history =
    subst (λ (state : StoreState). TurnLeaves first.fixed.keyed.host state new.state old.history new.history) (sym runs.left_is)
    (subst (λ (f : StoreFixed). TurnLeaves f.keyed.host old.state new.state old.history new.history) (sym fixed) (t.turn.crash alone)) in
    record {
      turns = runs.turns ++ item ∷ [];
      run = run_more first.fixed.keyed first.fixed.number first.state runs.turns item runs.run turn;
      left_is = last_more first.state runs.turns item;
      requests_are = map-append (λ (x : RunTurn). x.request) runs.turns (item ∷ []) ∙ ap (λ (xs : List SessionRequest). xs ++ item.request ∷ []) runs.requests_are;
      used_is = used_more runs.turns item ∙ ap (λ (u : Used). then_used u used_here) runs.used_is;
      replies_are = map-append (λ (x : RunTurn). x.reply) runs.turns (item ∷ []) ∙ ap (λ (xs : List SessionReply). xs ++ call_reply reply ∷ []) runs.replies_are;
      crash = leaves_more first.fixed.keyed.host first.state runs.turns item first.history old.history new.history runs.crash leaves;
    }

-- ---- the turns that a store tells

pub turns_nothing : (turns : Option (List TurnItem)) → TurnsTold turns [] turns
turns_nothing None = tt
turns_nothing (Some before) = ([], sym (append-nil before), tt)

turns_then : (a b c : Option (List TurnItem)) (replies : List SessionReply) (reply : SessionReply) (item : TurnItem) → TurnsFor (item ∷ []) (reply ∷ []) → TurnsTold a replies b → AddsTurn b item c → TurnsTold a (replies ++ reply ∷ []) c
turns_then None b c replies reply item one first second = tt
turns_then (Some before) None c replies reply item one first second = absurd first
turns_then (Some before) (Some between) None replies reply item one first second = absurd second
turns_then (Some before) (Some between) (Some after) replies reply item one first second = turns_follow before between after replies (reply ∷ []) first (item ∷ [], second, one)

pub turns_more : (turns : Option (List TurnItem)) (replies : List SessionReply) (old new : StoreSeen) (call : ℕ) (one : Asked) (used : Used) (reply : Reply) → TurnsTold turns replies old.turns → AnswersIn old new call one used reply
    → TurnsTold turns (replies ++ call_reply reply ∷ []) new.turns
turns_more turns replies old new call one used reply told t =
    turns_then turns old.turns new.turns replies (call_reply reply) (store_turn t.found t.left)
    (t.front, λ fault. Rose-has_risen t.found.faults t.left.faults (t.answers.told fault), tt) told t.turn.turns
