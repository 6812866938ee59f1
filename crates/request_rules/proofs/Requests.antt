-- A payload spells one call, or is wrong at one place: what holds of each table of calls, and of each call its arguments.
use Rattle.std.proofs.Common.{◌≡◌, ℕ, List, Some, sym, ap, ◌∙◌, subst, inl, inr}
use Rattle.std.proofs.lemmas.Option.{none-some, same_Some}
use Rattle.definitions.specs.Spelling.{IsBytes}
use Rattle.definitions.specs.Calls.{Argument, SpellsNumbered}
use Rattle.definitions.proofs.Numbered.{numbered_spelled, wrong_at, numbered_or_wrong, numbered_read, numbered_one, wrong_read, one_place, never_both}
use Rattle.step_rules.specs.Calls.{Call}
use Rattle.request_rules.specs.Requests.{request_number, call_kinds, SpellsRequest}
use Rattle.request_rules.specs.Reading.{call_read, request_at}
use Rattle.request_rules.specs.Laws.{SpellsOneCall, NeverBoth, WrongAtOnePlace, CallOrPlace, ReadingFindsCall, ReadingFindsPlace, RequestIsFound}
use Rattle.request_rules.proofs.Arguments.{most_kinds, call_is, built_back, calls_one}

-- what is spelled by the table is a call
whole_call : (c : ℕ) (good : List Argument) (payload : List ℕ) → SpellsNumbered call_kinds c good payload → (call : Call) × SpellsRequest call payload
whole_call c good payload s =
    let call = call_is c s.all_kinds good s.rest s.kinds_are s.are_arguments in
    (call.0, record { arguments = good; has = call.2; numbered = subst (λ (n : ℕ). SpellsNumbered call_kinds n good payload) call.1 s })

pub one_call : SpellsOneCall
one_call payload a b s t =
    let same = numbered_one call_kinds most_kinds payload (request_number a) (request_number b) s.arguments t.arguments s.numbered t.numbered in
    calls_one a b s.arguments t.arguments s.has t.has same.0 same.1

pub one_request_place : WrongAtOnePlace
one_request_place payload place other are w v = one_place call_kinds most_kinds payload place other are w v

pub call_never_wrong : NeverBoth
call_never_wrong payload call place are s w = never_both call_kinds most_kinds payload (request_number call) s.arguments place are s.numbered w

pub call_or_place : CallOrPlace
call_or_place payload are =
    elim (numbered_or_wrong call_kinds payload are) [
      | inl s ↦ inl (whole_call s.0 s.1 payload s.2)
      | inr w ↦ inr w
    ]

pub reading_call : ReadingFindsCall
reading_call payload call are = (
  λ s. (s.arguments, s.has, numbered_read call_kinds most_kinds payload (request_number call) s.arguments s.numbered),
  λ r. record { arguments = r.0; has = r.1; numbered = numbered_spelled call_kinds payload (request_number call) r.0 are r.2 },
)

pub reading_place : ReadingFindsPlace
reading_place payload place are = (λ w. wrong_read call_kinds most_kinds payload place are w, λ r. wrong_at call_kinds payload place are r.1 r.0)

-- ---- the call that is computed

-- a call that is spelled is found
spelled_found : (payload : List ℕ) (call : Call) → IsBytes payload → SpellsRequest call payload → request_at payload ≡ Some call
spelled_found payload call are s =
    let read = (reading_call payload call are).0 s in
    ap call_read read.2 ∙ ap Some (built_back call read.0 read.1)

pub request_found : RequestIsFound
request_found payload call are = (
  λ found.
      elim (call_or_place payload are) [
        | inl spelled ↦ subst (λ (c : Call). SpellsRequest c payload) (same_Some spelled.0 call (sym (spelled_found payload spelled.0 are spelled.1) ∙ found)) spelled.1
        | inr wrong ↦ absurd (none-some call (sym (ap call_read ((reading_place payload wrong.0 are).0 wrong.1).0) ∙ found))
      ],
  spelled_found payload call are,
)
