-- The laws of requests, as statements. Each is the contract of the function of its name.
use Rattle.std.specs.Prelude.{◌≡◌, ℕ, ◌-◌, ◌≤◌, ◌⊎◌, ◌↔◌, pos, List, length, Some, Ok, Err}
use Rattle.definitions.specs.Spelling.{IsBytes}
use Rattle.definitions.specs.Calls.{Argument, WrongAt}
use Rattle.definitions.specs.Reading.{call_at}
use Rattle.definitions.specs.Limits.{most_payload_bytes}
use Rattle.step_rules.specs.Calls.{Call, CallFits}
use Rattle.request_rules.specs.Reading.{request_at}
use Rattle.request_rules.specs.Requests.{request_number, call_kinds, HasArguments, SpellsRequest}

-- a payload spells one call at most
abbrev pub SpellsOneCall : Type 0
SpellsOneCall = (payload : List ℕ) (a b : Call) → SpellsRequest a payload → SpellsRequest b payload → a ≡ b

-- what spells a call is wrong nowhere
abbrev pub NeverBoth : Type 0
NeverBoth = (payload : List ℕ) (call : Call) (place : ℕ) → IsBytes payload → SpellsRequest call payload → WrongAt call_kinds payload place → ⊥

-- a payload is wrong at one place at most
abbrev pub WrongAtOnePlace : Type 0
WrongAtOnePlace = (payload : List ℕ) (place other : ℕ) → IsBytes payload → WrongAt call_kinds payload place → WrongAt call_kinds payload other → place ≡ other

-- bytes spell a call, or are wrong at a place
abbrev pub CallOrPlace : Type 0
CallOrPlace = (payload : List ℕ) → IsBytes payload → ((call : Call) × SpellsRequest call payload) ⊎ ((place : ℕ) × WrongAt call_kinds payload place)

-- reading finds arguments of a call exactly where the call is spelled, and the place exactly where the payload is wrong
abbrev pub ReadingFindsCall : Type 0
ReadingFindsCall = (payload : List ℕ) (call : Call) → IsBytes payload → SpellsRequest call payload ↔ ((arguments : List Argument) × HasArguments call arguments × (call_at call_kinds payload ≡ Ok (pos (request_number call), arguments)))

abbrev pub ReadingFindsPlace : Type 0
ReadingFindsPlace = (payload : List ℕ) (place : ℕ) → IsBytes payload → WrongAt call_kinds payload place ↔ ((call_at call_kinds payload ≡ Err (length payload - place)) × (place ≤ length payload))

-- the call is computed: it is found exactly where it is spelled
abbrev pub RequestIsFound : Type 0
RequestIsFound = (payload : List ℕ) (call : Call) → IsBytes payload → (request_at payload ≡ Some call) ↔ SpellsRequest call payload

-- what a payload of a frame that is read spells is a call that a store may be asked
abbrev pub SpelledCallFits : Type 0
SpelledCallFits = (payload : List ℕ) (call : Call) → length payload ≤ most_payload_bytes → SpellsRequest call payload → CallFits call
