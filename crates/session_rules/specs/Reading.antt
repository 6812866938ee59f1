-- What is asked by the payloads of a session's frames.
use Rattle.std.specs.Prelude.{ℕ, List, [], ◌∷◌}
use Rattle.definitions.specs.Calls.{WrongAt}
use Rattle.request_rules.specs.Requests.{call_kinds, SpellsRequest}
use Rattle.session_rules.specs.Sessions.{Asked, a_call, no_call, a_page, a_read, unrouted}

-- What is read of one payload: the call that it spells, or the place of its first wrong item. No payload asks for anything else.
abbrev pub Reads : List ℕ → Asked → Type 0
Reads payload (a_call call) = SpellsRequest call payload
Reads payload (no_call place) = WrongAt call_kinds payload place
Reads payload (a_page owner records) = ⊥
Reads payload (a_read read) = ⊥
Reads payload (unrouted code) = ⊥

-- one request for each payload, in order
abbrev pub ReadsEach : List (List ℕ) → List Asked → Type 0
ReadsEach [] [] = Unit {0}
ReadsEach (payload ∷ payloads) (asked ∷ more) = Reads payload asked × ReadsEach payloads more
ReadsEach [] (asked ∷ more) = ⊥
ReadsEach (payload ∷ payloads) [] = ⊥
