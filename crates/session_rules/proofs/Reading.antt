-- Each payload is one request.
use Rattle.std.proofs.Common.{◌≡◌, ℕ, zero, suc, ◌⊎◌, inl, inr, List, [], ◌∷◌, Some, refl, ◌∙◌, ap, subst, arith}
use Rattle.std.specs.Prelude.{slice_get, All}
use Rattle.std.proofs.lemmas.Option.{none-some, same_Some}
use Rattle.definitions.specs.Spelling.{IsBytes}
use Rattle.definitions.specs.Calls.{WrongAt}
use Rattle.step_rules.specs.Calls.{Call}
use Rattle.request_rules.specs.Requests.{call_kinds, SpellsRequest}
use Rattle.request_rules.proofs.Requests.{one_call, one_request_place, call_never_wrong, call_or_place}
use Rattle.session_rules.specs.Sessions.{Asked, a_call, no_call, a_page, a_read, unrouted}
use Rattle.session_rules.specs.Reading.{Reads, ReadsEach}
use Rattle.session_rules.specs.Laws.{IsReadAs, AreReadAs}

pub one_asked : (payload : List ℕ) (one other : Asked) → IsBytes payload → Reads payload one → Reads payload other → one ≡ other
one_asked payload (a_call call) (a_call other) bytes first second = ap a_call (one_call payload call other first second)
one_asked payload (a_call call) (no_call place) bytes first second = absurd (call_never_wrong payload call place bytes first second)
one_asked payload (a_call call) (a_page owner records) bytes first second = absurd second
one_asked payload (a_call call) (a_read read) bytes first second = absurd second
one_asked payload (a_call call) (unrouted code) bytes first second = absurd second
one_asked payload (no_call place) (a_call call) bytes first second = absurd (call_never_wrong payload call place bytes second first)
one_asked payload (no_call place) (no_call other) bytes first second = ap no_call (one_request_place payload place other bytes first second)
one_asked payload (no_call place) (a_page owner records) bytes first second = absurd second
one_asked payload (no_call place) (a_read read) bytes first second = absurd second
one_asked payload (no_call place) (unrouted code) bytes first second = absurd second
one_asked payload (a_page owner records) other bytes first second = absurd first
one_asked payload (a_read read) other bytes first second = absurd first
one_asked payload (unrouted code) other bytes first second = absurd first

read_as : (payload : List ℕ) → IsBytes payload → ((call : Call) × SpellsRequest call payload) ⊎ ((place : ℕ) × WrongAt call_kinds payload place) → IsReadAs payload
read_as payload bytes (inl found) = record { asked = a_call found.0; reads = found.1; alone = λ other reads. one_asked payload other (a_call found.0) bytes reads found.1 }
read_as payload bytes (inr found) = record { asked = no_call found.0; reads = found.1; alone = λ other reads. one_asked payload other (no_call found.0) bytes reads found.1 }

pub is_read_as : (payload : List ℕ) → IsBytes payload → IsReadAs payload
is_read_as payload bytes = read_as payload bytes (call_or_place payload bytes)

-- a list, item by item
all_alone : (payloads : List (List ℕ)) (one other : List Asked) → All IsBytes payloads → ReadsEach payloads one → ReadsEach payloads other → one ≡ other
all_alone [] [] [] bytes first second = refl
all_alone [] [] (b ∷ other) bytes first second = absurd second
all_alone [] (a ∷ one) other bytes first second = absurd first
all_alone (payload ∷ payloads) [] other bytes first second = absurd first
all_alone (payload ∷ payloads) (a ∷ one) [] bytes first second = absurd second
all_alone (payload ∷ payloads) (a ∷ one) (b ∷ other) bytes first second =
    let here : a ≡ b = one_asked payload a b (bytes 0 payload (omega arith)) first.0 second.0 in
    let later : one ≡ other = all_alone payloads one other (λ k d below. bytes (suc k) d (omega arith)) first.1 second.1 in
    ap (λ x. x ∷ one) here ∙ ap (λ xs. b ∷ xs) later

some_asked : (payloads : List (List ℕ)) → All IsBytes payloads → (asked : List Asked) × ReadsEach payloads asked
some_asked [] bytes = ([], tt)
some_asked (payload ∷ payloads) bytes =
    let here = is_read_as payload (bytes 0 payload (omega arith)) in
    let later = some_asked payloads (λ k d below. bytes (suc k) d (omega arith)) in
    (here.asked ∷ later.0, (here.reads, later.1))

pub are_read_as : (payloads : List (List ℕ)) → All IsBytes payloads → AreReadAs payloads
are_read_as payloads bytes =
    let found = some_asked payloads bytes in
    record { asked = found.0; reads = found.1; alone = λ other reads. all_alone payloads other found.0 bytes reads found.1 }

-- what is read of one of them
pub record ReadAt (asked : List Asked) (k : ℕ) (payload : List ℕ) : Type 0 where
  pub request : Asked
  pub at : slice_get asked k ≡ Some request
  pub reads : Reads payload request
  pub bytes : IsBytes payload

pub read_at : (payloads : List (List ℕ)) (asked : List Asked) (k : ℕ) (payload : List ℕ) → All IsBytes payloads → ReadsEach payloads asked → slice_get payloads k ≡ Some payload → ReadAt asked k payload
read_at [] [] k payload bytes reads at = absurd (none-some payload at)
read_at [] (a ∷ asked) k payload bytes reads at = absurd reads
read_at (p ∷ payloads) [] k payload bytes reads at = absurd reads
read_at (p ∷ payloads) (a ∷ asked) zero payload bytes reads at =
    let same : p ≡ payload = same_Some p payload at in
    record { request = a; at = refl; reads = subst (λ (x : List ℕ). Reads x a) same reads.0; bytes = subst IsBytes same (bytes 0 p (omega arith)) }
read_at (p ∷ payloads) (a ∷ asked) (suc k) payload bytes reads at =
    let later = read_at payloads asked k payload (λ j d below. bytes (suc j) d (omega arith)) reads.1 at in
    record { request = later.request; at = later.at; reads = later.reads; bytes = later.bytes }
