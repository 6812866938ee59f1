-- The call of a payload, from the call of a name and the bytes behind its number.
use Rattle.std.proofs.Common.{◌≡◌, ℕ, ◌+◌, ◌-◌, ◌≤◌, ◌==◌, ℤ, pos, Bool, true, false, if◌then◌else◌, List, length, Some, Result, Ok, Err, IfOk, IsOk, inl, inr, refl, sym, ap, subst, ◌∙◌, zero-add, arith}
use Rattle.std.proofs.lemmas.Bool.{eq-eqb, ne_eqb}
use Rattle.std.proofs.lemmas.Option.{same_Some}
use Rattle.definitions.specs.Spelling.{IsBytes}
use Rattle.definitions.specs.Calls.{Argument}
use Rattle.definitions.specs.Limits.{most_payload_bytes}
use Rattle.definitions.specs.Reading.{◌>=>◌, item_at, array_at, integer_at, is_call_length, is_call_number, kinds_of, last_arguments_at, call_at}
use Rattle.msgpack_fields.specs.Reading.{Reading}
use Rattle.request_rules.specs.Requests.{call_kinds}
use Rattle.request_rules.specs.Reading.{call_read}
use Rattle.request_rules.proofs.Requests.{call_or_place, reading_place, request_found}
use Rattle.request_rules.proofs.Fitting.{spelled_fits}
use Rattle.step_rules.specs.Calls as asks
use Rattle.record_model.specs.declared.asking.Call.{Call}
use Rattle.model_words.specs.Seen.{call_seen}
use Rattle.daemon_wire.specs.declared.fail.CallFail.{CallFail}
use Rattle.daemon_wire.specs.declared.fail.CallFail.TheVariants as fails
use Rattle.daemon_wire.specs.declared.names.CallName.{CallName}
use Rattle.daemon_wire.specs.Names.{number_of, kinds_named}
use Rattle.daemon_wire.specs.Calls.{IsRead}
use Rattle.daemon_wire.specs.Reading.{FailsAt, call_of, AsksFor, GivesCall}

-- ---- behind the header and the number

abbrev numbered : ℕ → Result (List Argument) ℕ → Result (ℤ × List Argument) ℕ
numbered n read = read >=> λ good. Ok (pos n, good)

abbrev behind_name : List ℕ → ℕ → ℤ × List ℕ → Result (ℤ × List Argument) ℕ
behind_name payload count c = if count == 1 + length (kinds_of call_kinds c.0) then (last_arguments_at (kinds_of call_kinds c.0) c.1 >=> λ read. Ok (c.0, read)) else Err (length payload)

abbrev behind_length : List ℕ → ℕ × List ℕ → Result (ℤ × List Argument) ℕ
behind_length payload n = item_at (integer_at n.1) (is_call_number call_kinds) n.1 >=> behind_name payload n.0

at_length : (payload rest : List ℕ) (count : ℕ) → item_at (array_at payload) is_call_length payload ≡ Ok (count, rest) → call_at call_kinds payload ≡ behind_length payload (count, rest)
unfolding call_at
at_length payload rest count e = ap (λ (r : Result (ℕ × List ℕ) ℕ). r >=> behind_length payload) e

at_name : (payload rest after : List ℕ) (count : ℕ) (z : ℤ) → item_at (integer_at rest) (is_call_number call_kinds) rest ≡ Ok (z, after) → behind_length payload (count, rest) ≡ behind_name payload count (z, after)
at_name payload rest after count z e = ap (λ (r : Result (ℤ × List ℕ) ℕ). r >=> behind_name payload count) e

-- what was read of a payload's header and number
pub record IsNamed (payload after : List ℕ) (count : ℕ) (name : CallName) : Type 0 where
  pub rest : List ℕ
  pub header : item_at (array_at payload) is_call_length payload ≡ Ok (count, rest)
  pub number : item_at (integer_at rest) (is_call_number call_kinds) rest ≡ Ok (pos (number_of name), after)

pub named_so : (bytes payload rest after : List ℕ) (count : ℕ) (name : CallName) → bytes ≡ payload → item_at (array_at bytes) is_call_length bytes ≡ Ok (count, rest)
    → item_at (integer_at rest) (is_call_number call_kinds) rest ≡ Ok (pos (number_of name), after) → IsNamed payload after count name
named_so bytes payload rest after count name same header number = record {
  rest = rest;
  header = subst (λ (b : List ℕ). item_at (array_at b) is_call_length b ≡ Ok (count, rest)) same header;
  number = number;
}

named_is : (payload after : List ℕ) (count : ℕ) (name : CallName) → IsNamed payload after count name → call_at call_kinds payload ≡ behind_name payload count (pos (number_of name), after)
named_is payload after count name named = at_length payload named.rest count named.header ∙ at_name payload named.rest after count (pos (number_of name)) named.number

pub bad_length : (payload after : List ℕ) (count items : ℕ) (name : CallName) → IsNamed payload after count name → items ≡ 1 + length (kinds_named name) → (count ≡ items → ⊥)
    → FailsAt (fails.BadRequest 0) (length payload) (call_at call_kinds payload)
bad_length payload after count items name named are differs =
    let test : (count == 1 + length (kinds_named name)) ≡ false = ne_eqb count (1 + length (kinds_named name)) (λ same. differs (same ∙ sym are)) in (
      0,
      length payload,
      refl,
      named_is payload after count name named
          ∙ ap (λ (b : Bool). if b then numbered (number_of name) (last_arguments_at (kinds_named name) after) else Err (length payload)) test,
      zero-add (length payload),
    )

-- ---- the call

found_so : (n : ℕ) (read : Result (List Argument) ℕ) (call : asks.Call) → call_of n read ≡ Ok call → call_read (numbered n read) ≡ Some call
found_so n (Ok good) call e = cc
found_so n (Err left) call e = absurd cc

fails_so : (n total : ℕ) (read : Result (List Argument) ℕ) (e : CallFail) → FailsAt e total read → FailsAt e total (numbered n read)
fails_so n total read (fails.BadRequest place) (wrong, left, at, is, sum) = (wrong, left, at, ap (numbered n) is, sum)
fails_so n total (Ok good) fails.NoMemory ok = ok
fails_so n total (Err left) fails.NoMemory ok = ok

gives_so : (payload : List ℕ) (name : CallName) (result : Result Call CallFail) (old : Reading) → call_at call_kinds payload ≡ numbered (number_of name) (last_arguments_at (kinds_named name) old.rest)
    → old.place + length old.rest ≡ length payload → AsksFor name old result → GivesCall payload result
gives_so payload name (Ok call) old is total asks = ap call_read is ∙ found_so (number_of name) (last_arguments_at (kinds_named name) old.rest) (call_seen call) asks
gives_so payload name (Err e) old is total asks =
    let here : FailsAt e (length payload) (last_arguments_at (kinds_named name) old.rest) = subst (λ (n : ℕ). FailsAt e n (last_arguments_at (kinds_named name) old.rest)) total asks in
    subst (FailsAt e (length payload)) (sym is) (fails_so (number_of name) (length payload) (last_arguments_at (kinds_named name) old.rest) e here)

pub gives_call : (payload : List ℕ) (count items : ℕ) (name : CallName) (result : Result Call CallFail) (old : Reading) → IsNamed payload old.rest count name → items ≡ 1 + length (kinds_named name) → count ≡ items
    → old.place + length old.rest ≡ length payload → AsksFor name old result → GivesCall payload result
gives_call payload count items name result old named are same total asks =
    let test : (count == 1 + length (kinds_named name)) ≡ true = eq-eqb count (1 + length (kinds_named name)) (same ∙ are) in
    gives_so payload name result old
    (named_is payload old.rest count name named ∙ ap (λ (b : Bool). if b then numbered (number_of name) (last_arguments_at (kinds_named name) old.rest) else Err (length payload)) test) total asks

-- ---- what a payload spells

pub is_read : (payload : List ℕ) (result : Result Call CallFail) → IsBytes payload → length payload ≤ most_payload_bytes → GivesCall payload result → IsRead payload result
is_read payload (Ok call) are short gives = λ spelled. (
  λ s. same_Some spelled (call_seen call) (sym ((request_found payload spelled are).1 s) ∙ gives),
  λ same. (request_found payload spelled are).0 (gives ∙ ap Some (sym same)),
)
is_read payload (Err (fails.BadRequest place)) are short (at, left, narrow, read, sum) = λ wrong. (
  λ is_wrong.
      let found = (reading_place payload wrong are).0 is_wrong in
      let same : left ≡ length payload - wrong = cc in
      omega (arith, narrow, sum, same, found.1, short),
  λ same.
      let same_left : left ≡ length payload - wrong = omega (arith, narrow, sum, same, short) in
      (reading_place payload wrong are).1 (read ∙ ap Err same_left, omega (arith, narrow, sum, same, short)),
)
is_read payload (Err fails.NoMemory) are short ok =
    elim (call_or_place payload are) [
      | inl spelled ↦ spelled
      | inr wrong ↦ absurd (let none = subst (λ (r : Result (ℤ × List Argument) ℕ). IsOk r) ((reading_place payload wrong.0 are).0 wrong.1).0 ok in cc)
    ]

pub fits_so : (payload : List ℕ) (result : Result Call CallFail) → length payload ≤ most_payload_bytes → IsRead payload result → IfOk result (λ call. asks.CallFits (call_seen call))
fits_so payload (Ok call) short read = spelled_fits payload (call_seen call) short ((read (call_seen call)).1 refl)
fits_so payload (Err e) short read = tt
