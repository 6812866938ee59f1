-- What the parts of a payload's reading give. Nothing rests on these words alone.
use Rattle.std.specs.Prelude.{◌≡◌, ℕ, ◌+◌, List, length, Some, Result, Ok, Err, IsOk}
use Rattle.definitions.specs.Calls.{Argument}
use Rattle.definitions.specs.Reading.{call_at, last_arguments_at}
use Rattle.msgpack_fields.specs.Reading.{Reading}
use Rattle.msgpack_fields.specs.declared.reader.Wrong.{Wrong}
use Rattle.request_rules.specs.Requests.{call_kinds}
use Rattle.request_rules.specs.Reading.{call_from, request_at}
use Rattle.step_rules.specs.Calls as asks
use Rattle.record_model.specs.declared.asking.Call.{Call}
use Rattle.model_words.specs.Seen.{call_seen}
use Rattle.daemon_wire.specs.Fails.{in_four_bytes}
use Rattle.daemon_wire.specs.Names.{number_of, kinds_named}
use Rattle.daemon_wire.specs.declared.names.CallName.{CallName}
use Rattle.daemon_wire.specs.declared.fail.CallFail.{CallFail}
use Rattle.daemon_wire.specs.declared.fail.CallFail.TheVariants as fails

-- What a read gives, seen by `view`: what reading from the left gives of the bytes that were left, or the place of the
-- item that is wrong.
abbrev pub Gives : {X Y : Type 0} → (X → Y) → Reading → Reading → Result X Wrong → Result (Y × List ℕ) ℕ → Type 0
Gives view old new (Ok x) read = (read ≡ Ok (view x, new.rest)) × (new.place + length new.rest ≡ old.place + length old.rest)
Gives view old new (Err e) read = (left : ℕ) × (read ≡ Err left) × (e.place + left ≡ old.place + length old.rest)

-- where reading to the last byte fails, of so many bytes in all
abbrev pub FailsAt : {X : Type 0} → CallFail → ℕ → Result X ℕ → Type 0
FailsAt (fails.BadRequest place) total read = (wrong : ℕ) × (left : ℕ) × (place ≡ in_four_bytes wrong) × (read ≡ Err left) × (wrong + left ≡ total)
FailsAt fails.NoMemory total read = IsOk read

-- the call of a number and of the arguments that were read
abbrev pub call_of : ℕ → Result (List Argument) ℕ → Result asks.Call ℕ
call_of n (Ok good) = Ok (call_from n good)
call_of n (Err left) = Err left

-- the call of a name, from the bytes that were left
abbrev pub AsksFor : CallName → Reading → Result Call CallFail → Type 0
AsksFor name old (Ok call) = call_of (number_of name) (last_arguments_at (kinds_named name) old.rest) ≡ Ok (call_seen call)
AsksFor name old (Err e) = FailsAt e (old.place + length old.rest) (last_arguments_at (kinds_named name) old.rest)

-- the call of a payload
abbrev pub GivesCall : List ℕ → Result Call CallFail → Type 0
GivesCall payload (Ok call) = request_at payload ≡ Some (call_seen call)
GivesCall payload (Err e) = FailsAt e (length payload) (call_at call_kinds payload)
