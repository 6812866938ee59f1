-- What the reading of a payload tells.
use Rattle.std.specs.Prelude.{◌≡◌, ◌↔◌, ℕ, List, Result, Ok, Err}
use Rattle.definitions.specs.Calls.{WrongAt}
use Rattle.request_rules.specs.Requests.{call_kinds, SpellsRequest}
use Rattle.step_rules.specs.Calls as asks
use Rattle.record_model.specs.declared.asking.Call.{Call}
use Rattle.model_words.specs.Seen.{call_seen}
use Rattle.daemon_wire.specs.declared.fail.CallFail.{CallFail}
use Rattle.daemon_wire.specs.declared.fail.CallFail.TheVariants as fails

-- The payload spells this call and no other one; or it is wrong at this place and at no other one; or there was no memory
-- for the texts of the call that it spells. Of any payload one of the first two holds, as the laws of calls say.
abbrev pub IsRead : List ℕ → Result Call CallFail → Type 0
IsRead payload (Ok call) = (spelled : asks.Call) → SpellsRequest spelled payload ↔ (spelled ≡ call_seen call)
IsRead payload (Err (fails.BadRequest place)) = (wrong : ℕ) → WrongAt call_kinds payload wrong ↔ (wrong ≡ place)
IsRead payload (Err fails.NoMemory) = (call : asks.Call) × SpellsRequest call payload
