-- How the answers of readers stand for the words of `log_rules`.
use Rattle.std.specs.Prelude.{◌≡◌, ℕ, ◌⊎◌, Option, Some, None, Result, Ok, Err, ⊤}
use Rattle.record_rules.specs.Records as kept
use Rattle.log_rules.specs.Reading as words
use Rattle.log_rules.specs.Reading.{Reading, Field}
use Rattle.log_rules.specs.Pieces.{Pieces, Given, Awaits, Over, Faulty, next_in, end_fault}
use Rattle.record_model.specs.declared.entries.Event.{Event}
use Rattle.record_model.specs.Seen.{event_seen}
use Rattle.log_format.specs.declared.fails.FormatFail.{FormatFail}
use Rattle.log_format.specs.declared.fails.FormatFail.TheVariants as fails
use Rattle.log_format.specs.declared.fails.Halt.{Halt}
use Rattle.log_format.specs.declared.fails.Halt.TheVariants as halts

-- reading stopped as this does, or memory ran out
abbrev pub Stops : {X : Type 0} → Result X words.Stop → Halt → Type 0
Stops read (halts.Cut place) = read ≡ Err (words.Cut place)
Stops read (halts.Wrong place) = read ≡ Err (words.Wrong place)
Stops read halts.NoMemory = ⊤

-- a field was read, seen so; or it stopped as the field does there, or memory ran out
abbrev pub Reads : {T X : Type 0} → (T → X) → Field X → Reading → Result T Halt → Reading → Type 0
Reads seen field old (Ok value) new = field old ≡ Ok (seen value, new)
Reads seen field old (Err halt) new = Stops (field old) halt

-- the first field of the whole that can't be read stands at that place, or memory ran out
abbrev pub FailsAs : {X : Type 0} → Result X ℕ → FormatFail → Type 0
FailsAs whole (fails.Wrong place) = whole ≡ Err place
FailsAs whole fails.NoMemory = ⊤

-- ---- a body in pieces

-- the next event stops as a field of it does, or memory ran out
abbrev pub StopsNext : Pieces → Halt → Type 0
StopsNext pieces (halts.Cut place) = next_in pieces ≡ Awaits
StopsNext pieces (halts.Wrong place) = next_in pieces ≡ Faulty place
StopsNext pieces halts.NoMemory = ⊤

-- the next event was given, or there is none yet or no further one, or a field is wrong; but for an event nothing changed
abbrev pub Nexts : Pieces → Result (Option Event) FormatFail → Pieces → Type 0
Nexts old (Ok (Some event)) new = next_in old ≡ Given (event_seen event) new
Nexts old (Ok None) new = (new ≡ old) × ((next_in old ≡ Awaits) ⊎ (next_in old ≡ Over))
Nexts old (Err (fails.Wrong place)) new = (new ≡ old) × (next_in old ≡ Faulty place)
Nexts old (Err fails.NoMemory) new = new ≡ old

-- the pieces are a whole body, or what can't be read stands at that place
abbrev pub Ends : {T : Type 0} → Pieces → Result T FormatFail → Type 0
Ends pieces (Ok _) = end_fault pieces ≡ None
Ends pieces (Err (fails.Wrong place)) = end_fault pieces ≡ Some place
Ends pieces (Err fails.NoMemory) = ⊥
