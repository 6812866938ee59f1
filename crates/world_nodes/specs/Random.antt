-- A node's generator, by its state, and how much of clock and random bytes a call used, by its answer.
use Rattle.std.specs.Prelude.{ℕ, ◌+◌, ◌*◌, ◌%◌, ◌^◌, List, map}
use Rattle.std.specs.List.{range_with_len, flat_map}
use Rattle.std.specs.Int.{w64, to_le_bytes}
use Rattle.definitions.specs.Uses.{Used}
use Rattle.step_rules.specs.Answers.{Answer, began, stored, hits, value_is, keys, aliases, places, refused}
use Rattle.rehearsal_rules.specs.Words.{nth_word, drawn_bytes}
use Rattle.rehearsal_rules.specs.Moments.{reading_at}

-- the state behind so many words from this one on: before each word a constant is added, modulo 2^64
abbrev pub state_after : (state words : ℕ) → ℕ
state_after state words = (state + words * 0x9e3779b97f4a7c15) % 2 ^ 64

-- the bytes of so many words from the state on, of each word the low byte first
abbrev pub word_bytes : (state words : ℕ) → List ℕ
word_bytes state words = flat_map (λ n. to_le_bytes w64 (nth_word state n)) (range_with_len 0 words)

-- A call that appends reads the clock once, and draws ten bytes for a command that starts, and 106 for a record. One that only asks
-- uses nothing.
abbrev pub readings_of : Answer → ℕ
readings_of (began id) = 1
readings_of (stored idx) = 1
readings_of (hits found) = 0
readings_of (value_is value) = 0
readings_of (keys found) = 0
readings_of (aliases found) = 0
readings_of (places found) = 0
readings_of (refused refusal) = 0

abbrev pub bytes_of : Answer → ℕ
bytes_of (began id) = 10
bytes_of (stored idx) = 106
bytes_of (hits found) = 0
bytes_of (value_is value) = 0
bytes_of (keys found) = 0
bytes_of (aliases found) = 0
bytes_of (places found) = 0
bytes_of (refused refusal) = 0

-- so many of the clock's readings from this one on, and so many random bytes from this state on
abbrev pub used_from : (first state readings bytes : ℕ) → Used
used_from first state readings bytes = record { readings = map reading_at (range_with_len first readings); drawn = drawn_bytes state 0 bytes; faults = 0 }
