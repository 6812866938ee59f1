-- JSON (RFC 8259) as `serde_json` reads it into a value: of a member that comes twice the last one counts, and a number past
-- the floats, a lone surrogate and a nesting past 127 are no JSON. And what stands under a name in an object.
use Rattle.std.specs.Prelude.{ℕ, List, Option, None, option_map, option_and_then, if◌then◌else◌}
use Rattle.std.specs.Int.{w128, from_be_bytes}
use Rattle.std.specs.Str.{is_utf8}
use Rattle.uuid.specs.Text.{parsed}
use Rattle.serde_json.specs.Data.{Data}
use Rattle.serde_json.specs.Find.{get, as_str, as_number, as_u64}
use Rattle.serde_json.specs.Read.{read}

-- the value of the bytes, if they are JSON
abbrev pub json_of : List ℕ → Option Data
json_of bytes = if is_utf8 bytes then read bytes else None

-- the id that is written so, in any form of a UUID
abbrev pub id_of : List ℕ → Option ℕ
id_of text = option_map (from_be_bytes w128) (parsed text)

-- the text, the integer from 0 to 2^64-1, or the id that stands under the name, if the value is an object that has it
abbrev pub text_under : List ℕ → Data → Option (List ℕ)
text_under name value = option_and_then as_str (get name value)

abbrev pub number_of : Data → Option ℕ
number_of value = option_and_then as_u64 (as_number value)

abbrev pub number_under : List ℕ → Data → Option ℕ
number_under name value = option_and_then number_of (get name value)

abbrev pub id_under : List ℕ → Data → Option ℕ
id_under name value = option_and_then id_of (text_under name value)
