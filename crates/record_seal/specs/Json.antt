-- JSON (RFC 8259) as `serde_json` reads it into a value: of a member that comes twice the last one counts, and a number past
-- the floats, a lone surrogate and a nesting past 127 are no JSON.
use Rattle.std.specs.Prelude.{◌≡◌, List, ℕ, Option, Some, option_and_then}
use Rattle.std.specs.Str.{IsUtf8}
use Rattle.serde_json.specs.Data.{Data}
use Rattle.serde_json.specs.Find.{get, as_str}
use Rattle.serde_json.specs.Read.{read}

-- the text is UTF-8, and JSON of this value
pub record ReadsJson (text : List ℕ) (value : Data) : Type 0 where
  pub utf8 : IsUtf8 text
  pub value_read : read text ≡ Some value

-- the text under a name, where the value is an object in which it stands, as a text
abbrev pub text_member : List ℕ → Data → Option (List ℕ)
text_member name value = option_and_then as_str (get name value)
