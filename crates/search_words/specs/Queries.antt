-- Which search it is that the words ask for.
use Rattle.std.specs.Prelude.{ℕ, List, [], ◌^◌, ◌-◌, ◌&&◌, nat_le, Bool, length, drop, if◌then◌else◌, codes, Option, Some, None, option_map, unwrap_or, eqb}
use Rattle.std.specs.List.{list_all, starts_with}
use Rattle.std.specs.Char.{is_ascii_digit}
use Rattle.std.specs.Str.{bytes_eq}
use Rattle.std.specs.Str.Parse.{digits_value}
use Rattle.definitions.specs.Limits.{most_value_bytes, most_listed}
use Rattle.record_model.specs.declared.asking.Mode.{Mode}
use Rattle.record_model.specs.declared.asking.Mode.TheVariants as modes
use Rattle.record_model.specs.declared.asking.Filter.{Filter}
use Rattle.record_model.specs.declared.asking.Filter.TheVariants as filters
use Rattle.record_model.specs.declared.asking.Query.{Query}
use Rattle.search_words.specs.Words.{Text, said_of, read_words, ◌>>=◌}

-- a text that isn't too long to be looked for
abbrev pub short_text : Text → Option Text
short_text text = if nat_le (length text) most_value_bytes then Some text else None

abbrev pub mode_called : Text → Option Mode
mode_called value =
    if bytes_eq value (codes "prefix") then Some modes.Prefix
    else (if bytes_eq value (codes "substring") then Some modes.Substring else None)

-- what stands behind these first bytes
abbrev pub behind : Text → Text → Text
behind first value = drop (length first) value

abbrev pub filter_called : Text → Option Filter
filter_called value =
    if bytes_eq value (codes "global") then Some filters.Global
    else (if starts_with eqb value (codes "host:") then option_map filters.Host (short_text (behind (codes "host:") value))
    else (if starts_with eqb value (codes "session:") then option_map filters.Session (short_text (behind (codes "session:") value))
    else (if starts_with eqb value (codes "directory:") then option_map filters.Directory (short_text (behind (codes "directory:") value)) else None)))

-- 1 to 10 decimal digits
abbrev pub are_digits : Text → Bool
are_digits text = nat_le 1 (length text) && nat_le (length text) 10 && list_all is_ascii_digit text

-- the number that the digits write, from `least` to `most`
abbrev pub number_in : ℕ → ℕ → Text → Option ℕ
number_in least most text =
    let number = digits_value 10 text in
    if are_digits text && nat_le least number && nat_le number most then Some number else None

-- the search of these values
abbrev pub query_by : (mode filter unique offset limit text : Text) → Option Query
query_by mode_value filter_value unique_value offset_value limit_value text_value = do
  mode ← mode_called mode_value
  filter ← filter_called filter_value
  offset ← number_in 0 (2 ^ 32 - 1) offset_value
  limit ← number_in 1 most_listed limit_value
  text ← short_text text_value
  Some (record { mode = mode; filter = filter; text = text; unique = bytes_eq unique_value (codes "true"); offset = offset; limit = limit })

-- the search by what is found under each name, and what holds where nothing is
abbrev pub query_found : (Text → Option Text) → Option Query
query_found found =
    query_by (unwrap_or (found (codes "mode")) (codes "prefix")) (unwrap_or (found (codes "filter")) (codes "global"))
    (unwrap_or (found (codes "unique")) (codes "false")) (unwrap_or (found (codes "offset")) (codes "0"))
    (unwrap_or (found (codes "limit")) (codes "100")) (unwrap_or (found (codes "text")) [])

-- the search that the words ask for, if they ask for one
abbrev pub query_of : List Text → Option Query
query_of words = read_words words None [] >>= λ said. query_found (λ name. said_of name said)
