-- The lines that the program prints.
use Rattle.std.specs.Prelude.{◌≡◌, ℕ, ◌*◌, ◌/◌, ◌==◌, pos, List, [], ◌∷◌, ◌++◌, Option, Some, None, false, if◌then◌else◌, codes}
use Rattle.std.specs.List.{flat_map}
use Rattle.std.specs.Fmt.{decimal, signed_decimal}
use Rattle.jiff_core.specs.declared.civil.datetime.DateTime.{DateTime}
use Rattle.jiff_core.specs.DateTime.{civil_nanos}
use Rattle.jiff_fmt.specs.Text.{datetime_text}
use Rattle.definitions.specs.Ids.{hyphenated}
use Rattle.definitions.specs.Journal.{HistoryRecord}
use Rattle.record_rules.specs.Journal.{ChainCount}

-- ---- texts

-- the letter that stands behind a backslash for a byte that isn't printed as it is: a backslash, a TAB, a LF, a CR
abbrev pub letter_of : ℕ → Option ℕ
letter_of byte =
    if byte == 92 then Some 92
    else (if byte == 9 then Some 116
    else (if byte == 10 then Some 110
    else (if byte == 13 then Some 114 else None)))

abbrev pub escaped_by : Option ℕ → ℕ → List ℕ
escaped_by None byte = byte ∷ []
escaped_by (Some letter) byte = 92 ∷ letter ∷ []

-- a text on one line and in one column
abbrev pub escaped : List ℕ → List ℕ
escaped text = flat_map (λ byte. escaped_by (letter_of byte) byte) text

-- ---- hits of a search

-- `YYYY-MM-DDTHH:MM:SSZ`: what a clock in UTC shows at a time in nanoseconds since 1970, its fraction of a second cut
abbrev pub IsTimeText : ℕ → List ℕ → Type 0
IsTimeText nanos text =
    (shown : DateTime)
    × (civil_nanos shown ≡ pos (nanos / 1_000_000_000 * 1_000_000_000))
    × (text ≡ datetime_text false 84 (Some 0) shown ++ 90 ∷ [])

-- time, TAB, exit status, TAB, command, LF
abbrev pub IsHitLine : HistoryRecord → List ℕ → Type 0
IsHitLine h line =
    (time : List ℕ)
    × IsTimeText h.timestamp time
    × (line ≡ time ++ 9 ∷ (signed_decimal h.exit ++ 9 ∷ (escaped h.command ++ 10 ∷ [])))

-- a line for each, in their order
unfoldable pub PrintsHits : List HistoryRecord → List ℕ → Type 0
PrintsHits [] text = text ≡ []
PrintsHits (h ∷ hits) text = (line : List ℕ) × (rest : List ℕ) × IsHitLine h line × PrintsHits hits rest × (text ≡ line ++ rest)

-- ---- chains of a status

-- host, space, tag, space, number of records, LF
abbrev pub chain_line : ChainCount → List ℕ
chain_line c = hyphenated c.host ++ 32 ∷ (escaped c.tag ++ 32 ∷ (decimal c.count ++ 10 ∷ []))

abbrev pub chain_lines : List ChainCount → List ℕ
chain_lines chains = flat_map chain_line chains

-- ---- a log that was moved over

abbrev pub entries_line : ℕ → List ℕ
entries_line count = codes "entries " ++ decimal count ++ 10 ∷ []
