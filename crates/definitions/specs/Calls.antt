-- The calls that a request's payload spells, and where a payload that spells none goes wrong.
use Rattle.std.specs.Prelude.{◌≡◌, ◌≢◌, ℕ, ◌+◌, ◌<◌, ◌≤◌, ◌^◌, ℤ, pos, FitsSigned, List, [], ◌∷◌, ◌++◌, length, Option, Some, IsSome}
use Rattle.std.specs.Int.{w64}
use Rattle.definitions.specs.Spelling.{SpellsInteger, SpellsText, SpellsArray}
use Rattle.definitions.specs.Ids.{id_text}

-- ---- arguments

pub data Argument : Type 0 where
  a_text : List ℕ → Argument
  an_integer : ℤ → Argument

abbrev pub SpellsArgument : Argument → List ℕ → Type 0
SpellsArgument (a_text text) bytes = SpellsText text bytes
SpellsArgument (an_integer z) bytes = SpellsInteger z bytes

-- what may stand in an argument's place
pub data Kind : Type 0 where
  any_text : Kind
  empty_text : Kind
  -- the 32 lower-case hexadecimal digits of an id
  id_digits : Kind
  -- an integer of 64 bits with a sign
  signed_64 : Kind
  -- a number from the first to the second, both included
  from_to : ℕ → ℕ → Kind

abbrev pub IsOfKind : Kind → Argument → Type 0
IsOfKind any_text (a_text text) = Unit {0}
IsOfKind empty_text (a_text text) = text ≡ []
IsOfKind id_digits (a_text text) = (id : ℕ) × (id < 2 ^ 128) × (text ≡ id_text id)
IsOfKind signed_64 (an_integer z) = FitsSigned w64 z
IsOfKind (from_to low high) (an_integer (pos n)) = (low ≤ n) × (n ≤ high)
IsOfKind _ _ = ⊥

-- ---- payloads

-- arguments of these kinds, one spelled after another
abbrev pub SpellsArguments : List Kind → List Argument → List ℕ → Type 0
SpellsArguments [] [] bytes = bytes ≡ []
SpellsArguments (kind ∷ kinds_after) (argument ∷ arguments_after) bytes =
    (first : List ℕ) × (rest : List ℕ) × IsOfKind kind argument × SpellsArgument argument first × SpellsArguments kinds_after arguments_after rest × (bytes ≡ first ++ rest)
SpellsArguments _ _ bytes = ⊥

-- An array of a call's number and its arguments, in any widths that hold them, and nothing more. The table tells which
-- number is that of a call, and of what kinds its arguments are.
pub record SpellsNumbered (table : ℕ → Option (List Kind)) (n : ℕ) (arguments : List Argument) (payload : List ℕ) : Type 0 where
  pub header : List ℕ
  pub number : List ℕ
  pub rest : List ℕ
  pub all_kinds : List Kind
  pub kinds_are : table n ≡ Some all_kinds
  pub is_header : SpellsArray (1 + length all_kinds) header
  pub is_number : SpellsInteger (pos n) number
  pub are_arguments : SpellsArguments all_kinds arguments rest
  pub are : payload ≡ header ++ (number ++ rest)

-- no prefix of the bytes is spelled so
abbrev pub NoPrefix : (List ℕ → Type 0) → List ℕ → Type 0
NoPrefix Spelled bytes = (prefix rest : List ℕ) → bytes ≡ prefix ++ rest → Spelled prefix → ⊥

-- the items that a payload may have: its header, of 1 to 8 items, its number, and an argument of a kind
abbrev pub IsHeader : List ℕ → Type 0
IsHeader bytes = (n : ℕ) × (1 ≤ n) × (n ≤ 8) × SpellsArray n bytes

abbrev pub IsNumber : (ℕ → Option (List Kind)) → List ℕ → Type 0
IsNumber table bytes = (n : ℕ) × IsSome (table n) × SpellsInteger (pos n) bytes

abbrev pub IsArgument : Kind → List ℕ → Type 0
IsArgument kind bytes = (argument : Argument) × IsOfKind kind argument × SpellsArgument argument bytes

-- Reading from the left, the first wrong item of the payload has its first byte at this place. The number is judged
-- before the array's length, and a wrong length is a fault of the header, at place 0. Then comes each argument, and then
-- what stands behind the last one. An item that is cut is wrong at its first byte.
pub data WrongAt (table : ℕ → Option (List Kind)) (payload : List ℕ) (place : ℕ) : Type 0 where
  wrong_header : NoPrefix IsHeader payload → place ≡ 0 → WrongAt table payload place
  wrong_number : (header rest : List ℕ) → payload ≡ header ++ rest → IsHeader header → NoPrefix (IsNumber table) rest → place ≡ length header → WrongAt table payload place
  wrong_length : (n c : ℕ) (header number rest : List ℕ) (all_kinds : List Kind) → payload ≡ header ++ (number ++ rest) → SpellsArray n header → 1 ≤ n → n ≤ 8
      → SpellsInteger (pos c) number → table c ≡ Some all_kinds → n ≢ 1 + length all_kinds → place ≡ 0 → WrongAt table payload place
  wrong_argument : (c : ℕ) (header number read rest : List ℕ) (before : List Kind) (kind : Kind) (after : List Kind) (good : List Argument) → payload ≡ header ++ (number ++ (read ++ rest))
      → SpellsArray (1 + length (before ++ kind ∷ after)) header → SpellsInteger (pos c) number → table c ≡ Some (before ++ kind ∷ after) → SpellsArguments before good read
      → NoPrefix (IsArgument kind) rest → place ≡ length (header ++ (number ++ read)) → WrongAt table payload place
  left_over : (c : ℕ) (good : List Argument) (spelled rest : List ℕ) → payload ≡ spelled ++ rest → SpellsNumbered table c good spelled → rest ≢ [] → place ≡ length spelled → WrongAt table payload place

-- ---- searches, starts and ends

-- how a search compares: the query begins the command, or stands anywhere in it
pub data SearchMode : Type 0 where
  by_prefix : SearchMode
  by_substring : SearchMode

-- what a search over the views asks
pub record SearchQuery : Type 0 where
  pub mode : SearchMode
  pub text : List ℕ
  pub offset : ℕ
  pub limit : ℕ

-- the kinds of the arguments of a Start and of an End
abbrev pub start_kinds : List Kind
start_kinds = any_text ∷ any_text ∷ any_text ∷ any_text ∷ []

abbrev pub end_kinds : List Kind
end_kinds = id_digits ∷ signed_64 ∷ signed_64 ∷ []

abbrev pub mode_number : SearchMode → ℕ
mode_number by_prefix = 0
mode_number by_substring = 1
