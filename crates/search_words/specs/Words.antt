-- What the words of a search say: read from the left, each option and the text at most once.
use Rattle.std.specs.Prelude.{ℕ, List, [], ◌∷◌, ◌++◌, ◌==◌, Bool, if◌then◌else◌, codes, Option, Some, None, map, option_map, find, String}
use Rattle.std.specs.List.{list_any, before_first, after_first}
use Rattle.std.specs.Str.{bytes_eq}
use Rattle.std.specs.String.{string_bytes}

abbrev pub Text : Type 0
Text = List ℕ

abbrev pub texts : {A : Type 0} → List (String A) → List Text
texts words = map string_bytes words

-- ---- words

-- what a word is: `--`; `--NAME` or `--NAME=VALUE`; another that begins with `-` and goes on; or any other, `-` too
pub data Word : Type 0 where
  end_of_options : Word
  named : Text → Option Text → Word
  hyphened : Word
  plain : Text → Word

-- what stands behind the first `=`, if there is one
abbrev pub behind_equals : Text → Option Text
behind_equals text = if list_any (λ b. b == 61) text then Some (after_first (λ b. b == 61) text) else None

abbrev pub behind_two_hyphens : Text → Word
behind_two_hyphens [] = end_of_options
behind_two_hyphens (b ∷ rest) = named (before_first (λ x. x == 61) (b ∷ rest)) (behind_equals (b ∷ rest))

abbrev pub behind_a_hyphen : Text → Word
behind_a_hyphen [] = plain (codes "-")
behind_a_hyphen (b ∷ rest) = if b == 45 then behind_two_hyphens rest else hyphened

abbrev pub word_of : Text → Word
word_of [] = plain []
word_of (b ∷ rest) = if b == 45 then behind_a_hyphen rest else plain (b ∷ rest)

-- ---- options

pub data OptionKind : Type 0 where
  with_value : OptionKind
  alone : OptionKind
  unknown : OptionKind

abbrev pub option_kind : Text → OptionKind
option_kind name =
    if bytes_eq (codes "mode") name then with_value
    else (if bytes_eq (codes "filter") name then with_value
    else (if bytes_eq (codes "unique") name then alone
    else (if bytes_eq (codes "offset") name then with_value
    else (if bytes_eq (codes "limit") name then with_value else unknown))))

-- what was said of which name; the text stands under `text`, which names no option
abbrev pub Said : Type 0
Said = List (Text × Text)

abbrev pub is_said : Text → Said → Bool
is_said name said = list_any (λ p. bytes_eq p.0 name) said

-- what stands under a name
abbrev pub said_of : Text → Said → Option Text
said_of name said = option_map (λ p. p.1) (find (λ p. bytes_eq p.0 name) said)

-- one thing more, of which nothing was said before
abbrev pub says : Text → Text → Said → Option Said
says name value said = if is_said name said then None else Some (said ++ (name, value) ∷ [])

-- ---- lines

infixl 10 ◌>>=◌
abbrev pub ◌>>=◌ : {A B : Type 0} → Option A → (A → Option B) → Option B
(Some x) >>= f = f x
None >>= f = None

-- behind `--`: nothing, or the text
abbrev pub behind_end : List Text → Said → Option Said
behind_end [] said = Some said
behind_end (text ∷ []) said = says (codes "text") text said
behind_end (text ∷ more ∷ rest) said = None

-- how reading goes on: not at all; behind `--`; or with the option whose value the next word has to be, if there is one
pub data Next : Type 0 where
  refused : Next
  ended : Said → Next
  goes_on : Option Text → Said → Next

abbrev pub goes_on_with : Option Said → Next
goes_on_with None = refused
goes_on_with (Some said) = goes_on None said

abbrev pub after_named : OptionKind → Text → Option Text → Said → Next
after_named with_value name (Some value) said = goes_on_with (says name value said)
after_named with_value name None said = goes_on (Some name) said
after_named alone name (Some value) said = refused
after_named alone name None said = goes_on_with (says name (codes "true") said)
after_named unknown name value said = refused

abbrev pub after_word : Option Text → Word → Said → Next
after_word (Some name) (plain value) said = goes_on_with (says name value said)
after_word (Some name) _ said = refused
after_word None end_of_options said = ended said
after_word None (named name value) said = after_named (option_kind name) name value said
after_word None hyphened said = refused
after_word None (plain text) said = goes_on_with (says (codes "text") text said)

abbrev pub follow : Next → List Text → (Option Text → Said → Option Said) → Option Said
follow refused rest go = None
follow (ended said) rest go = behind_end rest said
follow (goes_on waiting said) rest go = go waiting said

-- all that the words say, in their order
unfoldable pub read_words : List Text → Option Text → Said → Option Said
read_words [] None said = Some said
read_words [] (Some name) said = None
read_words (word ∷ rest) waiting said = follow (after_word waiting (word_of word) said) rest (read_words rest)
