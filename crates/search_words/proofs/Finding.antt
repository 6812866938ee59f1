-- What the parser found, beside what was said.
use Rattle.std.proofs.Common.{◌≡◌, Bool, true, false, cond, List, [], ◌∷◌, ◌++◌, Option, Some, None, option_map, unwrap_or, codes, refl, sym, ap, ◌∙◌, find, slice_get, String, Result, IfOk, MatchOption}
use Rattle.std.specs.Option.{option_and_then, option_or}
use Rattle.std.specs.Str.{bytes_eq}
use Rattle.std.proofs.lemmas.Str.{IsUtf8-string_bytes}
use Rattle.std.proofs.lemmas.List.Folds.{find-append}
use Rattle.std.proofs.lemmas.Result.{IfOk-weaker}
use Rattle.clap.specs.Faults.{fault_of}
use Rattle.clap.specs.Kinds.{Kinds}
use Rattle.clap.specs.Matches.{first_value, found_of}
use Rattle.clap.specs.Simple.{built, matches_of}
use Rattle.clap.specs.Walk.{Row, default_rows, first_of, has_row, more_values, nothing_held, rows_of}
use Rattle.clap.specs.declared.builder.value_parser.Reading.TheVariants as reading
use Rattle.clap.specs.declared.parser.matches.ArgMatches.{ArgMatches}
use Rattle.clap.specs.declared.parser.matches.ValueSource.TheVariants.{DefaultValue}
use Rattle.clap.proofs.FaultLemmas.{leaf_fault}
use Rattle.clap.proofs.WalkLemmas.{find-map, first_value-rows}
use Rattle.search_words.specs.Parsing.{Finds, Shows, search_app}
use Rattle.search_words.specs.Words.{Text, Said, read_words, said_of, texts}
use Rattle.search_words.proofs.Rows.{added_row, rows_for, said_row}
use Rattle.search_words.proofs.Turns.{by_test}
use Rattle.search_words.proofs.Walks.{Words, finish, gives, none, reads}

-- ---- what is found under a name

value_found : (o : Option (Text × Text)) → option_and_then (λ (r : Row). slice_get r.values 0) (option_map said_row o) ≡ option_map (λ (p : Text × Text). p.1) o
value_found None = refl
value_found (Some p) = refl

said_found : (name : Text) (said : Said) → first_of name (rows_for said) ≡ said_of name said
said_found name said =
    ap (option_and_then (λ (r : Row). slice_get r.values 0)) (sym (find-map (λ (r : Row). bytes_eq r.id name) said_row said))
    ∙ value_found (find (λ (p : Text × Text). bytes_eq p.0 name) said)

abbrev default_row : Row
default_row = record { id = codes "unique"; values = codes "false" ∷ []; count = None; source = Some DefaultValue; reading = reading.AsWritten }

abbrev first_text : Option Row → Option Text
first_text = option_and_then (λ (r : Row). slice_get r.values 0)

module _ (said : Said) where
  abbrev has_unique : Bool
  has_unique = has_row (codes "unique") (rows_for said)

  abbrev defaulted : List Row
  defaulted = default_rows (codes "unique") reading.AsWritten (codes "false" ∷ []) (rows_for said)

  with_unique : has_unique ≡ true → finish said ≡ rows_for said
  with_unique e = ap (λ (b : Bool). cond b (rows_for said) defaulted) e

  without_unique : has_unique ≡ false → finish said ≡ rows_for said ++ default_row ∷ []
  without_unique e =
      ap (λ (b : Bool). cond b (rows_for said) defaulted) e
      ∙ added_row (codes "unique") (more_values DefaultValue (codes "false" ∷ [])) (default_row ∷ []) (rows_for said) e

  module _ (name : Text) where
    abbrev under : Option Row
    under = find (λ (r : Row). bytes_eq r.id name) (rows_for said)

    default_found : has_unique ≡ false → first_of name (finish said) ≡ first_text (option_or under (cond (bytes_eq (codes "unique") name) (Some default_row) None))
    default_found e = ap (first_of name) (without_unique e) ∙ ap first_text (find-append (λ (r : Row). bytes_eq r.id name) (rows_for said) (default_row ∷ []))

    or_none : (o : Option Row) → option_or o None ≡ o
    or_none None = refl
    or_none (Some r) = refl

    found_of_other : bytes_eq (codes "unique") name ≡ false → first_of name (finish said) ≡ said_of name said
    found_of_other other =
        by_test has_unique
        (λ yes. ap (first_of name) (with_unique yes) ∙ said_found name said)
        (λ no. default_found no ∙ ap (λ (b : Bool). first_text (option_or under (cond b (Some default_row) None))) other ∙ ap first_text (or_none under) ∙ said_found name said)

  or_default : (o : Option Row) → unwrap_or (first_text (option_or o (Some default_row))) (codes "false") ≡ unwrap_or (first_text o) (codes "false")
  or_default None = refl
  or_default (Some r) = refl

  found_of_unique : unwrap_or (first_of (codes "unique") (finish said)) (codes "false") ≡ unwrap_or (said_of (codes "unique") said) (codes "false")
  found_of_unique =
      let same : unwrap_or (first_of (codes "unique") (rows_for said)) (codes "false") ≡ unwrap_or (said_of (codes "unique") said) (codes "false") =
      ap (λ (o : Option Text). unwrap_or o (codes "false")) (said_found (codes "unique") said) in
      by_test has_unique
      (λ yes. ap (λ (rows : List Row). unwrap_or (first_of (codes "unique") rows) (codes "false")) (with_unique yes) ∙ same)
      (λ no. ap (λ (o : Option Text). unwrap_or o (codes "false")) (default_found (codes "unique") no) ∙ or_default (under (codes "unique")) ∙ same)

  shows : (m : ArgMatches) → rows_of (found_of m) ≡ finish said → Shows said m
  shows m e =
      let as_found : (name : Text) → bytes_eq (codes "unique") name ≡ false → first_value (found_of m) name ≡ said_of name said =
      λ name other. first_value-rows (found_of m) name ∙ ap (first_of name) e ∙ found_of_other name other in
      record {
        mode = as_found (codes "mode") refl;
        filter = as_found (codes "filter") refl;
        unique = ap (λ (o : Option Text). unwrap_or o (codes "false")) (first_value-rows (found_of m) (codes "unique") ∙ ap (first_of (codes "unique")) e) ∙ found_of_unique;
        offset = as_found (codes "offset") refl;
        limit = as_found (codes "limit") refl;
        text = as_found (codes "text") refl;
      }

-- ---- the whole parse

whole : (words : List Text) → Words words → gives (fault_of search_app words) (matches_of search_app words) ≡ option_map finish (read_words words None [])
whole words u = ap (λ (k : Kinds). gives k (matches_of search_app words)) (leaf_fault (built search_app) nothing_held words refl) ∙ reads words u [] none tt

abbrev Parses : List Text → Option ArgMatches → Type 0
Parses words found =
    MatchOption found (fault_of search_app words ≡ [] → ⊥) (λ m. (fault_of search_app words ≡ []) × (rows_of (found_of m) ≡ matches_of search_app words))

same_some : {A : Type 0} (x y : A) → Some x ≡ Some y → x ≡ y
same_some x y e = cc

module _ (fault : Kinds) (rows : List Row) where
  finds_some : (r : Option Said) → gives fault rows ≡ option_map finish r → (m : ArgMatches) → fault ≡ [] → rows_of (found_of m) ≡ rows → Finds r (Some m)
  finds_some (Some said) e m free found = shows said m (found ∙ same_some rows (finish said) (ap (λ (k : Kinds). gives k rows) (sym free) ∙ e))
  finds_some None e m free found = let wrong : Some rows ≡ None = ap (λ (k : Kinds). gives k rows) (sym free) ∙ e in absurd (cc)

finds_none : (fault : Kinds) (rows : List Row) (r : Option Said) → gives fault rows ≡ option_map finish r → (fault ≡ [] → ⊥) → Finds r None
finds_none [] rows r e bad = absurd (bad refl)
finds_none (k ∷ ks) rows None e bad = tt
finds_none (k ∷ ks) rows (Some said) e bad = absurd (cc)

finds : (words : List Text) → Words words → (found : Option ArgMatches) → Parses words found → Finds (read_words words None []) found
finds words u None bad = finds_none (fault_of search_app words) (matches_of search_app words) (read_words words None []) (whole words u) bad
finds words u (Some m) h = finds_some (fault_of search_app words) (matches_of search_app words) (read_words words None []) (whole words u) m h.0 h.1

words_are_utf8 : {A : Type 0} (words : List (String A)) → Words (texts words)
words_are_utf8 [] = tt
words_are_utf8 (word ∷ rest) = (IsUtf8-string_bytes word, words_are_utf8 rest)

pub found_in : {A E : Type 0} (words : List (String A)) (r : Result (Option ArgMatches) E) → IfOk r (Parses (texts words)) → IfOk r (Finds (read_words (texts words) None []))
found_in words r h = IfOk-weaker r _ _ (finds (texts words) (words_are_utf8 words)) h
