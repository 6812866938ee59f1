-- What is kept of the options that were met.
use Rattle.std.proofs.Common.{◌≡◌, Bool, true, false, ◌||◌, List, [], ◌∷◌, ◌++◌, map, Some, None, refl, sym, ap, ◌∙◌}
use Rattle.std.specs.Str.{bytes_eq}
use Rattle.std.proofs.lemmas.List.{map-append}
use Rattle.clap.specs.Walk.{Row, at_row, has_row, more_values, with_values, without}
use Rattle.clap.specs.declared.builder.value_parser.Reading.TheVariants as reading
use Rattle.clap.specs.declared.parser.matches.ValueSource.TheVariants.{CommandLine}
use Rattle.clap.proofs.WalkLemmas.{list_any-map}
use Rattle.search_words.specs.Words.{Text, Said, is_said}

pub or_parts : (a b : Bool) → (a || b) ≡ false → (a ≡ false) × (b ≡ false)
or_parts true b h = absurd (cc)
or_parts false b h = (refl, h)

-- what one option said
abbrev pub said_row : Text × Text → Row
said_row p = record { id = p.0; values = p.1 ∷ []; count = None; source = Some CommandLine; reading = reading.AsWritten }

abbrev pub rows_for : Said → List Row
rows_for said = map said_row said

pub added_row : (id : Text) (change : Row → List Row) (missing rows : List Row) → has_row id rows ≡ false → at_row id change missing rows ≡ rows ++ missing
added_row id change missing [] h = refl
added_row id change missing (r ∷ rs) h =
    let parts = or_parts (bytes_eq r.id id) (has_row id rs) h in
    rw parts.0 (ap (λ (t : List Row). r ∷ t) (added_row id change missing rs parts.1))

kept_rows : (id : Text) (rows : List Row) → has_row id rows ≡ false → without id rows ≡ rows
kept_rows id [] h = refl
kept_rows id (r ∷ rs) h =
    let parts = or_parts (bytes_eq r.id id) (has_row id rs) h in
    rw parts.0 (ap (λ (t : List Row). r ∷ t) (kept_rows id rs parts.1))

pub has_said : (name : Text) (said : Said) → has_row name (rows_for said) ≡ is_said name said
has_said name said = sym (list_any-map (λ (r : Row). bytes_eq r.id name) said_row said)

-- one more
pub one_more : (name value : Text) (said : Said) → is_said name said ≡ false
    → with_values name reading.AsWritten CommandLine (value ∷ []) (without name (rows_for said)) ≡ rows_for (said ++ (name, value) ∷ [])
one_more name value said new =
    let absent : has_row name (rows_for said) ≡ false = has_said name said ∙ new in
    ap (λ (rows : List Row). with_values name reading.AsWritten CommandLine (value ∷ []) rows) (kept_rows name (rows_for said) absent)
    ∙ added_row name (more_values CommandLine (value ∷ [])) (said_row (name, value) ∷ []) (rows_for said) absent
    ∙ sym (map-append said_row said ((name, value) ∷ []))
