-- A text without capitals is folded already.
use Rattle.std.proofs.Common.{◌≡◌, ◌<◌, ◌≤◌, ℕ, List, [], ◌∷◌, ◌++◌, map, length, take, drop, Bool, true, false, cond, eqb, ◌||◌, refl, sym, ap, ◌∙◌, arith}
use Rattle.std.specs.Prelude.{IsTrue, ◌↔◌}
use Rattle.std.proofs.lemmas.List.{length-append, length-map, map-append, take-append-drop, take-map}
use Rattle.std.proofs.Math.Seq.{take-append_seam}
use Rattle.definitions.proofs.Search.{starts_with-found, starts_with-at}
use Rattle.std.specs.Char.{is_ascii_uppercase, to_ascii_lowercase}
use Rattle.std.specs.List.{list_any, starts_with}
use Rattle.std.proofs.lemmas.Bool.Decides.{nat_tests}
use Rattle.definitions.specs.Calls.{by_substring}
use Rattle.definitions.specs.Search.{stands_in, matches_by}
use Rattle.history_view.specs.Folded.{BeginsFolded}

small_stays : (c : ℕ) → is_ascii_uppercase c ≡ false → to_ascii_lowercase c ≡ c
small_stays c e = grind (arith, nat_tests)

folded_stays : (text : List ℕ) → list_any is_ascii_uppercase text ≡ false → map to_ascii_lowercase text ≡ text
folded_stays [] e = refl
folded_stays (c ∷ text) e = by (is_ascii_uppercase c) refl e (folded_stays text)
  where
    by : (t : Bool) → is_ascii_uppercase c ≡ t → (t || list_any is_ascii_uppercase text) ≡ false → (list_any is_ascii_uppercase text ≡ false → map to_ascii_lowercase text ≡ text) → to_ascii_lowercase c ∷ map to_ascii_lowercase text ≡ c ∷ text
    by true t e rest = absurd cc
    by false t e rest = ap (λ (d : ℕ). d ∷ map to_ascii_lowercase text) (small_stays c t) ∙ ap (λ (cs : List ℕ). c ∷ cs) (rest e)

-- ---- a command that stands folded

pub folded_fits : (command part : List ℕ) → BeginsFolded command part → length command ≤ length part
folded_fits command part begins =
    let many = length-map command to_ascii_lowercase in
    let both = ap (λ (cs : List ℕ). length cs) begins.1 in
    let split = length-append (map to_ascii_lowercase command) begins.0 in
    omega (arith, many, both, split)

pub folded_part : (command part : List ℕ) → BeginsFolded command part → take (length command) part ≡ map to_ascii_lowercase command
folded_part command part begins =
    ap (λ (n : ℕ). take n part) (sym (length-map command to_ascii_lowercase)) ∙ ap (take (length (map to_ascii_lowercase command))) begins.1 ∙ take-append_seam (map to_ascii_lowercase command) begins.0

-- what stands in it is compared so
pub folded_stands : (query command part : List ℕ) → list_any is_ascii_uppercase query ≡ false → BeginsFolded command part → stands_in query (take (length command) part) ≡ matches_by by_substring query command
folded_stands query command part folds begins =
    ap (stands_in query) (folded_part command part begins) ∙ ap (λ (b : Bool). stands_in query (cond b command (map to_ascii_lowercase command))) (sym folds)

-- ---- a query that begins a command

module _ (query command : List ℕ) (small : list_any is_ascii_uppercase query ≡ false) where
  front_is : length query ≤ length command → map to_ascii_lowercase (take (length query) command) ≡ map to_ascii_lowercase query → starts_with eqb (map to_ascii_lowercase command) query ≡ true
  front_is long same =
      let front : map to_ascii_lowercase (take (length query) command) ≡ query = same ∙ folded_stays query small in
      let is : map to_ascii_lowercase command ≡ query ++ map to_ascii_lowercase (drop (length query) command) =
      ap (map to_ascii_lowercase) (sym (take-append-drop (length query) command)) ∙ map-append to_ascii_lowercase (take (length query) command) (drop (length query) command)
      ∙ ap (λ (cs : List ℕ). cs ++ map to_ascii_lowercase (drop (length query) command)) front in
      ap (λ (cs : List ℕ). starts_with eqb cs query) is ∙ starts_with-at query (map to_ascii_lowercase (drop (length query) command))

  is_front : starts_with eqb (map to_ascii_lowercase command) query ≡ true → map to_ascii_lowercase (take (length query) command) ≡ map to_ascii_lowercase query
  is_front e =
      let f = starts_with-found query (map to_ascii_lowercase command) e in
      sym (take-map to_ascii_lowercase (length query) command) ∙ ap (take (length query)) f.1 ∙ take-append_seam query f.0 ∙ sym (folded_stays query small)

  pub too_short : length command < length query → false ≡ starts_with eqb (map to_ascii_lowercase command) query
  too_short short = by (starts_with eqb (map to_ascii_lowercase command) query) refl
    where
      by : (t : Bool) → starts_with eqb (map to_ascii_lowercase command) query ≡ t → false ≡ starts_with eqb (map to_ascii_lowercase command) query
      by false e = sym e
      by true e =
          let f = starts_with-found query (map to_ascii_lowercase command) e in
          let many = ap (λ (cs : List ℕ). length cs) f.1 in
          let mapped = length-map command to_ascii_lowercase in
          let split = length-append query f.0 in
          absurd (omega (arith, short, many, mapped, split))

  pub folded_front : (front : List ℕ) (r : Bool) → front ≡ take (length query) command → length query ≤ length command → IsTrue r ↔ (map to_ascii_lowercase front ≡ map to_ascii_lowercase query) → r ≡ starts_with eqb (map to_ascii_lowercase command) query
  folded_front front true is long same = sym (front_is long (ap (map to_ascii_lowercase) (sym is) ∙ same.0 refl))
  folded_front front false is long same = by (starts_with eqb (map to_ascii_lowercase command) query) refl
    where
      by : (t : Bool) → starts_with eqb (map to_ascii_lowercase command) query ≡ t → false ≡ starts_with eqb (map to_ascii_lowercase command) query
      by false e = sym e
      by true e = let no : false ≡ true = same.1 (ap (map to_ascii_lowercase) is ∙ is_front e) in absurd cc
