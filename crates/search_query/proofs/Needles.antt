-- A needle that is found stands in the text, and one that stands in it is found.
use Rattle.std.proofs.Common.{◌≡◌, ℕ, ◌+◌, ◌≤◌, ◌<◌, List, ◌++◌, length, take, drop, Option, Some, None, Bool, true, false, refl, sym, ap, subst, ◌∙◌, arith, length-append, append_assoc}
use Rattle.std.specs.Prelude.{leb, MatchOption}
use Rattle.std.specs.Option.{is_some}
use Rattle.std.proofs.lemmas.Bool.{leb-true, leb-false}
use Rattle.std.proofs.lemmas.List.{take-append-drop, take-take, length-take-le, get_or_append_left}
use Rattle.std.proofs.Math.Seq.{drop-append_seam, take-append_seam}
use Rattle.definitions.specs.Search.{stands_in}
use Rattle.definitions.proofs.Search.{stands_in-found, stands_in-at}
use Rattle.memchr.specs.Find.{OccursAt, Nowhere, FindsNeedle}
use Rattle.memchr.proofs.lemmas.MatchLemmas.{OccursAt-split, OccursAt-from_part}

module _ (text needle : List ℕ) where
  stands : (k : ℕ) → OccursAt text needle k → stands_in needle text ≡ true
  stands k occurs =
      let split : text ≡ take k text ++ (needle ++ drop (k + length needle) text) = sym (take-append-drop k text) ∙ ap (λ (rest : List ℕ). take k text ++ rest) (OccursAt-split text needle k occurs) in
      ap (stands_in needle) split ∙ stands_in-at (take k text) needle (drop (k + length needle) text)

  occurs_behind : (before behind : List ℕ) → text ≡ before ++ (needle ++ behind) → OccursAt text needle (length before)
  occurs_behind before behind is =
      let first : length text ≡ length before + length (needle ++ behind) = ap (λ (xs : List ℕ). length xs) is ∙ length-append before (needle ++ behind) in
      let second : length (needle ++ behind) ≡ length needle + length behind = length-append needle behind in
      let part : take (length needle) (drop (length before) text) ≡ needle =
      ap (λ (xs : List ℕ). take (length needle) (drop (length before) xs)) is ∙ ap (λ (xs : List ℕ). take (length needle) xs) (drop-append_seam before (needle ++ behind)) ∙ take-append_seam needle behind in
      OccursAt-from_part text needle (length before) (omega (arith, first, second)) part

  nowhere : Nowhere (OccursAt text needle) 0 (length text + 1) → stands_in needle text ≡ false
  nowhere none = by (stands_in needle text) refl
    where
      by : (t : Bool) → stands_in needle text ≡ t → stands_in needle text ≡ false
      by true e =
          let found = stands_in-found needle text e in
          let occurs = occurs_behind found.0 found.1 found.2 in
          let fits = occurs.fits in
          absurd (none (length found.0) (omega arith) (omega (arith, fits)) occurs)
      by false e = e

  pub found_stands : (r : Option ℕ) → FindsNeedle text needle 0 r → is_some r ≡ stands_in needle text
  found_stands (Some k) finds = sym (stands k finds.1)
  found_stands None finds = sym (nowhere finds)

-- ---- a needle in a text that others stand behind

module _ (text behind needle : List ℕ) where
  within_whole : (k : ℕ) → k + length needle ≤ length text → OccursAt (text ++ behind) needle k → OccursAt text needle k
  within_whole k fits occurs = record { fits = fits; reads = λ j below. sym (get_or_append_left text behind 0 (k + j) (omega (arith, fits, below))) ∙ occurs.reads j below }

  beyond : (k : ℕ) → Nowhere (OccursAt (text ++ behind) needle) 0 k → length text < k + length needle → stands_in needle text ≡ false
  beyond k none far = by (stands_in needle text) refl
    where
      by : (t : Bool) → stands_in needle text ≡ t → stands_in needle text ≡ false
      by false e = e
      by true e =
          let found = stands_in-found needle text e in
          let is : text ++ behind ≡ found.0 ++ (needle ++ (found.1 ++ behind)) = ap (λ (xs : List ℕ). xs ++ behind) found.2 ∙ append_assoc found.0 (needle ++ found.1) behind ∙ ap (λ (xs : List ℕ). found.0 ++ xs) (append_assoc needle found.1 behind) in
          let occurs = occurs_behind (text ++ behind) needle found.0 (found.1 ++ behind) is in
          let many = ap (λ (xs : List ℕ). length xs) found.2 in
          let split = length-append found.0 (needle ++ found.1) in
          let rest = length-append needle found.1 in
          absurd (none (length found.0) (omega arith) (omega (arith, far, many, split, rest)) occurs)

  pub found_before : (r : Option ℕ) (b : Bool) → FindsNeedle (text ++ behind) needle 0 r → MatchOption r (b ≡ false) (λ k. b ≡ leb (k + length needle) (length text)) → b ≡ stands_in needle text
  found_before None b finds is =
      is ∙ sym (beyond (length (text ++ behind) + 1) finds (let all = length-append text behind in omega (arith, all)))
  found_before (Some k) b finds is = by (leb (k + length needle) (length text)) refl
    where
      by : (t : Bool) → leb (k + length needle) (length text) ≡ t → b ≡ stands_in needle text
      by true e = is ∙ e ∙ sym (stands text needle k (within_whole k (leb-true (k + length needle) (length text) e) finds.1))
      by false e = is ∙ e ∙ sym (beyond k finds.0.before (leb-false (k + length needle) (length text) e))

pub found_in_front : (bytes needle : List ℕ) (end most : ℕ) (r : Option ℕ) (b : Bool) → end ≤ most → end ≤ length bytes → FindsNeedle (take most bytes) needle 0 r → MatchOption r (b ≡ false) (λ k. b ≡ leb (k + length needle) end) → b ≡ stands_in needle (take end bytes)
found_in_front bytes needle end most r b far long finds is =
    let behind : List ℕ = drop end (take most bytes) in
    let parts : take most bytes ≡ take end bytes ++ behind = sym (take-append-drop end (take most bytes)) ∙ ap (λ (xs : List ℕ). xs ++ behind) (take-take end most bytes far) in
    let many : length (take end bytes) ≡ end = length-take-le end bytes long in
    found_before (take end bytes) behind needle r b (subst (λ (hay : List ℕ). FindsNeedle hay needle 0 r) parts finds) (subst (λ (n : ℕ). MatchOption r (b ≡ false) (λ k. b ≡ leb (k + length needle) n)) (sym many) is)
