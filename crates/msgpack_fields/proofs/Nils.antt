-- Numbers that aren't negative, and items that may be nil, are read as they are spelled.
use Rattle.std.proofs.Common.{◌≡◌, ℕ, ℤ, pos, negsuc, Bool, true, false, eqb, List, [], ◌∷◌, ◌++◌, Option, Some, None, IfSome, Bor, refl, sym, ap, subst, ◌∙◌}
use Rattle.std.specs.Option.{option_map}
use Rattle.std.proofs.lemmas.Bool.{eqb-true}
use Rattle.std.proofs.lemmas.Option.{same_Some}
use Rattle.definitions.specs.Spelling.{SpellsText, TextFits}
use Rattle.definitions.specs.Reading.{integer_at, text_head_at, text_at}
use Rattle.definitions.proofs.Bytes.{IsBytes, IsBytes-tail, Takes, bind_some, ReadsSpellings}
use Rattle.definitions.proofs.Spelling.{integers_read, texts_read, spelled_text_short}
use Rattle.msgpack_fields.specs.Reading.{SpellsNilOr, SpellsNumber, not_negative, number_at, or_value, nil_or_at}

-- ---- numbers that aren't negative

not_negative-is : (z : ℤ) (left : List ℕ) (n : ℕ) (rest : List ℕ) → not_negative (z, left) ≡ Some (n, rest) → ◌≡◌ {A = ℤ × List ℕ} (z, left) (pos n, rest)
not_negative-is (pos m) left n rest e = ap (λ (x : ℕ × List ℕ). (pos x.0, x.1)) (same_Some (m, left) (n, rest) e)
not_negative-is (negsuc m) left n rest e = absurd cc

number_takes : (bytes : List ℕ) (n : ℕ) (rest : List ℕ) → IsBytes bytes → number_at bytes ≡ Some (n, rest) → (spelled : List ℕ) × SpellsNumber n spelled × Takes bytes spelled rest
unfolding number_at
number_takes bytes n rest are e =
    let read = bind_some (integer_at bytes) not_negative (n, rest) e in
    let is : ◌≡◌ {A = ℤ × List ℕ} read.0 (pos n, rest) = not_negative-is read.0.0 read.0.1 n rest read.2 in
    integers_read.takes bytes (pos n) rest are (read.1 ∙ ap (λ (x : ℤ × List ℕ). Some x) is)

number_again : (n : ℕ) (spelled rest : List ℕ) → SpellsNumber n spelled → number_at (spelled ++ rest) ≡ Some (n, rest)
unfolding number_at
number_again n spelled rest s = rw (integers_read.again (pos n) spelled rest s) refl

pub numbers_read : ReadsSpellings {A = ℕ} number_at SpellsNumber
numbers_read = record { takes = number_takes; again = number_again }

-- ---- nil, or something that doesn't begin as nil does

by_test : {P : Type 0} (t : Bool) → (t ≡ true → P) → (t ≡ false → P) → P
by_test true f g = f refl
by_test false f g = g refl

module _ (A : Type 0) (read : List ℕ → Option (A × List ℕ)) (Spells : A → List ℕ → Type 0) (reads : ReadsSpellings read Spells) (empty : read [] ≡ None) (nil : (rest : List ℕ) → read (0xc0 ∷ rest) ≡ None) where
  or_value-is : (o : Option (A × List ℕ)) (v : Option A) (rest : List ℕ) → or_value o ≡ Some (v, rest) → (x : A) × (v ≡ Some x) × (o ≡ Some (x, rest))
  or_value-is None v rest e = absurd cc
  or_value-is (Some x) v rest e =
      let both = same_Some {A = Option A × List ℕ} (Some x.0, x.1) (v, rest) e in
      let value : Some x.0 ≡ v = ap (λ (p : Option A × List ℕ). p.0) both in
      let left : x.1 ≡ rest = ap (λ (p : Option A × List ℕ). p.1) both in
      (x.0, sym value, ap (λ (r : List ℕ). Some (x.0, r)) left)

  nil_taken : (b : ℕ) (bytes : List ℕ) (v : Option A) (rest : List ℕ) → IsBytes (b ∷ bytes) → eqb b 0xc0 ≡ true → ◌≡◌ {A = Option (Option A × List ℕ)} (Some (None, bytes)) (Some (v, rest)) → (spelled : List ℕ) × SpellsNilOr Spells v spelled × Takes (b ∷ bytes) spelled rest
  nil_taken b bytes v rest are is e =
      let both = same_Some {A = Option A × List ℕ} (None, bytes) (v, rest) e in
      let value : None ≡ v = ap (λ (p : Option A × List ℕ). p.0) both in
      let left : bytes ≡ rest = ap (λ (p : Option A × List ℕ). p.1) both in
      let first : b ∷ bytes ≡ 0xc0 ∷ rest = ap (λ (n : ℕ). n ∷ bytes) (eqb-true b 0xc0 is) ∙ ap (λ (r : List ℕ). 0xc0 ∷ r) left in
      let spelled : SpellsNilOr Spells v (0xc0 ∷ []) = subst (λ (o : Option A). SpellsNilOr Spells o (0xc0 ∷ [])) value refl in
      (0xc0 ∷ [], spelled, record { parts = first; rest_is_bytes = subst IsBytes left (IsBytes-tail b bytes are) })

  nil_or_takes : (bytes : List ℕ) (v : Option A) (rest : List ℕ) → IsBytes bytes → nil_or_at read bytes ≡ Some (v, rest) → (spelled : List ℕ) × SpellsNilOr Spells v spelled × Takes bytes spelled rest
  unfolding nil_or_at
  nil_or_takes [] v rest are e = absurd cc
  nil_or_takes (b ∷ bytes) v rest are e =
      by_test (eqb b 0xc0) (λ t. nil_taken b bytes v rest are t (rw t at e)) (λ f.
      let found = or_value-is (read (b ∷ bytes)) v rest (rw f at e) in
      let t = reads.takes (b ∷ bytes) found.0 rest are found.2 in
      (t.0, subst (λ (o : Option A). SpellsNilOr Spells o t.0) (sym found.1) t.1, t.2))

  value_found : (bytes : List ℕ) (x : A) (rest : List ℕ) → read bytes ≡ Some (x, rest) → nil_or_at read bytes ≡ Some (Some x, rest)
  unfolding nil_or_at
  value_found [] x rest e = absurd (let never : None ≡ Some (x, rest) = sym empty ∙ e in cc)
  value_found (b ∷ bytes) x rest e =
      by_test (eqb b 0xc0) (λ t.
      let none : read (b ∷ bytes) ≡ None = ap (λ (n : ℕ). read (n ∷ bytes)) (eqb-true b 0xc0 t) ∙ nil bytes in
      absurd (let never : None ≡ Some (x, rest) = sym none ∙ e in cc)) (λ f. rw (f, e) refl)

  nil_or_again : (v : Option A) (spelled rest : List ℕ) → SpellsNilOr Spells v spelled → nil_or_at read (spelled ++ rest) ≡ Some (v, rest)
  unfolding nil_or_at
  nil_or_again None spelled rest s = ap (λ (l : List ℕ). nil_or_at read (l ++ rest)) s
  nil_or_again (Some x) spelled rest s = value_found (spelled ++ rest) x rest (reads.again x spelled rest s)

  nil_ors_read : ReadsSpellings {A = Option A} (nil_or_at read) (SpellsNilOr Spells)
  nil_ors_read = record { takes = nil_or_takes; again = nil_or_again }

no_number : number_at [] ≡ None
unfolding number_at integer_at
no_number = refl

no_number_at_nil : (rest : List ℕ) → number_at (0xc0 ∷ rest) ≡ None
unfolding number_at integer_at
no_number_at_nil rest = refl

no_text : text_at [] ≡ None
unfolding text_at text_head_at
no_text = refl

no_text_at_nil : (rest : List ℕ) → text_at (0xc0 ∷ rest) ≡ None
unfolding text_at text_head_at
no_text_at_nil rest = refl

pub nil_or_numbers_read : ReadsSpellings {A = Option ℕ} (nil_or_at number_at) (SpellsNilOr SpellsNumber)
nil_or_numbers_read = nil_ors_read ℕ number_at SpellsNumber numbers_read no_number no_number_at_nil

pub nil_or_texts_read : ReadsSpellings {A = Option (List ℕ)} (nil_or_at text_at) (SpellsNilOr SpellsText)
nil_or_texts_read = nil_ors_read (List ℕ) text_at SpellsText texts_read no_text no_text_at_nil

pub text_fits : (o : Option (Bor (List ℕ))) (front : List ℕ) → SpellsNilOr SpellsText (option_map (λ t. t.now) o) front → IfSome o (λ t. TextFits t.now)
text_fits None front s = tt
text_fits (Some t) front s = record { utf8 = s.utf8; short = spelled_text_short t.now front s }
