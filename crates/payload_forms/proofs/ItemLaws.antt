-- Ways of reading that take exactly what is spelled, put together from others.
use Rattle.std.proofs.Common.{◌≡◌, ℕ, ℤ, ◌<◌, ◌^◌, Bool, true, eqb, List, [], ◌∷◌, ◌++◌, length, Option, Some, None, refl, sym, ap, subst, ◌∙◌, append_assoc, append-nil, arith}
use Rattle.std.proofs.lemmas.Bool.{eqb-true}
use Rattle.std.proofs.lemmas.Option.{same_Some}
use Rattle.definitions.specs.Ids.{id_text}
use Rattle.definitions.specs.Reading.{◌>>=◌, text_at, integer_at, array_at, is_id_text, id_value, fits_64}
use Rattle.definitions.specs.Spelling.{SpellsInteger, SpellsText, SpellsArray}
use Rattle.definitions.proofs.Bytes.{IsBytes, Takes, Takes-then, bind_some, when_true, ReadsSpellings}
use Rattle.definitions.proofs.Ids.{is_id_text-found, is_id_text-id_text, id_value-id_text}
use Rattle.definitions.proofs.Spelling.{integers_read, texts_read, arrays_read}
use Rattle.msgpack_fields.specs.Reading.{SpellsNumber, number_at}
use Rattle.msgpack_fields.proofs.Nils.{numbers_read}
use Rattle.payload_forms.specs.Reading.{both_at, passed, whole, this_number_at, this_array_at, signed_at, valued, id_at}

-- the bytes are one thing's, and then another's
abbrev pub SpellsBoth : {A B : Type 0} → (A → List ℕ → Type 0) → (B → List ℕ → Type 0) → A × B → List ℕ → Type 0
SpellsBoth P Q v bytes = (first : List ℕ) × (rest : List ℕ) × P v.0 first × Q v.1 rest × (bytes ≡ first ++ rest)

module _ (A B : Type 0) (r : List ℕ → Option (A × List ℕ)) (s : List ℕ → Option (B × List ℕ)) (P : A → List ℕ → Type 0) (Q : B → List ℕ → Type 0) (reads : ReadsSpellings r P) (then_reads : ReadsSpellings s Q) where
  both_takes : (bytes : List ℕ) (v : A × B) (rest : List ℕ) → IsBytes bytes → both_at r s bytes ≡ Some (v, rest) → (spelled : List ℕ) × SpellsBoth P Q v spelled × Takes bytes spelled rest
  both_takes bytes v rest are e =
      let one = bind_some (r bytes) (λ (x : A × List ℕ). s x.1 >>= λ (y : B × List ℕ). Some ((x.0, y.0), y.1)) (v, rest) e in
      let two = bind_some (s one.0.1) (λ (y : B × List ℕ). Some ((one.0.0, y.0), y.1)) (v, rest) one.2 in
      let t = reads.takes bytes one.0.0 one.0.1 are one.1 in
      let u = then_reads.takes one.0.1 two.0.0 two.0.1 t.2.rest_is_bytes two.1 in
      let same = same_Some {A = (A × B) × List ℕ} ((one.0.0, two.0.0), two.0.1) (v, rest) two.2 in
      subst (λ (x : (A × B) × List ℕ). (spelled : List ℕ) × SpellsBoth P Q x.0 spelled × Takes bytes spelled x.1) same
      (t.0 ++ u.0, (t.0, u.0, t.1, u.1, refl), Takes-then bytes t.0 one.0.1 u.0 two.0.1 t.2 u.2)

  both_again : (v : A × B) (spelled rest : List ℕ) → SpellsBoth P Q v spelled → both_at r s (spelled ++ rest) ≡ Some (v, rest)
  both_again v spelled rest h =
      let regrouped : spelled ++ rest ≡ h.0 ++ (h.1 ++ rest) = ap (λ (l : List ℕ). l ++ rest) h.4 ∙ append_assoc h.0 h.1 rest in
      ap (both_at r s) regrouped ∙ rw (reads.again v.0 h.0 (h.1 ++ rest) h.2, then_reads.again v.1 h.1 rest h.3) refl

  pub both_read : ReadsSpellings (both_at r s) (SpellsBoth P Q)
  both_read = record { takes = both_takes; again = both_again }

passed-is : {A : Type 0} (passes : A → Bool) (o : Option (A × List ℕ)) (v : A) (rest : List ℕ) → passed passes o ≡ Some (v, rest) → (o ≡ Some (v, rest)) × (passes v ≡ true)
passed-is passes None v rest e = absurd cc
passed-is {A} passes (Some x) v rest e =
    let w = when_true {A = A × List ℕ} (passes x.0) (v, rest) (Some x) e in
    let same = same_Some {A = A × List ℕ} x (v, rest) w.1 in
    (w.1, ap (λ (p : A × List ℕ). passes p.0) (sym same) ∙ w.0)

-- what passes a test
pub passed_read : {A : Type 0} (r : List ℕ → Option (A × List ℕ)) (P : A → List ℕ → Type 0) (passes : A → Bool) → ReadsSpellings r P → ReadsSpellings (λ bytes. passed passes (r bytes)) (λ v item. (passes v ≡ true) × P v item)
passed_read r P passes reads = record {
  takes = λ bytes v rest are e. let found = passed-is passes (r bytes) v rest e in let t = reads.takes bytes v rest are found.0 in (t.0, (found.1, t.1), t.2);
  again = λ v spelled rest s. rw (reads.again v spelled rest s.1, s.0) refl;
}

pub this_number_read : (k : ℕ) → ReadsSpellings (this_number_at k) (λ n item. (eqb n k ≡ true) × SpellsNumber n item)
unfolding this_number_at
this_number_read k = passed_read number_at SpellsNumber (λ n. eqb n k) numbers_read

pub this_array_read : (k : ℕ) → ReadsSpellings (this_array_at k) (λ n item. (eqb n k ≡ true) × SpellsArray n item)
unfolding this_array_at
this_array_read k = passed_read array_at SpellsArray (λ n. eqb n k) arrays_read

abbrev pub SpellsSigned : ℤ → List ℕ → Type 0
SpellsSigned z item = (fits_64 z ≡ true) × SpellsInteger z item

pub signed_read : ReadsSpellings signed_at SpellsSigned
unfolding signed_at
signed_read = passed_read integer_at SpellsInteger fits_64 integers_read

-- ---- ids

abbrev pub SpellsId : ℕ → List ℕ → Type 0
SpellsId id item = (id < 2 ^ 128) × SpellsText (id_text id) item

valued-is : (o : Option (List ℕ × List ℕ)) (id : ℕ) (rest : List ℕ) → valued o ≡ Some (id, rest) → (text : List ℕ) × (id_value text ≡ id) × (o ≡ Some (text, rest))
valued-is None id rest e = absurd cc
valued-is (Some x) id rest e =
    let same = same_Some {A = ℕ × List ℕ} (id_value x.0, x.1) (id, rest) e in
    let left : x.1 ≡ rest = ap (λ (p : ℕ × List ℕ). p.1) same in
    (x.0, ap (λ (p : ℕ × List ℕ). p.0) same, ap (λ (l : List ℕ). Some (x.0, l)) left)

id_takes : (bytes : List ℕ) (id : ℕ) (rest : List ℕ) → IsBytes bytes → id_at bytes ≡ Some (id, rest) → (spelled : List ℕ) × SpellsId id spelled × Takes bytes spelled rest
unfolding id_at
id_takes bytes id rest are e =
    let found = valued-is (passed is_id_text (text_at bytes)) id rest e in
    let read = passed-is is_id_text (text_at bytes) found.0 rest found.2 in
    let t = texts_read.takes bytes found.0 rest are read.0 in
    let prints = is_id_text-found found.0 read.1 in
    let spelled : SpellsText (id_text (id_value found.0)) t.0 = subst (λ (text : List ℕ). SpellsText text t.0) prints.1 t.1 in
    (t.0, subst (λ (n : ℕ). SpellsId n t.0) found.1 (prints.0, spelled), t.2)

id_again : (id : ℕ) (spelled rest : List ℕ) → SpellsId id spelled → id_at (spelled ++ rest) ≡ Some (id, rest)
unfolding id_at
id_again id spelled rest s =
    let text : text_at (spelled ++ rest) ≡ Some (id_text id, rest) = texts_read.again (id_text id) spelled rest s.1 in
    rw (text, is_id_text-id_text id, id_value-id_text id s.0) refl

pub id_read : ReadsSpellings id_at SpellsId
id_read = record { takes = id_takes; again = id_again }

-- ---- bytes that are read to the last one

no_more : (rest : List ℕ) → eqb (length rest) 0 ≡ true → rest ≡ []
no_more [] e = refl
no_more (b ∷ rest) e = absurd (let none : length (b ∷ rest) ≡ 0 = eqb-true (length (b ∷ rest)) 0 e in omega arith)

whole-is : {A : Type 0} (o : Option (A × List ℕ)) (v : A) → whole o ≡ Some v → o ≡ Some (v, [])
whole-is None v e = absurd cc
whole-is {A} (Some x) v e =
    let w = when_true {A = A} (eqb (length x.1) 0) v (Some x.0) e in
    let left : x.1 ≡ [] = no_more x.1 w.0 in
    ap (λ (l : List ℕ). Some (x.0, l)) left ∙ ap (λ (u : A). Some (u, [])) (same_Some x.0 v w.1)

module _ (A : Type 0) (r : List ℕ → Option (A × List ℕ)) (P : A → List ℕ → Type 0) (reads : ReadsSpellings r P) where
  pub whole_takes : (bytes : List ℕ) (v : A) → IsBytes bytes → whole (r bytes) ≡ Some v → P v bytes
  whole_takes bytes v are e =
      let t = reads.takes bytes v [] are (whole-is (r bytes) v e) in
      subst (λ (l : List ℕ). P v l) (sym (t.2.parts ∙ append-nil t.0)) t.1

  pub whole_again : (v : A) (bytes : List ℕ) → P v bytes → whole (r bytes) ≡ Some v
  whole_again v bytes s = ap (λ (l : List ℕ). whole (r l)) (sym (append-nil bytes)) ∙ rw (reads.again v bytes [] s) refl
