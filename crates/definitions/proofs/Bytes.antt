-- Lists of bytes, what a reader takes from their front, and what follows for every kind of item from two laws.
use Rattle.std.proofs.Common.{◌≡◌, ℕ, suc, ◌+◌, ◌-◌, Bool, true, false, cond, List, ◌∷◌, ◌++◌, length, take, drop, Option, Some, None, refl, sym, ap, ◌∙◌, append_assoc, arith, inl, inr}
use Rattle.std.proofs.lemmas.Bool.{cases_lt}
use Rattle.std.proofs.lemmas.List.{length-take, get_or-drop, get_or-take, get_or_past, get_or_append_left, get_or-append-add, get_or-append_right, append_cancel_right}
use Rattle.std.proofs.lemmas.Option.{some_pair_parts}
use Rattle.definitions.specs.Calls.{NoPrefix}
use Rattle.definitions.specs.Reading.{◌>>=◌}
pub use Rattle.definitions.specs.Spelling.{IsBytes}

pub IsBytes-drop : (n : ℕ) (bytes : List ℕ) → IsBytes bytes → IsBytes (drop n bytes)
IsBytes-drop n bytes h i = rw get_or-drop (h (n + i))

pub IsBytes-take : (n : ℕ) (bytes : List ℕ) → IsBytes bytes → IsBytes (take n bytes)
IsBytes-take n bytes h i =
    elim (cases_lt i n) [
      | inl lt ↦ rw (get_or-take n bytes i 0 lt) (h i)
      | inr le ↦ rw (get_or_past (take n bytes) i 0 (omega (arith, length-take n bytes))) (omega arith)
    ]

pub IsBytes-append : (front rest : List ℕ) → IsBytes front → IsBytes rest → IsBytes (front ++ rest)
IsBytes-append front rest f r i =
    elim (cases_lt i (length front)) [
      | inl lt ↦ rw (get_or_append_left front rest 0 i lt) (f i)
      | inr le ↦ rw (get_or-append_right front rest (length front) i 0 refl le) (r (i - length front))
    ]

pub IsBytes-first : (front rest : List ℕ) → IsBytes (front ++ rest) → IsBytes front
IsBytes-first front rest h i =
    elim (cases_lt i (length front)) [
      | inl lt ↦ rw (← get_or_append_left front rest 0 i lt) (h i)
      | inr le ↦ rw (get_or_past front i 0 le) (omega arith)
    ]

pub IsBytes-rest : (front rest : List ℕ) → IsBytes (front ++ rest) → IsBytes rest
IsBytes-rest front rest h i = rw (← get_or-append-add front rest i 0) (h (length front + i))

pub IsBytes-tail : (b : ℕ) (bytes : List ℕ) → IsBytes (b ∷ bytes) → IsBytes bytes
IsBytes-tail b bytes h i = h (suc i)

-- what a reader takes from the front of bytes
pub record Takes (bytes spelled rest : List ℕ) : Type 0 where
  pub parts : bytes ≡ spelled ++ rest
  pub rest_is_bytes : IsBytes rest

pub Takes-then : (a x b y c : List ℕ) → Takes a x b → Takes b y c → Takes a (x ++ y) c
Takes-then a x b y c p q =
    record { parts = p.parts ∙ ap (λ (t : List ℕ). x ++ t) q.parts ∙ sym (append_assoc x y c); rest_is_bytes = q.rest_is_bytes }

-- a first byte, and what is taken behind it
pub Takes-behind : (first : ℕ) (bytes spelled rest : List ℕ) → Takes bytes spelled rest → Takes (first ∷ bytes) (first ∷ spelled) rest
Takes-behind first bytes spelled rest t = record { parts = ap (λ (x : List ℕ). first ∷ x) t.parts; rest_is_bytes = t.rest_is_bytes }

-- ---- steps of reading

-- the value of a step that found its item
pub bind_some : {A B : Type 0} (r : Option A) (f : A → Option B) (y : B) → (r >>= f) ≡ Some y → (x : A) × (r ≡ Some x) × (f x ≡ Some y)
bind_some (Some x) f y e = (x, refl, e)
bind_some None f y e = absurd cc

-- a test that lets an item through
pub when_false : {A : Type 0} (b : Bool) (x : A) (r : Option A) → cond b None r ≡ Some x → (b ≡ false) × (r ≡ Some x)
when_false true x r e = absurd cc
when_false false x r e = (refl, e)

pub when_true : {A : Type 0} (b : Bool) (x : A) (r : Option A) → cond b r None ≡ Some x → (b ≡ true) × (r ≡ Some x)
when_true true x r e = (refl, e)
when_true false x r e = absurd cc

-- ---- a kind of item

-- read takes exactly what is spelled
pub record ReadsSpellings {A : Type 0} (read : List ℕ → Option (A × List ℕ)) (Spells : A → List ℕ → Type 0) : Type 0 where
  pub takes : (bytes : List ℕ) (v : A) (rest : List ℕ) → IsBytes bytes → read bytes ≡ Some (v, rest) → (spelled : List ℕ) × Spells v spelled × Takes bytes spelled rest
  pub again : (v : A) (spelled rest : List ℕ) → Spells v spelled → read (spelled ++ rest) ≡ Some (v, rest)

module _ (A : Type 0) (read : List ℕ → Option (A × List ℕ)) (Spells : A → List ℕ → Type 0) (reads : ReadsSpellings read Spells) where
  -- no spelling begins another, nor spells another value
  pub spellings_apart : (a b x y : List ℕ) (v w : A) → Spells v a → Spells w b → a ++ x ≡ b ++ y → (a ≡ b) × (v ≡ w)
  spellings_apart a b x y v w s t e =
      let one = reads.again v a x s in
      let two = reads.again w b y t in
      let same : ◌≡◌ {A = Option (A × List ℕ)} (Some (v, x)) (Some (w, y)) = sym one ∙ ap read e ∙ two in
      let parts = some_pair_parts v w x y same in
      (append_cancel_right a b x (e ∙ ap (λ (r : List ℕ). b ++ r) (sym parts.1)), parts.0)

  -- where none is read, none stands
  pub none_stands : (bytes : List ℕ) → read bytes ≡ None → NoPrefix (λ (item : List ℕ). (v : A) × Spells v item) bytes
  none_stands bytes e front rest parts s =
      let found = reads.again s.0 front rest s.1 in
      let there = ap read parts in
      cc

  -- where none stands, none is read
  pub none_read : (bytes : List ℕ) → IsBytes bytes → NoPrefix (λ (item : List ℕ). (v : A) × Spells v item) bytes → read bytes ≡ None
  none_read bytes are absent =
      let cases : (r : Option (A × List ℕ)) → read bytes ≡ r → r ≡ None = λ r. elim r as (λ o. read bytes ≡ o → o ≡ None) [
        | None ↦ λ e. refl
        | Some x ↦ λ e. let t = reads.takes bytes x.0 x.1 are e in absurd (absent t.0 x.1 t.2.parts (x.0, t.1))
      ] in
      cases (read bytes) refl
