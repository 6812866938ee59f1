-- What a function found at the front of some bytes, where it finds what reading finds.
use Rattle.std.proofs.Common.{◌≡◌, ℕ, List, Option, Some, None, Result, Ok, Err, is_ok, MatchResult, IfSome, IfNone, sym, inl, inr}
use Rattle.std.specs.Option.{option_map}
use Rattle.std.specs.Str.{IsUtf8, is_utf8}
use Rattle.std.proofs.lemmas.Bool.{cases_Bool}
use Rattle.std.proofs.lemmas.Str.{is_utf8-from_IsUtf8, IsUtf8-from_is_utf8}
use Rattle.definitions.specs.Calls.{NoPrefix}
use Rattle.definitions.specs.Spelling.{IsBytes}
use Rattle.definitions.proofs.Bytes.{ReadsSpellings, none_stands}
use Rattle.msgpack_fields.specs.Reading.{BeginsWith}

-- whether a decoder succeeds tells whether the bytes are UTF-8
pub succeeds_at_utf8 : {X E : Type 0} (r : Result X E) (bytes : List ℕ) (P : X → Type 0) (Q : E → Type 0) → MatchResult r (λ x. P x × IsUtf8 bytes) (λ e. (IsUtf8 bytes → ⊥) × Q e) → is_ok r ≡ is_utf8 bytes
succeeds_at_utf8 (Ok x) bytes P Q h = sym (is_utf8-from_IsUtf8 bytes h.1)
succeeds_at_utf8 (Err e) bytes P Q h =
    elim (cases_Bool (is_utf8 bytes)) [
      | inl valid ↦ absurd (h.0 (IsUtf8-from_is_utf8 bytes valid))
      | inr invalid ↦ sym invalid
    ]

module _ (A X : Type 0) (read : List ℕ → Option (A × List ℕ)) (Spells : A → List ℕ → Type 0) (reads : ReadsSpellings read Spells) (view : X → A × List ℕ) (bytes : List ℕ) where
  pub found_is_spelled : (r : Option X) → IsBytes bytes → option_map view r ≡ read bytes → IfSome r (λ x. BeginsWith (Spells (view x).0) bytes (view x).1)
  found_is_spelled None are same = tt
  found_is_spelled (Some x) are same = let t = reads.takes bytes (view x).0 (view x).1 are (sym same) in (t.0, t.1, t.2.parts)

  pub none_is_spelled : (r : Option X) → option_map view r ≡ read bytes → IfNone r (NoPrefix (λ (item : List ℕ). (v : A) × Spells v item) bytes)
  none_is_spelled None same = none_stands A read Spells reads bytes (sym same)
  none_is_spelled (Some x) same = tt

-- what a spelling tells of its value
pub spelled_tells : {X : Type 0} (r : Option X) (Spelled : X → List ℕ → Type 0) (bytes : List ℕ) (rest : X → List ℕ) (P : X → Type 0) → ((x : X) (front : List ℕ) → Spelled x front → P x)
    → IfSome r (λ x. BeginsWith (Spelled x) bytes (rest x)) → IfSome r P
spelled_tells None Spelled bytes rest P tells h = tt
spelled_tells (Some x) Spelled bytes rest P tells h = tells x h.0 h.1
