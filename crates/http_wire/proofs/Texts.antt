-- Whether bytes are a text.
use Rattle.std.proofs.Common.{◌≡◌, ℕ, List, Result, Ok, Err, is_ok, MatchResult, sym, inl, inr}
use Rattle.std.specs.Str.{IsUtf8, is_utf8}
use Rattle.std.proofs.lemmas.Bool.{cases_Bool}
use Rattle.std.proofs.lemmas.Str.{is_utf8-from_IsUtf8, IsUtf8-from_is_utf8}

-- whether a decoder succeeds tells whether the bytes are UTF-8
pub succeeds_at_utf8 : {X E : Type 0} (r : Result X E) (bytes : List ℕ) (P : X → Type 0) (Q : E → Type 0) → MatchResult r (λ x. P x × IsUtf8 bytes) (λ e. (IsUtf8 bytes → ⊥) × Q e) → is_ok r ≡ is_utf8 bytes
succeeds_at_utf8 (Ok x) bytes P Q h = sym (is_utf8-from_IsUtf8 bytes h.1)
succeeds_at_utf8 (Err e) bytes P Q h =
    elim (cases_Bool (is_utf8 bytes)) [
      | inl valid ↦ absurd (h.0 (IsUtf8-from_is_utf8 bytes valid))
      | inr invalid ↦ sym invalid
    ]
