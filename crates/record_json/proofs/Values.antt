-- Bytes that are no JSON.
use Rattle.std.proofs.Common.{◌≡◌, ℕ, Bool, true, false, cond, List, None, refl}
use Rattle.std.specs.Str.{IsUtf8, is_utf8}
use Rattle.std.proofs.lemmas.Str.{IsUtf8-from_is_utf8}
use Rattle.serde_json.specs.Read.{read}
use Rattle.record_json.specs.Json.{json_of}

pub not_read : (bytes : List ℕ) → (IsUtf8 bytes → read bytes ≡ None) → json_of bytes ≡ None
not_read bytes none = by (is_utf8 bytes) (λ good. none (IsUtf8-from_is_utf8 bytes good))
  where
    by : (good : Bool) → (good ≡ true → read bytes ≡ None) → cond good (read bytes) None ≡ None
    by true none = none refl
    by false none = refl
