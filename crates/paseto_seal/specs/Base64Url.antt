-- Bytes in base64url without padding (RFC 4648, sections 3.2, 3.5 and 5). The bits past the last whole byte are
-- zeros, so that no two texts stand for the same bytes.
use Rattle.std.specs.Prelude.{◌≡◌, ℕ, List, ◌++◌}
use Rattle.base64.specs.GeneralPurpose.{IsBytes, encode_of}
use Rattle.base64.specs.Engines.{url_safe_no_pad}

-- the text of the bytes
unfoldable pub base64url : List ℕ → List ℕ
base64url bytes = encode_of url_safe_no_pad bytes

-- the text is the header, and behind it these bytes
pub record Carries (header text body : List ℕ) : Type 0 where
  pub body_bytes : IsBytes body
  pub text_is : text ≡ header ++ base64url body
