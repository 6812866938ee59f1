-- PASERK, type local-wrap with the prefix pie ("Platform-independent encryption"), version 4. Keys and nonces have 32
-- bytes.
use Rattle.std.specs.Prelude.{◌≡◌, ℕ, List, ◌∷◌, ◌++◌, length, take, drop, codes}
use Rattle.base64.specs.GeneralPurpose.{IsBytes}
use Rattle.blake2b_core.specs.Hash.{blake2b}
use Rattle.xchacha_core.specs.Stream.{xchacha20}
use Rattle.paseto_seal.specs.Base64Url.{base64url, Carries}

-- the header h
abbrev pub wrap_header : List ℕ
wrap_header = codes "k4.local-wrap.pie."

-- x, the 56 bytes that Ek and n2 are cut from
abbrev pub wrap_secrets : List ℕ → List ℕ → List ℕ
wrap_secrets by nonce = blake2b 56 by (128 ∷ nonce)

-- Ak, the authentication key
abbrev pub wrap_auth_key : List ℕ → List ℕ → List ℕ
wrap_auth_key by nonce = blake2b 32 by (129 ∷ nonce)

-- c, the wrapped key under Ek and n2
abbrev pub wrap_cipher : List ℕ → List ℕ → List ℕ → List ℕ
wrap_cipher by nonce key =
    let secrets = wrap_secrets by nonce in xchacha20 (take 32 secrets) (drop 32 secrets) key

-- t, what authenticates header, nonce and ciphertext
abbrev pub wrap_tag : List ℕ → List ℕ → List ℕ → List ℕ
wrap_tag by nonce cipher = blake2b 32 (wrap_auth_key by nonce) (wrap_header ++ (nonce ++ cipher))

-- the bytes behind the header
abbrev pub wrap_body : List ℕ → List ℕ → List ℕ → List ℕ
wrap_body by nonce key =
    let cipher = wrap_cipher by nonce key in wrap_tag by nonce cipher ++ (nonce ++ cipher)

-- the wrap of a key
unfoldable pub wrap : List ℕ → List ℕ → List ℕ → List ℕ
wrap by nonce key = wrap_header ++ base64url (wrap_body by nonce key)

-- the text has the form of a wrap: it carries a tag, a nonce and a key's ciphertext
pub record IsWrapForm (text : List ℕ) : Type 0 where
  pub body : List ℕ
  pub carried : Carries wrap_header text body
  pub whole : length body ≡ 96

-- the text is the wrap of this key, by the nonce that stands in it
pub record Unwraps (by text key : List ℕ) : Type 0 where
  pub nonce : List ℕ
  pub nonce_bytes : IsBytes nonce
  pub nonce_length : length nonce ≡ 32
  pub key_bytes : IsBytes key
  pub key_length : length key ≡ 32
  pub text_is : text ≡ wrap by nonce key
