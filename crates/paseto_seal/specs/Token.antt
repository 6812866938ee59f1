-- PASETO version 4, purpose local ("Version 4", "Encrypt" and "Decrypt"), with an empty footer. Keys and nonces have 32
-- bytes.
use Rattle.std.specs.Prelude.{◌≡◌, ℕ, ◌≤◌, List, [], ◌∷◌, ◌++◌, length, take, drop, codes}
use Rattle.base64.specs.GeneralPurpose.{IsBytes}
use Rattle.blake2b_core.specs.Hash.{blake2b}
use Rattle.xchacha_core.specs.Stream.{xchacha20}
use Rattle.paseto_seal.specs.Base64Url.{base64url, Carries}
use Rattle.paseto_seal.specs.Pae.{pae}

-- the header h
abbrev pub token_header : List ℕ
token_header = codes "v4.local."

-- Encrypt, step 4: the 56 bytes that the encryption key and the counter nonce are cut from
abbrev pub token_secrets : List ℕ → List ℕ → List ℕ
token_secrets key nonce = blake2b 56 key (codes "paseto-encryption-key" ++ nonce)

-- Ak, the authentication key
abbrev pub token_auth_key : List ℕ → List ℕ → List ℕ
token_auth_key key nonce = blake2b 32 key (codes "paseto-auth-key-for-aead" ++ nonce)

-- step 5: the message under Ek and n2
abbrev pub token_cipher : List ℕ → List ℕ → List ℕ → List ℕ
token_cipher key nonce message =
    let secrets = token_secrets key nonce in xchacha20 (take 32 secrets) (drop 32 secrets) message

-- steps 6 and 7: what authenticates header, nonce, ciphertext, the empty footer and the implicit assertion
abbrev pub token_tag : List ℕ → List ℕ → List ℕ → List ℕ → List ℕ
token_tag key nonce cipher implicit =
    blake2b 32 (token_auth_key key nonce) (pae (token_header ∷ nonce ∷ cipher ∷ [] ∷ implicit ∷ []))

-- step 8, the bytes behind the header
abbrev pub token_body : List ℕ → List ℕ → List ℕ → List ℕ → List ℕ
token_body key nonce message implicit =
    let cipher = token_cipher key nonce message in nonce ++ (cipher ++ token_tag key nonce cipher implicit)

-- the token of a message
unfoldable pub token : List ℕ → List ℕ → List ℕ → List ℕ → List ℕ
token key nonce message implicit = token_header ++ base64url (token_body key nonce message implicit)

-- the text has the form of a token: it carries at least a nonce and a tag
pub record IsTokenForm (text : List ℕ) : Type 0 where
  pub body : List ℕ
  pub carried : Carries token_header text body
  pub long : 64 ≤ length body

-- the text is the token of this message under the key and the assertion, by the nonce that stands in it
pub record Opens (key text implicit message : List ℕ) : Type 0 where
  pub nonce : List ℕ
  pub nonce_bytes : IsBytes nonce
  pub nonce_length : length nonce ≡ 32
  pub message_bytes : IsBytes message
  pub text_is : text ≡ token key nonce message implicit
