-- Ciphertexts and tags by the steps that compute them: each piece behind the other, an empty list at the end.
use Rattle.std.proofs.Common.{◌≡◌, ℕ, List, [], ◌∷◌, ◌++◌, length, take, drop, codes, ◌∙◌, sym, ap, ap₂, refl, rules}
use Rattle.std.specs.Str.{IsUtf8}
use Rattle.std.proofs.lemmas.List.{append-nil, append_assoc, take_at, drop_at, take-append-drop}
use Rattle.std.proofs.lemmas.Str.{IsUtf8-from_ascii, IsAscii-append}
use Rattle.base64.specs.Engines.{url_safe_no_pad}
use Rattle.base64.proofs.EngineFacts.{IsAscii-encode_of}
use Rattle.blake2b_core.specs.Hash.{blake2b}
use Rattle.xchacha_core.specs.Stream.{xchacha20}
use Rattle.paseto_seal.specs.Base64Url.{base64url}
use Rattle.paseto_seal.specs.KeyId.{key_id_header, key_id_of, local_key_text}
use Rattle.paseto_seal.specs.Token.{token_cipher, token_tag, token_body}
use Rattle.paseto_seal.specs.Wrap.{wrap_header, wrap_tag}

pub token_cipher_steps : (key nonce text secrets out : List ℕ)
    → secrets ≡ blake2b 56 key (codes "paseto-encryption-key" ++ (nonce ++ []))
    → out ≡ xchacha20 (take 32 secrets) (drop 32 secrets) text → out ≡ token_cipher key nonce text
token_cipher_steps key nonce text secrets out secrets_are is = is ∙ rw (secrets_are, append-nil nonce) refl

-- nonce and message in one buffer, the message enciphered there, the tag behind it
pub token_body_steps : (key nonce message implicit copied enciphered tag out : List ℕ) → length nonce ≡ 32 → copied ≡ nonce ++ message
    → take 32 enciphered ≡ take 32 copied → drop 32 enciphered ≡ token_cipher key nonce (drop 32 copied)
    → tag ≡ token_tag key nonce (drop 32 enciphered) implicit → out ≡ enciphered ++ tag → out ≡ token_body key nonce message implicit
token_body_steps key nonce message implicit copied enciphered tag out long copied_is front cipher tag_is is =
    let front_is : take 32 enciphered ≡ nonce = front ∙ ap (take 32) copied_is ∙ take_at nonce message 32 long in
    let cipher_is : drop 32 enciphered ≡ token_cipher key nonce message =
    cipher ∙ ap (token_cipher key nonce) (ap (drop 32) copied_is ∙ drop_at nonce message 32 long) in
    let whole : enciphered ≡ nonce ++ token_cipher key nonce message =
    sym (take-append-drop 32 enciphered) ∙ ap₂ (λ (xs ys : List ℕ). xs ++ ys) front_is cipher_is in
    is ∙ ap₂ (λ (xs ys : List ℕ). xs ++ ys) whole (tag_is ∙ ap (λ c. token_tag key nonce c implicit) cipher_is)
    ∙ append_assoc nonce (token_cipher key nonce message) (token_tag key nonce (token_cipher key nonce message) implicit)

pub wrap_tag_steps : (by nonce cipher auth_key header tag : List ℕ)
    → auth_key ≡ blake2b 32 by (129 ∷ (nonce ++ [])) → header ≡ wrap_header
    → tag ≡ blake2b 32 auth_key (header ++ (nonce ++ (cipher ++ []))) → tag ≡ wrap_tag by nonce cipher
wrap_tag_steps by nonce cipher auth_key header tag auth_key_is header_is is =
    is ∙ rw (auth_key_is, header_is, append-nil nonce, append-nil cipher) refl

pub key_id_steps : (key coded hash : List ℕ) → coded ≡ base64url key
    → hash ≡ blake2b 33 [] (codes "k4.lid." ++ (codes "k4.local." ++ (coded ++ []))) → key_id_header ++ base64url hash ≡ key_id_of key
unfolding key_id_of
key_id_steps key coded hash coded_is is =
    ap (λ h. key_id_header ++ base64url h) (is ∙ rw (coded_is, append-nil (base64url key)) refl)

-- an id is a text
pub key_id_utf8 : (key : List ℕ) → IsUtf8 (key_id_of key)
unfolding key_id_of base64url
key_id_utf8 key =
    let coded = IsAscii-encode_of url_safe_no_pad (blake2b 33 [] (key_id_header ++ local_key_text key)) in
    IsUtf8-from_ascii (key_id_of key) (IsAscii-append key_id_header (base64url (blake2b 33 [] (key_id_header ++ local_key_text key))) (search rules) coded)
