-- What stands behind a token's header, and that it has one reading.
use Rattle.std.proofs.Common.{◌≡◌, ℕ, ◌+◌, ◌≤◌, List, [], ◌∷◌, ◌++◌, length, take, drop, ◌∙◌, sym, ap, subst, arith, refl, lit≤, ◌<◌}
use Rattle.std.proofs.lemmas.List.{length-append}
use Rattle.base64.specs.GeneralPurpose.{IsBytes}
use Rattle.paseto_seal.specs.Base64Url.{base64url, Carries}
use Rattle.paseto_seal.specs.Token.{token_header, token_secrets, token_auth_key, token_cipher, token_tag, token_body, token, IsTokenForm, Opens}
use Rattle.paseto_seal.specs.Pae.{pae}
use Rattle.xchacha_core.proofs.StreamLaws.{length-xchacha20, xchacha20-bytes, xchacha20-xchacha20}
use Rattle.paseto_seal.proofs.Bytes.{append_bytes, leading_bytes, trailing_bytes}
use Rattle.paseto_seal.proofs.Base64UrlLaws.{carries_one, length-base64url}
use Rattle.paseto_seal.proofs.HashLaws.{length-blake2b, blake2b_bytes}
use Rattle.paseto_seal.proofs.Parts.{same_parts, same_parts_back}

pub length-token_tag : (key nonce cipher implicit : List ℕ) → length (token_tag key nonce cipher implicit) ≡ 32
length-token_tag key nonce cipher implicit =
    length-blake2b 32 (token_auth_key key nonce) (pae (token_header ∷ nonce ∷ cipher ∷ [] ∷ implicit ∷ [])) (lit≤ tt)

pub length-token_cipher : (key nonce message : List ℕ) → length (token_cipher key nonce message) ≡ length message
length-token_cipher key nonce message = length-xchacha20 (take 32 (token_secrets key nonce)) (drop 32 (token_secrets key nonce)) message

-- the cipher undoes itself
pub token_cipher_twice : (key nonce message : List ℕ) → token_cipher key nonce (token_cipher key nonce message) ≡ message
token_cipher_twice key nonce message = xchacha20-xchacha20 (take 32 (token_secrets key nonce)) (drop 32 (token_secrets key nonce)) message

token_cipher_bytes : (key nonce message : List ℕ) → IsBytes message → IsBytes (token_cipher key nonce message)
token_cipher_bytes key nonce message are = xchacha20-bytes (take 32 (token_secrets key nonce)) (drop 32 (token_secrets key nonce)) message are

token_tag_bytes : (key nonce cipher implicit : List ℕ) → IsBytes (token_tag key nonce cipher implicit)
token_tag_bytes key nonce cipher implicit =
    blake2b_bytes 32 (token_auth_key key nonce) (pae (token_header ∷ nonce ∷ cipher ∷ [] ∷ implicit ∷ []))

token_body_bytes : (key nonce message implicit : List ℕ) → IsBytes nonce → IsBytes message → IsBytes (token_body key nonce message implicit)
token_body_bytes key nonce message implicit nonce_are message_are =
    append_bytes nonce _ nonce_are
    (append_bytes (token_cipher key nonce message) (token_tag key nonce (token_cipher key nonce message) implicit)
    (token_cipher_bytes key nonce message message_are)
    (token_tag_bytes key nonce (token_cipher key nonce message) implicit))

pub length-token_body : (key nonce message implicit : List ℕ) → length (token_body key nonce message implicit) ≡ length nonce + length message + 32
length-token_body key nonce message implicit =
    let cipher = token_cipher key nonce message in
    let tag = token_tag key nonce cipher implicit in
    omega (arith, length-append nonce (cipher ++ tag), length-append cipher tag, length-token_cipher key nonce message, length-token_tag key nonce cipher implicit)

-- a token carries its body
pub opens_carries : (key text implicit message : List ℕ) → (o : Opens key text implicit message)
    → Carries token_header text (token_body key o.nonce message implicit)
unfolding token
opens_carries key text implicit message o = record {
  body_bytes = token_body_bytes key o.nonce message implicit o.nonce_bytes o.message_bytes;
  text_is = o.text_is;
}

-- and so it has the form of a token
pub opens_form : (key text implicit message : List ℕ) → Opens key text implicit message → IsTokenForm text
opens_form key text implicit message o = record {
  body = token_body key o.nonce message implicit;
  carried = opens_carries key text implicit message o;
  long = omega (arith, length-token_body key o.nonce message implicit, o.nonce_length);
}

-- what a text carries decides whether it has the form
pub form_of_carried : (text body : List ℕ) → Carries token_header text body → 64 ≤ length body → IsTokenForm text
form_of_carried text body carried long = record { body = body; carried = carried; long = long }

pub form_long : (text body : List ℕ) → Carries token_header text body → IsTokenForm text → 64 ≤ length body
form_long text body carried form =
    let same = carries_one token_header text form.body body form.carried carried in
    omega (arith, form.long, ap length same)

pub too_short : (text body : List ℕ) → Carries token_header text body → length body < 64 → ¬ IsTokenForm text
too_short text body carried short form =
    let same = carries_one token_header text form.body body form.carried carried in
    omega (arith, form.long, ap length same)

-- a text is longer than what it carries
pub carried_shorter : (text body : List ℕ) → Carries token_header text body → length body ≤ length text
carried_shorter text body carried =
    omega (arith, ap length carried.text_is, length-append token_header (base64url body), length-base64url body)

-- a text whose tag is that of its nonce and ciphertext opens to the ciphertext deciphered
pub tag_opens : (key text implicit body nonce cipher tag : List ℕ) → Carries token_header text body → body ≡ nonce ++ (cipher ++ tag)
    → length nonce ≡ 32 → tag ≡ token_tag key nonce cipher implicit → Opens key text implicit (token_cipher key nonce cipher)
unfolding token
tag_opens key text implicit body nonce cipher tag carried body_is long tag_is =
    let are : IsBytes (nonce ++ (cipher ++ tag)) = subst IsBytes body_is carried.body_bytes in
    let same : body ≡ token_body key nonce (token_cipher key nonce cipher) implicit =
    body_is ∙ ap (λ t. nonce ++ (cipher ++ t)) tag_is
    ∙ ap (λ c. nonce ++ (c ++ token_tag key nonce c implicit)) (sym (token_cipher_twice key nonce cipher)) in
    record {
      nonce = nonce;
      nonce_bytes = leading_bytes nonce (cipher ++ tag) are;
      nonce_length = long;
      message_bytes = token_cipher_bytes key nonce cipher (leading_bytes cipher tag (trailing_bytes nonce (cipher ++ tag) are));
      text_is = carried.text_is ∙ ap (λ b. token_header ++ base64url b) same;
    }

-- the parts of what a text carries that opens
opens_parts : (key text implicit message body nonce cipher tag : List ℕ) → (o : Opens key text implicit message) → Carries token_header text body
    → body ≡ nonce ++ (cipher ++ tag) → length nonce ≡ 32 → length tag ≡ 32
    → (nonce ≡ o.nonce) × (cipher ≡ token_cipher key o.nonce message) × (tag ≡ token_tag key o.nonce (token_cipher key o.nonce message) implicit)
opens_parts key text implicit message body nonce cipher tag o carried body_is nonce_long tag_long =
    let theirs = token_cipher key o.nonce message in
    let whole = sym body_is ∙ carries_one token_header text body _ carried (opens_carries key text implicit message o) in
    let outer = same_parts nonce (cipher ++ tag) o.nonce (theirs ++ token_tag key o.nonce theirs implicit) (nonce_long ∙ sym o.nonce_length) whole in
    let inner = same_parts_back cipher tag theirs (token_tag key o.nonce theirs implicit) (tag_long ∙ sym (length-token_tag key o.nonce theirs implicit)) outer.1 in
    (outer.0, inner.0, inner.1)

-- a text with another tag opens to nothing
pub other_tag : (key text implicit message body nonce cipher tag : List ℕ) → Carries token_header text body → body ≡ nonce ++ (cipher ++ tag)
    → length nonce ≡ 32 → length tag ≡ 32 → ¬ (token_tag key nonce cipher implicit ≡ tag) → ¬ Opens key text implicit message
other_tag key text implicit message body nonce cipher tag carried body_is nonce_long tag_long differs o =
    let parts = opens_parts key text implicit message body nonce cipher tag o carried body_is nonce_long tag_long in
    differs (rw (parts.0, parts.1) (sym parts.2))

-- and one that opens opens to one message
pub opens_one : (key text implicit message body nonce cipher tag : List ℕ) → Carries token_header text body → body ≡ nonce ++ (cipher ++ tag)
    → length nonce ≡ 32 → length tag ≡ 32 → Opens key text implicit message → token_cipher key nonce cipher ≡ message
opens_one key text implicit message body nonce cipher tag carried body_is nonce_long tag_long o =
    let parts = opens_parts key text implicit message body nonce cipher tag o carried body_is nonce_long tag_long in
    rw (parts.0, parts.1) (token_cipher_twice key o.nonce message)

-- a text opens to one message
pub opens_same : (key text implicit message other : List ℕ) → Opens key text implicit message → Opens key text implicit other → message ≡ other
opens_same key text implicit message other o p =
    let cipher = token_cipher key o.nonce message in
    sym (token_cipher_twice key o.nonce message)
    ∙ opens_one key text implicit other (token_body key o.nonce message implicit) o.nonce cipher (token_tag key o.nonce cipher implicit)
    (opens_carries key text implicit message o) refl o.nonce_length (length-token_tag key o.nonce cipher implicit) p
