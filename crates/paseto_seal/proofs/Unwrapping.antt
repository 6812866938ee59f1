-- What stands behind a wrap's header, and that it has one reading.
use Rattle.std.proofs.Common.{◌≡◌, ℕ, ◌+◌, List, ◌++◌, length, take, drop, ◌∙◌, sym, ap, subst, arith, refl, lit≤, Err}
use Rattle.std.proofs.lemmas.List.{length-append}
use Rattle.base64.specs.GeneralPurpose.{IsBytes}
use Rattle.paseto_seal.specs.Base64Url.{base64url, Carries}
use Rattle.paseto_seal.specs.Wrap.{wrap_header, wrap_secrets, wrap_auth_key, wrap_cipher, wrap_tag, wrap_body, wrap, IsWrapForm, Unwraps}
use Rattle.paseto_seal.specs.Fails.{wrap_fail}
use Rattle.paseto_seal.specs.Opening.{UnwrapsKey}
use Rattle.paseto_seal.specs.declared.carried.CarryFail.{CarryFail}
use Rattle.paseto_seal.specs.declared.carried.CarryFail.TheVariants.{NotCarried, NoMemory}
use Rattle.xchacha_core.proofs.StreamLaws.{length-xchacha20, xchacha20-bytes, xchacha20-xchacha20}
use Rattle.paseto_seal.proofs.Bytes.{append_bytes, leading_bytes, trailing_bytes}
use Rattle.paseto_seal.proofs.Base64UrlLaws.{carries_one, length-base64url}
use Rattle.paseto_seal.proofs.HashLaws.{length-blake2b, blake2b_bytes}
use Rattle.paseto_seal.proofs.Parts.{same_parts}

length-wrap_tag : (by nonce cipher : List ℕ) → length (wrap_tag by nonce cipher) ≡ 32
length-wrap_tag by nonce cipher = length-blake2b 32 (wrap_auth_key by nonce) (wrap_header ++ (nonce ++ cipher)) (lit≤ tt)

length-wrap_cipher : (by nonce key : List ℕ) → length (wrap_cipher by nonce key) ≡ length key
length-wrap_cipher by nonce key = length-xchacha20 (take 32 (wrap_secrets by nonce)) (drop 32 (wrap_secrets by nonce)) key

-- the cipher undoes itself
wrap_cipher_twice : (by nonce key : List ℕ) → wrap_cipher by nonce (wrap_cipher by nonce key) ≡ key
wrap_cipher_twice by nonce key = xchacha20-xchacha20 (take 32 (wrap_secrets by nonce)) (drop 32 (wrap_secrets by nonce)) key

wrap_cipher_bytes : (by nonce key : List ℕ) → IsBytes key → IsBytes (wrap_cipher by nonce key)
wrap_cipher_bytes by nonce key are = xchacha20-bytes (take 32 (wrap_secrets by nonce)) (drop 32 (wrap_secrets by nonce)) key are

pub wrap_body_bytes : (by nonce key : List ℕ) → IsBytes nonce → IsBytes key → IsBytes (wrap_body by nonce key)
wrap_body_bytes by nonce key nonce_are key_are =
    let cipher = wrap_cipher by nonce key in
    append_bytes (wrap_tag by nonce cipher) (nonce ++ cipher)
    (blake2b_bytes 32 (wrap_auth_key by nonce) (wrap_header ++ (nonce ++ cipher)))
    (append_bytes nonce cipher nonce_are (wrap_cipher_bytes by nonce key key_are))

pub length-wrap_body : (by nonce key : List ℕ) → length (wrap_body by nonce key) ≡ 32 + length nonce + length key
length-wrap_body by nonce key =
    let cipher = wrap_cipher by nonce key in
    let tag = wrap_tag by nonce cipher in
    omega (arith, length-append tag (nonce ++ cipher), length-append nonce cipher, length-wrap_cipher by nonce key, length-wrap_tag by nonce cipher)

-- a wrap carries its body
pub unwraps_carries : (by text key : List ℕ) → (u : Unwraps by text key) → Carries wrap_header text (wrap_body by u.nonce key)
unfolding wrap
unwraps_carries by text key u = record {
  body_bytes = wrap_body_bytes by u.nonce key u.nonce_bytes u.key_bytes;
  text_is = u.text_is;
}

-- and so it has the form of a wrap
pub unwraps_form : (by text key : List ℕ) → Unwraps by text key → IsWrapForm text
unwraps_form by text key u = record {
  body = wrap_body by u.nonce key;
  carried = unwraps_carries by text key u;
  whole = omega (arith, length-wrap_body by u.nonce key, u.nonce_length, u.key_length);
}

-- what a text carries decides whether it has the form
pub form_of_carried : (text body : List ℕ) → Carries wrap_header text body → length body ≡ 96 → IsWrapForm text
form_of_carried text body carried whole = record { body = body; carried = carried; whole = whole }

-- a wrap has 146 characters, and a text of so many carries 96 bytes, if it carries any
pub form_length : (text : List ℕ) → IsWrapForm text → length text ≡ 146
form_length text form =
    omega (arith, ap length form.carried.text_is, length-append wrap_header (base64url form.body), length-base64url form.body, form.whole)

pub carried_length : (text body : List ℕ) → Carries wrap_header text body → length text ≡ 146 → length body ≡ 96
carried_length text body carried whole =
    omega (arith, ap length carried.text_is, length-append wrap_header (base64url body), length-base64url body)

pub form_whole : (text body : List ℕ) → Carries wrap_header text body → IsWrapForm text → length body ≡ 96
form_whole text body carried form = carried_length text body carried (form_length text form)

-- a text whose tag is that of its nonce and ciphertext unwraps to the ciphertext deciphered
pub tag_unwraps : (by text body tag nonce cipher : List ℕ) → Carries wrap_header text body → body ≡ tag ++ (nonce ++ cipher)
    → length nonce ≡ 32 → length cipher ≡ 32 → tag ≡ wrap_tag by nonce cipher → Unwraps by text (wrap_cipher by nonce cipher)
unfolding wrap
tag_unwraps by text body tag nonce cipher carried body_is nonce_long cipher_long tag_is =
    let are : IsBytes (tag ++ (nonce ++ cipher)) = subst IsBytes body_is carried.body_bytes in
    let inner = trailing_bytes tag (nonce ++ cipher) are in
    let same : body ≡ wrap_body by nonce (wrap_cipher by nonce cipher) =
    body_is ∙ ap (λ t. t ++ (nonce ++ cipher)) tag_is
    ∙ ap (λ c. wrap_tag by nonce c ++ (nonce ++ c)) (sym (wrap_cipher_twice by nonce cipher)) in
    record {
      nonce = nonce;
      nonce_bytes = leading_bytes nonce cipher inner;
      nonce_length = nonce_long;
      key_bytes = wrap_cipher_bytes by nonce cipher (trailing_bytes nonce cipher inner);
      key_length = length-wrap_cipher by nonce cipher ∙ cipher_long;
      text_is = carried.text_is ∙ ap (λ b. wrap_header ++ base64url b) same;
    }

-- the parts of what a text carries that unwraps
unwraps_parts : (by text key body tag nonce cipher : List ℕ) → (u : Unwraps by text key) → Carries wrap_header text body
    → body ≡ tag ++ (nonce ++ cipher) → length tag ≡ 32 → length nonce ≡ 32
    → (tag ≡ wrap_tag by u.nonce (wrap_cipher by u.nonce key)) × (nonce ≡ u.nonce) × (cipher ≡ wrap_cipher by u.nonce key)
unwraps_parts by text key body tag nonce cipher u carried body_is tag_long nonce_long =
    let theirs = wrap_cipher by u.nonce key in
    let whole = sym body_is ∙ carries_one wrap_header text body _ carried (unwraps_carries by text key u) in
    let outer = same_parts tag (nonce ++ cipher) (wrap_tag by u.nonce theirs) (u.nonce ++ theirs) (tag_long ∙ sym (length-wrap_tag by u.nonce theirs)) whole in
    let inner = same_parts nonce cipher u.nonce theirs (nonce_long ∙ sym u.nonce_length) outer.1 in
    (outer.0, inner.0, inner.1)

-- a text with another tag unwraps to nothing
pub other_tag : (by text key body tag nonce cipher : List ℕ) → Carries wrap_header text body → body ≡ tag ++ (nonce ++ cipher)
    → length tag ≡ 32 → length nonce ≡ 32 → ¬ (wrap_tag by nonce cipher ≡ tag) → ¬ Unwraps by text key
other_tag by text key body tag nonce cipher carried body_is tag_long nonce_long differs u =
    let parts = unwraps_parts by text key body tag nonce cipher u carried body_is tag_long nonce_long in
    differs (rw (parts.1, parts.2) (sym parts.0))

-- and one that unwraps unwraps to one key
pub unwraps_one : (by text key body tag nonce cipher : List ℕ) → Carries wrap_header text body → body ≡ tag ++ (nonce ++ cipher)
    → length tag ≡ 32 → length nonce ≡ 32 → Unwraps by text key → wrap_cipher by nonce cipher ≡ key
unwraps_one by text key body tag nonce cipher carried body_is tag_long nonce_long u =
    let parts = unwraps_parts by text key body tag nonce cipher u carried body_is tag_long nonce_long in
    rw (parts.1, parts.2) (wrap_cipher_twice by u.nonce key)

-- a wrap unwraps to one key
pub unwraps_same : (by text key other : List ℕ) → Unwraps by text key → Unwraps by text other → key ≡ other
unwraps_same by text key other u v =
    let cipher = wrap_cipher by u.nonce key in
    sym (wrap_cipher_twice by u.nonce key)
    ∙ unwraps_one by text other (wrap_body by u.nonce key) (wrap_tag by u.nonce cipher) u.nonce cipher
    (unwraps_carries by text key u) refl (length-wrap_tag by u.nonce cipher) u.nonce_length v

-- what a text that carries nothing is called
pub carries_nothing : (by text : List ℕ) (fail : CarryFail)
    → (fail ≡ NotCarried → (body : List ℕ) → ¬ Carries wrap_header text body) → UnwrapsKey by text (Err (wrap_fail fail))
carries_nothing by text NotCarried nothing = λ form. nothing refl form.body form.carried
carries_nothing by text NoMemory nothing = tt
