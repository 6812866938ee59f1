-- How long the texts of a seal are.
use Rattle.std.proofs.Common.{◌≡◌, ℕ, ◌+◌, ◌*◌, ◌/◌, ◌≤◌, List, [], ◌++◌, length, take, drop, codes, arith, lit≤}
use Rattle.std.proofs.lemmas.List.{length-append, length-take, length-drop}
use Rattle.blake2b_core.specs.Hash.{blake2b}
use Rattle.paseto_seal.proofs.Base64UrlLaws.{length-base64url}
use Rattle.paseto_seal.proofs.HashLaws.{length-blake2b}
use Rattle.paseto_seal.proofs.Opening.{length-token_body}
use Rattle.paseto_seal.proofs.Unwrapping.{length-wrap_body}
use Rattle.paseto_seal.specs.Base64Url.{base64url}
use Rattle.paseto_seal.specs.KeyId.{key_id_header, key_id_of, local_key_text}
use Rattle.paseto_seal.specs.Token.{token, token_body, token_header}
use Rattle.paseto_seal.specs.Wrap.{wrap, wrap_body, wrap_header}
use Rattle.record_rules.specs.Records.{record_weight}
use Rattle.record_seal.specs.Assertion.{assertion}
use Rattle.record_seal.specs.SealLengths.{sealed_text_length, key_text_length}
use Rattle.record_seal.specs.Seals.{message_text, key_text, seal_of}
use Rattle.step_rules.specs.Store.{Head, sealed_record}

length-token : (key nonce message implicit : List ℕ) → length nonce ≡ 32
    → length (token key nonce message implicit) ≡ 9 + (4 * (64 + length message) + 2) / 3
unfolding token
length-token key nonce message implicit long =
    let body = token_body key nonce message implicit in
    omega (arith, length-append token_header (base64url body), length-base64url body, length-token_body key nonce message implicit)

pub length-wrap : (by nonce key : List ℕ) → length nonce ≡ 32 → length key ≡ 32 → length (wrap by nonce key) ≡ 146
unfolding wrap
length-wrap by nonce key nonce_long key_long =
    let body = wrap_body by nonce key in
    omega (arith, length-append wrap_header (base64url body), length-base64url body, length-wrap_body by nonce key)

pub length-key_id_of : (key : List ℕ) → length (key_id_of key) ≡ 51
unfolding key_id_of
length-key_id_of key =
    let hash = blake2b 33 [] (key_id_header ++ local_key_text key) in
    omega (arith, length-append key_id_header (base64url hash), length-base64url hash, length-blake2b 33 [] (key_id_header ++ local_key_text key) (lit≤ tt))

pub length-message_text : (payload : List ℕ) → length (message_text payload) ≡ (4 * length payload + 2) / 3 + 11
length-message_text payload =
    omega (arith, length-append (base64url payload) (codes "\"}"), length-base64url payload)

pub length-key_text : (wrapped id : List ℕ) → length (key_text wrapped id) ≡ length wrapped + length id + 19
length-key_text wrapped id =
    omega (arith, length-append wrapped (codes "\",\"kid\":\"" ++ (id ++ codes "\"}")), length-append id (codes "\"}"))

piece : (at : ℕ) (random : List ℕ) → length random ≡ 96 → at + 32 ≤ 96 → length (take 32 (drop at random)) ≡ 32
piece at random long fits = omega (arith, length-take 32 (drop at random), length-drop at random)

-- the two texts of a seal
pub sealed_has : (key : List ℕ) (head : Head) (payload random : List ℕ) → length random ≡ 96
    → length (seal_of key head payload random).sealed ≡ sealed_text_length (length payload)
sealed_has key head payload random long =
    omega (
      arith,
      length-token (take 32 random) (take 32 (drop 32 random)) (message_text payload) (assertion head) (piece 32 random long (lit≤ tt)),
      length-message_text payload,
    )

pub wrapped_has : (key : List ℕ) (head : Head) (payload random : List ℕ) → length random ≡ 96
    → length (seal_of key head payload random).wrapped ≡ key_text_length
wrapped_has key head payload random long =
    let content_key = take 32 random in
    let nonce = take 32 (drop 64 random) in
    let content_long : length content_key ≡ 32 = omega (arith, length-take 32 random) in
    omega (
      arith,
      length-key_text (wrap key nonce content_key) (key_id_of key),
      length-wrap key nonce content_key (piece 64 random long (lit≤ tt)) content_long,
      length-key_id_of key,
    )

-- what a record weighs, by the lengths of its version, its tag and its payload
pub weight_is : (key : List ℕ) (head : Head) (payload random : List ℕ) (now : ℕ) → length random ≡ 96
    → record_weight (sealed_record head now (seal_of key head payload random))
    ≡ 128 + length head.version + length head.tag + sealed_text_length (length payload) + key_text_length
weight_is key head payload random now long =
    omega (arith, sealed_has key head payload random long, wrapped_has key head payload random long)
