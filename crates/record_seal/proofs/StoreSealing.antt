-- What seals and opens here, as the one value that a store asks for, with all that has to hold of it.
use Rattle.std.proofs.Common.{◌≡◌, ℕ, ◌+◌, ◌*◌, ◌≤◌, List, Some, length, codes, arith, lit≤}
use Rattle.base64.specs.GeneralPurpose.{IsBytes}
use Rattle.paseto_seal.proofs.Base64UrlLaws.{length-base64url}
use Rattle.paseto_seal.proofs.Opening.{carried_shorter, length-token_body, opens_carries}
use Rattle.paseto_seal.specs.Base64Url.{base64url}
use Rattle.paseto_seal.specs.Token.{token_body}
use Rattle.record_rules.specs.Records.{SealedRecord}
use Rattle.record_seal.proofs.Computing.{payload_found, payload_stands}
use Rattle.record_seal.proofs.Lengths.{sealed_has, wrapped_has}
use Rattle.record_seal.proofs.MemberLengths.{member_short}
use Rattle.record_seal.proofs.SealedOpens.{seal_opens}
use Rattle.record_seal.specs.Assertion.{assertion, head_of}
use Rattle.record_seal.specs.Computing.{opened_payload}
use Rattle.record_seal.specs.SealLengths.{sealed_text_length, key_text_length}
use Rattle.record_seal.specs.Seals.{seal_of}
use Rattle.step_rules.specs.Sealing.{Sealing}
use Rattle.step_rules.specs.Store.{Head, sealed_record}

pub reopens : (key : List ℕ) (head : Head) (bytes random : List ℕ) (now : ℕ) → length key ≡ 32 → IsBytes key → IsBytes bytes
    → length random ≡ 96 → IsBytes random → opened_payload key (sealed_record head now (seal_of key head bytes random)) ≡ Some bytes
reopens key head bytes random now key_long key_are are long random_are =
    payload_found key (sealed_record head now (seal_of key head bytes random)) bytes (seal_opens key head bytes random now are random_are long)

pub opened_bytes : (key : List ℕ) (r : SealedRecord) (bytes : List ℕ) → opened_payload key r ≡ Some bytes → IsBytes bytes
opened_bytes key r bytes e = (payload_stands key r bytes e).message_is.payload_bytes

-- a payload stands in its message, a message in its token
pub opened_short : (key : List ℕ) (r : SealedRecord) (bytes : List ℕ) → opened_payload key r ≡ Some bytes → length bytes ≤ length r.sealed
opened_short key r bytes e =
    let o = payload_stands key r bytes e in
    let said = o.message_is in
    let implicit = assertion (head_of r) in
    omega (
      arith,
      length-base64url bytes,
      member_short o.message (codes "data") (base64url bytes) said.value said.json.value_read said.said,
      length-token_body o.content_key o.opened.nonce o.message implicit,
      carried_shorter r.sealed (token_body o.content_key o.opened.nonce o.message implicit)
          (opens_carries o.content_key r.sealed implicit o.message o.opened),
    )

pub sealed_text_short : (n : ℕ) → sealed_text_length n ≤ 2 * n + 128
sealed_text_short n = omega arith

pub key_text_short : key_text_length ≤ 256
key_text_short = lit≤ tt

abbrev pub record_sealing : Sealing
record_sealing = record {
  seal = seal_of;
  opens = opened_payload;
  reopens = reopens;
  opened_bytes = opened_bytes;
  opened_short = opened_short;
  sealed_length = sealed_text_length;
  wrapped_length = key_text_length;
  sealed_has = sealed_has;
  wrapped_has = wrapped_has;
  sealed_short = sealed_text_short;
  wrapped_short = key_text_short;
}
