-- What opening a record answers, by what its parts answer.
use Rattle.std.proofs.Common.{◌≡◌, ℕ, List, Some, None, Ok, Err, Result, codes, sym, subst, refl}
use Rattle.base64.specs.GeneralPurpose.{IsBytes}
use Rattle.paseto_seal.proofs.Opening.{opens_same, opens_form}
use Rattle.paseto_seal.specs.Base64Url.{base64url}
use Rattle.paseto_seal.specs.KeyId.{key_id_of}
use Rattle.paseto_seal.specs.Opening.{OpensToken, UnwrapsKey}
use Rattle.paseto_seal.specs.Token.{Opens}
use Rattle.paseto_seal.specs.Wrap.{Unwraps}
use Rattle.paseto_seal.proofs.Unwrapping.{unwraps_form}
use Rattle.paseto_seal.specs.declared.carried.CarryFail.{CarryFail}
use Rattle.paseto_seal.specs.declared.carried.CarryFail.TheVariants.{NotCarried, NoMemory as NoCarryMemory}
use Rattle.paseto_seal.specs.declared.fail.TokenFail.{TokenFail}
use Rattle.paseto_seal.specs.declared.fail.TokenFail.TheVariants.{NotToken, BadTag, NoMemory as NoTokenMemory}
use Rattle.paseto_seal.specs.declared.fail.WrapFail.{WrapFail}
use Rattle.paseto_seal.specs.declared.fail.WrapFail.TheVariants.{NotWrapped, BadTag as BadWrapTag, NoMemory as NoWrapMemory}
use Rattle.plain_types.specs.Buffer.{Buffer}
use Rattle.record_rules.specs.Records.{SealedRecord}
use Rattle.record_seal.proofs.OneReading.{member_same, member_missing, key_text_same, names_none, gives_of, opened_by}
use Rattle.record_seal.specs.Assertion.{assertion, head_of}
use Rattle.record_seal.specs.Json.{ReadsJson, text_member}
use Rattle.record_seal.specs.Seals.{IsKeyText, IsMessage}
use Rattle.record_seal.specs.Seen.{token_refused, wrap_refused, text_refused}
use Rattle.record_seal.specs.Unsealing.{GivesKey, ReadsKey, ReadsMessage, Unseals}
use Rattle.record_seal.specs.declared.fail.SealFail.{SealFail}
use Rattle.record_seal.specs.declared.fail.SealFail.TheVariants.{WrongKey, BadSeal, NoMemory}
use Rattle.serde_json.specs.Data.{Data}

-- ---- key texts

-- the text is no JSON
pub key_unread : (key text : List ℕ) → ((value : Data) → ¬ ReadsJson text value) → ReadsKey key text (Err BadSeal)
key_unread key text none = (λ id n. none n.key_text_is.value n.key_text_is.json, λ c g. none g.key_text_is.value g.key_text_is.json)

-- it lacks a member
pub no_wrapped : (key text : List ℕ) (value : Data) → ReadsJson text value → text_member (codes "wpk") value ≡ None → ReadsKey key text (Err BadSeal)
no_wrapped key text value json missing = (
  λ id n. member_missing text (codes "wpk") n.wrapped value n.key_text_is.value json n.key_text_is.json missing n.key_text_is.wpk,
  λ c g. member_missing text (codes "wpk") g.wrapped value g.key_text_is.value json g.key_text_is.json missing g.key_text_is.wpk,
)

pub no_id : (key text : List ℕ) (value : Data) → ReadsJson text value → text_member (codes "kid") value ≡ None → ReadsKey key text (Err BadSeal)
no_id key text value json missing = (
  λ id n. member_missing text (codes "kid") id value n.key_text_is.value json n.key_text_is.json missing n.key_text_is.kid,
  λ c g. member_missing text (codes "kid") (key_id_of key) value g.key_text_is.value json g.key_text_is.json missing g.key_text_is.kid,
)

-- the text names this key, and its key unwraps or doesn't
pub key_answers : (key text wrapped : List ℕ) → IsKeyText text wrapped (key_id_of key) → (fail : WrapFail)
    → UnwrapsKey key wrapped (Err fail) → ReadsKey key text (Err (wrap_refused fail))
key_answers key text wrapped is NoWrapMemory h = tt
key_answers key text wrapped is NotWrapped h = (
  λ id n. n.other (sym (key_text_same text wrapped (key_id_of key) n.wrapped id is n.key_text_is).1),
  λ c g. h (unwraps_form key wrapped c
      (subst (λ w. Unwraps key w c) (sym (key_text_same text wrapped (key_id_of key) g.wrapped (key_id_of key) is g.key_text_is).0) g.unwrapped)),
)
key_answers key text wrapped is BadWrapTag h = (
  λ id n. n.other (sym (key_text_same text wrapped (key_id_of key) n.wrapped id is n.key_text_is).1),
  λ c g. h.1 c
      (subst (λ w. Unwraps key w c) (sym (key_text_same text wrapped (key_id_of key) g.wrapped (key_id_of key) is g.key_text_is).0) g.unwrapped),
)

-- ---- messages

pub message_unread : (text : List ℕ) → ((value : Data) → ¬ ReadsJson text value) → ReadsMessage text (Err BadSeal)
message_unread text none = λ payload m. none m.value m.json

pub no_data : (text : List ℕ) (value : Data) → ReadsJson text value → text_member (codes "data") value ≡ None → ReadsMessage text (Err BadSeal)
no_data text value json missing = λ payload m. member_missing text (codes "data") (base64url payload) value m.value json m.json missing m.said

pub no_payload : (text coded : List ℕ) (value : Data) → ReadsJson text value → text_member (codes "data") value ≡ Some coded → (fail : CarryFail)
    → (fail ≡ NotCarried → (body : List ℕ) → ¬ (IsBytes body × (coded ≡ base64url body))) → ReadsMessage text (Err (text_refused fail))
no_payload text coded value json there NoCarryMemory none = tt
no_payload text coded value json there NotCarried none = λ payload m. none refl payload
    (m.payload_bytes, member_same text (codes "data") coded (base64url payload) value m.value json m.json there m.said)

-- ---- records

pub key_fails : (key : List ℕ) (r : SealedRecord) (fail : SealFail) → ReadsKey key r.wrapped (Err fail) → Unseals key r (Err fail)
key_fails key r (WrongKey id) h = h
key_fails key r BadSeal h = (h.0, λ payload o. h.1 o.content_key (gives_of key r payload o))
key_fails key r NoMemory h = tt

pub token_fails : (key : List ℕ) (r : SealedRecord) (content_key : List ℕ) → GivesKey key r.wrapped content_key → (fail : TokenFail)
    → OpensToken content_key r.sealed (assertion (head_of r)) (Err fail) → Unseals key r (Err (token_refused fail))
token_fails key r content_key gives NoTokenMemory h = tt
token_fails key r content_key gives NotToken h = (
  λ id. names_none key r.wrapped content_key id gives,
  λ payload o. h (opens_form content_key r.sealed (assertion (head_of r)) o.message (opened_by key r content_key payload gives o)),
)
token_fails key r content_key gives BadTag h = (
  λ id. names_none key r.wrapped content_key id gives,
  λ payload o. h.1 o.message (opened_by key r content_key payload gives o),
)

pub message_answers : (key : List ℕ) (r : SealedRecord) (content_key message : List ℕ) → GivesKey key r.wrapped content_key
    → Opens content_key r.sealed (assertion (head_of r)) message → (answer : Result Buffer SealFail) → ReadsMessage message answer → Unseals key r answer
message_answers key r content_key message gives opened (Ok payload) h = record {
  wrapped = gives.wrapped;
  key_text_is = gives.key_text_is;
  content_key = content_key;
  unwrapped = gives.unwrapped;
  message = message;
  opened = opened;
  message_is = h;
}
message_answers key r content_key message gives opened (Err (WrongKey id)) h = absurd h
message_answers key r content_key message gives opened (Err BadSeal) h = (
  λ id. names_none key r.wrapped content_key id gives,
  λ payload o. h payload (subst (λ m. IsMessage m payload)
      (opens_same content_key r.sealed (assertion (head_of r)) o.message message (opened_by key r content_key payload gives o) opened) o.message_is),
)
message_answers key r content_key message gives opened (Err NoMemory) h = tt
