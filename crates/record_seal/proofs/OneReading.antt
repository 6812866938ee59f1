-- A text has one reading: one value, one wrapped key and one id, one content key, one payload.
use Rattle.std.proofs.Common.{◌≡◌, ℕ, List, Some, None, codes, ◌∙◌, sym, ap, subst}
use Rattle.paseto_seal.proofs.Base64UrlLaws.{base64url_same}
use Rattle.paseto_seal.proofs.Opening.{opens_same}
use Rattle.paseto_seal.proofs.Unwrapping.{unwraps_same}
use Rattle.paseto_seal.specs.Base64Url.{base64url}
use Rattle.paseto_seal.specs.KeyId.{key_id_of}
use Rattle.paseto_seal.specs.Token.{Opens}
use Rattle.paseto_seal.specs.Wrap.{Unwraps}
use Rattle.record_rules.specs.Records.{SealedRecord}
use Rattle.record_seal.specs.Assertion.{assertion, head_of}
use Rattle.record_seal.specs.Json.{ReadsJson, text_member}
use Rattle.record_seal.specs.Seals.{IsKeyText, IsMessage, OpensToBytes}
use Rattle.record_seal.specs.Unsealing.{NamesOther, GivesKey}
use Rattle.serde_json.specs.Data.{Data}

some_same : {A : Type 0} (a b : A) → Some a ≡ Some b → a ≡ b
some_same a b h = cc h

-- ---- one value

pub json_same : (text : List ℕ) (v w : Data) → ReadsJson text v → ReadsJson text w → v ≡ w
json_same text v w first second = some_same v w (sym first.value_read ∙ second.value_read)

pub member_same : (text name a b : List ℕ) (v w : Data) → ReadsJson text v → ReadsJson text w
    → text_member name v ≡ Some a → text_member name w ≡ Some b → a ≡ b
member_same text name a b v w first second in_v in_w =
    some_same a b (sym in_v ∙ ap (text_member name) (json_same text v w first second) ∙ in_w)

-- a member that one reading lacks no other has
pub member_missing : (text name a : List ℕ) (v w : Data) → ReadsJson text v → ReadsJson text w
    → text_member name v ≡ None → text_member name w ≡ Some a → ⊥
member_missing text name a v w first second missing there =
    let same = sym missing ∙ ap (text_member name) (json_same text v w first second) ∙ there in cc same

-- ---- one wrapped key, one id, and one content key

pub key_text_same : (text a i b j : List ℕ) → IsKeyText text a i → IsKeyText text b j → (a ≡ b) × (i ≡ j)
key_text_same text a i b j first second = (
  member_same text (codes "wpk") a b first.value second.value first.json second.json first.wpk second.wpk,
  member_same text (codes "kid") i j first.value second.value first.json second.json first.kid second.kid,
)

pub key_same : (key text c d : List ℕ) → GivesKey key text c → GivesKey key text d → c ≡ d
key_same key text c d first second =
    let same = key_text_same text first.wrapped (key_id_of key) second.wrapped (key_id_of key) first.key_text_is second.key_text_is in
    unwraps_same key first.wrapped c d first.unwrapped (subst (λ w. Unwraps key w d) (sym same.0) second.unwrapped)

-- a text that gives a key names no other
pub names_none : (key text content_key id : List ℕ) → GivesKey key text content_key → ¬ NamesOther key text id
names_none key text content_key id gives names =
    names.other (sym (key_text_same text gives.wrapped (key_id_of key) names.wrapped id gives.key_text_is names.key_text_is).1)

-- what opens gives its content key
pub gives_of : (key : List ℕ) (r : SealedRecord) (payload : List ℕ) → (o : OpensToBytes key r payload) → GivesKey key r.wrapped o.content_key
gives_of key r payload o = record { wrapped = o.wrapped; key_text_is = o.key_text_is; unwrapped = o.unwrapped }

-- and its token opens under the content key that its text gives
pub opened_by : (key : List ℕ) (r : SealedRecord) (content_key payload : List ℕ) → GivesKey key r.wrapped content_key → (o : OpensToBytes key r payload)
    → Opens content_key r.sealed (assertion (head_of r)) o.message
opened_by key r content_key payload gives o =
    subst (λ k. Opens k r.sealed (assertion (head_of r)) o.message)
    (key_same key r.wrapped o.content_key content_key (gives_of key r payload o) gives) o.opened

-- ---- one payload

pub message_same : (text p q : List ℕ) → IsMessage text p → IsMessage text q → p ≡ q
message_same text p q first second =
    base64url_same p q first.payload_bytes second.payload_bytes
    (member_same text (codes "data") (base64url p) (base64url q) first.value second.value first.json second.json first.said second.said)

pub payload_same : (key : List ℕ) (r : SealedRecord) (payload other : List ℕ) → OpensToBytes key r payload → OpensToBytes key r other → payload ≡ other
payload_same key r payload other first second =
    let same : first.message ≡ second.message =
    opens_same first.content_key r.sealed (assertion (head_of r)) first.message second.message first.opened
    (opened_by key r first.content_key other (gives_of key r payload first) second) in
    message_same first.message payload other first.message_is (subst (λ m. IsMessage m other) (sym same) second.message_is)
