-- How a payload is sealed under a key of 32 bytes: in a token (PASETO v4.local) of a content key of its own, which is wrapped
-- under the key (PASERK k4.local-wrap.pie) and stands in a key text beside the key's id (PASERK k4.lid).
use Rattle.std.specs.Prelude.{◌≡◌, ℕ, List, ◌++◌, take, drop, codes, Some}
use Rattle.base64.specs.GeneralPurpose.{IsBytes}
use Rattle.paseto_seal.specs.Base64Url.{base64url}
use Rattle.paseto_seal.specs.KeyId.{key_id_of}
use Rattle.paseto_seal.specs.Token.{token, Opens}
use Rattle.paseto_seal.specs.Wrap.{wrap, Unwraps}
use Rattle.record_rules.specs.Records.{SealedRecord}
use Rattle.record_seal.specs.Assertion.{assertion, head_of}
use Rattle.record_seal.specs.Json.{ReadsJson, text_member}
use Rattle.serde_json.specs.Data.{Data}
use Rattle.step_rules.specs.Store.{Head, Seal}

-- ---- sealing

-- what the token of a payload holds
abbrev pub message_text : List ℕ → List ℕ
message_text payload = codes "{\"data\":\"" ++ (base64url payload ++ codes "\"}")

-- the key text of a wrapped key and a key's id
abbrev pub key_text : List ℕ → List ℕ → List ℕ
key_text wrapped id = codes "{\"wpk\":\"" ++ (wrapped ++ (codes "\",\"kid\":\"" ++ (id ++ codes "\"}")))

-- the seal of a payload by 96 random bytes: the content key, the token's nonce and the wrap's, 32 bytes each
abbrev pub seal_of : (key : List ℕ) → Head → (payload random : List ℕ) → Seal
seal_of key head payload random =
    let content_key = take 32 random in
    record {
      sealed = token content_key (take 32 (drop 32 random)) (message_text payload) (assertion head);
      wrapped = key_text (wrap key (take 32 (drop 64 random)) content_key) (key_id_of key);
    }

-- ---- opening

-- the text is a key text, a JSON object with these two members; others don't matter
pub record IsKeyText (text wrapped id : List ℕ) : Type 0 where
  pub value : Data
  pub json : ReadsJson text value
  pub wpk : text_member (codes "wpk") value ≡ Some wrapped
  pub kid : text_member (codes "kid") value ≡ Some id

-- the text is a JSON object with the payload as its member `data`
pub record IsMessage (text payload : List ℕ) : Type 0 where
  pub value : Data
  pub json : ReadsJson text value
  pub said : text_member (codes "data") value ≡ Some (base64url payload)
  pub payload_bytes : IsBytes payload

-- the record opens to the payload under the key
pub record OpensToBytes (key : List ℕ) (r : SealedRecord) (payload : List ℕ) : Type 0 where
  pub wrapped : List ℕ
  pub key_text_is : IsKeyText r.wrapped wrapped (key_id_of key)
  pub content_key : List ℕ
  pub unwrapped : Unwraps key wrapped content_key
  pub message : List ℕ
  pub opened : Opens content_key r.sealed (assertion (head_of r)) message
  pub message_is : IsMessage message payload
