-- Opening by computation, so that what a record holds can be named as a value. Nothing rests on these words alone: a law joins
-- them to `OpensToBytes`.
use Rattle.std.specs.Prelude.{ℕ, ◌-◌, List, [], ◌∷◌, length, take, drop, codes, Bool, true, false, if◌then◌else◌, nat_lt, nat_le, ◌==◌, Option, Some, None, option_and_then}
use Rattle.std.specs.Str.{bytes_eq, is_utf8}
use Rattle.base64.specs.Engines.{url_safe_no_pad}
use Rattle.base64.specs.GeneralPurpose.{decoded_of}
use Rattle.paseto_seal.specs.Base64Url.{base64url}
use Rattle.paseto_seal.specs.KeyId.{key_id_of}
use Rattle.paseto_seal.specs.Token.{token_cipher, token_header, token_tag}
use Rattle.paseto_seal.specs.Wrap.{wrap_cipher, wrap_header, wrap_tag}
use Rattle.record_rules.specs.Records.{SealedRecord}
use Rattle.record_seal.specs.Assertion.{assertion, head_of}
use Rattle.record_seal.specs.Json.{text_member}
use Rattle.serde_json.specs.Data.{Data}
use Rattle.serde_json.specs.Read.{read}

-- each number is below 256
unfoldable pub are_bytes : List ℕ → Bool
are_bytes [] = true
are_bytes (b ∷ bs) = if nat_lt b 256 then are_bytes bs else false

abbrev pub bytes_coded : List ℕ → List ℕ → Option (List ℕ)
bytes_coded text bytes = if bytes_eq (base64url bytes) text then (if are_bytes bytes then Some bytes else None) else None

-- the bytes that a text is the base64url of
unfoldable pub bytes_in : List ℕ → Option (List ℕ)
bytes_in text = option_and_then (bytes_coded text) (decoded_of url_safe_no_pad text)

-- what a text carries behind a header
unfoldable pub body_behind : (header text : List ℕ) → Option (List ℕ)
body_behind header text = if bytes_eq (take (length header) text) header then bytes_in (drop (length header) text) else None

-- the message in the bytes of a token, where their tag is the one that belongs to them
unfoldable pub message_of_body : (key implicit body : List ℕ) → Option (List ℕ)
message_of_body key implicit body =
    let nonce = take 32 body in
    let cipher = take (length body - 64) (drop 32 body) in
    let tag = drop (length body - 64) (drop 32 body) in
    if nat_le 64 (length body) then (if bytes_eq (token_tag key nonce cipher implicit) tag then Some (token_cipher key nonce cipher) else None) else None

-- the key in the bytes of a wrap, likewise
unfoldable pub key_of_body : (by body : List ℕ) → Option (List ℕ)
key_of_body by body =
    let tag = take 32 body in
    let nonce = take 32 (drop 32 body) in
    let cipher = drop 32 (drop 32 body) in
    if length body == 96 then (if bytes_eq (wrap_tag by nonce cipher) tag then Some (wrap_cipher by nonce cipher) else None) else None

-- the value of a JSON text
unfoldable pub json_value : List ℕ → Option Data
json_value text = if is_utf8 text then read text else None

abbrev pub key_wrapped : (key wrapped id : List ℕ) → Option (List ℕ)
key_wrapped key wrapped id = if bytes_eq id (key_id_of key) then option_and_then (key_of_body key) (body_behind wrap_header wrapped) else None

abbrev pub key_of_value : List ℕ → Data → Option (List ℕ)
key_of_value key value =
    option_and_then (λ wrapped. option_and_then (key_wrapped key wrapped) (text_member (codes "kid") value)) (text_member (codes "wpk") value)

-- the content key of a key text
unfoldable pub content_key_of : (key text : List ℕ) → Option (List ℕ)
content_key_of key text = option_and_then (key_of_value key) (json_value text)

-- the payload of a message
unfoldable pub payload_of_message : List ℕ → Option (List ℕ)
payload_of_message text = option_and_then (λ value. option_and_then bytes_in (text_member (codes "data") value)) (json_value text)

abbrev pub payload_by : SealedRecord → List ℕ → Option (List ℕ)
payload_by r content_key =
    option_and_then (λ body. option_and_then payload_of_message (message_of_body content_key (assertion (head_of r)) body)) (body_behind token_header r.sealed)

-- the payload that the record opens to under the key, if it opens to one
unfoldable pub opened_payload : (key : List ℕ) → SealedRecord → Option (List ℕ)
opened_payload key r = option_and_then (payload_by r) (content_key_of key r.wrapped)
