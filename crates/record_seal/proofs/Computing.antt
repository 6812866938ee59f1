-- What is computed of a record is what it opens to.
use Rattle.std.proofs.Common.{◌≡◌, ℕ, suc, ◌-◌, ◌≤◌, Bool, true, false, cond, nat_lt, nat_le, ◌==◌, List, [], ◌∷◌, ◌++◌, length, take, drop, codes, Option, Some, None, option_and_then, ◌∙◌, sym, ap, subst, arith, refl}
use Rattle.std.specs.Result.{result_ok}
use Rattle.std.specs.Str.{bytes_eq, is_utf8}
use Rattle.std.proofs.lemmas.Bool.{eqb-true, eq-eqb, leb-true, le-leb, lt-ltb, ltb-true}
use Rattle.std.proofs.lemmas.List.{length-take, length-drop, take_at, drop_at, take-append-drop}
use Rattle.std.proofs.lemmas.Slice.Eq.{bytes_eq-Decides}
use Rattle.std.proofs.lemmas.Str.{IsUtf8-from_is_utf8, is_utf8-from_IsUtf8}
use Rattle.base64.proofs.EngineFacts.{decode_of-encode_of}
use Rattle.base64.specs.Engines.{url_safe_no_pad}
use Rattle.base64.specs.GeneralPurpose.{IsBytes, decoded_of}
use Rattle.paseto_seal.proofs.Bytes.{no_bytes, one_more_byte}
use Rattle.paseto_seal.proofs.Opening as opening
use Rattle.paseto_seal.proofs.Unwrapping as unwrapping
use Rattle.paseto_seal.specs.Base64Url.{base64url, Carries}
use Rattle.paseto_seal.specs.KeyId.{key_id_of}
use Rattle.paseto_seal.specs.Token.{Opens, token_cipher, token_header, token_tag}
use Rattle.paseto_seal.specs.Wrap.{Unwraps, wrap_cipher, wrap_header, wrap_tag}
use Rattle.record_rules.specs.Records.{SealedRecord}
use Rattle.record_seal.specs.Assertion.{assertion, head_of}
use Rattle.record_seal.specs.Computing.{are_bytes, bytes_coded, bytes_in, body_behind, message_of_body, key_of_body, json_value, key_wrapped, key_of_value, content_key_of, payload_of_message, payload_by, opened_payload}
use Rattle.record_seal.specs.Json.{ReadsJson, text_member}
use Rattle.record_seal.specs.Seals.{IsMessage, OpensToBytes}
use Rattle.record_seal.specs.Unsealing.{GivesKey}
use Rattle.record_seal.proofs.OneReading.{gives_of}
use Rattle.serde_json.specs.Data.{Data}
use Rattle.serde_json.specs.Read.{read}

-- ---- options and tests

some_then : {A B : Type 0} (f : A → Option B) (o : Option A) (y : B) → option_and_then f o ≡ Some y → (x : A) × (o ≡ Some x) × (f x ≡ Some y)
some_then f (Some x) y e = (x, refl, e)
some_then f None y e = absurd (cc e)

if_some : {A : Type 0} (b : Bool) (o : Option A) (y : A) → cond b o None ≡ Some y → (b ≡ true) × (o ≡ Some y)
if_some true o y e = (refl, e)
if_some false o y e = absurd (cc e)

if_true : (a b : Bool) → cond a b false ≡ true → (a ≡ true) × (b ≡ true)
if_true true b e = (refl, e)
if_true false b e = absurd (cc e)

either_way : (P : Type 0) (b : Bool) → (b ≡ true → P) → (b ≡ false → P) → P
either_way P true then otherwise = then refl
either_way P false then otherwise = otherwise refl

same_found : {A : Type 0} (x y : A) → Some x ≡ Some y → x ≡ y
same_found x y e = cc e

differ : (xs ys : List ℕ) → bytes_eq xs ys ≡ false → ¬ (xs ≡ ys)
differ xs ys apart same = let equal = (bytes_eq-Decides xs ys).1 same in cc (equal, apart)

-- ---- bytes

bytes_below : (xs : List ℕ) → are_bytes xs ≡ true → IsBytes xs
unfolding are_bytes
bytes_below [] e i = no_bytes i
bytes_below (x ∷ xs) e i =
    let h = if_true (nat_lt x 256) (are_bytes xs) e in one_more_byte x xs (ltb-true x 256 h.0) (bytes_below xs h.1) i

below_bytes : (xs : List ℕ) → IsBytes xs → are_bytes xs ≡ true
unfolding are_bytes
below_bytes [] are = refl
below_bytes (x ∷ xs) are = ap (λ b. cond b (are_bytes xs) false) (lt-ltb x 256 (are 0)) ∙ below_bytes xs (λ i. are (suc i))

bytes_found : (text bytes : List ℕ) → bytes_in text ≡ Some bytes → IsBytes bytes × (text ≡ base64url bytes)
unfolding bytes_in
bytes_found text bytes e =
    let found = some_then (bytes_coded text) (decoded_of url_safe_no_pad text) bytes e in
    let coded = if_some (bytes_eq (base64url found.0) text) (cond (are_bytes found.0) (Some found.0) None) bytes found.2 in
    let are = if_some (are_bytes found.0) (Some found.0) bytes coded.1 in
    let same = same_found found.0 bytes are.1 in (
      subst IsBytes same (bytes_below found.0 are.0),
      sym ((bytes_eq-Decides (base64url found.0) text).0 coded.0) ∙ ap base64url same,
    )

bytes_stand : (bytes : List ℕ) → IsBytes bytes → bytes_in (base64url bytes) ≡ Some bytes
unfolding bytes_in decoded_of base64url
bytes_stand bytes are =
    ap (λ r. option_and_then (bytes_coded (base64url bytes)) (result_ok r)) (decode_of-encode_of url_safe_no_pad bytes refl are)
    ∙ ap (λ t. cond t (cond (are_bytes bytes) (Some bytes) None) None) ((bytes_eq-Decides (base64url bytes) (base64url bytes)).1 refl)
    ∙ ap (λ t. cond t (Some bytes) None) (below_bytes bytes are)

body_found : (header text body : List ℕ) → body_behind header text ≡ Some body → Carries header text body
unfolding body_behind
body_found header text body e =
    let first = if_some (bytes_eq (take (length header) text) header) (bytes_in (drop (length header) text)) body e in
    let rest = bytes_found (drop (length header) text) body first.1 in
    record {
      body_bytes = rest.0;
      text_is = sym (take-append-drop (length header) text)
          ∙ ap (λ front. front ++ drop (length header) text) ((bytes_eq-Decides (take (length header) text) header).0 first.0)
          ∙ ap (λ behind. header ++ behind) rest.1;
    }

body_stands : (header text body : List ℕ) → Carries header text body → body_behind header text ≡ Some body
unfolding body_behind
body_stands header text body carried =
    let front : take (length header) text ≡ header = ap (take (length header)) carried.text_is ∙ take_at header (base64url body) (length header) refl in
    let behind : drop (length header) text ≡ base64url body = ap (drop (length header)) carried.text_is ∙ drop_at header (base64url body) (length header) refl in
    ap (λ t. cond t (bytes_in (drop (length header) text)) None) ((bytes_eq-Decides (take (length header) text) header).1 front)
    ∙ ap bytes_in behind ∙ bytes_stand body carried.body_bytes

-- ---- tokens and wraps

module _ (key text implicit body : List ℕ) (carried : Carries token_header text body) where
  abbrev nonce : List ℕ
  nonce = take 32 body

  abbrev cipher : List ℕ
  cipher = take (length body - 64) (drop 32 body)

  abbrev tag : List ℕ
  tag = drop (length body - 64) (drop 32 body)

  body_is : body ≡ nonce ++ (cipher ++ tag)
  body_is = sym (take-append-drop 32 body) ∙ ap (λ rest. take 32 body ++ rest) (sym (take-append-drop (length body - 64) (drop 32 body)))

  nonce_long : 64 ≤ length body → length nonce ≡ 32
  nonce_long long = omega (arith, length-take 32 body)

  tag_long : 64 ≤ length body → length tag ≡ 32
  tag_long long = omega (arith, length-drop (length body - 64) (drop 32 body), length-drop 32 body)

  message_found : (message : List ℕ) → message_of_body key implicit body ≡ Some message → Opens key text implicit message
  unfolding message_of_body
  message_found message e =
      let long = if_some (nat_le 64 (length body)) (cond (bytes_eq (token_tag key nonce cipher implicit) tag) (Some (token_cipher key nonce cipher)) None) message e in
      let same = if_some (bytes_eq (token_tag key nonce cipher implicit) tag) (Some (token_cipher key nonce cipher)) message long.1 in
      subst (Opens key text implicit) (same_found (token_cipher key nonce cipher) message same.1)
      (opening.tag_opens key text implicit body nonce cipher tag carried body_is (nonce_long (leb-true 64 (length body) long.0))
      (sym ((bytes_eq-Decides (token_tag key nonce cipher implicit) tag).0 same.0)))

  message_stands : (message : List ℕ) → Opens key text implicit message → message_of_body key implicit body ≡ Some message
  unfolding message_of_body
  message_stands message o =
      let form = opening.opens_form key text implicit message o in
      let long : 64 ≤ length body = opening.form_long text body carried form in
      ap (λ t. cond t (cond (bytes_eq (token_tag key nonce cipher implicit) tag) (Some (token_cipher key nonce cipher)) None) None) (le-leb 64 (length body) long)
      ∙ either_way (cond (bytes_eq (token_tag key nonce cipher implicit) tag) (Some (token_cipher key nonce cipher)) None ≡ Some message)
      (bytes_eq (token_tag key nonce cipher implicit) tag)
      (λ equal. ap (λ t. cond t (Some (token_cipher key nonce cipher)) None) equal
      ∙ ap Some (opening.opens_one key text implicit message body nonce cipher tag carried body_is (nonce_long long) (tag_long long) o))
      (λ apart. absurd (opening.other_tag key text implicit message body nonce cipher tag carried body_is (nonce_long long) (tag_long long)
      (differ (token_tag key nonce cipher implicit) tag apart) o))

module _ (by text body : List ℕ) (carried : Carries wrap_header text body) where
  abbrev front : List ℕ
  front = take 32 body

  abbrev middle : List ℕ
  middle = take 32 (drop 32 body)

  abbrev back : List ℕ
  back = drop 32 (drop 32 body)

  parts_are : body ≡ front ++ (middle ++ back)
  parts_are = sym (take-append-drop 32 body) ∙ ap (λ rest. take 32 body ++ rest) (sym (take-append-drop 32 (drop 32 body)))

  key_found : (key : List ℕ) → key_of_body by body ≡ Some key → Unwraps by text key
  unfolding key_of_body
  key_found key e =
      let whole = if_some (length body == 96) (cond (bytes_eq (wrap_tag by middle back) front) (Some (wrap_cipher by middle back)) None) key e in
      let same = if_some (bytes_eq (wrap_tag by middle back) front) (Some (wrap_cipher by middle back)) key whole.1 in
      let long = eqb-true (length body) 96 whole.0 in
      subst (Unwraps by text) (same_found (wrap_cipher by middle back) key same.1)
      (unwrapping.tag_unwraps by text body front middle back carried parts_are
      (omega (arith, length-take 32 (drop 32 body), length-drop 32 body))
      (omega (arith, length-drop 32 (drop 32 body), length-drop 32 body))
      (sym ((bytes_eq-Decides (wrap_tag by middle back) front).0 same.0)))

  key_stands : (key : List ℕ) → Unwraps by text key → key_of_body by body ≡ Some key
  unfolding key_of_body
  key_stands key u =
      let whole : length body ≡ 96 = unwrapping.form_whole text body carried (unwrapping.unwraps_form by text key u) in
      let tag_long : length front ≡ 32 = omega (arith, length-take 32 body) in
      let nonce_long : length middle ≡ 32 = omega (arith, length-take 32 (drop 32 body), length-drop 32 body) in
      ap (λ t. cond t (cond (bytes_eq (wrap_tag by middle back) front) (Some (wrap_cipher by middle back)) None) None) (eq-eqb (length body) 96 whole)
      ∙ either_way (cond (bytes_eq (wrap_tag by middle back) front) (Some (wrap_cipher by middle back)) None ≡ Some key)
      (bytes_eq (wrap_tag by middle back) front)
      (λ equal. ap (λ t. cond t (Some (wrap_cipher by middle back)) None) equal
      ∙ ap Some (unwrapping.unwraps_one by text key body front middle back carried parts_are tag_long nonce_long u))
      (λ apart. absurd (unwrapping.other_tag by text key body front middle back carried parts_are tag_long nonce_long
      (differ (wrap_tag by middle back) front apart) u))

-- ---- JSON

json_found : (text : List ℕ) (value : Data) → json_value text ≡ Some value → ReadsJson text value
unfolding json_value
json_found text value e =
    let h = if_some (is_utf8 text) (read text) value e in
    record { utf8 = IsUtf8-from_is_utf8 text h.0; value_read = h.1 }

json_stands : (text : List ℕ) (value : Data) → ReadsJson text value → json_value text ≡ Some value
unfolding json_value
json_stands text value json =
    ap (λ t. cond t (read text) None) (is_utf8-from_IsUtf8 text json.utf8) ∙ json.value_read

-- ---- key texts and messages

content_key_found : (key text content_key : List ℕ) → content_key_of key text ≡ Some content_key → GivesKey key text content_key
unfolding content_key_of
content_key_found key text content_key e =
    let read_as = some_then (key_of_value key) (json_value text) content_key e in
    let value = read_as.0 in
    let wpk = some_then (λ wrapped. option_and_then (key_wrapped key wrapped) (text_member (codes "kid") value)) (text_member (codes "wpk") value) content_key read_as.2 in
    let kid = some_then (key_wrapped key wpk.0) (text_member (codes "kid") value) content_key wpk.2 in
    let named = if_some (bytes_eq kid.0 (key_id_of key)) (option_and_then (key_of_body key) (body_behind wrap_header wpk.0)) content_key kid.2 in
    let body = some_then (key_of_body key) (body_behind wrap_header wpk.0) content_key named.1 in
    record {
      wrapped = wpk.0;
      key_text_is = record {
        value = value;
        json = json_found text value read_as.1;
        wpk = wpk.1;
        kid = kid.1 ∙ ap Some ((bytes_eq-Decides kid.0 (key_id_of key)).0 named.0);
      };
      unwrapped = key_found key wpk.0 body.0 (body_found wrap_header wpk.0 body.0 body.1) content_key body.2;
    }

content_key_stands : (key text content_key : List ℕ) → GivesKey key text content_key → content_key_of key text ≡ Some content_key
unfolding content_key_of
content_key_stands key text content_key gives =
    let is = gives.key_text_is in
    let carried = unwrapping.unwraps_carries key gives.wrapped content_key gives.unwrapped in
    ap (option_and_then (key_of_value key)) (json_stands text is.value is.json)
    ∙ ap (option_and_then (λ wrapped. option_and_then (key_wrapped key wrapped) (text_member (codes "kid") is.value))) is.wpk
    ∙ ap (option_and_then (key_wrapped key gives.wrapped)) is.kid
    ∙ ap (λ t. cond t (option_and_then (key_of_body key) (body_behind wrap_header gives.wrapped)) None) ((bytes_eq-Decides (key_id_of key) (key_id_of key)).1 refl)
    ∙ ap (option_and_then (key_of_body key)) (body_stands wrap_header gives.wrapped _ carried)
    ∙ key_stands key gives.wrapped _ carried content_key gives.unwrapped

message_says : (text payload : List ℕ) → payload_of_message text ≡ Some payload → IsMessage text payload
unfolding payload_of_message
message_says text payload e =
    let read_as = some_then (λ value. option_and_then bytes_in (text_member (codes "data") value)) (json_value text) payload e in
    let coded = some_then bytes_in (text_member (codes "data") read_as.0) payload read_as.2 in
    let bytes = bytes_found coded.0 payload coded.2 in
    record {
      value = read_as.0;
      json = json_found text read_as.0 read_as.1;
      said = coded.1 ∙ ap Some bytes.1;
      payload_bytes = bytes.0;
    }

said_by_message : (text payload : List ℕ) → IsMessage text payload → payload_of_message text ≡ Some payload
unfolding payload_of_message
said_by_message text payload is =
    ap (option_and_then (λ value. option_and_then bytes_in (text_member (codes "data") value))) (json_stands text is.value is.json)
    ∙ ap (option_and_then bytes_in) is.said ∙ bytes_stand payload is.payload_bytes

-- ---- records

pub payload_stands : (key : List ℕ) (r : SealedRecord) (payload : List ℕ) → opened_payload key r ≡ Some payload → OpensToBytes key r payload
unfolding opened_payload
payload_stands key r payload e =
    let given = some_then (payload_by r) (content_key_of key r.wrapped) payload e in
    let content_key = given.0 in
    let implicit = assertion (head_of r) in
    let body = some_then (λ body. option_and_then payload_of_message (message_of_body content_key implicit body)) (body_behind token_header r.sealed) payload given.2 in
    let message = some_then payload_of_message (message_of_body content_key implicit body.0) payload body.2 in
    let gives = content_key_found key r.wrapped content_key given.1 in
    record {
      wrapped = gives.wrapped;
      key_text_is = gives.key_text_is;
      content_key = content_key;
      unwrapped = gives.unwrapped;
      message = message.0;
      opened = message_found content_key r.sealed implicit body.0 (body_found token_header r.sealed body.0 body.1) message.0 message.1;
      message_is = message_says message.0 payload message.2;
    }

pub payload_found : (key : List ℕ) (r : SealedRecord) (payload : List ℕ) → OpensToBytes key r payload → opened_payload key r ≡ Some payload
unfolding opened_payload
payload_found key r payload o =
    let implicit = assertion (head_of r) in
    let carried = opening.opens_carries o.content_key r.sealed implicit o.message o.opened in
    ap (option_and_then (payload_by r)) (content_key_stands key r.wrapped o.content_key (gives_of key r payload o))
    ∙ ap (option_and_then (λ body. option_and_then payload_of_message (message_of_body o.content_key implicit body))) (body_stands token_header r.sealed _ carried)
    ∙ ap (option_and_then payload_of_message) (message_stands o.content_key r.sealed implicit _ carried o.message o.opened)
    ∙ said_by_message o.message payload o.message_is
