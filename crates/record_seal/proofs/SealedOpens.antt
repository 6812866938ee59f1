-- What is sealed opens: its texts are read as JSON again, and its key and its message come out of them.
use Rattle.std.proofs.Common.{◌≡◌, ℕ, ◌≤◌, List, [], ◌∷◌, ◌++◌, take, drop, codes, option_and_then, ◌∙◌, sym, ap, subst, arith, refl, rules}
use Rattle.std.specs.Str.{IsAscii}
use Rattle.std.proofs.lemmas.List.{append-nil, append_assoc, length-take, length-drop, take-append-drop}
use Rattle.std.proofs.lemmas.Str.{IsUtf8-from_ascii, IsAscii-append}
use Rattle.base64.proofs.EngineFacts.{IsAscii-encode_of}
use Rattle.base64.specs.Engines.{url_safe_no_pad}
use Rattle.base64.specs.GeneralPurpose.{IsBytes}
use Rattle.blake2b_core.specs.Hash.{blake2b}
use Rattle.json.proofs.Printed.Tokens.{tokens-print}
use Rattle.json.proofs.Printed.Trees.{ArePrintable-json_tokens, value-json_tokens}
use Rattle.json.specs.Json as json
use Rattle.json.specs.Print.{escape, print}
use Rattle.json.specs.Tree.{HasNumbers, depth, json_tokens}
use Rattle.paseto_seal.proofs.Bytes.{trailing_bytes, take_bytes}
use Rattle.paseto_seal.proofs.HashLaws.{blake2b_bytes}
use Rattle.paseto_seal.proofs.Unwrapping.{wrap_body_bytes}
use Rattle.paseto_seal.specs.Base64Url.{base64url}
use Rattle.paseto_seal.specs.KeyId.{key_id_header, key_id_of, local_key_text}
use Rattle.paseto_seal.specs.Wrap.{wrap, wrap_body, wrap_header}
use Rattle.record_seal.proofs.PlainTexts.{escape_base64url, escape_behind}
use Rattle.record_seal.specs.Laws.{SealOpens}
use Rattle.record_seal.specs.Seals.{IsKeyText, IsMessage, key_text, message_text}
use Rattle.serde_json.proofs.OnLiterals.{serde_json_on_literals}
use Rattle.serde_json.specs.Data as data_of
use Rattle.serde_json.specs.Read.{max_depth, of_json, read}

-- what is printed is read
reads_printed : (j : json.Json) → HasNumbers j → depth j ≤ max_depth → read (print (json_tokens j)) ≡ of_json j
reads_printed j numbers shallow =
    ap (λ parsed. option_and_then of_json (option_and_then (λ p. json.if_last p.0 p.1) parsed))
    (ap (json.value max_depth) (tokens-print (json_tokens j) (ArePrintable-json_tokens j numbers) ∙ sym (append-nil (json_tokens j)))
    ∙ value-json_tokens j max_depth [] shallow)

-- a text in its quotes, and what follows them
quoted_then : (text rest : List ℕ) → escape text ≡ text → text ++ 34 ∷ rest ≡ (escape text ++ 34 ∷ []) ++ rest
quoted_then text rest plain = sym (append_assoc (escape text) (34 ∷ []) rest ∙ ap (λ t. t ++ 34 ∷ rest) plain)

ascii_bytes : (xs : List ℕ) → IsAscii xs → IsBytes xs
ascii_bytes xs ascii = λ i. let below = ascii i in omega arith

drop_bytes : (n : ℕ) (xs : List ℕ) → IsBytes xs → IsBytes (drop n xs)
drop_bytes n xs are = trailing_bytes (take n xs) (drop n xs) (subst IsBytes (sym (take-append-drop n xs)) are)

-- ---- the message

message_tree : List ℕ → json.Json
message_tree coded = json.object (json.member (codes "data") (json.string coded) json.no_members)

message_printed : (payload : List ℕ) → IsBytes payload → message_text payload ≡ print (json_tokens (message_tree (base64url payload)))
unfolding serde_json_on_literals message_tree
message_printed payload are =
    ap (λ t. codes "{\"data\":\"" ++ t) (quoted_then (base64url payload) (125 ∷ []) (escape_base64url payload are))

message_ascii : (payload : List ℕ) → IsAscii (message_text payload)
unfolding base64url
message_ascii payload =
    IsAscii-append (codes "{\"data\":\"") (base64url payload ++ codes "\"}") (search rules)
    (IsAscii-append (base64url payload) (codes "\"}") (IsAscii-encode_of url_safe_no_pad payload) (search rules))

message_is_read : (payload : List ℕ) → IsBytes payload → IsMessage (message_text payload) payload
unfolding serde_json_on_literals message_tree
message_is_read payload are = record {
  value = data_of.object (data_of.member (codes "data") (data_of.string (base64url payload)) data_of.no_members);
  json = record {
    utf8 = IsUtf8-from_ascii (message_text payload) (message_ascii payload);
    value_read = ap read (message_printed payload are) ∙ reads_printed (message_tree (base64url payload)) (tt, tt) (omega arith);
  };
  said = refl;
  payload_bytes = are;
}

-- ---- the key text

key_tree : (wrapped id : List ℕ) → json.Json
key_tree wrapped id =
    json.object (json.member (codes "wpk") (json.string wrapped) (json.member (codes "kid") (json.string id) json.no_members))

key_printed : (wrapped id : List ℕ) → escape wrapped ≡ wrapped → escape id ≡ id → key_text wrapped id ≡ print (json_tokens (key_tree wrapped id))
unfolding serde_json_on_literals key_tree
key_printed wrapped id wrapped_plain id_plain =
    ap (λ t. codes "{\"wpk\":\"" ++ (wrapped ++ (codes "\",\"kid\":\"" ++ t))) (quoted_then id (125 ∷ []) id_plain)
    ∙ ap (λ t. codes "{\"wpk\":\"" ++ t)
    (quoted_then wrapped (codes ",\"kid\":\"" ++ ((escape id ++ 34 ∷ []) ++ 125 ∷ [])) wrapped_plain)

key_ascii : (wrapped id : List ℕ) → IsAscii wrapped → IsAscii id → IsAscii (key_text wrapped id)
key_ascii wrapped id wrapped_is id_is =
    IsAscii-append (codes "{\"wpk\":\"") (wrapped ++ (codes "\",\"kid\":\"" ++ (id ++ codes "\"}"))) (search rules)
    (IsAscii-append wrapped (codes "\",\"kid\":\"" ++ (id ++ codes "\"}")) wrapped_is
    (IsAscii-append (codes "\",\"kid\":\"") (id ++ codes "\"}") (search rules)
    (IsAscii-append id (codes "\"}") id_is (search rules))))

key_text_is_read : (wrapped id : List ℕ) → IsAscii wrapped → IsAscii id → escape wrapped ≡ wrapped → escape id ≡ id
    → IsKeyText (key_text wrapped id) wrapped id
unfolding serde_json_on_literals key_tree
key_text_is_read wrapped id wrapped_is id_is wrapped_plain id_plain = record {
  value = data_of.object
      (data_of.member (codes "kid") (data_of.string id) (data_of.member (codes "wpk") (data_of.string wrapped) data_of.no_members));
  json = record {
    utf8 = IsUtf8-from_ascii (key_text wrapped id) (key_ascii wrapped id wrapped_is id_is);
    value_read = ap read (key_printed wrapped id wrapped_plain id_plain)
        ∙ reads_printed (key_tree wrapped id) (tt, (tt, tt)) (omega arith);
  };
  wpk = refl;
  kid = refl;
}

-- ---- wraps and ids in it

wrap_ascii : (by nonce key : List ℕ) → IsAscii (wrap by nonce key)
unfolding wrap base64url
wrap_ascii by nonce key =
    let coded = base64url (wrap_body by nonce key) in
    IsAscii-append (codes "k4.local-") (codes "wrap.pie." ++ coded) (search rules)
    (IsAscii-append (codes "wrap.pie.") coded (search rules) (IsAscii-encode_of url_safe_no_pad (wrap_body by nonce key)))

wrap_plain : (by nonce key : List ℕ) → IsBytes nonce → IsBytes key → escape (wrap by nonce key) ≡ wrap by nonce key
unfolding serde_json_on_literals wrap
wrap_plain by nonce key nonce_are key_are =
    escape_behind wrap_header refl (wrap_body by nonce key) (wrap_body_bytes by nonce key nonce_are key_are)

id_ascii : (key : List ℕ) → IsAscii (key_id_of key)
unfolding key_id_of base64url
id_ascii key =
    let hash = blake2b 33 [] (key_id_header ++ local_key_text key) in
    IsAscii-append key_id_header (base64url hash) (search rules) (IsAscii-encode_of url_safe_no_pad hash)

id_plain : (key : List ℕ) → escape (key_id_of key) ≡ key_id_of key
unfolding serde_json_on_literals key_id_of
id_plain key =
    let text = key_id_header ++ local_key_text key in
    escape_behind key_id_header refl (blake2b 33 [] text) (blake2b_bytes 33 [] text)

-- ---- the record

pub seal_opens : SealOpens
seal_opens key head payload random now payload_are random_are long =
    let content_key = take 32 random in
    let token_nonce = take 32 (drop 32 random) in
    let wrap_nonce = take 32 (drop 64 random) in
    let content_are = take_bytes 32 random random_are in
    let wrap_are = take_bytes 32 (drop 64 random) (drop_bytes 64 random random_are) in
    record {
      wrapped = wrap key wrap_nonce content_key;
      key_text_is = key_text_is_read (wrap key wrap_nonce content_key) (key_id_of key) (wrap_ascii key wrap_nonce content_key) (id_ascii key)
          (wrap_plain key wrap_nonce content_key wrap_are content_are) (id_plain key);
      content_key = content_key;
      unwrapped = record {
        nonce = wrap_nonce;
        nonce_bytes = wrap_are;
        nonce_length = omega (arith, length-take 32 (drop 64 random), length-drop 64 random);
        key_bytes = content_are;
        key_length = omega (arith, length-take 32 random);
        text_is = refl;
      };
      message = message_text payload;
      opened = record {
        nonce = token_nonce;
        nonce_bytes = take_bytes 32 (drop 32 random) (drop_bytes 32 random random_are);
        nonce_length = omega (arith, length-take 32 (drop 32 random), length-drop 32 random);
        message_bytes = ascii_bytes (message_text payload) (message_ascii payload);
        text_is = refl;
      };
      message_is = message_is_read payload payload_are;
    }
