-- What base64url says of lengths, and that no text carries two lists of bytes.
use Rattle.std.proofs.Common.{◌≡◌, ℕ, ◌+◌, ◌*◌, ◌/◌, List, length, Ok, ◌∙◌, sym, ap, refl}
use Rattle.std.proofs.lemmas.List.{append-nil, append_cancel_left}
use Rattle.base64.specs.GeneralPurpose.{IsBytes, decode_of}
use Rattle.base64.specs.Engines.{url_safe_no_pad}
use Rattle.base64.proofs.RoundTrip.{length-encode_symbols}
use Rattle.base64.proofs.EngineFacts.{decode_of-encode_of}
use Rattle.paseto_seal.specs.Base64Url.{base64url, Carries}

pub length-base64url : (bytes : List ℕ) → length (base64url bytes) ≡ (4 * length bytes + 2) / 3
unfolding base64url
length-base64url bytes = rw append-nil (length-encode_symbols url_safe_no_pad.encode_table bytes)

pub base64url_same : (xs ys : List ℕ) → IsBytes xs → IsBytes ys → base64url xs ≡ base64url ys → xs ≡ ys
unfolding base64url
base64url_same xs ys are_xs are_ys same =
    let both : Ok xs ≡ Ok ys = sym (decode_of-encode_of url_safe_no_pad xs refl are_xs) ∙ ap (decode_of url_safe_no_pad) same
    ∙ decode_of-encode_of url_safe_no_pad ys refl are_ys in
    cc

pub carries_one : (header text xs ys : List ℕ) → Carries header text xs → Carries header text ys → xs ≡ ys
carries_one header text xs ys first second =
    base64url_same xs ys first.body_bytes second.body_bytes
    (append_cancel_left header _ _ (sym first.text_is ∙ second.text_is))
