-- A text with too few digits tells no key.
use Rattle.std.proofs.Common.{◌≡◌, ℕ, ◌<◌, ◌*◌, Bool, true, false, cond, sym, List, length, take, drop, Option, None, Result, Ok, Err, IsOk, refl, arith}
use Rattle.std.proofs.lemmas.List.{length-take}
use Rattle.hex.specs.Hex.{decode_sized}
use Rattle.hex.specs.declared.error.FromHexError.{FromHexError}
use Rattle.hex.proofs.HexLemmas.{IsOk-decode_sized}
use Rattle.key_text.specs.KeyText.{decoded, digits_key, is_line_end, key_of}

none_decoded : (r : Result (List ℕ) FromHexError) → ¬ (IsOk r) → decoded r ≡ None
none_decoded (Ok bytes) h = absurd (h refl)
none_decoded (Err e) h = refl

none_either : (b : Bool) (o : Option (List ℕ)) → o ≡ None → None ≡ cond b o None
none_either true o h = sym h
none_either false o h = refl

pub too_short : (text : List ℕ) → length text < 64 → None ≡ key_of text
too_short text short =
    none_either (is_line_end (drop 64 text)) (digits_key (take 64 text))
    (none_decoded (decode_sized (take 64 text) 32) (λ ok.
    let long : length (take 64 text) ≡ 2 * 32 = ((IsOk-decode_sized (take 64 text) 32).0 ok).0 in
    absurd (omega (arith, length-take 64 text))))
