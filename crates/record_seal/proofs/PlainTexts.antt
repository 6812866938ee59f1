-- Base64url stands in JSON as it is: none of its characters is escaped.
use Rattle.std.proofs.Common.{◌≡◌, ℕ, ◌+◌, ◌*◌, ◌/◌, ◌%◌, ◌<◌, ◌≤◌, true, not, ◌==◌, nat_le, List, [], ◌∷◌, ◌++◌, slice_index, suc, ◌∙◌, sym, ap, ap₂, subst, arith, refl}
use Rattle.std.specs.List.{list_all}
use Rattle.std.proofs.lemmas.Bool.{leb-true}
use Rattle.std.proofs.lemmas.Grind.{flat_map-append}
use Rattle.std.proofs.lemmas.List.{append-nil}
use Rattle.std.proofs.lemmas.List.Elements.{All-get_or}
use Rattle.std.proofs.lemmas.List.Sums.{AllPass-from_list_all}
use Rattle.base64.specs.Engines.{url_safe_no_pad}
use Rattle.base64.specs.GeneralPurpose.{IsBytes}
use Rattle.base64.specs.Rfc4648.{encode_symbols}
use Rattle.json.specs.Print.{escape, escape_byte}
use Rattle.json.proofs.Printed.Strings.{escape_byte_plain}
use Rattle.paseto_seal.specs.Base64Url.{base64url}

-- a character that JSON leaves as it is
record IsPlain (x : ℕ) : Type 0 where
  printed : 35 ≤ x
  other : x ≡ 92 → ⊥

abbrev symbols : List ℕ
symbols = url_safe_no_pad.encode_table

symbols_printed : list_all (λ x. nat_le 35 x) symbols ≡ true
symbols_printed = refl

symbols_other : list_all (λ x. not (x == 92)) symbols ≡ true
symbols_other = refl

symbol_plain : (i : ℕ) → i < 64 → IsPlain (slice_index symbols i)
symbol_plain i below = record {
  printed = leb-true 35 (slice_index symbols i)
      (All-get_or (λ x. nat_le 35 x ≡ true) symbols i 0 below (AllPass-from_list_all (λ x. nat_le 35 x) symbols symbols_printed));
  other = λ same.
      let here = All-get_or (λ x. not (x == 92) ≡ true) symbols i 0 below (AllPass-from_list_all (λ x. not (x == 92)) symbols symbols_other) in
      let there : not (92 == 92) ≡ true = subst (λ x. not (x == 92) ≡ true) same here in cc there;
}

escape_one : (x : ℕ) (xs : List ℕ) → IsPlain x → escape xs ≡ xs → escape (x ∷ xs) ≡ x ∷ xs
escape_one x xs plain rest =
    ap₂ (λ (ys zs : List ℕ). ys ++ zs) (escape_byte_plain x (λ same. let p = plain.printed in omega arith) plain.other (let p = plain.printed in omega arith)) rest

escape_symbols : (m : List ℕ) → IsBytes m → escape (encode_symbols symbols m) ≡ encode_symbols symbols m
unfolding encode_symbols
escape_symbols [] are = refl
escape_symbols (a ∷ []) are =
    let first = are 0 in
    escape_one _ _ (symbol_plain (a / 4) (omega arith))
    (escape_one _ [] (symbol_plain (a % 4 * 16) (omega arith)) refl)
escape_symbols (a ∷ b ∷ []) are =
    let first = are 0 in
    let second = are 1 in
    escape_one _ _ (symbol_plain (a / 4) (omega arith))
    (escape_one _ _ (symbol_plain (a % 4 * 16 + b / 16) (omega arith))
    (escape_one _ [] (symbol_plain (b % 16 * 4) (omega arith)) refl))
escape_symbols (a ∷ b ∷ c ∷ rest) are =
    let first = are 0 in
    let second = are 1 in
    let third = are 2 in
    escape_one _ _ (symbol_plain (a / 4) (omega arith))
    (escape_one _ _ (symbol_plain (a % 4 * 16 + b / 16) (omega arith))
    (escape_one _ _ (symbol_plain (b % 16 * 4 + c / 64) (omega arith))
    (escape_one _ (encode_symbols symbols rest) (symbol_plain (c % 64) (omega arith))
    (escape_symbols rest (λ i. are (suc (suc (suc i))))))))

pub escape_base64url : (bytes : List ℕ) → IsBytes bytes → escape (base64url bytes) ≡ base64url bytes
unfolding base64url
escape_base64url bytes are =
    ap escape (append-nil (encode_symbols symbols bytes)) ∙ escape_symbols bytes are ∙ sym (append-nil (encode_symbols symbols bytes))

-- a text that begins plainly
pub escape_behind : (header : List ℕ) → escape header ≡ header → (bytes : List ℕ) → IsBytes bytes
    → escape (header ++ base64url bytes) ≡ header ++ base64url bytes
escape_behind header plain bytes are =
    flat_map-append escape_byte header (base64url bytes) ∙ ap₂ (λ (ys zs : List ℕ). ys ++ zs) plain (escape_base64url bytes are)
