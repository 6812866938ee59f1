-- What the digits of an id are read as.
use Rattle.std.proofs.Common.{◌≡◌, ℕ, ◌<◌, ◌^◌, zero, suc, List, true, Option, Some, None, Result, Ok, Err, IsOk, MatchResult, ◌↔◌, refl, sym, ap, subst, ◌∙◌, arith, inl, All}
use Rattle.std.specs.Int.{bytes_high_first, to_be_bytes, from_be_bytes, w128}
use Rattle.std.specs.Option.{option_map}
use Rattle.std.specs.Result.{is_ok}
use Rattle.std.proofs.lemmas.Bool.{false≢true}
use Rattle.hex.specs.Hex.{IsBytes, decode_sized}
use Rattle.hex.specs.declared.error.FromHexError.{FromHexError}
use Rattle.hex.proofs.HexLemmas.{decode_sized-encode_lower}
use Rattle.uuid.proofs.OrderLemmas.{from_be_bytes-to_be_bytes_16}
use Rattle.uuid.proofs.RoundTrips.{parses_hyphenated}
use Rattle.uuid.specs.Text.{lower, hyphenated_text, parsed}
use Rattle.definitions.specs.Ids.{id_text, hyphenated}
use Rattle.definitions.specs.Reading.{id_value, is_id_text}
use Rattle.definitions.proofs.Ids.{is_id_text-found}
use Rattle.record_model.proofs.Digits.{id_encoded}
use Rattle.record_model.proofs.Hyphens.{byte_at-below, id_hyphenated}

bytes-fit : (k n : ℕ) → IsBytes (bytes_high_first k n)
bytes-fit zero n i = omega arith
bytes-fit (suc k) n zero = byte_at-below k n
bytes-fit (suc k) n (suc i) = bytes-fit k n i

all-fit : (k n : ℕ) → All (λ b. b < 256) (bytes_high_first k n)
all-fit zero n i d inside = absurd (omega arith)
all-fit (suc k) n zero d inside = byte_at-below k n
all-fit (suc k) n (suc i) d inside = all-fit k n i d (omega arith)

-- the digits decode to the bytes of their value
decoded : (text : List ℕ) → is_id_text text ≡ true → decode_sized text 16 ≡ Ok (to_be_bytes w128 (id_value text))
decoded text prints =
    let v : ℕ = id_value text in
    let found : (v < 2 ^ 128) × (text ≡ id_text v) = is_id_text-found text prints in
    ap (λ (t : List ℕ). decode_sized t 16) (found.1 ∙ sym (id_encoded v)) ∙ decode_sized-encode_lower (to_be_bytes w128 v) 16 refl (bytes-fit 16 v)

module _ (text out : List ℕ) (r : Result (Unit {0}) FromHexError) where
  abbrev Told : Result (List ℕ) FromHexError → Type 0
  Told decoding = MatchResult decoding (λ bytes. (r ≡ Ok tt) × (out ≡ bytes)) (λ e. r ≡ Err e)

  pub digits_decode : is_id_text text ≡ true → Told (decode_sized text 16) → (r ≡ Ok tt) × (out ≡ to_be_bytes w128 (id_value text))
  digits_decode prints told = subst Told (decoded text prints) told

pub never_fails : (text out : List ℕ) (r : Result (Unit {0}) FromHexError) (e : FromHexError) → is_id_text text ≡ true
    → MatchResult (decode_sized text 16) (λ bytes. (r ≡ Ok tt) × (out ≡ bytes)) (λ e. r ≡ Err e) → r ≡ Err e → ⊥
never_fails text out r e prints told failed = false≢true (sym (ap is_ok failed) ∙ ap is_ok (digits_decode text out r prints told).0)

-- the value of the digits prints as they do
pub value_prints : (text : List ℕ) → is_id_text text ≡ true → id_text (from_be_bytes w128 (to_be_bytes w128 (id_value text))) ≡ text
value_prints text prints =
    let found = is_id_text-found text prints in
    ap id_text (from_be_bytes-to_be_bytes_16 (id_value text) found.0) ∙ sym found.1

pub none_parsed : {E : Type 0} (r : Result (List ℕ) E) (e : E) (p : Option (List ℕ)) (f : List ℕ → ℕ) → r ≡ Err e → (IsOk r ↔ ((u : List ℕ) × (p ≡ Some u))) → None ≡ option_map f p
none_parsed r e None f failed h = refl
none_parsed r e (Some u) f failed h = absurd (false≢true (sym (ap is_ok failed) ∙ h.1 (u, refl)))

-- an id that prints with hyphens is read again
pub hyphenated_reads : (id : ℕ) → id < 2 ^ 128 → option_map (from_be_bytes w128) (parsed (hyphenated id)) ≡ Some id
hyphenated_reads id fits =
    let text : parsed (hyphenated_text lower (to_be_bytes w128 id)) ≡ Some (to_be_bytes w128 id) = sym (parses_hyphenated lower (to_be_bytes w128 id) (inl refl) refl (all-fit 16 id)) in
    ap (λ (t : List ℕ). option_map (from_be_bytes w128) (parsed t)) (sym (id_hyphenated id)) ∙ ap (option_map (from_be_bytes w128)) text
    ∙ ap (λ (n : ℕ). Some n) (from_be_bytes-to_be_bytes_16 id fits)
