-- What can be read of a header.
use Rattle.std.proofs.Common.{◌≡◌, ℕ, ◌+◌, ◌≤◌, inl, inr, false, cond, List, [], ◌∷◌, refl, ◌++◌, length, drop, Option, Some, None, sym, ◌∙◌, ap, arith, append_assoc, length-append, take-append-drop}
use Rattle.std.specs.Prelude.{◌<◌, ◌^◌, Bool, nat_lt, true, bytes_eq, take, replicate, ◌==◌}
use Rattle.std.specs.Int.{w128, to_be_bytes}
use Rattle.std.proofs.Math.Seq.{take-add}
use Rattle.std.proofs.lemmas.List.{length-drop, length-take}
use Rattle.std.proofs.lemmas.Option.{none-some}
use Rattle.std.proofs.lemmas.Bool.{cases_lt, and_from, eq-eqb, eqb-true, ltb-false}
use Rattle.std.proofs.lemmas.Bool.Decides.{nat_tests}
use Rattle.record_rules.specs.Records.{Entry}
use Rattle.log_rules.specs.Log.{Form, magic_bytes, header_bytes, batches_bytes, header_fault, HasHeader, HasNoHeader, StandsFor}
use Rattle.log_rules.proofs.Numbers.{bytes_of_number}
use Rattle.byteorder.specs.Endian.{big_number}
use Rattle.byteorder.specs.Numbers.{big_from-lt}
use Rattle.definitions.specs.Spelling.{IsBytes}
use Rattle.definitions.proofs.Bytes.{IsBytes-take, IsBytes-drop}
use Rattle.definitions.proofs.Items.{both_true}

not_below : (a b : ℕ) → b ≤ a → nat_lt a b ≡ false
not_below a b le = grind (arith, nat_tests)

magic_same : (form : Form) → bytes_eq (magic_bytes form) (magic_bytes form) ≡ true
magic_same form = bytes_eq-same (magic_bytes form)
  where
    bytes_eq-same : (bytes : List ℕ) → bytes_eq bytes bytes ≡ true
    bytes_eq-same [] = refl
    bytes_eq-same (byte ∷ bytes) = and_from (byte == byte) (bytes_eq bytes bytes) (eq-eqb byte byte refl) (bytes_eq-same bytes)

-- behind a host's header and a gate nothing is missing
nothing_missing : (form : Form) (host : ℕ) (rest : List ℕ) → 1 ≤ length rest → header_fault form (header_bytes form host ++ rest) ≡ None
nothing_missing form host rest some =
    let all : length (header_bytes form host ++ rest) ≡ 32 + length rest = length-append (header_bytes form host) rest in
    let long : nat_lt (length (header_bytes form host ++ rest)) 24 ≡ false = not_below (length (header_bytes form host ++ rest)) 24 (omega arith) in
    let gate : nat_lt (length (header_bytes form host ++ rest)) 33 ≡ false = not_below (length (header_bytes form host ++ rest)) 33 (omega arith) in
    λ i. cond {A = Option ℕ} (magic_same form i) (cond (long i) (Some 8) (cond (gate i) (Some 32) None)) (Some 0)

pub faulty_header : (form : Form) (bytes : List ℕ) (place : ℕ) → header_fault form bytes ≡ Some place → HasNoHeader form bytes
faulty_header form bytes place fault =
    elim (cases_lt (length bytes) 33) [
      | inl short ↦ inl short
      | inr long ↦ inr (λ host fits header.
          let whole : header_bytes form host ++ drop 32 bytes ≡ bytes = ap (λ (l : List ℕ). l ++ drop 32 bytes) (sym header) ∙ take-append-drop 32 bytes in
          let some : 1 ≤ length (drop 32 bytes) = omega (arith, length-drop 32 bytes) in
          none-some place (sym (nothing_missing form host (drop 32 bytes) some) ∙ ap (header_fault form) whole ∙ fault))
    ]

pub standing_header : (form : Form) (bytes : List ℕ) (host : ℕ) (journal : List Entry) → StandsFor form bytes host journal → header_fault form bytes ≡ None
standing_header form bytes host journal stands =
    let batches = batches_bytes form 32 stands.opened.batches in
    let whole : bytes ≡ header_bytes form host ++ (batches ++ 0 ∷ stands.behind) = stands.bytes_are ∙ ap (λ (l : List ℕ). l ++ 0 ∷ stands.behind) stands.opened.bytes_are ∙ append_assoc (header_bytes form host) batches (0 ∷ stands.behind) in
    let parts : length (batches ++ 0 ∷ stands.behind) ≡ length batches + (1 + length stands.behind) = length-append batches (0 ∷ stands.behind) ∙ omega arith in
    ap (header_fault form) whole ∙ nothing_missing form host (batches ++ 0 ∷ stands.behind) (omega arith)

-- ---- a header that can be read

kept_apart : (b : Bool) (x : Option ℕ) (place : ℕ) → cond b x (Some place) ≡ None → (b ≡ true) × (x ≡ None)
kept_apart true x place e = (refl, e)
kept_apart false x place e = absurd (none-some place (sym e))

not_there : (b : Bool) (x : Option ℕ) (place : ℕ) → cond b (Some place) x ≡ None → (b ≡ false) × (x ≡ None)
not_there true x place e = absurd (none-some place (sym e))
not_there false x place e = (refl, e)

same_bytes : (bytes others : List ℕ) → bytes_eq bytes others ≡ true → bytes ≡ others
same_bytes [] [] e = refl
same_bytes [] (b ∷ others) e = absurd cc
same_bytes (b ∷ bytes) [] e = absurd cc
same_bytes (b ∷ bytes) (c ∷ others) e = let both = both_true (b == c) (bytes_eq bytes others) e in (λ i. eqb-true b c both.0 i ∷ same_bytes bytes others both.1 i)

split_32 : (bytes : List ℕ) → take 32 bytes ≡ (take 8 bytes ++ take 16 (drop 8 bytes)) ++ take 8 (drop 24 bytes)
split_32 bytes = take-add 24 8 bytes ∙ ap (λ (l : List ℕ). l ++ take 8 (drop 24 bytes)) (take-add 8 16 bytes)

pub read_header : (form : Form) (bytes : List ℕ) → IsBytes bytes → header_fault form bytes ≡ None → HasHeader form bytes (big_number 16 (take 16 (drop 8 bytes)))
read_header form bytes are none =
    let magic = kept_apart (bytes_eq (take 8 bytes) (magic_bytes form)) _ 0 none in
    let host = not_there (nat_lt (length bytes) 24) _ 8 magic.1 in
    let zeros = kept_apart (bytes_eq (take 8 (drop 24 bytes)) (replicate 8 0)) _ 24 host.1 in
    let gate = not_there (nat_lt (length bytes) 33) None 32 zeros.1 in
    let long : 33 ≤ length bytes = ltb-false (length bytes) 33 gate.0 in
    let number = big_number 16 (take 16 (drop 8 bytes)) in
    let sixteen : length (take 16 (drop 8 bytes)) ≡ 16 = omega (arith, length-take 16 (drop 8 bytes), length-drop 8 bytes, long) in
    let back : to_be_bytes w128 number ≡ take 16 (drop 8 bytes) = bytes_of_number 16 (take 16 (drop 8 bytes)) sixteen (IsBytes-take 16 (drop 8 bytes) (IsBytes-drop 8 bytes are)) in
    let fits : number < 2 ^ 128 = big_from-lt 0 16 (take 16 (drop 8 bytes)) (IsBytes-take 16 (drop 8 bytes) (IsBytes-drop 8 bytes are)) in
    let parts : take 32 bytes ≡ (take 8 bytes ++ take 16 (drop 8 bytes)) ++ take 8 (drop 24 bytes) = split_32 bytes in
    record {
      long = long;
      host_fits = fits;
      header = parts ∙ (λ i. (same_bytes (take 8 bytes) (magic_bytes form) magic.0 i ++ sym back i) ++ same_bytes (take 8 (drop 24 bytes)) (replicate 8 0) zeros.0 i);
    }
