-- The bytes of a generator's words.
use Rattle.std.proofs.Common.{◌≡◌, ℕ, ◌+◌, ◌*◌, ◌%◌, ◌<◌, ◌^◌, List, [], ◌∷◌, ◌++◌, length, take, refl, sym, ap, ◌∙◌, append-nil, arith}
use Rattle.std.specs.List.{range_with_len, flat_map}
use Rattle.std.specs.Int.{w64, to_le_bytes}
use Rattle.std.proofs.Math.Nat.{mod-add-mod, mod-eq_of_lt}
use Rattle.std.proofs.lemmas.Grind.{flat_map-append}
use Rattle.std.proofs.lemmas.List.FromFn.{map-range_with_len_more}
use Rattle.std.proofs.lemmas.List.{map-id}
use Rattle.rand_xoshiro.specs.SplitMix64.{mix_u64, next_state}
use Rattle.rehearsal_rules.specs.Words.{mixed, nth_word, drawn_bytes}
use Rattle.world_nodes.specs.Random.{state_after, word_bytes}

-- as many bytes as a call draws are the first of those
pub ten_of : (state : ℕ) → take 10 (word_bytes state 14) ≡ drawn_bytes state 0 10
ten_of state = refl

pub all_of : (state : ℕ) → take 106 (word_bytes state 14) ≡ drawn_bytes state 0 106
all_of state = refl

pub none_of : (state : ℕ) → [] ≡ drawn_bytes state 0 0
none_of state = refl

pub length_of : (state : ℕ) → length (word_bytes state 14) ≡ 112
length_of state = refl

pub below_modulus : (n : ℕ) → n % 2 ^ 64 < 2 ^ 64
below_modulus n = omega arith

-- ---- word by word

sum_then : (modulus state constant i : ℕ) → ((state + i * constant) % modulus + constant) % modulus ≡ (state + (i + 1) * constant) % modulus
sum_then modulus state constant i =
    let step : (i + 1) * constant ≡ i * constant + constant = omega arith in
    mod-add-mod (state + i * constant) modulus constant ∙ ap (λ sum. sum % modulus) (omega (arith, step))

pub state_then : (state i : ℕ) → next_state (state_after state i) ≡ state_after state (i + 1)
state_then state i = sum_then 0x10000000000000000 state 0x9e3779b97f4a7c15 i

-- the generator's next word
pub word_then : (state i : ℕ) → (mix_u64 (state_after state i)).0 ≡ nth_word state i
word_then state i = ap mixed (state_then state i)

range_then : (count : ℕ) → range_with_len 0 (count + 1) ≡ range_with_len 0 count ++ count ∷ []
range_then count = sym (map-id (range_with_len 0 (count + 1))) ∙ map-range_with_len_more (λ (n : ℕ). n) 0 count count (omega arith) ∙ ap (λ ns. ns ++ count ∷ []) (map-id (range_with_len 0 count))

-- its bytes behind those before
pub bytes_then : (state i : ℕ) → word_bytes state (i + 1) ≡ word_bytes state i ++ to_le_bytes w64 (nth_word state i)
bytes_then state i =
    let bytes : ℕ → List ℕ = λ n. to_le_bytes w64 (nth_word state n) in
    ap (λ ns. flat_map bytes ns) (range_then i) ∙ flat_map-append bytes (range_with_len 0 i) (i ∷ []) ∙ ap (λ bs. word_bytes state i ++ bs) (append-nil (bytes i))

pub state_first : (state : ℕ) → state < 2 ^ 64 → state_after state 0 ≡ state
state_first state below = let same : state + 0 ≡ state = omega arith in ap (λ (n : ℕ). n % 0x10000000000000000) same ∙ mod-eq_of_lt below
