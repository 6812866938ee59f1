-- The states of an input that grows: which block is its last, and what each block adds.
use Rattle.std.proofs.Common.{◌≡◌, ℕ, zero, suc, ◌+◌, ◌-◌, ◌*◌, ◌/◌, ◌%◌, ◌^◌, ◌≤◌, ◌∙◌, Bool, false, List, ◌++◌, length, take, drop, replicate, slice_range, refl, ap, sym, arith, length-append, length-drop, length-take}
use Rattle.std.proofs.lemmas.List.{append-nil, drop-append-le, drop-drop, drop-take, length-replicate, length-take-le, take-append-le, take-take}
use Rattle.blake2b_core.specs.Compression.{compress, working_vector}
use Rattle.blake2b_core.specs.Hash.{block, padded, state_after}
use Rattle.blake2b_core.specs.Hashing.{IsAfter}

-- the counter of a block counts modulo 2 ^ 128
pub compress_counter : (state b : List ℕ) (t u : ℕ) (last : Bool) → t % 2 ^ 128 ≡ u % 2 ^ 128 → compress state b t last ≡ compress state b u last
unfolding compress working_vector
compress_counter state b t u last same =
    let low : t % 2 ^ 64 ≡ u % 2 ^ 64 = omega arith in
    let high : t / 2 ^ 64 % 2 ^ 64 ≡ u / 2 ^ 64 % 2 ^ 64 = omega arith in
    rw (low, high) refl

-- a padded block is whole
pub length-padded : (bytes : List ℕ) → length bytes ≤ 128 → length (padded bytes) ≡ 128
length-padded bytes fits =
    omega (arith, length-append bytes (replicate (128 - length bytes) 0), length-replicate {A = ℕ} (128 - length bytes) 0)

-- and a whole block is padded
padded_whole : (bytes : List ℕ) → length bytes ≡ 128 → padded bytes ≡ bytes
padded_whole bytes whole =
    let none : 128 - length bytes ≡ 0 = omega arith in
    rw none (append-nil bytes)

-- block i of an input that has all of it
block_whole : (input : List ℕ) (i : ℕ) → 128 * i + 128 ≤ length input → block input i ≡ take 128 (drop (128 * i) input)
block_whole input i fits =
    let width : 128 * i + 128 - 128 * i ≡ 128 = omega arith in
    rw width (padded_whole (take 128 (drop (128 * i) input)) (length-take-le 128 (drop (128 * i) input) (omega (arith, length-drop (128 * i) input))))

-- what follows a block changes nothing of it
block-append : (input more : List ℕ) (i : ℕ) → 128 * i + 128 ≤ length input → block (input ++ more) i ≡ block input i
block-append input more i fits =
    let part : take 128 (drop (128 * i) (input ++ more)) ≡ take 128 (drop (128 * i) input) =
    rw (drop-append-le (128 * i) input more (omega arith))
    (take-append-le 128 (drop (128 * i) input) more (omega (arith, length-drop (128 * i) input))) in
    block_whole (input ++ more) i (omega (arith, length-append input more)) ∙ part ∙ sym (block_whole input i fits)

-- and nothing of the state after whole blocks
pub state_after-append : (start input more : List ℕ) (n : ℕ) → 128 * n ≤ length input → state_after start (input ++ more) n ≡ state_after start input n
unfolding state_after
state_after-append start input more zero fits = refl
state_after-append start input more (suc n) fits =
    rw (state_after-append start input more n (omega arith), block-append input more n (omega arith)) refl

state_after_next : (start input : List ℕ) (n : ℕ) → state_after start input (n + 1) ≡ compress (state_after start input n) (block input n) (128 * (n + 1)) false
unfolding state_after
state_after_next start input n =
    let next : n + 1 ≡ suc n = omega arith in
    ap (state_after start input) next

-- one more block
IsAfter_next : (start input : List ℕ) (n : ℕ) (state : List ℕ) (count : ℕ) (b : List ℕ) → IsAfter start input n state count
    → length b ≡ 128 → take 128 (drop (128 * n) input) ≡ b → IsAfter start input (n + 1) (compress state b ((count + 128) % 2 ^ 128) false) ((count + 128) % 2 ^ 128)
IsAfter_next start input n state count b after whole at =
    let len : length (take 128 (drop (128 * n) input)) ≡ 128 = ap length at ∙ whole in
    let fits : 128 * n + 128 ≤ length input = omega (arith, length-take 128 (drop (128 * n) input), length-drop (128 * n) input) in
    let count_is : (count + 128) % 2 ^ 128 ≡ 128 * (n + 1) % 2 ^ 128 = omega (arith, after.count_is) in
    let same : ((count + 128) % 2 ^ 128) % 2 ^ 128 ≡ 128 * (n + 1) % 2 ^ 128 = omega arith in
    let here : b ≡ block input n = sym (block_whole input n fits ∙ at) in
    record {
      state_is =
          compress_counter state b ((count + 128) % 2 ^ 128) (128 * (n + 1)) false same
          ∙ rw (after.state_is, here) (sym (state_after_next start input n));
      count_is = count_is;
    }

-- block by block of a part of the input
pub IsAfter_part : (start input : List ℕ) (n : ℕ) (state : List ℕ) (count : ℕ) (blocks : List ℕ) (i : ℕ) → IsAfter start input (n + i) state count
    → take (length blocks) (drop (128 * n) input) ≡ blocks → 128 * i + 128 ≤ length blocks
    → IsAfter start input (n + (i + 1)) (compress state (slice_range blocks (128 * i) (128 * i + 128)) ((count + 128) % 2 ^ 128) false) ((count + 128) % 2 ^ 128)
IsAfter_part start input n state count blocks i after part fits =
    let b : List ℕ = slice_range blocks (128 * i) (128 * i + 128) in
    let width : 128 * i + 128 - 128 * i ≡ 128 = omega arith in
    let left : 128 * i + (length blocks - 128 * i) ≡ length blocks = omega arith in
    let place : 128 * n + 128 * i ≡ 128 * (n + i) = omega arith in
    let whole : length b ≡ 128 = rw width (length-take-le 128 (drop (128 * i) blocks) (omega (arith, length-drop (128 * i) blocks))) in
    let rest : take (length blocks - 128 * i) (drop (128 * (n + i)) input) ≡ drop (128 * i) blocks =
    rw (← place, ← drop-drop (128 * i) (128 * n) input, ← drop-take (128 * i) (length blocks - 128 * i) (drop (128 * n) input), left, part) refl in
    let at : take 128 (drop (128 * (n + i)) input) ≡ b =
    rw width (sym (take-take 128 (length blocks - 128 * i) (drop (128 * (n + i)) input) (omega arith)) ∙ ap (take 128) rest) in
    let next : n + (i + 1) ≡ (n + i) + 1 = omega arith in
    rw next (IsAfter_next start input (n + i) state count b after whole at)
