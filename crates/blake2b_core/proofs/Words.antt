-- The bytes of a list of words.
use Rattle.std.proofs.Common.{◌≡◌, ℕ, ◌+◌, ◌*◌, ◌<◌, ◌≤◌, List, [], ◌∷◌, ◌++◌, length, length-drop, add-zero, take, drop, slice_index, slice_range, get_or, Fits, w8, refl, ap, arith, ◌-◌, ◌^◌, ◌∙◌}
use Rattle.std.proofs.lemmas.Grind.{flat_map-append}
use Rattle.std.proofs.lemmas.List.{drop-drop, drop-take, length-take-le, take-take, take_more}
use Rattle.std.proofs.lemmas.Slice.{take-put_mid}
use Rattle.std.specs.Int.{w64, from_le_bytes, to_le_bytes}
use Rattle.std.specs.List.{flat_map}
use Rattle.std.proofs.lemmas.Simd.{below_from_Fits, chunk-fits, get_or_wider}
use Rattle.std.specs.Simd.Lanes.{chunk, digits_l, number_l}
use Rattle.blake2b_core.specs.Compression.{word_at}
use Rattle.blake2b_core.proofs.Compressing.{elements_all}
use borrow.Rule.Slice.PartMut.{put_mid}

-- one more word is written
pub bytes_more : (bytes words word : List ℕ) (i k : ℕ) → take (8 * i) bytes ≡ flat_map (to_le_bytes w64) (take i words)
    → i < length words → 8 * i ≤ length bytes → word ≡ to_le_bytes w64 (slice_index words i)
    → take (8 * (i + 1)) (put_mid (8 * i) k bytes word) ≡ flat_map (to_le_bytes w64) (take (i + 1) words)
bytes_more bytes words word i k written below fits is =
    let len : length word ≡ 8 = rw is refl in
    let front : take (8 * (i + 1)) (put_mid (8 * i) k bytes word) ≡ take (8 * i) bytes ++ word =
    take-put_mid (8 * i) k bytes word (8 * (i + 1)) (omega arith) fits in
    rw (front, written, is, take_more words i 0 below, flat_map-append (to_le_bytes w64) (take i words) (slice_index words i ∷ [])) refl

-- a number by its eight bytes
word_of_bytes : (bytes : List ℕ) → length bytes ≡ 8 → number_l 256 bytes ≡ from_le_bytes w64 bytes
word_of_bytes bytes len =
    let all = elements_all bytes 0 8 len in
    ap (number_l 256) all ∙ omega arith

-- eight bytes of a part of a block
part_of_block : (block : List ℕ) (i j : ℕ) → j < 4 → chunk (8 * j) 8 (chunk (8 * i) 32 block) ≡ slice_range block (8 * (i + j)) (8 * (i + j) + 8)
part_of_block block i j below =
    let split : 8 * j + (32 - 8 * j) ≡ 32 = omega arith in
    let place : 8 * i + 8 * j ≡ 8 * (i + j) = omega arith in
    let width : 8 * (i + j) + 8 - 8 * (i + j) ≡ 8 = omega arith in
    rw (width, ← split, drop-take (8 * j) (32 - 8 * j) (drop (8 * i) block), take-take 8 (32 - 8 * j) (drop (8 * j) (drop (8 * i) block)) (omega arith), drop-drop (8 * j) (8 * i) block, place) refl

-- a word of 32 bytes of a block
word_of_part : (block : List ℕ) (i j : ℕ) → 8 * i + 32 ≤ length block → ((k : ℕ) → Fits w8 (get_or block k 0)) → j < 4
    → get_or (digits_l (2 ^ 64) 4 (number_l 256 (chunk (8 * i) 32 block))) j 0 ≡ word_at block (i + j)
unfolding word_at
word_of_part block i j fits bytes below =
    let part = chunk (8 * i) 32 block in
    let small = below_from_Fits w8 part (chunk-fits w8 (8 * i) 32 block bytes) in
    let width : 8 * (i + j) + 8 - 8 * (i + j) ≡ 8 = omega arith in
    let len : length (slice_range block (8 * (i + j)) (8 * (i + j) + 8)) ≡ 8 =
    rw width (length-take-le 8 (drop (8 * (i + j)) block) (omega (arith, length-drop (8 * (i + j)) block))) in
    get_or_wider 256 8 (2 ^ 64) 4 part j refl small below
    ∙ ap (number_l 256) (part_of_block block i j below)
    ∙ word_of_bytes (slice_range block (8 * (i + j)) (8 * (i + j) + 8)) len

-- and all four
pub four_words : (block : List ℕ) (i : ℕ) → 8 * i + 32 ≤ length block → ((k : ℕ) → Fits w8 (get_or block k 0))
    → digits_l (2 ^ 64) 4 (number_l 256 (chunk (8 * i) 32 block)) ≡ word_at block i ∷ word_at block (i + 1) ∷ word_at block (i + 2) ∷ word_at block (i + 3) ∷ []
four_words block i fits bytes =
    let word = λ (j : ℕ) (below : j < 4). word_of_part block i j fits bytes below in
    let first = word 0 (omega arith) ∙ ap (word_at block) (add-zero i) in
    let second = word 1 (omega arith) in
    let third = word 2 (omega arith) in
    let fourth = word 3 (omega arith) in
    λ k. first k ∷ second k ∷ third k ∷ fourth k ∷ []
