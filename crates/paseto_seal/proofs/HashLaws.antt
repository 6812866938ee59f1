-- A hash has as many bytes as were asked for.
use Rattle.std.proofs.Common.{◌≡◌, ℕ, ◌*◌, ◌≤◌, Bool, true, List, [], ◌∷◌, length, arith, refl}
use Rattle.std.specs.List.{flat_map}
use Rattle.std.specs.Int.{w64, to_le_bytes}
use Rattle.std.proofs.lemmas.List.{length-append, length-take}
use Rattle.base64.specs.GeneralPurpose.{IsBytes}
use Rattle.blake2b_core.specs.Hash.{blake2b, block, final_state, initial_state, input_of, last_block, state_after}
use Rattle.blake2b_core.specs.Compression.{compress, fold_halves}
use Rattle.paseto_seal.proofs.Bytes.{low_first_bytes, flat_map_bytes, take_bytes}

words_length : (words : List ℕ) → length (flat_map (to_le_bytes w64) words) ≡ 8 * length words
words_length [] = refl
words_length (word ∷ words) = let more = words_length words in omega (arith, length-append (to_le_bytes w64 word) (flat_map (to_le_bytes w64) words))

eight_words : (state bytes : List ℕ) (count : ℕ) (last : Bool) → length (compress state bytes count last) ≡ 8
unfolding compress fold_halves
eight_words state bytes count last = refl

pub length-blake2b : (out_len : ℕ) (key text : List ℕ) → out_len ≤ 64 → length (blake2b out_len key text) ≡ out_len
unfolding blake2b
length-blake2b out_len key text short =
    let start = initial_state out_len (length key) in
    let input = input_of key text in
    let last = last_block input in
    let words = eight_words (state_after start input last) (block input last) (length input) true in
    rw length-take (omega (arith, words_length (final_state start input), words))

pub blake2b_bytes : (out_len : ℕ) (key text : List ℕ) → IsBytes (blake2b out_len key text)
unfolding blake2b
blake2b_bytes out_len key text = take_bytes out_len _ (flat_map_bytes (to_le_bytes w64) (low_first_bytes 0 8) _)
