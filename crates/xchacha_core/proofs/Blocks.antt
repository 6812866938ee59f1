-- The bytes of the blocks whose states stand side by side in four rows.
use Rattle.std.proofs.Common.{◌≡◌, ℕ, ◌+◌, ◌*◌, ◌/◌, ◌%◌, ◌<◌, ◌≤◌, ◌∙◌, List, [], ◌∷◌, ◌++◌, length, take, drop, slice_index, slice_set, ap, sym, arith, add-zero, zero-add}
use Rattle.std.proofs.lemmas.Simd.{get_or-zip2, length-zip2}
use Rattle.std.specs.Simd.Lanes.{zip2}
use borrow.Rule.Slice.PartMut.{put_mid}
use Rattle.xchacha_core.specs.ChaCha.{block_of, double_rounds, serialized, word_sum}
use Rattle.xchacha_core.specs.Rows.{HasWidth, Rows, block_state, byte_of_blocks, four_words}
use Rattle.xchacha_core.specs.Stream.{xored}
use Rattle.xchacha_core.proofs.Pieces.{part_more, xored_up_to}
use Rattle.xchacha_core.proofs.StreamLaws.{xored-same}

-- rows added lane by lane
abbrev pub sums : Rows → Rows → Rows
sums ended begun = (zip2 word_sum ended.0 begun.0, zip2 word_sum ended.1 begun.1, zip2 word_sum ended.2 begun.2, zip2 word_sum ended.3 begun.3)

pub sums_wide : (width : ℕ) (ended begun : Rows) → HasWidth width ended → HasWidth width begun → HasWidth width (sums ended begun)
sums_wide width ended begun wide wide' = (
  omega (arith, length-zip2 word_sum ended.0 begun.0 (omega arith)),
  omega (arith, length-zip2 word_sum ended.1 begun.1 (omega arith)),
  omega (arith, length-zip2 word_sum ended.2 begun.2 (omega arith)),
  omega (arith, length-zip2 word_sum ended.3 begun.3 (omega arith)),
)

four_sums : (xs ys : List ℕ) (i : ℕ) → i + 4 ≤ length xs → i + 4 ≤ length ys → four_words (zip2 word_sum xs ys) i ≡ zip2 word_sum (four_words xs i) (four_words ys i)
four_sums xs ys i long long' =
    let sum : (k : ℕ) → k < length xs → k < length ys → slice_index (zip2 word_sum xs ys) k ≡ word_sum (slice_index xs k) (slice_index ys k) =
    λ k below below'. get_or-zip2 word_sum xs ys k 0 0 0 below below' in
    let first = sum i (omega arith) (omega arith) in
    let second = sum (i + 1) (omega arith) (omega arith) in
    let third = sum (i + 2) (omega arith) (omega arith) in
    let fourth = sum (i + 3) (omega arith) (omega arith) in
    λ k. first k ∷ second k ∷ third k ∷ fourth k ∷ []

-- the words of a block that was begun, run and added to what it began from
block_bytes : (width b counter : ℕ) (start begun ended : Rows) → 4 * b + 4 ≤ width → HasWidth width begun → HasWidth width ended
    → block_state begun b ≡ slice_set (block_state start 0) 12 (counter + b)
    → block_state ended b ≡ double_rounds 10 (block_state begun b)
    → serialized (block_state (sums ended begun) b) ≡ block_of (slice_set (block_state start 0) 12 (counter + b))
unfolding block_of
block_bytes width b counter start begun ended fits wide wide' begun_is ended_is =
    let first = four_sums ended.0 begun.0 (4 * b) (omega arith) (omega arith) in
    let second = four_sums ended.1 begun.1 (4 * b) (omega arith) (omega arith) in
    let third = four_sums ended.2 begun.2 (4 * b) (omega arith) (omega arith) in
    let fourth = four_sums ended.3 begun.3 (4 * b) (omega arith) (omega arith) in
    let words : block_state (sums ended begun) b ≡ zip2 word_sum (block_state ended b) (block_state begun b) =
    λ k. first k ++ second k ++ third k ++ fourth k in
    let run : block_state ended b ≡ double_rounds 10 (slice_set (block_state start 0) 12 (counter + b)) = ended_is ∙ ap (double_rounds 10) begun_is in
    ap serialized (words ∙ (λ k. zip2 word_sum (run k) (begun_is k)))

-- and byte by byte
pub byte_of_block : (width b counter : ℕ) (start begun ended : Rows) → 4 * b + 4 ≤ width → HasWidth width begun → HasWidth width ended
    → block_state begun b ≡ slice_set (block_state start 0) 12 (counter + b)
    → block_state ended b ≡ double_rounds 10 (block_state begun b)
    → (j : ℕ) → j < 64 → slice_index (serialized (block_state (sums ended begun) b)) j ≡ byte_of_blocks (block_state start 0) counter (64 * b + j)
byte_of_block width b counter start begun ended fits wide wide' begun_is ended_is j below =
    let block : (64 * b + j) / 64 ≡ b = omega arith in
    let place : (64 * b + j) % 64 ≡ j = omega arith in
    rw (block, place) (ap (λ (bytes : List ℕ). slice_index bytes j) (block_bytes width b counter start begun ended fits wide wide' begun_is ended_is))

-- a text of one block
pub xored_by_block : (counter : ℕ) (start begun ended : Rows) (text : List ℕ) → HasWidth 4 begun → HasWidth 4 ended → length text ≡ 64
    → block_state begun 0 ≡ slice_set (block_state start 0) 12 counter
    → block_state ended 0 ≡ double_rounds 10 (block_state begun 0)
    → xored (slice_index (serialized (block_state (sums ended begun) 0))) 0 text ≡ xored (byte_of_blocks (block_state start 0) counter) 0 text
xored_by_block counter start begun ended text wide wide' long begun_is ended_is =
    let first : block_state begun 0 ≡ slice_set (block_state start 0) 12 (counter + 0) = begun_is ∙ ap (slice_set (block_state start 0) 12) (sym (add-zero counter)) in
    let same = byte_of_block 4 0 counter start begun ended (omega arith) wide wide' first ended_is in
    xored-same (slice_index (serialized (block_state (sums ended begun) 0))) (byte_of_blocks (block_state start 0) counter) 0 0 text
    (λ k below. rw (zero-add k) (same k (omega arith) ∙ ap (byte_of_blocks (block_state start 0) counter) (zero-add k)))

-- one block more of a text, by the rows that were taken of it
pub block_more : (width b counter : ℕ) (start begun ended taken : Rows) (text part piece : List ℕ) → 4 * b + 4 ≤ width → HasWidth width begun → HasWidth width ended
    → block_state begun b ≡ slice_set (block_state start 0) 12 (counter + b)
    → block_state ended b ≡ double_rounds 10 (block_state begun b)
    → 64 * b + 64 ≤ length text
    → taken.0 ≡ four_words (sums ended begun).0 (4 * b) → taken.1 ≡ four_words (sums ended begun).1 (4 * b)
    → taken.2 ≡ four_words (sums ended begun).2 (4 * b) → taken.3 ≡ four_words (sums ended begun).3 (4 * b)
    → part ≡ xored_up_to (byte_of_blocks (block_state start 0) counter) text (64 * b)
    → piece ≡ xored (slice_index (serialized (block_state taken 0))) 0 (take 64 (drop (64 * b) part))
    → put_mid (64 * b) 64 part piece ≡ xored_up_to (byte_of_blocks (block_state start 0) counter) text (64 * b + 64)
block_more width b counter start begun ended taken text part piece fits wide wide' begun_is ended_is long first second third fourth part_is piece_is =
    let words : block_state taken 0 ≡ block_state (sums ended begun) b =
    λ k. four_words (first k) 0 ++ four_words (second k) 0 ++ four_words (third k) 0 ++ four_words (fourth k) 0 in
    part_more (byte_of_blocks (block_state start 0) counter) (slice_index (serialized (block_state (sums ended begun) b))) text part piece (64 * b) 64 long
    (byte_of_block width b counter start begun ended fits wide wide' begun_is ended_is)
    part_is (piece_is ∙ ap (λ (state : List ℕ). xored (slice_index (serialized state)) 0 (take 64 (drop (64 * b) part))) words)
