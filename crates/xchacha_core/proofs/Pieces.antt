-- A text that is xored from the front on: what is done, and what is left.
use Rattle.std.proofs.Common.{◌≡◌, ℕ, zero, suc, ◌+◌, ◌*◌, ◌/◌, ◌%◌, ◌<◌, ◌≤◌, List, [], ◌∷◌, ◌++◌, length, take, drop, slice_index, bit_xor, refl, ap, ap₂, sym, ◌∙◌, arith, append_assoc, zero-add}
use Rattle.std.proofs.lemmas.List.{length-take-le, take_at, drop_at, drop-drop, append-nil, get_or-drop, length-take, take_all, drop_all, take-append-le, take-take}
use Rattle.std.proofs.Math.Seq.{take-add}
use borrow.Rule.Slice.PartMut.{put_mid}
use Rattle.xchacha_core.specs.ChaCha.{block_of, chacha20_block, state_of, word_at}
use Rattle.xchacha_core.specs.Rows.{byte_of_blocks}
use Rattle.xchacha_core.specs.Stream.{hchacha20_of, key_stream, xored}
use Rattle.xchacha_core.proofs.StreamLaws.{length-xored, xored-append, xored-same}

-- a text whose first bytes are xored, and whose others stand as they were
abbrev pub xored_up_to : (ℕ → ℕ) → List ℕ → ℕ → List ℕ
xored_up_to stream text at = xored stream 0 (take at text) ++ drop at text

pub xored_up_to-start : (stream : ℕ → ℕ) (text : List ℕ) → xored_up_to stream text 0 ≡ text
unfolding xored
xored_up_to-start stream text = refl

pub xored_up_to-end : (stream : ℕ → ℕ) (text : List ℕ) (at : ℕ) → length text ≤ at → xored_up_to stream text at ≡ xored stream 0 text
xored_up_to-end stream text at past =
    rw (take_all at text past, drop_all at text past, append-nil) refl

length-done : (stream : ℕ → ℕ) (text : List ℕ) (at : ℕ) → at ≤ length text → length (xored stream 0 (take at text)) ≡ at
length-done stream text at within = length-xored stream 0 (take at text) ∙ length-take-le at text within

-- what is done after one piece more
done_more : (stream : ℕ → ℕ) (text : List ℕ) (at k : ℕ) → at ≤ length text
    → xored stream 0 (take (at + k) text) ≡ xored stream 0 (take at text) ++ xored stream at (take k (drop at text))
done_more stream text at k within =
    ap (xored stream 0) (take-add at k text)
    ∙ xored-append stream 0 (take at text) (take k (drop at text))
    ∙ ap (λ (place : ℕ). xored stream 0 (take at text) ++ xored stream place (take k (drop at text)))
    (zero-add (length (take at text)) ∙ length-take-le at text within)

-- one piece of k bytes more, by a function that agrees with the stream there
pub piece_more : (stream block : ℕ → ℕ) (text : List ℕ) (at k : ℕ) → at + k ≤ length text
    → ((j : ℕ) → j < k → block j ≡ stream (at + j))
    → put_mid at k (xored_up_to stream text at) (xored block 0 (take k (drop at (xored_up_to stream text at))))
    ≡ xored_up_to stream text (at + k)
piece_more stream block text at k within same =
    let inside : at ≤ length text = omega arith in
    let done : length (xored stream 0 (take at text)) ≡ at = length-done stream text at inside in
    let piece = take k (drop at text) in
    let agrees : xored block 0 piece ≡ xored stream at piece =
    xored-same block stream 0 at piece (λ j below.
    rw (zero-add j) (same j (omega (arith, length-take k (drop at text))))) in
    rw (
      take_at (xored stream 0 (take at text)) (drop at text) at done,
      drop_at (xored stream 0 (take at text)) (drop at text) at done,
      drop-drop k at text,
      agrees,
      done_more stream text at k inside,
    )
    (sym (append_assoc (xored stream 0 (take at text)) (xored stream at piece) (drop (at + k) text)))

-- the same of a piece that was xored by itself
pub part_more : (stream block : ℕ → ℕ) (text part piece : List ℕ) (at k : ℕ) → at + k ≤ length text
    → ((j : ℕ) → j < k → block j ≡ stream (at + j))
    → part ≡ xored_up_to stream text at
    → piece ≡ xored block 0 (take k (drop at part))
    → put_mid at k part piece ≡ xored_up_to stream text (at + k)
part_more stream block text part piece at k within same part_is piece_is =
    rw (piece_is, part_is) (piece_more stream block text at k within same)

-- the two words of the nonce's last 8 bytes, behind four bytes 0
nonce_words : (nonce : List ℕ) → (word_at (0 ∷ 0 ∷ 0 ∷ 0 ∷ drop 16 nonce) 1 ≡ word_at nonce 4)
    × (word_at (0 ∷ 0 ∷ 0 ∷ 0 ∷ drop 16 nonce) 2 ≡ word_at nonce 5)
nonce_words nonce = (simp get_or-drop, simp get_or-drop)

-- byte j of the blocks from counter c on is byte 64 * c + j of the key stream
block_stream : (key nonce : List ℕ) (c j : ℕ)
    → byte_of_blocks (state_of (hchacha20_of key (take 16 nonce)) (0 ∷ 0 ∷ word_at nonce 4 ∷ word_at nonce 5 ∷ [])) c j ≡ key_stream key nonce (64 * c + j)
unfolding key_stream chacha20_block
block_stream key nonce c j =
    let block : (64 * c + j) / 64 ≡ c + j / 64 = omega arith in
    let place : (64 * c + j) % 64 ≡ j % 64 = omega arith in
    let words = nonce_words nonce in
    rw (block, place) (ap₂ (λ (x y : ℕ). slice_index (block_of (state_of (hchacha20_of key (take 16 nonce)) ((c + j / 64) ∷ 0 ∷ x ∷ y ∷ []))) (j % 64))
    (sym words.0) (sym words.1))

-- one piece of k bytes more, by the blocks from counter c on
pub blocks_more : (key nonce text buf piece state : List ℕ) (c at k : ℕ) → at ≡ 64 * c → at + k ≤ length text
    → state ≡ state_of (hchacha20_of key (take 16 nonce)) (0 ∷ 0 ∷ word_at nonce 4 ∷ word_at nonce 5 ∷ [])
    → buf ≡ xored_up_to (key_stream key nonce) text at
    → piece ≡ xored (byte_of_blocks state c) 0 (take k (drop at buf))
    → put_mid at k buf piece ≡ xored_up_to (key_stream key nonce) text (at + k)
blocks_more key nonce text buf piece state c at k place within state_is buf_is piece_is =
    part_more (key_stream key nonce) (byte_of_blocks state c) text buf piece at k within
    (λ j below. rw (state_is, place) (block_stream key nonce c j)) buf_is piece_is

-- the first bytes of a text that is xored are those that the first bytes become
pub take-xored : (stream : ℕ → ℕ) (place n : ℕ) (text : List ℕ) → take n (xored stream place text) ≡ xored stream place (take n text)
unfolding xored
take-xored stream place zero text = refl
take-xored stream place (suc n) [] = refl
take-xored stream place (suc n) (byte ∷ text) = ap (λ (rest : List ℕ). bit_xor byte (stream place) ∷ rest) (take-xored stream (place + 1) n text)

-- some of the first k bytes, of which all were xored
pub first_xored : (stream : ℕ → ℕ) (text piece : List ℕ) (n k : ℕ) → n ≤ k → k ≤ length text → piece ≡ xored stream 0 (take k text)
    → take n (put_mid 0 k text piece) ≡ xored stream 0 (take n text)
first_xored stream text piece n k few within piece_is =
    let long : length piece ≡ k = ap length piece_is ∙ length-xored stream 0 (take k text) ∙ length-take-le k text within in
    take-append-le n piece (drop k text) (omega arith)
    ∙ ap (take n) piece_is ∙ take-xored stream 0 n (take k text)
    ∙ ap (xored stream 0) (take-take n k text few)
