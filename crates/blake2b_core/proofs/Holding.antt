-- What a hasher holds as its text grows.
use Rattle.std.proofs.Common.{◌≡◌, ℕ, ◌+◌, ◌-◌, ◌*◌, ◌/◌, ◌%◌, ◌^◌, ◌<◌, ◌≤◌, ◌∙◌, true, List, [], ◌∷◌, ◌++◌, length, take, drop, slice_range, refl, ap, sym, arith, length-append, length-drop}
use Rattle.std.proofs.lemmas.List.{append-nil, append_assoc, drop-append-le, drop-drop, length-take-le, take_all}
use Rattle.std.proofs.Math.Seq.{take-append-add, drop-append-add}
use Rattle.std.specs.Int.{w64, to_le_bytes}
use Rattle.std.specs.List.{flat_map}
use Rattle.blake2b_core.specs.Compression.{compress}
use Rattle.blake2b_core.specs.Hash.{blake2b, block, initial_state, input_of, last_block, padded, state_after}
use Rattle.blake2b_core.specs.Hashing.{Holds, IsAfter}
use Rattle.blake2b_core.proofs.Blocks.{compress_counter, length-padded, state_after-append}

input_of-append : (key text more : List ℕ) → input_of key (text ++ more) ≡ input_of key text ++ more
input_of-append [] text more = refl
input_of-append (k ∷ key) text more = sym (append_assoc (padded (k ∷ key)) text more)

-- with no text the input is one block at most
length-input_of_none : (key : List ℕ) → length key ≤ 128 → length (input_of key []) ≤ 128
length-input_of_none [] fits = omega arith
length-input_of_none (k ∷ key) fits =
    omega (arith, length-append (padded (k ∷ key)) [], length-padded (k ∷ key) fits)

-- with no key either it is empty
pub input_of_nothing : (key : List ℕ) → length key ≡ 0 → input_of key [] ≡ []
input_of_nothing [] none = refl
input_of_nothing (k ∷ key) none = absurd (omega (arith, none))

-- and with a key it is the key's block
pub input_of_key : (key : List ℕ) → 0 < length key → input_of key [] ≡ padded key
input_of_key [] some = absurd (omega (arith, some))
input_of_key (k ∷ key) some = append-nil (padded (k ∷ key))

-- a new hasher
pub Holds_none : (out_len : ℕ) (key : List ℕ) (count : ℕ) (held : List ℕ) → length key ≤ 128 → count ≡ 0 → held ≡ input_of key []
    → Holds (record { out_len = out_len; state = initial_state out_len (length key); count = count; held = held }) key []
unfolding Holds state_after
Holds_none out_len key count held fits none is =
    let first : last_block (input_of key []) ≡ 0 = omega (arith, length-input_of_none key fits) in
    rw first (record { state_is = refl; count_is = none }, is)

module _ (out_len : ℕ) (state : List ℕ) (count : ℕ) (held key text : List ℕ)
    (holds : Holds (record { out_len = out_len; state = state; count = count; held = held }) key text) where
  -- how much it holds
  pub length-held : length held ≡ length (input_of key text) - 128 * last_block (input_of key text)
  unfolding Holds
  length-held = ap length holds.1 ∙ length-drop (128 * last_block (input_of key text)) (input_of key text)

  -- what it holds, and more
  held-append : (more : List ℕ) → drop (128 * last_block (input_of key text)) (input_of key text ++ more) ≡ held ++ more
  unfolding Holds
  held-append more =
      drop-append-le (128 * last_block (input_of key text)) (input_of key text) more (omega arith)
      ∙ ap (λ (front : List ℕ). front ++ more) (sym holds.1)

  -- it stands at the same block of a longer input
  IsAfter-append : (more : List ℕ) → IsAfter (initial_state out_len (length key)) (input_of key text ++ more) (last_block (input_of key text)) state count
  unfolding Holds
  IsAfter-append more =
      let same = state_after-append (initial_state out_len (length key)) (input_of key text) more (last_block (input_of key text)) (omega arith) in
      record { state_is = holds.0.state_is ∙ sym same; count_is = holds.0.count_is }

  -- a piece that fits beside what is held
  pub Holds_short : (piece new : List ℕ) → length held + length piece ≤ 128 → new ≡ held ++ piece
      → Holds (record { out_len = out_len; state = state; count = count; held = new }) key (text ++ piece)
  unfolding Holds
  Holds_short piece new fits is =
      let same : last_block (input_of key text ++ piece) ≡ last_block (input_of key text) =
      omega (arith, length-append (input_of key text) piece, length-held) in
      rw (input_of-append key text piece, same) (IsAfter-append piece, is ∙ sym (held-append piece))

  -- a piece that doesn't: what is held is filled up to a block, and then come the whole blocks of the
  -- rest, but for the last
  module _ (piece full blocks : List ℕ) (room : ℕ) (state1 : List ℕ) (count1 : ℕ) (state2 : List ℕ) (count2 : ℕ)
      (room_is : room + length held ≡ 128) (long : room < length piece) (full_is : full ≡ held ++ take room piece)
      (fills : (start input : List ℕ) (n : ℕ) → IsAfter start input n state count → take (length full) (drop (128 * n) input) ≡ full
      → IsAfter start input (n + length full / 128) state1 count1)
      (blocks_are : blocks ≡ take ((length piece - room - 1) / 128 * 128) (drop room piece))
      (absorbs : (start input : List ℕ) (n : ℕ) → IsAfter start input n state1 count1 → take (length blocks) (drop (128 * n) input) ≡ blocks
      → IsAfter start input (n + length blocks / 128) state2 count2) where
    length-full : length full ≡ 128
    length-full =
        let front : length (take room piece) ≡ room = length-take-le room piece (omega arith) in
        ap length full_is ∙ length-append held (take room piece) ∙ omega arith

    IsAfter_full : IsAfter (initial_state out_len (length key)) (input_of key text ++ piece) (last_block (input_of key text) + 1) state1 count1
    IsAfter_full =
        let split : 128 ≡ length held + room = omega arith in
        let at : take (length full) (drop (128 * last_block (input_of key text)) (input_of key text ++ piece)) ≡ full =
        rw (length-full, held-append piece, split, full_is) (take-append-add held piece room) in
        let after = fills (initial_state out_len (length key)) (input_of key text ++ piece) (last_block (input_of key text)) (IsAfter-append piece) at in
        rw length-full at after

    rest-is : drop (128 * (last_block (input_of key text) + 1)) (input_of key text ++ piece) ≡ drop room piece
    rest-is =
        let place : 128 * (last_block (input_of key text) + 1) ≡ 128 * last_block (input_of key text) + (length held + room) = omega arith in
        rw (place, ← drop-drop (length held + room) (128 * last_block (input_of key text)) (input_of key text ++ piece), held-append piece)
        (drop-append-add held piece room)

    length-blocks : length blocks ≡ (length piece - room - 1) / 128 * 128
    length-blocks =
        ap length blocks_are
        ∙ length-take-le ((length piece - room - 1) / 128 * 128) (drop room piece) (omega (arith, length-drop room piece))

    pub Holds_long : (tail : List ℕ) → tail ≡ drop ((length piece - room - 1) / 128 * 128) (drop room piece)
        → Holds (record { out_len = out_len; state = state2; count = count2; held = tail }) key (text ++ piece)
    unfolding Holds
    Holds_long tail tail_is =
        let next : ℕ = last_block (input_of key text) + 1 in
        let at : take (length blocks) (drop (128 * next) (input_of key text ++ piece)) ≡ blocks = rw (rest-is, length-blocks) (sym blocks_are) in
        let after = absorbs (initial_state out_len (length key)) (input_of key text ++ piece) next IsAfter_full at in
        let last : last_block (input_of key text ++ piece) ≡ next + length blocks / 128 =
        omega (arith, length-append (input_of key text) piece, length-held, length-blocks) in
        let place : 128 * (next + length blocks / 128) ≡ 128 * next + (length piece - room - 1) / 128 * 128 = omega (arith, length-blocks) in
        rw (input_of-append key text piece, last) (
          after,
          rw (place, ← drop-drop ((length piece - room - 1) / 128 * 128) (128 * next) (input_of key text ++ piece), rest-is) tail_is,
        )

  -- the hash
  pub Holds_final : take out_len (flat_map (to_le_bytes w64) (compress state (padded held) ((count + length held) % 2 ^ 128) true)) ≡ blake2b out_len key text
  unfolding Holds blake2b
  Holds_final =
      let input : List ℕ = input_of key text in
      let last : ℕ = last_block input in
      let width : 128 * last + 128 - 128 * last ≡ 128 = omega arith in
      let here : slice_range input (128 * last) (128 * last + 128) ≡ held =
      rw width (take_all 128 (drop (128 * last) input) (omega (arith, length-drop (128 * last) input)) ∙ sym holds.1) in
      let all : ((count + length held) % 2 ^ 128) % 2 ^ 128 ≡ length input % 2 ^ 128 = omega (arith, length-held, holds.0.count_is) in
      let final : compress state (padded held) ((count + length held) % 2 ^ 128) true
      ≡ compress (state_after (initial_state out_len (length key)) input last) (block input last) (length input) true =
      compress_counter state (padded held) ((count + length held) % 2 ^ 128) (length input) true all
      ∙ rw (here, holds.0.state_is) refl in
      ap (λ (s : List ℕ). take out_len (flat_map (to_le_bytes w64) s)) final
