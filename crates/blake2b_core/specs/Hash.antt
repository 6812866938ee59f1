-- BLAKE2b of a key and a text (RFC 7693, section 3.3), as a function on lists of bytes.
use Rattle.std.specs.Prelude.{ℕ, zero, suc, ◌+◌, ◌-◌, ◌*◌, ◌/◌, ◌^◌, true, false, List, [], ◌∷◌, ◌++◌, length, take, drop, replicate, bit_xor, slice_index, slice_range}
use Rattle.std.specs.List.{flat_map}
use Rattle.std.specs.Int.{w64, to_le_bytes}
use Rattle.blake2b_core.specs.Constants.{initialization_vector}
use Rattle.blake2b_core.specs.Compression.{compress}

-- these bytes, at most 128, and zeros up to a whole block
abbrev pub padded : List ℕ → List ℕ
padded bytes = bytes ++ replicate (128 - length bytes) 0

-- what is hashed: the text, after the padded key where the key isn't empty
abbrev pub input_of : List ℕ → List ℕ → List ℕ
input_of [] text = text
input_of (k ∷ key) text = padded (k ∷ key) ++ text

-- block i of the input
abbrev pub block : List ℕ → ℕ → List ℕ
block input i = padded (slice_range input (128 * i) (128 * i + 128))

-- which block is the last: the first, where the input is empty
abbrev pub last_block : List ℕ → ℕ
last_block input = (length input - 1) / 128

-- the state before the first block, for an output and a key of these lengths
abbrev pub initial_state : ℕ → ℕ → List ℕ
initial_state out_len key_len =
    bit_xor (bit_xor (bit_xor (slice_index initialization_vector 0) 0x01010000) (key_len * 2 ^ 8)) out_len
    ∷ drop 1 initialization_vector

-- the state after the first n blocks of the input, none of which is the last, from this state
unfoldable pub state_after : List ℕ → List ℕ → ℕ → List ℕ
state_after start input zero = start
state_after start input (suc i) = compress (state_after start input i) (block input i) (128 * (i + 1)) false

-- the state after all blocks of the input: at the last, the counter is the input's length
abbrev pub final_state : List ℕ → List ℕ → List ℕ
final_state start input =
    let last = last_block input in
    compress (state_after start input last) (block input last) (length input) true

-- BLAKE2b with this output length, from 1 to 64, this key, of at most 64 bytes, and this text: the
-- first bytes of the final state, each word low byte first
unfoldable pub blake2b : ℕ → List ℕ → List ℕ → List ℕ
blake2b out_len key text =
    take out_len (flat_map (to_le_bytes w64) (final_state (initial_state out_len (length key)) (input_of key text)))
