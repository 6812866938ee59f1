-- HChaCha20 and XChaCha20 (draft-irtf-cfrg-xchacha-03). A byte is a number below 256; a key has 32 bytes.
use Rattle.std.specs.Prelude.{ℕ, ◌+◌, ◌/◌, ◌%◌, List, [], ◌∷◌, ◌++◌, take, drop, bit_xor, slice_index}
use Rattle.xchacha_core.specs.ChaCha.{chacha20_block, double_rounds, serialized, state_of, word_at}

-- the first and the last row, after ten double rounds, of the state that has a nonce of 16 bytes for
-- its last row; nothing is added at the end (2.2)
unfoldable pub hchacha20_of : List ℕ → List ℕ → List ℕ
hchacha20_of key nonce =
    let state = state_of key (word_at nonce 0 ∷ word_at nonce 1 ∷ word_at nonce 2 ∷ word_at nonce 3 ∷ []) in
    let ended = double_rounds 10 state in
    serialized (take 4 ended ++ drop 12 ended)

-- byte i of the key stream, for a nonce of 24 bytes and i below 2 ^ 38 (2.3): it stands in block i / 64,
-- counted from 0, of ChaCha20 under the key that HChaCha20 gives from the first 16 bytes of the nonce,
-- with four bytes 0 and the last 8 bytes as its nonce
unfoldable pub key_stream : List ℕ → List ℕ → ℕ → ℕ
key_stream key nonce i =
    slice_index (chacha20_block (hchacha20_of key (take 16 nonce)) (i / 64) (0 ∷ 0 ∷ 0 ∷ 0 ∷ drop 16 nonce)) (i % 64)

-- the byte at each place, from a first place on, xored with the stream's byte at that place
unfoldable pub xored : (ℕ → ℕ) → ℕ → List ℕ → List ℕ
xored stream place [] = []
xored stream place (byte ∷ bytes) = bit_xor byte (stream place) ∷ xored stream (place + 1) bytes

-- XChaCha20 of a text: its byte i xored with byte i of the key stream (2.3)
unfoldable pub xchacha20 : List ℕ → List ℕ → List ℕ → List ℕ
xchacha20 key nonce text = xored (key_stream key nonce) 0 text
