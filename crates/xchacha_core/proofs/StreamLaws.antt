-- What holds of a text xored with a stream, and of XChaCha20.
use Rattle.std.proofs.Common.{◌≡◌, ℕ, ◌+◌, ◌%◌, ◌<◌, List, [], ◌∷◌, ◌++◌, length, slice_index, bit_xor, refl, ap, ap₂, ◌∙◌, arith, add_assoc, add-zero, zero, suc}
use Rattle.std.specs.Int.{w32, to_le_bytes}
use Rattle.std.specs.Int.Bits.{xor_assoc, xor_self, xor_zero_r}
use Rattle.std.proofs.lemmas.Nat.{xor_of_8}
use Rattle.xchacha_core.specs.ChaCha.{block_of, chacha20_block, serialized}
use Rattle.xchacha_core.specs.Stream.{key_stream, xchacha20, xored}

pub length-xored : (stream : ℕ → ℕ) (place : ℕ) (bytes : List ℕ) → length (xored stream place bytes) ≡ length bytes
unfolding xored
length-xored stream place [] = refl
length-xored stream place (byte ∷ bytes) = ap suc (length-xored stream (place + 1) bytes)

-- a number xored twice is itself again
xor-xor : (a b : ℕ) → bit_xor (bit_xor a b) b ≡ a
xor-xor a b = xor_assoc a b b ∙ ap (bit_xor a) (xor_self b) ∙ xor_zero_r a

pub xored-xored : (stream : ℕ → ℕ) (place : ℕ) (bytes : List ℕ) → xored stream place (xored stream place bytes) ≡ bytes
unfolding xored
xored-xored stream place [] = refl
xored-xored stream place (byte ∷ bytes) = ap₂ ◌∷◌ (xor-xor byte (stream place)) (xored-xored stream (place + 1) bytes)

-- two streams that agree at the places of a text give the same
pub xored-same : (f g : ℕ → ℕ) (i j : ℕ) (bytes : List ℕ)
    → ((k : ℕ) → k < length bytes → f (i + k) ≡ g (j + k)) → xored f i bytes ≡ xored g j bytes
unfolding xored
xored-same f g i j [] same = refl
xored-same f g i j (byte ∷ bytes) same =
    ap₂ ◌∷◌ (ap (bit_xor byte) (rw (add-zero i, add-zero j) at (same 0 (omega arith))))
    (xored-same f g (i + 1) (j + 1) bytes (λ k below. rw (add_assoc i 1 k, add_assoc j 1 k) (same (1 + k) (omega arith))))

pub xored-append : (stream : ℕ → ℕ) (place : ℕ) (xs ys : List ℕ)
    → xored stream place (xs ++ ys) ≡ xored stream place xs ++ xored stream (place + length xs) ys
unfolding xored
xored-append stream place [] ys = rw (add-zero place) refl
xored-append stream place (x ∷ xs) ys = ap (λ (bytes : List ℕ). bit_xor x (stream place) ∷ bytes)
    (xored-append stream (place + 1) xs ys ∙ ap (λ (i : ℕ). xored stream (place + 1) xs ++ xored stream i ys) (omega arith))

-- XChaCha20 keeps the length
pub length-xchacha20 : (key nonce text : List ℕ) → length (xchacha20 key nonce text) ≡ length text
unfolding xchacha20
length-xchacha20 key nonce text = length-xored (key_stream key nonce) 0 text

-- XChaCha20 twice, under one key and nonce, gives the text back
pub xchacha20-xchacha20 : (key nonce text : List ℕ) → xchacha20 key nonce (xchacha20 key nonce text) ≡ text
unfolding xchacha20
xchacha20-xchacha20 key nonce text = xored-xored (key_stream key nonce) 0 text

-- what two lists of bytes make together is bytes
append-bytes : (xs ys : List ℕ) → ((i : ℕ) → slice_index xs i < 256) → ((i : ℕ) → slice_index ys i < 256) → (i : ℕ) → slice_index (xs ++ ys) i < 256
append-bytes [] ys first second i = second i
append-bytes (x ∷ xs) ys first second zero = first 0
append-bytes (x ∷ xs) ys first second (suc i) = append-bytes xs ys (λ k. first (suc k)) second i

-- the four bytes of a word
word-bytes : (word i : ℕ) → slice_index (to_le_bytes w32 word) i < 256
word-bytes word zero = omega arith
word-bytes word (suc zero) = omega arith
word-bytes word (suc (suc zero)) = omega arith
word-bytes word (suc (suc (suc zero))) = omega arith
word-bytes word (suc (suc (suc (suc i)))) = omega arith

serialized-bytes : (words : List ℕ) (i : ℕ) → slice_index (serialized words) i < 256
serialized-bytes [] i = omega arith
serialized-bytes (word ∷ words) i = append-bytes (to_le_bytes w32 word) (serialized words) (word-bytes word) (serialized-bytes words) i

-- the key stream is bytes
pub key_stream-bytes : (key nonce : List ℕ) (i : ℕ) → key_stream key nonce i < 256
unfolding key_stream chacha20_block block_of
key_stream-bytes key nonce i = serialized-bytes _ (i % 64)

xored-bytes : (stream : ℕ → ℕ) → ((i : ℕ) → stream i < 256) → (place : ℕ) (bytes : List ℕ)
    → ((i : ℕ) → slice_index bytes i < 256) → (i : ℕ) → slice_index (xored stream place bytes) i < 256
unfolding xored
xored-bytes stream below place [] are i = omega arith
xored-bytes stream below place (byte ∷ bytes) are zero = xor_of_8 byte (stream place) (are 0) (below place)
xored-bytes stream below place (byte ∷ bytes) are (suc i) = xored-bytes stream below (place + 1) bytes (λ k. are (suc k)) i

-- XChaCha20 of bytes is bytes
pub xchacha20-bytes : (key nonce text : List ℕ) → ((i : ℕ) → slice_index text i < 256) → (i : ℕ) → slice_index (xchacha20 key nonce text) i < 256
unfolding xchacha20
xchacha20-bytes key nonce text are i = xored-bytes (key_stream key nonce) (key_stream-bytes key nonce) 0 text are i
