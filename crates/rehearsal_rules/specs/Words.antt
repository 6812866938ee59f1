-- The random numbers of a rehearsal: SplitMix64 (Steele, Lea and Flood, "Fast splittable pseudorandom number generators", 2014).
use Rattle.std.specs.Prelude.{ℕ, ◌+◌, ◌*◌, ◌/◌, ◌%◌, ◌^◌, List, take, flat_map, bit_xor}
use Rattle.std.specs.List.{range_with_len}
use Rattle.std.specs.Int.{w64, to_le_bytes}

-- the number with its bits from the k-th on folded down, times a factor
abbrev pub folded : (number k factor : ℕ) → ℕ
folded number k factor = bit_xor number (number / 2 ^ k) * factor % 2 ^ 64

-- the word that a state gives
abbrev pub mixed : ℕ → ℕ
mixed state = let number = folded (folded state 30 0xbf58476d1ce4e5b9) 27 0x94d049bb133111eb in bit_xor number (number / 2 ^ 31)

-- the word of this number, from 0, where a generator begins with this state: before each word a constant is added to the state, modulo 2^64
abbrev pub nth_word : (state n : ℕ) → ℕ
nth_word state n = mixed ((state + (n + 1) * 0x9e3779b97f4a7c15) % 2 ^ 64)

-- from how many words so many bytes are drawn; the rest of the last word is dropped
abbrev pub words_for : ℕ → ℕ
words_for bytes = (bytes + 7) / 8

-- so many bytes from the word of this number on, of each word the low byte first
abbrev pub drawn_bytes : (state first bytes : ℕ) → List ℕ
drawn_bytes state first bytes = take bytes (flat_map (λ n. to_le_bytes w64 (nth_word state n)) (range_with_len first (words_for bytes)))
