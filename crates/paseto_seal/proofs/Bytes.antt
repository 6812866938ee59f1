-- Lists of bytes.
use Rattle.std.proofs.Common.{ℕ, zero, suc, ◌<◌, List, [], ◌∷◌, ◌++◌, take, drop, arith, subst, sym}
use Rattle.std.specs.List.{flat_map}
use Rattle.std.specs.Int.{byte_at, bytes_low_first}
use Rattle.std.proofs.lemmas.List.{take-append-drop}
use Rattle.base64.specs.GeneralPurpose.{IsBytes}

pub no_bytes : IsBytes []
no_bytes i = omega arith

pub one_more_byte : (x : ℕ) (xs : List ℕ) → x < 256 → IsBytes xs → IsBytes (x ∷ xs)
one_more_byte x xs below are zero = below
one_more_byte x xs below are (suc i) = are i

pub append_bytes : (xs ys : List ℕ) → IsBytes xs → IsBytes ys → IsBytes (xs ++ ys)
append_bytes [] ys are_xs are_ys i = are_ys i
append_bytes (x ∷ xs) ys are_xs are_ys i =
    one_more_byte x (xs ++ ys) (are_xs 0) (append_bytes xs ys (λ k. are_xs (suc k)) are_ys) i

pub leading_bytes : (xs ys : List ℕ) → IsBytes (xs ++ ys) → IsBytes xs
leading_bytes [] ys are i = no_bytes i
leading_bytes (x ∷ xs) ys are i = one_more_byte x xs (are 0) (leading_bytes xs ys (λ k. are (suc k))) i

pub trailing_bytes : (xs ys : List ℕ) → IsBytes (xs ++ ys) → IsBytes ys
trailing_bytes [] ys are i = are i
trailing_bytes (x ∷ xs) ys are i = trailing_bytes xs ys (λ k. are (suc k)) i

pub take_bytes : (n : ℕ) (xs : List ℕ) → IsBytes xs → IsBytes (take n xs)
take_bytes n xs are = leading_bytes (take n xs) (drop n xs) (subst IsBytes (sym (take-append-drop n xs)) are)

-- a number written low byte first
pub low_first_bytes : (from count n : ℕ) → IsBytes (bytes_low_first from count n)
low_first_bytes from zero n i = no_bytes i
low_first_bytes zero (suc count) n i = one_more_byte (byte_at 0 n) (bytes_low_first 1 count n) (omega arith) (low_first_bytes 1 count n) i
low_first_bytes (suc from) (suc count) n i =
    one_more_byte (byte_at (suc from) n) (bytes_low_first (suc (suc from)) count n) (omega arith) (low_first_bytes (suc (suc from)) count n) i

pub flat_map_bytes : (f : ℕ → List ℕ) → ((n : ℕ) → IsBytes (f n)) → (xs : List ℕ) → IsBytes (flat_map f xs)
flat_map_bytes f each [] i = no_bytes i
flat_map_bytes f each (x ∷ xs) i = append_bytes (f x) (flat_map f xs) (each x) (flat_map_bytes f each xs) i
