-- Telling two tags apart without stopping at the first difference.
use Rattle.std.proofs.Common.{◌≡◌, ℕ, bit_or, bit_xor, arith, refl}
use Rattle.std.specs.Int.Bits.{xor_add_and, xor_self}
use Rattle.std.proofs.lemmas.Nat.{le_or_l, le_or_r, and_le_l, and_le_r}

-- no bit of a difference is set exactly where none was before and the two bytes are one
pub no_difference : (d x y : ℕ) → bit_or d (bit_xor x y) ≡ 0 → (d ≡ 0) × (x ≡ y)
no_difference d x y none =
    let before : d ≡ 0 = omega (arith, le_or_l d (bit_xor x y)) in
    let here : bit_xor x y ≡ 0 = omega (arith, le_or_r d (bit_xor x y)) in
    (before, omega (arith, xor_add_and x y, and_le_l x y, and_le_r x y))

pub no_difference_more : (d x y : ℕ) → d ≡ 0 → x ≡ y → bit_or d (bit_xor x y) ≡ 0
no_difference_more d x y before here = rw (before, here, xor_self) refl
