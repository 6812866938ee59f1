-- The place of a wrong item as a number of four bytes: the greatest of them where it is none.
use Rattle.std.specs.Prelude.{ℕ, ◌-◌, ◌^◌, min}

abbrev pub in_four_bytes : ℕ → ℕ
in_four_bytes place = min place (2 ^ 32 - 1)
