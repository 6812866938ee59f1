-- Faults add up, and a count that rose in a part of a run rose in the whole of it.
use Rattle.std.specs.Prelude.{◌≡◌, ℕ, ◌+◌, ◌≤◌, min, true}
use Rattle.std.proofs.Common.{arith}
use Rattle.std.proofs.lemmas.Bool.{leb-true, le-leb}
use Rattle.definitions.specs.Counts.{last_count, Rose, RoseBy, has_risen}

pub RoseBy-nothing : (a : ℕ) → RoseBy 0 a a
RoseBy-nothing a = omega arith

pub RoseBy-then : (m n a b c : ℕ) → RoseBy m a b → RoseBy n b c → RoseBy (m + n) a c
RoseBy-then m n a b c first second = omega arith

-- where fewer came too
pub RoseBy-fewer : (m n a b : ℕ) → m ≤ n → RoseBy n a b → RoseBy m a b
RoseBy-fewer m n a b fewer rose = omega arith

pub Rose-later : (a b c : ℕ) → a ≤ b → Rose b c → Rose a c
Rose-later a b c before rose = omega arith

pub Rose-earlier : (a b c : ℕ) → Rose a b → b ≤ c → Rose a c
Rose-earlier a b c rose behind = omega arith

pub has_risen-true : (a b : ℕ) → has_risen a b ≡ true → Rose a b
has_risen-true a b risen = leb-true (min (a + 1) last_count) b risen

pub Rose-has_risen : (a b : ℕ) → Rose a b → has_risen a b ≡ true
Rose-has_risen a b rose = le-leb (min (a + 1) last_count) b rose
