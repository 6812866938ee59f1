-- The words of a generator follow one another.
use Rattle.std.proofs.Common.{◌≡◌, ℕ, ◌+◌, ◌*◌, ◌%◌, sym, ◌∙◌, ap, arith}
use Rattle.std.proofs.Math.Nat.{mod-add-mod}
use Rattle.rehearsal_rules.specs.Words.{mixed}
use Rattle.rehearsal_rules.specs.Laws.{WordsFollow}

sum_after : (modulus state constant n : ℕ) → (state + (n + 1 + 1) * constant) % modulus ≡ ((state + constant) % modulus + (n + 1) * constant) % modulus
sum_after modulus state constant n =
    let step : (n + 1 + 1) * constant ≡ constant + (n + 1) * constant = omega arith in
    ap (λ sum. sum % modulus) (omega (arith, step)) ∙ sym (mod-add-mod (state + constant) modulus ((n + 1) * constant))

pub words_follow : WordsFollow
words_follow state n = ap mixed (sum_after 0x10000000000000000 state 0x9e3779b97f4a7c15 n)
