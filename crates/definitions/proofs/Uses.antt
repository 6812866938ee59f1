-- What is used, one use after another: using nothing changes nothing, and what fits fits together.
use Rattle.std.proofs.Common.{◌≡◌, ℕ, ◌<◌, ◌^◌, append_assoc, append-nil, arith}
use Rattle.std.proofs.Math.Nat.{add_assoc, zero-add, add-zero}
use Rattle.std.proofs.lemmas.List.Elements.{All-nil, All-append}
use Rattle.definitions.proofs.Bytes.{IsBytes-append}
use Rattle.definitions.specs.Uses.{Used, used_nothing, then_used, UsedFits}

pub then_used-assoc : (a b c : Used) → then_used (then_used a b) c ≡ then_used a (then_used b c)
then_used-assoc a b c = simp (append_assoc, add_assoc)

pub nothing-then_used : (a : Used) → then_used used_nothing a ≡ a
nothing-then_used a = simp (zero-add)

pub then_used-nothing : (a : Used) → then_used a used_nothing ≡ a
then_used-nothing a = simp (append-nil, add-zero)

pub UsedFits-nothing : UsedFits used_nothing
UsedFits-nothing = (All-nil (λ (now : ℕ). now < 2 ^ 64), λ i. omega arith)

pub UsedFits-then : (a b : Used) → UsedFits a → UsedFits b → UsedFits (then_used a b)
UsedFits-then a b p q = (All-append (λ (now : ℕ). now < 2 ^ 64) a.readings b.readings p.0 q.0, IsBytes-append a.drawn b.drawn p.1 q.1)
