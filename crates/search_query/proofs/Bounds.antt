-- How many commands a walk may still go to, and what is known of texts on it.
use Rattle.std.proofs.Common.{◌≡◌, ℕ, ◌+◌, ◌≤◌, List, Option, Some, None, Bool, refl, sym, ◌∙◌, arith}
use Rattle.std.specs.Prelude.{IfSome}
use Rattle.search_query.specs.Answers.{IsKnown, IsOneFewer, IsBounded}

same_some : (x y : ℕ) → Some x ≡ Some y → x ≡ y
same_some x y e = cc

none_isnt : (n : ℕ) → None ≡ Some n → ⊥
none_isnt n e = cc

pub begins_bounded : (first : ℕ) (most : Option ℕ) → IsBounded first first most most
begins_bounded first None = refl
begins_bounded first (Some most) = (most, refl, omega arith)

-- one command more is walked to
pub bounded_on : (first steps now : ℕ) (most left fewer : Option ℕ) → IsBounded first steps most left → IsOneFewer left (Some fewer) → now ≤ steps + 1 → IsBounded first now most fewer
bounded_on first steps now None left None bounded one few = refl
bounded_on first steps now None left (Some many) bounded one few = absurd (none_isnt (many + 1) (sym bounded ∙ one))
bounded_on first steps now (Some most) left None bounded one few = absurd (none_isnt bounded.0 (sym one ∙ bounded.1))
bounded_on first steps now (Some most) left (Some many) bounded one few =
    let same : bounded.0 ≡ many + 1 = same_some bounded.0 (many + 1) (sym bounded.1 ∙ one) in
    let room = bounded.2 in
    (many, refl, omega (arith, same, room, few))

-- only a walk with a bound stops before its end
pub stops : (first steps : ℕ) (most left : Option ℕ) → IsBounded first steps most left → left ≡ Some 0 → most ≡ None → ⊥
stops first steps None left bounded used e = none_isnt 0 (sym bounded ∙ used)
stops first steps (Some most) left bounded used e = none_isnt most (sym e)

pub bounded_tests : (first steps : ℕ) (most left : Option ℕ) → IsBounded first steps most left → IfSome most (λ n. steps ≤ first + n)
bounded_tests first steps None left bounded = tt
bounded_tests first steps (Some most) left bounded = let room = bounded.2 in omega (arith, room)

pub known_on : (memo now more : List (Option Bool)) (first steps after : ℕ) → (IsKnown memo → IsKnown now × (steps ≡ first)) → (IsKnown now → IsKnown more × (after ≡ steps)) → IsKnown memo → IsKnown more × (after ≡ first)
known_on memo now more first steps after so_far next known = let here = so_far known in let there = next here.0 in (there.0, there.1 ∙ here.1)
