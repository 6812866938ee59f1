use Rattle.std.proofs.Common.{◌≡◌, get_or, arith, ap, below_more, rules}
use Rattle.std.proofs.lemmas.Grind.{same_number_lists}
use Rattle.paseto_seal.proofs.Tags.{no_difference, no_difference_more}
use Rattle.paseto_seal.proofs.tag.same_tag.Goals as goal

pub loop-i-preserved : goal.loop-i-preserved
loop-i-preserved c = (
  λ none.
      let both = no_difference c.loop-i.difference _ _ none in
      below_more _ _ (c.loop-i.invariant.0 both.0) both.1,
  λ same.
      no_difference_more c.loop-i.difference _ _
      (c.loop-i.invariant.1 (λ k below. same k (omega arith)))
      (same c.loop-i.i (omega arith)),
)

pub returns : goal.returns
returns c = (
  λ none. same_number_lists c.args.expected.now c.args.found.now c.requires
      (λ k below. c.loop-i.invariant.0 (search rules) k (omega arith)),
  λ same. let none : c.loop-i.difference ≡ 0 = c.loop-i.invariant.1 (λ k below. ap (λ xs. get_or xs k 0) same) in rw none (search rules),
)
