use Rattle.std.proofs.Common.{◌∙◌, ℕ, List, ◌-◌, sym, ap, subst, refl, take, drop}
use Rattle.std.proofs.lemmas.List.{take_rest}
use Rattle.std.proofs.lemmas.Result.{err_from_is_err_and}
use Rattle.http_wire.specs.Taken.{CutsBody}
use Rattle.http_wire.proofs.taking.cut_body.Goals as goal

pub returns-in_err-behind : goal.returns-in_err-behind
returns-in_err-behind c =
    let p = err_from_is_err_and c.from_residual.result c.from_residual.ensures.1 in
    subst (λ o. CutsBody c.args.held.now.items c.args.held.now.items c.args.start c.args.end o) (sym p.1) refl

pub returns-in_err-body : goal.returns-in_err-body
returns-in_err-body c =
    let left = c.from_residual-in_err-body in
    let p = err_from_is_err_and left.result left.ensures.1 in
    subst (λ o. CutsBody c.args.held.now.items c.args.held.now.items c.args.start c.args.end o) (sym p.1) refl

pub returns : goal.returns
returns c = (
  c.in_ok-body.ensures ∙ ap (λ (l : List ℕ). take (c.args.end - c.args.start) (drop c.args.start l)) c.as_slice-2.ensures.items,
  c.in_ok-behind.ensures ∙ take_rest c.as_slice.result.now c.args.end ∙ ap (drop c.args.end) c.as_slice.ensures.items,
)
