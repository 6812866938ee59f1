use Rattle.std.proofs.Common.{◌≡◌, ℕ, List, [], map, length, get_or, sym, subst, ap, ◌∙◌}
use Rattle.std.specs.Prelude.{◌/◌}
use Rattle.std.specs.Char.{to_ascii_lowercase}
use Rattle.history_view.specs.Folded.{blocks_seen, starts_seen, StandsFrom}
use Rattle.history_view.proofs.Folding.{then_kept}
use Rattle.history_view.proofs.folded.Blocks.add.Goals as goal

pub returns-clause-holds : goal.returns-clause-holds
returns-clause-holds c =
    let block : List ℕ = get_or (blocks_seen c.put.new.self) (c.args.number / 64) [] in
    let last : ℕ = length c.begin.new.self.last.items in
    let there : StandsFrom c.as_slice.result.now block last = c.in_ok-put.ensures.holds (c.args.number / 64) c.in_ok-begin.ensures.begun in
    let text : c.as_slice.result.now ≡ map to_ascii_lowercase c.args.text.now = c.as_slice.ensures.value ∙ c.in_ok-folded.ensures in
    let start : last ≡ get_or (starts_seen c.put.new.self) c.args.number 0 = sym c.begin.new.self.last.ok.0 ∙ sym c.len.ensures ∙ sym c.in_ok-mark.ensures.noted ∙ ap (λ (starts : List ℕ). get_or starts c.args.number 0) (sym c.put.ensures.starts) in
    subst (λ (n : ℕ). StandsFrom (map to_ascii_lowercase c.args.text.now) block n) start (subst (λ (t : List ℕ). StandsFrom t block last) text there)

pub returns-clause-keeps : goal.returns-clause-keeps
returns-clause-keeps c = then_kept (blocks_seen c.args.self.now) (blocks_seen c.begin.new.self) (blocks_seen c.put.new.self) c.begin.ensures.keeps c.put.ensures.keeps

pub returns-in_err-put-clause-keeps : goal.returns-in_err-put-clause-keeps
returns-in_err-put-clause-keeps c = then_kept (blocks_seen c.args.self.now) (blocks_seen c.begin.new.self) (blocks_seen c.put.new.self) c.begin.ensures.keeps c.put.ensures.keeps
