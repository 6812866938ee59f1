use Rattle.std.proofs.Common.{◌≡◌, ℕ, List, [], ◌∷◌, ◌++◌, length, ◌∙◌, ap}
use Rattle.std.specs.Int.{w32, to_be_bytes}
use Rattle.log_rules.specs.Log.{batch_digest}
use Rattle.record_log.proofs.ready.closed.Goals as goal

pub returns : goal.returns
returns c =
    let head : c.extend_from_slice.new.self.items ≡ to_be_bytes w32 (length c.args.body.now) = c.in_ok-extend_from_slice.ensures.items ∙ (λ i. c.new-bytes.ensures.items i ++ c.to_be_bytes.ensures i) in
    let body : c.extend_from_slice-2.new.self.items ≡ to_be_bytes w32 (length c.args.body.now) ++ c.args.body.now = c.in_ok-extend_from_slice-2.ensures.items ∙ ap (λ (l : List ℕ). l ++ c.args.body.now) head in
    let digest : c.extend_from_slice-3.new.self.items ≡ to_be_bytes w32 (length c.args.body.now) ++ c.args.body.now ++ batch_digest c.args.offset c.args.body.now = c.in_ok-extend_from_slice-3.ensures.items ∙ (λ i. body i ++ c.batch_digest.ensures i) in
    c.in_ok-push.ensures.items ∙ ap (λ (l : List ℕ). l ++ 0 ∷ []) digest
