use Rattle.std.proofs.Common.{◌∙◌, ap, List, ℕ, ◌++◌, ◌-◌, ◌≡◌, length, drop, arith}
use Rattle.session_seats.proofs.AnswerLaws.{answer_framed, four_zeros}
use Rattle.session_seats.proofs.answering.answer_frame.Goals as goal

pub returns-clause-framed : goal.returns-clause-framed
returns-clause-framed g c =
    let zeros : c.extend.new.self.items ≡ four_zeros = c.in-Ok.ensures.ok ∙ ap (λ (l : List ℕ). l ++ four_zeros) c.clear.ensures.items in
    let after : List ℕ = c.answer_payload.new.into.items in
    answer_framed _ _ _ _ _ _ _ after c.overwrite_first.new.self.items (c.len.result - 4) c.answer_payload.ensures.stands zeros (ap (λ (n : ℕ). n - 4) c.len.ensures)
    (c.overwrite_first.ensures.items ∙ ap (λ (l : List ℕ). l ++ drop (length l) after) c.to_be_bytes.ensures)

-- a reply is short enough for its frame
pub overflow_cast-length : goal.overflow_cast-length
overflow_cast-length g c =
    let zeros : c.extend.new.self.items ≡ four_zeros = c.in-Ok.ensures.ok ∙ ap (λ (l : List ℕ). l ++ four_zeros) c.clear.ensures.items in
    let four : length c.extend.new.self.items ≡ 4 = ap (λ (l : List ℕ). length l) zeros in
    omega (arith, c.len.ensures, c.answer_payload.ensures.short, four)
