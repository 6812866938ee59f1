use Rattle.std.proofs.Common.{◌≡◌, ℕ, List, [], ◌∙◌, ◌+◌, ◌-◌, length, take, drop, ap, refl, subst, sym, arith, length-drop}
use Rattle.std.proofs.lemmas.List.{append-nil, drop_all, length-take-le, take_at}
use Rattle.std.proofs.lemmas.Slice.{take-put_mid}
use borrow.Rule.Slice.PartMut.{post_of}
use Rattle.blake2b_core.specs.Hashing.{Hashing, Holds}
use Rattle.blake2b_core.proofs.Holding.{Holds_long, Holds_short}
use Rattle.blake2b_core.proofs.Blake2b.update.Goals as goal

pub returns-then-piece-room-clause-added : goal.returns-then-piece-room-clause-added
returns-then-piece-room-clause-added c = λ key text holds.
    let s = c.self.inside in
    let held : List ℕ = take s.held s.buffer in
    let len : length held ≡ s.held = length-take-le s.held s.buffer (omega arith) in
    Holds_short s.out_len s.state s.count held key text (subst (λ (h : Hashing). Holds h key text) (sym c.self.view_is) holds)
    c.args.piece.now _ (omega arith)
    (rw c.copy_from_slice.ensures.after (take-put_mid s.held _ s.buffer c.args.piece.now (s.held + length c.args.piece.now) (omega arith) (omega arith)))

pub returns-clause-added : goal.returns-clause-added
returns-clause-added c = λ key text holds.
    let s = c.self.inside in
    let held : List ℕ = take s.held s.buffer in
    let len : length held ≡ s.held = length-take-le s.held s.buffer (omega arith) in
    let rest_len : length c.split_at.result.1.now ≡ length c.args.piece.now - (128 - s.held) = omega (arith, c.split_at.ensures.back_len) in
    let filled : post_of s.held (128 - s.held) s.buffer ≡ [] = drop_all (128 - s.held) (drop s.held s.buffer) (omega (arith, length-drop s.held s.buffer)) in
    Holds_long s.out_len s.state s.count held key text (subst (λ (h : Hashing). Holds h key text) (sym c.self.view_is) holds)
    c.args.piece.now _ c.split_at-2.result.0.now (128 - s.held) c.absorb-count.new.state c.absorb-count.result
    c.absorb-self-inside.new.state c.absorb-self-inside.result (omega arith) (omega arith)
    (rw (filled, append-nil, c.copy_from_slice-2.ensures.after, c.split_at.ensures.front) refl)
    c.absorb-count.ensures
    (rw (← rest_len, ← c.split_at.ensures.back) c.split_at-2.ensures.front)
    c.absorb-self-inside.ensures
    _
    (take_at c.copy_from_slice-3.new.self _ (length c.split_at-2.result.1.now) (ap length c.copy_from_slice-3.ensures.after)
    ∙ c.copy_from_slice-3.ensures.after ∙ rw (← rest_len, ← c.split_at.ensures.back) c.split_at-2.ensures.back)
