use Rattle.std.proofs.Common.{◌≡◌, ℕ, ◌-◌, ◌∙◌, List, [], length, take, drop, replicate, ap, subst, sym, arith, append-nil, length-drop}
use Rattle.std.proofs.lemmas.List.{drop_all, length-take-le}
use borrow.Rule.Slice.PartMut.{post_of}
use Rattle.blake2b_core.specs.Hashing.{Hashing, Holds}
use Rattle.blake2b_core.proofs.Holding.{Holds_final}
use Rattle.blake2b_core.proofs.Blake2b.finish_into.Goals as goal

pub returns : goal.returns
returns c = λ key text holds.
    let s = c.self.inside in
    let held : List ℕ = take s.held s.buffer in
    let len : length held ≡ s.held = length-take-le s.held s.buffer (omega arith) in
    let same : s.out_len ≡ c.args.self.out_len = ap (λ (h : Hashing). h.out_len) c.self.view_is in
    let rest : 128 - s.held ≡ 128 - length held = omega arith in
    let zeros : c.fill.new.self ≡ replicate (128 - s.held) 0 = c.fill.ensures.after (λ y clone. clone) ∙ ap (λ (n : ℕ). replicate n 0) (omega (arith, length-drop s.held s.buffer)) in
    let filled : post_of s.held (128 - s.held) s.buffer ≡ [] = drop_all (128 - s.held) (drop s.held s.buffer) (omega (arith, length-drop s.held s.buffer)) in
    let hash = Holds_final s.out_len s.state s.count held key text (subst (λ (h : Hashing). Holds h key text) (sym c.self.view_is) holds) in
    rw (c.copy_from_slice.ensures.after, c.from.ensures, c.bytes_of-bytes.ensures, c.compress.ensures, zeros, filled, append-nil, rest, same, len)
    (rw (len, same) at hash)
