use Rattle.std.proofs.Common.{◌≡◌, ℕ, ◌++◌, sym, ap, ◌∙◌, arith}
use Rattle.std.specs.Int.{w64, to_le_bytes}
use Rattle.rand_xoshiro.specs.SplitMix64.{mix_u64, next_state}
use Rattle.world_nodes.specs.Random.{word_bytes}
use Rattle.world_nodes.proofs.WordBytes.{bytes_then, state_then, word_then}
use Rattle.world_nodes.proofs.random.next_bytes.Goals as goal

pub loop-preserved : goal.loop-preserved
loop-preserved c =
    let state = c.args.state in
    let count = c.loop.counter in
    let word = ap (λ (p : ℕ × ℕ). p.0) c.next_word-word.ensures ∙ ap (λ (s : ℕ). (mix_u64 s).0) c.loop.invariant.1 ∙ word_then state count in
    let bytes = c.to_le_bytes.ensures ∙ ap (to_le_bytes w64) word in
    (c.in_ok-extend_from_slice.ensures.items ∙ (λ i. c.loop.invariant.0 i ++ bytes i) ∙ sym (bytes_then state count), ap (λ (p : ℕ × ℕ). p.1) c.next_word-word.ensures ∙ ap next_state c.loop.invariant.1 ∙ state_then state count)

pub returns : goal.returns
returns c = let all : c.loop.counter ≡ 14 = omega arith in c.loop.invariant.0 ∙ ap (word_bytes c.args.state) all
