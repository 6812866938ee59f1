use Rattle.std.proofs.Common.{◌≡◌, ℕ, ◌+◌, ◌<◌, ◌∙◌, List, [], ◌++◌, length, take, get_or, Bor, ap, subst, sym, refl}
use Rattle.std.proofs.lemmas.List.{flat_map_more, take_all, take_more}
use Rattle.std.specs.List.{flat_map}
use Rattle.blake2b_core.specs.Hashing.{Holds}
use Rattle.blake2b_core.proofs.hash_pieces.Goals as goal

-- one more piece
joined_more : (pieces : List (Bor (List ℕ))) (i : ℕ) (d : Bor (List ℕ)) → i < length pieces
    → flat_map (λ piece. piece.now) (take i pieces) ++ (get_or pieces i d).now ≡ flat_map (λ piece. piece.now) (take (i + 1) pieces)
joined_more pieces i d below =
    flat_map_more (λ piece. piece.now) [] (take i pieces) (get_or pieces i d) ∙ ap (flat_map (λ piece. piece.now)) (sym (take_more pieces i d below))

pub loop-piece-init : goal.loop-piece-init
loop-piece-init c = record { length_is = c.new-hasher.ensures.length; holds = c.new-hasher.ensures.empty }

pub loop-piece-preserved : goal.loop-piece-preserved
loop-piece-preserved c = record {
  length_is = c.update.ensures.length ∙ c.loop-piece.invariant.length_is;
  holds =
      subst (λ (text : List ℕ). Holds c.update.new.self c.args.key.now text) (joined_more c.args.pieces.now c.loop-piece.piece-index _ c.loop-piece-test.true)
      (c.update.ensures.added c.args.key.now (flat_map (λ piece. piece.now) (take c.loop-piece.piece-index c.args.pieces.now)) c.loop-piece.invariant.holds);
}

pub finish_into-requires : goal.finish_into-requires
finish_into-requires c = sym c.loop-piece.invariant.length_is

pub returns : goal.returns
returns c =
    let all = take_all c.loop-piece.piece-index c.args.pieces.now c.loop-piece-test.false in
    c.finish_into.ensures c.args.key.now _ c.loop-piece.invariant.holds
    ∙ rw (all, c.loop-piece.invariant.length_is) refl
