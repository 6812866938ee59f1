use Rattle.std.proofs.Common.{◌≡◌, length, take}
use Rattle.std.specs.List.{flat_map}
use Rattle.blake2b_core.specs.Hashing.{Holds}
use Rattle.blake2b_core.proofs.hash_pieces.Given as goal

abbrev pub invariant-loop-piece : goal.invariant-loop-piece
invariant-loop-piece l =
    record { length_is : l.hasher.out_len ≡ length l.out; holds : Holds l.hasher l.key (flat_map (λ piece. piece.now) (take l.piece-index l.pieces)) }
