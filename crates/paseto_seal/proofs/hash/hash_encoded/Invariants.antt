use Rattle.std.proofs.Common.{◌≡◌, ◌++◌, length, map, take}
use Rattle.blake2b_core.specs.Hashing.{Holds}
use Rattle.paseto_seal.specs.Pae.{le64, pieces_encoded}
use Rattle.paseto_seal.proofs.hash.hash_encoded.Given as goal

abbrev pub invariant-loop-piece : goal.invariant-loop-piece
invariant-loop-piece l = record {
  out_len : l.hash.out_len ≡ length l.out;
  holds : Holds l.hash l.key (le64 (length l.pieces) ++ pieces_encoded (map (λ p. p.now) (take l.piece-index l.pieces)));
}
