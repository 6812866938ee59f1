use Rattle.std.proofs.Common.{subst, ◌∙◌, length}
use Rattle.blake2b_core.specs.Hashing.{Holds}
use Rattle.paseto_seal.specs.Pae.{le64}
use Rattle.paseto_seal.proofs.Pieces.{encoded_more}
use Rattle.paseto_seal.proofs.hash.hash_encoded.Goals as goal

pub loop-piece-preserved : goal.loop-piece-preserved
loop-piece-preserved c = record {
  out_len = c.update-in-loop-piece-2.ensures.length ∙ c.update-in-loop-piece.ensures.length ∙ c.loop-piece.invariant.out_len;
  holds = subst (Holds c.update-in-loop-piece-2.new.self c.args.key.now)
      (encoded_more (le64 (length c.args.pieces.now)) c.args.pieces.now c.loop-piece.piece-index _ c.loop-piece-test.true)
      (c.update-in-loop-piece-2.ensures.added c.args.key.now _
      (rw c.le64-in-loop-piece.ensures at (c.update-in-loop-piece.ensures.added c.args.key.now _ c.loop-piece.invariant.holds)));
}
