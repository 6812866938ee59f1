use Rattle.std.proofs.Common.{refl}
use Rattle.blake2b_core.specs.Compression.{message_words}
use Rattle.blake2b_core.proofs.compression.message_words.Goals as goal

pub returns : goal.returns
unfolding message_words
returns c = rw (c.words_at-4.ensures, c.words_at-3.ensures, c.words_at-2.ensures, c.words_at.ensures) refl
