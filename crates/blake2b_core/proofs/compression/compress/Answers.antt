use Rattle.std.proofs.Common.{◌≡◌, ◌∙◌, ap, refl}
use Rattle.blake2b_core.specs.Compression.{compress, fold_halves, message_words, rounds, vector_of, working_vector}
use Rattle.blake2b_core.proofs.compression.compress.Goals as goal

pub returns : goal.returns
unfolding compress rounds
returns c =
    let mixed : vector_of c.round-v-12.result ≡ rounds (message_words c.args.block.now) (working_vector c.args.state.now c.args.t c.args.last) 12 =
    rw (c.round-v-12.ensures, c.round-v-11.ensures, c.round-v-10.ensures, c.round-v-9.ensures, c.round-v-8.ensures, c.round-v-7.ensures, c.round-v-6.ensures, c.round-v-5.ensures, c.round-v-4.ensures, c.round-v-3.ensures, c.round-v-2.ensures, c.round-v.ensures, c.message_words-m.ensures, c.working_vector-v.ensures) refl in
    c.fold_halves.ensures ∙ ap (fold_halves c.args.state.now) mixed
