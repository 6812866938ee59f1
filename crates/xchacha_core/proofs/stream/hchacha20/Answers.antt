use Rattle.std.proofs.Common.{◌≡◌, ◌∙◌, ap, ◌++◌, take, drop, refl, arith, replicate, length, append-nil, List, ℕ}
use Rattle.std.proofs.lemmas.List.{take_at, drop_at}
use borrow.Rule.Slice.PartMut.{put_mid}
use Rattle.xchacha_core.specs.ChaCha.{double_rounds, serialized, state_of, words_at}
use Rattle.xchacha_core.specs.Rows.{HasWidth, Rows, block_state}
use Rattle.xchacha_core.specs.Stream.{hchacha20_of}
use Rattle.xchacha_core.proofs.Bytes.{length-serialized, row_words}
use Rattle.xchacha_core.proofs.stream.hchacha20.Goals as goal

-- 16 bytes written behind 16 others
halves : (xs ys : List ℕ) → length xs ≡ 16 → put_mid 16 16 (xs ++ replicate 16 0) ys ≡ xs ++ ys
halves xs ys long =
    rw (take_at xs (replicate 16 0) 16 long, drop_at xs (replicate 16 0) 16 long, append-nil) refl

-- the first and the last row, after ten double rounds of the key's state
kept_rows : (key nonce : List ℕ) (rows : Rows) → HasWidth 4 rows → block_state rows 0 ≡ double_rounds 10 (state_of key (words_at nonce 0))
    → serialized rows.0 ++ serialized rows.3 ≡ hchacha20_of key nonce
unfolding hchacha20_of
kept_rows key nonce rows wide rows_are =
    (λ k. serialized (row_words rows.0 wide.0 k) ++ serialized (row_words rows.3 wide.3 k))
    ∙ ap (λ (words : List ℕ). serialized (take 4 words ++ drop 12 words)) rows_are

pub returns : goal.returns
returns c =
    let rows = c.ten_double_rounds.result in
    let long : length (serialized rows.0) ≡ 16 = omega (arith, length-serialized rows.0, c.ten_double_rounds.ensures.wide.0) in
    let started = c.rows_of.ensures.state ∙ ap (state_of c.args.key.now) c.row_at.ensures in
    rw (c.write_row.ensures, c.write_row-2.ensures)
    (halves (serialized rows.0) (serialized rows.3) long
    ∙ kept_rows c.args.key.now c.args.nonce.now rows c.ten_double_rounds.ensures.wide (c.ten_double_rounds.ensures.state ∙ ap (double_rounds 10) started))
