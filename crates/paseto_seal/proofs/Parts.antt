-- Lists that are equal and were joined from parts of the same lengths have equal parts.
use Rattle.std.proofs.Common.{◌≡◌, ℕ, ◌+◌, ◌-◌, ◌≤◌, List, ◌++◌, length, take, drop, ◌∙◌, sym, ap, arith, refl}
use Rattle.std.proofs.Math.Seq.{paste}
use Rattle.std.proofs.lemmas.List.{length-append, length-take, length-drop, take_at, drop_at}

-- the first parts, and the rest
pub same_parts : {A : Type 0} (xs ys vs ws : List A) → length xs ≡ length vs → xs ++ ys ≡ vs ++ ws → (xs ≡ vs) × (ys ≡ ws)
same_parts xs ys vs ws long same = (
  sym (take_at xs ys (length vs) long) ∙ ap (take (length vs)) same ∙ take_at vs ws (length vs) refl,
  sym (drop_at xs ys (length vs) long) ∙ ap (drop (length vs)) same ∙ drop_at vs ws (length vs) refl,
)

-- the same where the last parts have one length
pub same_parts_back : {A : Type 0} (xs ys vs ws : List A) → length ys ≡ length ws → xs ++ ys ≡ vs ++ ws → (xs ≡ vs) × (ys ≡ ws)
same_parts_back xs ys vs ws long same =
    let front : length xs ≡ length vs = omega (arith, length-append xs ys, length-append vs ws, ap length same) in
    same_parts xs ys vs ws front same

-- what stands between the first 32 bytes and the last 32
pub parts_cut : (body nonce cipher tag : List ℕ) → body ≡ nonce ++ (cipher ++ tag) → length nonce ≡ 32 → length tag ≡ 32
    → (take 32 body ≡ nonce) × (take (length body - 64) (drop 32 body) ≡ cipher)
parts_cut body nonce cipher tag is nonce_long tag_long =
    let count : length cipher ≡ length body - 64 =
    omega (arith, ap length is, length-append nonce (cipher ++ tag), length-append cipher tag, nonce_long, tag_long) in (
      ap (take 32) is ∙ take_at nonce (cipher ++ tag) 32 nonce_long,
      ap (take (length body - 64)) (ap (drop 32) is ∙ drop_at nonce (cipher ++ tag) 32 nonce_long) ∙ take_at cipher tag (length body - 64) count,
    )

-- and the same moved to the front, the rest cut off
pub middle_kept : (body moved kept : List ℕ) (end : ℕ) → end + 32 ≡ length body → 64 ≤ length body
    → moved ≡ paste body 0 (drop 32 body) (end - 32) → kept ≡ take (end - 32) moved → kept ≡ take (length body - 64) (drop 32 body)
middle_kept body moved kept end end_is long moved_is kept_is =
    let count : end - 32 ≡ length body - 64 = omega arith in
    let whole : length (take (end - 32) (drop 32 body)) ≡ end - 32 =
    omega (arith, length-take (end - 32) (drop 32 body), length-drop 32 body) in
    kept_is ∙ ap (take (end - 32)) moved_is ∙ take_at (take (end - 32) (drop 32 body)) _ (end - 32) whole ∙ ap (λ n. take n (drop 32 body)) count
