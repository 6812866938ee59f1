-- Of lists that begin others.
use Rattle.std.proofs.Common.{◌≡◌, ◌+◌, ◌-◌, ◌≤◌, List, [], ◌++◌, length, take, drop, refl, sym, ap, ◌∙◌, arith, append_assoc, length-append}
use Rattle.std.proofs.Math.Seq.{take-append-add, take-append_seam}
use Rattle.std.proofs.lemmas.List.{append-nil, take_at, take-take, take-append-drop}
use Rattle.definitions.specs.Prefixes.{IsPrefix}

module _ {A : Type 0} where
  -- something stands behind it, which may be nothing
  pub prefix-rest : (xs ys : List A) → IsPrefix xs ys → xs ++ drop (length xs) ys ≡ ys
  prefix-rest xs ys prefix = ap (λ zs. zs ++ drop (length xs) ys) prefix ∙ take-append-drop (length xs) ys

  pub prefix-of : (xs rest ys : List A) → xs ++ rest ≡ ys → IsPrefix xs ys
  prefix-of xs rest ys is = sym (take-append_seam xs rest) ∙ ap (take (length xs)) is

  pub prefix-itself : (xs : List A) → IsPrefix xs xs
  prefix-itself xs = prefix-of xs [] xs (append-nil xs)

  pub prefix-grows : (xs ys more : List A) → IsPrefix xs ys → IsPrefix xs (ys ++ more)
  prefix-grows xs ys more prefix = prefix-of xs (drop (length xs) ys ++ more) (ys ++ more) (sym (append_assoc xs (drop (length xs) ys) more) ∙ ap (λ zs. zs ++ more) (prefix-rest xs ys prefix))

  pub prefix-then : (xs ys zs : List A) → IsPrefix xs ys → IsPrefix ys zs → IsPrefix xs zs
  prefix-then xs ys zs prefix next = prefix-of xs (drop (length xs) ys ++ drop (length ys) zs) zs (sym (append_assoc xs (drop (length xs) ys) (drop (length ys) zs)) ∙ ap (λ ws. ws ++ drop (length ys) zs) (prefix-rest xs ys prefix) ∙ prefix-rest ys zs next)

  pub prefix-is_shorter : (xs ys : List A) → IsPrefix xs ys → length xs ≤ length ys
  prefix-is_shorter xs ys prefix = let all : length ys ≡ length xs + length (drop (length xs) ys) = ap length (sym (prefix-rest xs ys prefix)) ∙ length-append xs (drop (length xs) ys) in omega (arith, all)

  -- two prefixes of one length are one
  pub prefixes-alike : (xs ys zs : List A) → IsPrefix xs zs → IsPrefix ys zs → length xs ≡ length ys → xs ≡ ys
  prefixes-alike xs ys zs prefix other same = prefix ∙ ap (λ n. take n zs) same ∙ sym other

  -- of two prefixes of a list the shorter one begins the other one
  pub prefixes-nest : (xs ys zs : List A) → IsPrefix xs zs → IsPrefix ys zs → length xs ≤ length ys → IsPrefix xs ys
  prefixes-nest xs ys zs prefix other shorter = prefix ∙ sym (take-take (length xs) (length ys) zs shorter) ∙ ap (take (length xs)) (sym other)

  -- and what stands between both is a prefix of what stands behind it
  pub longer-prefix : (one two since more : List A) → one ++ since ≡ two ++ more → length one ≤ length two → two ≡ one ++ take (length two - length one) since
  longer-prefix one two since more same below =
      let far : length one + (length two - length one) ≡ length two = omega (arith, below) in
      sym (take_at two more (length two) refl) ∙ ap (take (length two)) (sym same) ∙ ap (λ n. take n (one ++ since)) (sym far) ∙ take-append-add one since (length two - length one)
