-- Line feeds of bytes, and the bytes through one of them.
use Rattle.std.proofs.Common.{◌≡◌, ℕ, zero, suc, ◌+◌, ◌-◌, ◌<◌, ◌≤◌, Bool, true, false, cond, ◌==◌, List, [], ◌∷◌, ◌++◌, length, get_or, take, drop, refl, sym, ap, ◌∙◌, arith, append-nil, drop-cons, add-one, min, inl, inr, MatchBool, Decides}
use Rattle.std.proofs.lemmas.Bool.{cond-false, cond_both, cases_lt, false≢true}
use Rattle.std.proofs.lemmas.Bool.Decides.{Decides-eqb}
use Rattle.std.proofs.lemmas.List.{take-append-drop, take-append-le, length-take-le, take_all, take_min}
use Rattle.std.proofs.lemmas.List.Sums.{sum_by-append, sum_by-cons, count_by_more_yes}
use Rattle.std.proofs.Math.Dec.{eqb-suc-zero}
use Rattle.std.proofs.Math.Nat.{sub-zero}
use Rattle.std.proofs.Math.Seq.{take-suc}
use Rattle.http_wire.specs.Fronts.{is_line_feed, lines_of, through_line, front_of, IsFull}

pub lines-append : (xs ys : List ℕ) → lines_of (xs ++ ys) ≡ lines_of xs + lines_of ys
lines-append xs ys = sum_by-append (λ b. cond (is_line_feed b) 1 0) xs ys

lines-cons : (x : ℕ) (xs : List ℕ) → lines_of (x ∷ xs) ≡ cond (is_line_feed x) 1 0 + lines_of xs
lines-cons x xs = sum_by-cons (λ b. cond (is_line_feed b) 1 0) x xs

pub lines-take : (i : ℕ) (xs : List ℕ) → lines_of (take i xs) ≤ lines_of xs
lines-take i xs = let both = lines-append (take i xs) (drop i xs) in let whole = ap lines_of (take-append-drop i xs) in omega (arith, both, whole)

positive : (n : ℕ) → 0 < n → (n == 0) ≡ false
positive zero above = absurd (omega (arith, above))
positive (suc n) above = eqb-suc-zero n

-- bytes with fewer line feeds than that are passed over
pub through-append : (n : ℕ) (xs ys : List ℕ) → lines_of xs < n → through_line n (xs ++ ys) ≡ xs ++ through_line (n - lines_of xs) ys
through-append n [] ys few = ap (λ (m : ℕ). through_line m ys) (sym (sub-zero n))
through-append n (x ∷ xs) ys few =
    let P : ℕ → Type 0 = λ m. cond (n == 0) [] (x ∷ through_line m (xs ++ ys)) ≡ x ∷ (xs ++ through_line (n - lines_of (x ∷ xs)) ys) in
    let more : (m : ℕ) → lines_of xs < m → m - lines_of xs ≡ n - lines_of (x ∷ xs) → P m =
    λ m fewer same. cond-false (n == 0) [] (x ∷ through_line m (xs ++ ys)) (positive n (omega (arith, few)))
    ∙ ap (λ (l : List ℕ). x ∷ l) (through-append m xs ys fewer ∙ ap (λ (k : ℕ). xs ++ through_line k ys) same) in
    let first = lines-cons x xs in
    cond_both (is_line_feed x) (n - 1) n P
    (λ is. let one : ◌≡◌ {A = ℕ} (cond (is_line_feed x) 1 0) 1 = ap (λ (b : Bool). cond b 1 0) is in more (n - 1) (omega (arith, one, first, few)) (omega (arith, one, first, few)))
    (λ is. let none : ◌≡◌ {A = ℕ} (cond (is_line_feed x) 1 0) 0 = ap (λ (b : Bool). cond b 1 0) is in more n (omega (arith, none, first, few)) (omega (arith, none, first, few)))

pub through_all : (n : ℕ) (xs : List ℕ) → lines_of xs < n → through_line n xs ≡ xs
through_all n xs few = ap (through_line n) (sym (append-nil xs)) ∙ through-append n xs [] few ∙ append-nil xs

through_none : (xs : List ℕ) → through_line 0 xs ≡ []
through_none [] = refl
through_none (x ∷ xs) = refl

through_first : (x : ℕ) (xs : List ℕ) → is_line_feed x ≡ true → through_line 1 (x ∷ xs) ≡ x ∷ []
through_first x xs is = ap (λ (b : Bool). x ∷ through_line (cond b 0 1) xs) is ∙ ap (λ (l : List ℕ). x ∷ l) (through_none xs)

-- the item at the place where the number of line feeds is reached is the last
pub through_stop : (n i : ℕ) (xs : List ℕ) → i < length xs → lines_of (take i xs) + 1 ≡ n → is_line_feed (get_or xs i 0) ≡ true → through_line n xs ≡ take (i + 1) xs
through_stop n i xs inside reached is =
    let front = take i xs in
    let x = get_or xs i 0 in
    let left : n - lines_of front ≡ 1 = omega (arith, reached) in
    ap (through_line n) (sym (take-append-drop i xs)) ∙ through-append n front (drop i xs) (omega (arith, reached))
    ∙ ap (λ (k : ℕ). front ++ through_line k (drop i xs)) left
    ∙ ap (λ (l : List ℕ). front ++ through_line 1 l) (drop-cons xs i 0 inside)
    ∙ ap (λ (l : List ℕ). front ++ l) (through_first x (drop (suc i) xs) is)
    ∙ sym (take-suc xs i 0 inside) ∙ ap (λ (m : ℕ). take m xs) (sym (add-one i))

-- ---- the front

front_is : (k : ℕ) (bytes : List ℕ) → k ≡ min 65536 (length bytes) → through_line 102 (take k bytes) ≡ front_of bytes
front_is k bytes is = ap (λ (m : ℕ). through_line 102 (take m bytes)) is ∙ ap (through_line 102) (take_min 65536 bytes)

pub front_stops : (k i : ℕ) (bytes : List ℕ) → k ≡ min 65536 (length bytes) → i < length (take k bytes) → lines_of (take i (take k bytes)) + 1 ≡ 102 → get_or (take k bytes) i 0 ≡ 10 → take (i + 1) bytes ≡ front_of bytes
front_stops k i bytes is inside reached feed =
    ap (take (i + 1)) (sym (take-append-drop k bytes)) ∙ take-append-le (i + 1) (take k bytes) (drop k bytes) (omega (arith, inside))
    ∙ sym (through_stop 102 i (take k bytes) inside reached (ap is_line_feed feed)) ∙ front_is k bytes is

pub front_ends : (k : ℕ) (bytes : List ℕ) → k ≡ min 65536 (length bytes) → lines_of (take k bytes) < 102 → take (length (take k bytes)) bytes ≡ front_of bytes
front_ends k bytes is few =
    ap (λ (m : ℕ). take m bytes) (length-take-le k bytes (omega (arith, is))) ∙ sym (through_all 102 (take k bytes) few) ∙ front_is k bytes is

pub front_lines : (k i : ℕ) (bytes : List ℕ) → i < length (take k bytes) → lines_of (take i (take k bytes)) + 1 ≡ 102 → get_or (take k bytes) i 0 ≡ 10 → lines_of (take (i + 1) bytes) ≡ 102
front_lines k i bytes inside reached feed =
    let most = take k bytes in
    ap lines_of (ap (take (i + 1)) (sym (take-append-drop k bytes)) ∙ take-append-le (i + 1) most (drop k bytes) (omega (arith, inside)))
    ∙ count_by_more_yes is_line_feed most i 0 inside (ap is_line_feed feed) ∙ reached

pub full_stops : (k i : ℕ) (bytes : List ℕ) → i < length (take k bytes) → lines_of (take i (take k bytes)) + 1 ≡ 102 → get_or (take k bytes) i 0 ≡ 10 → IsFull bytes
full_stops k i bytes inside reached feed =
    let here = front_lines k i bytes inside reached feed in let all = lines-take (i + 1) bytes in inr (omega (arith, here, all))

pub front_lines_end : (k : ℕ) (bytes : List ℕ) → k ≡ min 65536 (length bytes) → lines_of (take k bytes) < 102 → lines_of (take (length (take k bytes)) bytes) ≤ 102
front_lines_end k bytes is few =
    let same : lines_of (take (length (take k bytes)) bytes) ≡ lines_of (take k bytes) = ap (λ (m : ℕ). lines_of (take m bytes)) (length-take-le k bytes (omega (arith, is))) in omega (arith, same, few)

pub full_ends : (k : ℕ) (bytes : List ℕ) → k ≡ min 65536 (length bytes) → lines_of (take k bytes) < 102 → MatchBool (length (take k bytes) == 65536) (IsFull bytes) (¬ (IsFull bytes))
full_ends k bytes is few = by (length (take k bytes) == 65536) (Decides-eqb (length (take k bytes)) 65536)
  where
    long : length (take k bytes) ≡ k
    long = length-take-le k bytes (omega (arith, is))

    whole : length bytes ≤ k → lines_of bytes ≡ lines_of (take k bytes)
    whole fits = ap lines_of (sym (take_all k bytes fits))

    none : (length (take k bytes) ≡ 65536 → ⊥) → IsFull bytes → ⊥
    none other (inl many) = other (let l = long in omega (arith, l, is, many))
    none other (inr lines) =
        elim (cases_lt (length bytes) 65536) [
          | inl short ↦ let all = whole (omega (arith, is, short)) in omega (arith, all, lines, few)
          | inr many ↦ other (let l = long in omega (arith, l, is, many))
        ]

    by : (b : Bool) → Decides b (length (take k bytes) ≡ 65536) → MatchBool b (IsFull bytes) (¬ (IsFull bytes))
    by true tells = inl (let at = tells.0 refl in let l = long in omega (arith, at, l, is))
    by false tells = none (λ same. false≢true (tells.1 same))

pub few_lines : (i lines : ℕ) (most : List ℕ) → length most ≤ i → lines < 102 → lines ≡ lines_of (take i most) → lines_of most < 102
few_lines i lines most done few is = let all = ap lines_of (take_all i most done) in omega (arith, all, few, is)
