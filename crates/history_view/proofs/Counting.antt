-- Counts stay those of what stands in the order, as a command is shown or hidden.
use Rattle.std.proofs.Common.{◌≡◌, ℕ, ◌+◌, ◌≤◌, ◌<◌, ◌^◌, List, [], ◌∷◌, length, Option, Some, None, Bool, true, false, cond, eqb, refl, sym, ap, ◌∙◌, arith, IsSome, slice_get}
use Rattle.std.specs.List.{sum_by}
use Rattle.std.specs.Map.{values_of}
use Rattle.std.specs.BTreeMap.{is_at}
use Rattle.std.proofs.lemmas.Bool.{eqb-true, eq-eqb, true≢false}
use Rattle.std.proofs.lemmas.Option.{slice_get_within}
use Rattle.std.proofs.lemmas.List.Sums.{sum_by-cons}
use Rattle.std.proofs.lemmas.Bool.Decides.{nat_tests}
use Rattle.history_view.specs.declared.rows.Creation.{Creation}
use Rattle.history_view.specs.declared.rows.TextNumbers.{TextNumbers}
use Rattle.history_view.specs.Counts.{Counts, Part, EachPart, CountsReach, the_command, the_cwd, the_session, the_hostname, tally_of, number_of, count_of, has_number, is_shown, AreCounted}
use Rattle.history_view.specs.Places.{OrderKey, key_cmp, numbers_in, numbers_for}
use Rattle.history_view.specs.Rows.{HasTexts, numbers_of}
use Rattle.history_view.specs.Texts.{AreNumbers}
use Rattle.history_view.proofs.OrderKeys.{one_key}

pub every : {P : Part → Type 0} → ((part : Part) → P part) → EachPart P
every f = record { command = f the_command; cwd = f the_cwd; session = f the_session; hostname = f the_hostname }

pub at_part : {P : Part → Type 0} → EachPart P → (part : Part) → P part
at_part all the_command = all.command
at_part all the_cwd = all.cwd
at_part all the_session = all.session
at_part all the_hostname = all.hostname

pub numbers_named : (texts : List (List ℕ)) (c : Creation) → HasTexts texts c → AreNumbers texts (numbers_of c)
numbers_named texts c has = record { command = has.command; cwd = has.cwd; session = has.session; hostname = has.hostname }

pub some_within : {X : Type 0} → (xs : List X) (n : ℕ) → IsSome (slice_get xs n) → n < length xs
some_within {X} xs n has = by (slice_get xs n) refl has
  where
    by : (o : Option X) → slice_get xs n ≡ o → IsSome o → n < length xs
    by None e h = absurd cc
    by (Some x) e h = slice_get_within xs n x e

-- where all numbers have texts, there are counts for them
pub numbers_counted : (texts : List (List ℕ)) (most : ℕ) (counts : Counts) (numbers : TextNumbers) → AreNumbers texts numbers → length texts ≡ most → CountsReach counts most → EachPart (λ (part : Part). number_of part numbers < length (tally_of counts part))
numbers_counted texts most counts numbers named same reach = every (λ part. let within = some_within texts (number_of part numbers) (at_part named part) in let far = at_part reach part in omega arith)

pub reach_kept : (old new : Counts) (most : ℕ) → CountsReach old most → EachPart (λ (part : Part). length (tally_of old part) ≤ length (tally_of new part)) → CountsReach new most
reach_kept old new most reach longer = every (λ part. let far = at_part reach part in let more = at_part longer part in omega arith)

pub reach_same : (old new : Counts) (most : ℕ) → CountsReach old most → EachPart (λ (part : Part). length (tally_of new part) ≡ length (tally_of old part)) → CountsReach new most
reach_same old new most reach long = every (λ part. let far = at_part reach part in let same = at_part long part in omega arith)

pub reach_less : (counts : Counts) (most less : ℕ) → CountsReach counts most → less ≤ most → CountsReach counts less
reach_less counts most less reach few = every (λ part. let far = at_part reach part in omega arith)

pub reach_next : (counts : Counts) (most : ℕ) → CountsReach counts most → EachPart (λ (part : Part). most + 1 ≤ length (tally_of counts part) + 1)
reach_next counts most reach = every (λ part. let far = at_part reach part in omega arith)

-- ---- sums

at_itself : (n : ℕ) → ◌≡◌ {A = ℕ} (cond (eqb n n) 1 0) 1
at_itself n = ap (λ (b : Bool). cond {A = ℕ} b 1 0) (eq-eqb n n refl)

pub one_here : (part : Part) (numbers : TextNumbers) → has_number part (number_of part numbers) (Some numbers) ≡ 1
one_here part numbers = at_itself (number_of part numbers)

most_one : (part : Part) (n : ℕ) (o : Option TextNumbers) → has_number part n o ≤ 1
most_one part n None = omega arith
most_one part n (Some numbers) = by (eqb (number_of part numbers) n)
  where
    by : (t : Bool) → cond {A = ℕ} t 1 0 ≤ 1
    by true = omega arith
    by false = omega arith

shown_one : (o : Option TextNumbers) → is_shown o ≤ 1
shown_one None = omega arith
shown_one (Some numbers) = omega arith

few : (f : Option TextNumbers → ℕ) → ((o : Option TextNumbers) → f o ≤ 1) → (es : List (OrderKey × Option TextNumbers)) → sum_by f (values_of es) ≤ length es
few f one [] = omega arith
few f one (e ∷ es) = let here = one e.1 in let rest = few f one es in let s = sum_by-cons f e.1 (values_of es) in omega (arith, s)

module _ (es fs : List (OrderKey × Option TextNumbers)) (o n : Option TextNumbers) (sums : (f : Option TextNumbers → ℕ) → sum_by f (values_of fs) + f o ≡ sum_by f (values_of es) + f n) where
  -- a command more
  module _ (numbers : TextNumbers) (empty : o ≡ None) (put : n ≡ Some numbers) where
    sums_more : (f : Option TextNumbers → ℕ) → sum_by f (values_of fs) + f None ≡ sum_by f (values_of es) + f (Some numbers)
    sums_more f = ap (λ (x : Option TextNumbers). sum_by f (values_of fs) + f x) (sym empty) ∙ sums f ∙ ap (λ (x : Option TextNumbers). sum_by f (values_of es) + f x) put

    pub counted_more : (old new : Counts) → AreCounted old es → EachPart (λ (part : Part). (k : ℕ) → count_of new part k ≡ count_of old part k + has_number part k (Some numbers)) → AreCounted new fs
    counted_more old new counted more = every (λ part k.
        let s = sums_more (has_number part k) in
        let c = at_part counted part k in
        let m = at_part more part k in
        omega arith)

    pub room_more : (old : Counts) → AreCounted old es → length fs < 2 ^ 64 → EachPart (λ (part : Part). count_of old part (number_of part numbers) + 1 < 2 ^ 64)
    room_more old counted long = every (λ part.
        let s = sums_more (has_number part (number_of part numbers)) in
        let c = at_part counted part (number_of part numbers) in
        let one = one_here part numbers in
        let most = few (has_number part (number_of part numbers)) (most_one part (number_of part numbers)) fs in
        omega arith)

    pub shown_more : (old : ℕ) → old ≡ sum_by is_shown (values_of es) → old + 1 ≡ sum_by is_shown (values_of fs)
    shown_more old is = let s = sums_more is_shown in omega arith

    pub shown_room : (old : ℕ) → old ≡ sum_by is_shown (values_of es) → length fs < 2 ^ 64 → old + 1 < 2 ^ 64
    shown_room old is long = let s = sums_more is_shown in let most = few is_shown shown_one fs in omega arith

  -- a command less
  module _ (numbers : TextNumbers) (stands : o ≡ Some numbers) (put : n ≡ None) where
    sums_fewer : (f : Option TextNumbers → ℕ) → sum_by f (values_of fs) + f (Some numbers) ≡ sum_by f (values_of es) + f None
    sums_fewer f = ap (λ (x : Option TextNumbers). sum_by f (values_of fs) + f x) (sym stands) ∙ sums f ∙ ap (λ (x : Option TextNumbers). sum_by f (values_of es) + f x) put

    pub counted_fewer : (old new : Counts) → AreCounted old es → EachPart (λ (part : Part). (k : ℕ) → count_of new part k + has_number part k (Some numbers) ≡ count_of old part k) → AreCounted new fs
    counted_fewer old new counted fewer = every (λ part k.
        let s = sums_fewer (has_number part k) in
        let c = at_part counted part k in
        let m = at_part fewer part k in
        omega arith)

    pub some_fewer : (old : Counts) → AreCounted old es → EachPart (λ (part : Part). 1 ≤ count_of old part (number_of part numbers))
    some_fewer old counted = every (λ part.
        let s = sums_fewer (has_number part (number_of part numbers)) in
        let c = at_part counted part (number_of part numbers) in
        let one = one_here part numbers in
        omega arith)

    pub shown_some : (old : ℕ) → old ≡ sum_by is_shown (values_of es) → 1 ≤ old
    shown_some old is = let s = sums_fewer is_shown in omega arith

    pub shown_fewer : (old new : ℕ) → old ≡ sum_by is_shown (values_of es) → new + 1 ≡ old → new ≡ sum_by is_shown (values_of fs)
    shown_fewer old new is less = let s = sums_fewer is_shown in omega arith

-- ---- keys of one id

apart_times : (a b c d : ℕ) → is_at (key_cmp (record { 0 = a }, b)) (record { 0 = c }, d) ≡ false → b ≡ d → eqb a c ≡ false
apart_times a b c d e same = grind (arith, nat_tests)

module _ (id : ℕ) (c : Creation) (q : OrderKey) where
  abbrev key : OrderKey
  key = (record { 0 = c.timestamp }, id)

  at_key : is_at (key_cmp key) q ≡ true → eqb id q.1 ≡ true
  at_key t = eq-eqb id q.1 (ap (λ (k : OrderKey). k.1) (one_key key q t))

  for_key : is_at (key_cmp key) q ≡ true → numbers_for q.0.0 (Some c) ≡ Some (numbers_of c)
  for_key t = ap (λ (b : Bool). cond b (Some (numbers_of c)) None) (eq-eqb c.timestamp q.0.0 (ap (λ (k : OrderKey). k.0.0) (one_key key q t)))

  for_other : is_at (key_cmp key) q ≡ false → eqb id q.1 ≡ true → numbers_for q.0.0 (Some c) ≡ None
  for_other t same = ap (λ (b : Bool). cond b (Some (numbers_of c)) None) (apart_times c.timestamp id q.0.0 q.1 t (eqb-true id q.1 same))

  pub out_some : (o n : Option TextNumbers) → n ≡ cond (is_at (key_cmp key) q) None o → (eqb id q.1 ≡ true → o ≡ numbers_for q.0.0 (Some c)) → n ≡ cond (eqb id q.1) None o
  out_some o n is stands = by (is_at (key_cmp key) q) (eqb id q.1) refl refl (λ e. stands e) is
    where
      by : (t u : Bool) → is_at (key_cmp key) q ≡ t → eqb id q.1 ≡ u → (eqb id q.1 ≡ true → o ≡ numbers_for q.0.0 (Some c)) → n ≡ cond t None o → n ≡ cond u None o
      by true true t u stands e = e
      by true false t u stands e = absurd (true≢false (sym (at_key t) ∙ u))
      by false true t u stands e = e ∙ stands u ∙ for_other t u
      by false false t u stands e = e

  pub in_some : (o n : Option TextNumbers) → n ≡ cond (is_at (key_cmp key) q) (Some (numbers_of c)) o → (eqb id q.1 ≡ true → o ≡ None) → n ≡ cond (eqb id q.1) (numbers_for q.0.0 (Some c)) o
  in_some o n is empty = by (is_at (key_cmp key) q) (eqb id q.1) refl refl (λ e. empty e) is
    where
      by : (t u : Bool) → is_at (key_cmp key) q ≡ t → eqb id q.1 ≡ u → (eqb id q.1 ≡ true → o ≡ None) → n ≡ cond t (Some (numbers_of c)) o → n ≡ cond u (numbers_for q.0.0 (Some c)) o
      by true true t u empty e = e ∙ sym (for_key t)
      by true false t u empty e = absurd (true≢false (sym (at_key t) ∙ u))
      by false true t u empty e = e ∙ empty u ∙ sym (for_other t u)
      by false false t u empty e = e

pub out_none : (id : ℕ) (q : OrderKey) (o : Option TextNumbers) → (eqb id q.1 ≡ true → o ≡ None) → o ≡ cond (eqb id q.1) None o
out_none id q o empty = by (eqb id q.1) (λ e. empty e)
  where
    by : (u : Bool) → (u ≡ true → o ≡ None) → o ≡ cond u None o
    by true none = none refl
    by false none = refl

-- what stands at the times of an id stands at its keys
pub stands_at : (order : List (OrderKey × Option TextNumbers)) (id : ℕ) (old : Option Creation) → ((time : ℕ) → numbers_in order (record { 0 = time }, id) ≡ numbers_for time old) → (q : OrderKey) → eqb id q.1 ≡ true → numbers_in order q ≡ numbers_for q.0.0 old
stands_at order id old stands q same = ap (λ (k : ℕ). numbers_in order (q.0, k)) (sym (eqb-true id q.1 same)) ∙ stands q.0.0
