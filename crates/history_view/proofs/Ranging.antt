-- A part of the order by its keys is the walk over what began within a span.
use Rattle.std.proofs.Common.{◌≡◌, ℕ, List, [], ◌∷◌, Option, Some, None, Bool, true, false, cond, refl, sym, ap, subst, ◌∙◌, arith}
use Rattle.std.specs.Prelude.{not, ◌&&◌, leb, ltb}
use Rattle.std.specs.Map.{lookup}
use Rattle.std.specs.List.{All, filter}
use Rattle.std.specs.Ordering.{is_le}
use Rattle.std.specs.BTreeMap.{is_at}
use Rattle.std.proofs.lemmas.Bool.Decides.{nat_tests}
use Rattle.history_view.specs.declared.rows.TextNumbers.{TextNumbers}
use Rattle.history_view.specs.declared.spans.Span.{Span}
use Rattle.history_view.specs.declared.walk.Walked.{Walked}
use Rattle.history_view.specs.Places.{OrderKey, key_cmp}
use Rattle.history_view.specs.Walk.{walked_in, with_numbers}
use Rattle.history_view.specs.Spans.{began_within}

-- ---- all keys

pub all_between : (es : List (OrderKey × Option TextNumbers)) → filter (λ (e : OrderKey × Option TextNumbers). true) es ≡ es
all_between [] = refl
all_between (e ∷ es) = ap (λ (fs : List (OrderKey × Option TextNumbers)). e ∷ fs) (all_between es)

pub all_found : (P : OrderKey → Type 0) (order es : List (OrderKey × Option TextNumbers)) → es ≡ order → All (λ (e : OrderKey × Option TextNumbers). P e.0 × (lookup (is_at (key_cmp e.0)) order ≡ Some e.1)) es → All (λ (e : OrderKey × Option TextNumbers). lookup (is_at (key_cmp e.0)) order ≡ Some e.1) order
all_found P order es same all = subst (λ (fs : List (OrderKey × Option TextNumbers)). All (λ (e : OrderKey × Option TextNumbers). lookup (is_at (key_cmp e.0)) order ≡ Some e.1) fs) same (λ n e inside. (all n e inside).1)

-- ---- keys of a span

from_start : (latest time id : ℕ) → is_le (key_cmp (record { 0 = latest }, 0) (record { 0 = time }, id)) ≡ leb time latest
from_start latest time id = grind (arith, nat_tests)

both_ends : (a b c : Bool) → a ≡ b → (a && not c) ≡ (not c && b)
both_ends true true true e = refl
both_ends true true false e = refl
both_ends true false c e = absurd cc
both_ends false true c e = absurd cc
both_ends false false true e = refl
both_ends false false false e = refl

not_below : (time earliest : ℕ) → not (ltb time earliest) ≡ leb earliest time
not_below time earliest = grind (arith, nat_tests)

-- a key that lies from the start on and not past the end is of a time within the span
pub within_ends : (span : Span) (key : OrderKey) (numbers : TextNumbers) (past : Bool) → past ≡ ltb key.0.0 span.earliest
    → (is_le (key_cmp (record { 0 = span.latest }, 0) key) && not past) ≡ began_within span (record { timestamp = key.0.0; id = key.1; numbers = numbers })
within_ends span key numbers past e =
    both_ends (is_le (key_cmp (record { 0 = span.latest }, 0) key)) (leb key.0.0 span.latest) past (from_start span.latest key.0.0 key.1)
    ∙ ap (λ (b : Bool). b && leb key.0.0 span.latest) (ap not e ∙ not_below key.0.0 span.earliest)

-- ---- the walk over them

module _ (test : OrderKey → Bool) (within : Walked → Bool) (tells : (key : OrderKey) (numbers : TextNumbers) → test key ≡ within (record { timestamp = key.0.0; id = key.1; numbers = numbers })) where
  abbrev kept : List (OrderKey × Option TextNumbers) → List (OrderKey × Option TextNumbers)
  kept es = filter (λ (e : OrderKey × Option TextNumbers). test e.0) es

  one_more : (key : OrderKey) (o : Option TextNumbers) (t : Bool) → test key ≡ t → (es : List (OrderKey × Option TextNumbers)) → walked_in (kept es) ≡ filter within (walked_in es) → walked_in (cond t ((key, o) ∷ kept es) (kept es)) ≡ filter within (with_numbers key o (walked_in es))
  one_more key None true e es rest = rest
  one_more key None false e es rest = rest
  one_more key (Some numbers) true e es rest =
      let w : Walked = record { timestamp = key.0.0; id = key.1; numbers = numbers } in
      ap (λ (ws : List Walked). w ∷ ws) rest ∙ ap (λ (b : Bool). cond b (w ∷ filter within (walked_in es)) (filter within (walked_in es))) (sym e ∙ tells key numbers)
  one_more key (Some numbers) false e es rest =
      let w : Walked = record { timestamp = key.0.0; id = key.1; numbers = numbers } in
      rest ∙ ap (λ (b : Bool). cond b (w ∷ filter within (walked_in es)) (filter within (walked_in es))) (sym e ∙ tells key numbers)

  pub walked_between : (es : List (OrderKey × Option TextNumbers)) → walked_in (filter (λ (e : OrderKey × Option TextNumbers). test e.0) es) ≡ filter within (walked_in es)
  walked_between [] = refl
  walked_between (e ∷ es) = one_more e.0 e.1 (test e.0) refl es (walked_between es)
