-- What a map has once a place is put, or made.
use Rattle.std.proofs.Common.{◌≡◌, ℕ, Option, Some, None, Bool, true, false, cond, refl, sym, ap, ◌∙◌, arith}
use Rattle.std.specs.Option.{is_some, unwrap_or}
use Rattle.std.specs.BTreeMap.{is_at}
use Rattle.std.proofs.lemmas.Bool.Decides.{nat_tests}
use Rattle.std.proofs.Common.{ℕ, List, ◌+◌, refl, sum_by}
use Rattle.std.specs.Option.{option_map}
use Rattle.std.specs.Map.{lookup, keys_of, values_of}
use Rattle.std.specs.BTreeMap.{insert_entry}
use Rattle.std.specs.List.Sorted.{IsStrictlySortedBy}
use Rattle.std.specs.Cmp.{IsTotalOrder, nat_cmp_total}
use Rattle.std.proofs.lemmas.Cmp.{on_total, then_total, back_total}
use Rattle.std.proofs.lemmas.Map.Entries.{sum_by-insert_entry}
use Rattle.history_view.specs.Places.{OrderKey, key_cmp}

pub kept_put : {X : Type 0} (t : Bool) (v : X) (o n : Option X) → n ≡ cond t (Some v) o → is_some o ≡ true → is_some n ≡ true
kept_put true v o n e has = ap is_some e
kept_put false v o n e has = ap is_some e ∙ has

times : (a b c d : ℕ) → is_at (key_cmp (record { 0 = a }, b)) (record { 0 = c }, d) ≡ true → (a ≡ c) × (b ≡ d)
times a b c d e = (grind (arith, nat_tests), grind (arith, nat_tests))

pub one_key : (s q : OrderKey) → is_at (key_cmp s) q ≡ true → s ≡ q
one_key s q e = let parts = times s.0.0 s.1 q.0.0 q.1 e in λ i. (record { 0 = parts.0 i }, parts.1 i)

pub same_made : {X : Type 0} (d : X) (s q : OrderKey) (o n : OrderKey → Option X) → o s ≡ None → n q ≡ cond (is_at (key_cmp s) q) (Some d) (o q) → unwrap_or (n q) d ≡ unwrap_or (o q) d
same_made d s q o n none e = by (is_at (key_cmp s) q) refl
  where
    by : (t : Bool) → is_at (key_cmp s) q ≡ t → unwrap_or (n q) d ≡ unwrap_or (o q) d
    by true t = ap (λ x. unwrap_or x d) (e ∙ ap (λ (b : Bool). cond b (Some d) (o q)) t) ∙ sym (ap (λ x. unwrap_or x d) (ap o (sym (one_key s q t)) ∙ none))
    by false t = ap (λ x. unwrap_or x d) (e ∙ ap (λ (b : Bool). cond b (Some d) (o q)) t)

pub none_there : {X : Type 0} (o : Option X) (b : Bool) → b ≡ is_some o → b ≡ false → o ≡ None
none_there None b e t = refl
none_there (Some x) b e t = let both : true ≡ false = sym e ∙ t in absurd cc

totals : IsTotalOrder key_cmp
totals = then_total (on_total (λ (s : OrderKey). s.0.0) (back_total nat_cmp_total)) (on_total (λ (s : OrderKey). s.1) nat_cmp_total)

some_there : {X : Type 0} (f : X → ℕ) (d : X) (o : Option X) → is_some o ≡ true → unwrap_or (option_map f o) 0 ≡ f (unwrap_or o d)
some_there f d None has = absurd cc
some_there f d (Some x) has = refl

-- what is summed over all that stands in the order, once a key is put
pub put_sums : {X : Type 0} (f : X → ℕ) (d : X) (es fs : List (OrderKey × X)) (key : OrderKey) (v : X) → IsStrictlySortedBy key_cmp (keys_of es) → is_some (lookup (is_at (key_cmp key)) es) ≡ true → fs ≡ insert_entry key_cmp es key v
    → sum_by f (values_of fs) + f (unwrap_or (lookup (is_at (key_cmp key)) es) d) ≡ sum_by f (values_of es) + f v
put_sums {X = X} f d es fs key v up has is =
    let old = lookup (is_at (key_cmp key)) es in
    ap (λ (gs : List (OrderKey × X)). sum_by f (values_of gs) + f (unwrap_or old d)) is ∙ ap (λ (n : ℕ). sum_by f (values_of (insert_entry key_cmp es key v)) + n) (sym (some_there f d old has)) ∙ sum_by-insert_entry f totals es key v up

-- nor does an empty place change it, where the key had none
pub made_sums : {X : Type 0} (f : X → ℕ) (es fs : List (OrderKey × X)) (key : OrderKey) (v : X) → IsStrictlySortedBy key_cmp (keys_of es) → lookup (is_at (key_cmp key)) es ≡ None → fs ≡ insert_entry key_cmp es key v → f v ≡ 0 → sum_by f (values_of fs) ≡ sum_by f (values_of es)
made_sums {X = X} f es fs key v up none is nothing =
    let all : sum_by f (values_of (insert_entry key_cmp es key v)) + unwrap_or (option_map f (lookup (is_at (key_cmp key)) es)) 0 ≡ sum_by f (values_of es) + f v = sum_by-insert_entry f totals es key v up in
    let here : unwrap_or (option_map f (lookup (is_at (key_cmp key)) es)) 0 ≡ 0 = ap (λ (o : Option X). unwrap_or (option_map f o) 0) none in
    let same : sum_by f (values_of fs) ≡ sum_by f (values_of (insert_entry key_cmp es key v)) = ap (λ (gs : List (OrderKey × X)). sum_by f (values_of gs)) is in
    omega arith
