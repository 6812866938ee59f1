-- What an ordered map has once a place is put or written: of keys that are looked up by a part of theirs.
use Rattle.std.proofs.Common.{◌≡◌, List, [], ◌∷◌, Option, Some, None, Bool, true, false, cond, refl, sym, ap, subst, ◌∙◌}
use Rattle.std.specs.Option.{is_some, unwrap_or}
use Rattle.std.specs.Map.{lookup, set_value}
use Rattle.std.specs.BTreeMap.{is_at, insert_entry}
use Rattle.std.specs.Cmp.{IsTotalOrder, Equal-is}
use Rattle.std.specs.Ordering.{match_ordering, is_eq}
use Rattle.std.specs.declared.cmp.Ordering.{Ordering}
use Rattle.std.specs.declared.cmp.Ordering.TheVariants.{Less, Equal, Greater}
use Rattle.std.proofs.lemmas.Bool.{true≢false}
use Rattle.std.proofs.lemmas.Cmp.{eq_by_cmp_equiv}

twice : {X : Type 0} (t : Bool) (w x : X) (o : Option X) → cond t (Some w) o ≡ cond t (Some w) (cond t (Some x) o)
twice true w x o = refl
twice false w x o = refl

module _ {K : Type 0} (cmp : K → K → Ordering) (total : IsTotalOrder cmp) where
  turned : (p q : K) → is_eq (cmp p q) ≡ is_eq (cmp q p)
  turned p q = (eq_by_cmp_equiv total).symm p q

  itself : (p : K) → is_eq (cmp p p) ≡ true
  itself p = (eq_by_cmp_equiv total).refl p

  equal : (p q : K) → is_eq (cmp p q) ≡ true → cmp p q ≡ Equal
  equal p q e = (Equal-is (cmp p q)).0 e

module _ {V K X : Type 0} (key : V → K) (cmp : K → K → Ordering) (total : IsTotalOrder cmp) where
  pub alike : (p q : K) (es : List (V × X)) → is_eq (cmp p q) ≡ true → lookup (is_at (λ v. cmp q (key v))) es ≡ lookup (is_at (λ v. cmp p (key v))) es
  alike p q [] e = refl
  alike p q (x ∷ es) e = λ i. cond (is_eq (sym (total.congr p q (key x.0) (equal cmp total p q e)) i)) (Some x.1) (alike p q es e i)

  -- ---- one entry

  here : (p q : K) (e : V × X) (w : X) (o : Option X) → cmp p (key e.0) ≡ Equal → cond (is_eq (cmp q (key e.0))) (Some w) o ≡ cond (is_eq (cmp p q)) (Some w) (cond (is_eq (cmp q (key e.0))) (Some e.1) o)
  here p q e w o is =
      let like : is_eq (cmp q (key e.0)) ≡ is_eq (cmp p q) = turned cmp total q (key e.0) ∙ ap is_eq (sym (total.congr p (key e.0) q is)) in
      ap (λ (t : Bool). cond t (Some w) o) like ∙ twice (is_eq (cmp p q)) w e.1 o ∙ ap (λ (t : Bool). cond (is_eq (cmp p q)) (Some w) (cond t (Some e.1) o)) (sym like)

  apart : (p q : K) (e : V × X) (w : X) (o : Option X) → is_eq (cmp p (key e.0)) ≡ false → cond (is_eq (cmp q (key e.0))) (Some e.1) (cond (is_eq (cmp p q)) (Some w) o) ≡ cond (is_eq (cmp p q)) (Some w) (cond (is_eq (cmp q (key e.0))) (Some e.1) o)
  apart p q e w o not = by (is_eq (cmp q (key e.0))) (is_eq (cmp p q)) refl refl
    where
      by : (a b : Bool) → is_eq (cmp q (key e.0)) ≡ a → is_eq (cmp p q) ≡ b → cond a (Some e.1) (cond b (Some w) o) ≡ cond b (Some w) (cond a (Some e.1) o)
      by true true r s = absurd (true≢false (sym r ∙ ap is_eq (sym (total.congr p q (key e.0) (equal cmp total p q s))) ∙ not))
      by true false r s = refl
      by false true r s = refl
      by false false r s = refl

  -- ---- a place that is put

  put_looked : (es : List (V × X)) (k : V) (q : K) (w : X) → lookup (is_at (λ v. cmp q (key v))) (insert_entry (λ a b. cmp (key a) (key b)) es k w) ≡ cond (is_eq (cmp (key k) q)) (Some w) (lookup (is_at (λ v. cmp q (key v))) es)
  put_looked [] k q w = ap (λ (t : Bool). cond t (Some w) None) (turned cmp total q (key k))
  put_looked (e ∷ es) k q w = by (cmp (key k) (key e.0)) refl (put_looked es k q w)
    where
      by : (o : Ordering) → cmp (key k) (key e.0) ≡ o → lookup (is_at (λ v. cmp q (key v))) (insert_entry (λ a b. cmp (key a) (key b)) es k w) ≡ cond (is_eq (cmp (key k) q)) (Some w) (lookup (is_at (λ v. cmp q (key v))) es)
          → lookup (is_at (λ v. cmp q (key v))) (match_ordering o ((k, w) ∷ e ∷ es) ((e.0, w) ∷ es) (e ∷ insert_entry (λ a b. cmp (key a) (key b)) es k w)) ≡ cond (is_eq (cmp (key k) q)) (Some w) (cond (is_eq (cmp q (key e.0))) (Some e.1) (lookup (is_at (λ v. cmp q (key v))) es))
      by Less is more = ap (λ (t : Bool). cond t (Some w) (cond (is_eq (cmp q (key e.0))) (Some e.1) (lookup (is_at (λ v. cmp q (key v))) es))) (turned cmp total q (key k))
      by Equal is more = here (key k) q e w (lookup (is_at (λ v. cmp q (key v))) es) is
      by Greater is more = ap (λ (o : Option X). cond (is_eq (cmp q (key e.0))) (Some e.1) o) more ∙ apart (key k) q e w (lookup (is_at (λ v. cmp q (key v))) es) (ap is_eq is)

  module _ (es fs : List (V × X)) (k : V) (d v : X) (is : fs ≡ insert_entry (λ a b. cmp (key a) (key b)) es k v) where
    put : (q : K) → lookup (is_at (λ v. cmp q (key v))) fs ≡ cond (is_eq (cmp (key k) q)) (Some v) (lookup (is_at (λ v. cmp q (key v))) es)
    put q = ap (lookup (is_at (λ v. cmp q (key v)))) is ∙ put_looked es k q v

    -- a place was made
    pub made_put : is_some (lookup (is_at (λ v. cmp (key k) (key v))) fs) ≡ true
    made_put = ap is_some (put (key k)) ∙ ap (λ (t : Bool). is_some (cond t (Some v) (lookup (is_at (λ v. cmp (key k) (key v))) es))) (itself cmp total (key k))

    -- where there was none, and nothing stands in the new one, all is as before
    pub same_put : lookup (is_at (λ v. cmp (key k) (key v))) es ≡ None → v ≡ d → (q : K) → unwrap_or (lookup (is_at (λ v. cmp q (key v))) fs) d ≡ unwrap_or (lookup (is_at (λ v. cmp q (key v))) es) d
    same_put none nothing q = ap (λ (o : Option X). unwrap_or o d) (put q) ∙ by (is_eq (cmp (key k) q)) refl
      where
        by : (t : Bool) → is_eq (cmp (key k) q) ≡ t → unwrap_or (cond t (Some v) (lookup (is_at (λ v. cmp q (key v))) es)) d ≡ unwrap_or (lookup (is_at (λ v. cmp q (key v))) es) d
        by true t = nothing ∙ ap (λ (o : Option X). unwrap_or o d) (sym none ∙ sym (alike (key k) q es t))
        by false t = refl

  -- ---- a place that is written

  set_looked : (es : List (V × X)) (p q : K) (old w : X) → Some old ≡ lookup (is_at (λ v. cmp p (key v))) es → lookup (is_at (λ v. cmp q (key v))) (set_value (is_at (λ v. cmp p (key v))) es w) ≡ cond (is_eq (cmp p q)) (Some w) (lookup (is_at (λ v. cmp q (key v))) es)
  set_looked [] p q old w found = absurd cc
  set_looked (e ∷ es) p q old w found = by (is_eq (cmp p (key e.0))) refl found (set_looked es p q old w)
    where
      by : (t : Bool) → is_eq (cmp p (key e.0)) ≡ t → Some old ≡ cond t (Some e.1) (lookup (is_at (λ v. cmp p (key v))) es) → (Some old ≡ lookup (is_at (λ v. cmp p (key v))) es → lookup (is_at (λ v. cmp q (key v))) (set_value (is_at (λ v. cmp p (key v))) es w) ≡ cond (is_eq (cmp p q)) (Some w) (lookup (is_at (λ v. cmp q (key v))) es))
          → lookup (is_at (λ v. cmp q (key v))) (cond t ((e.0, w) ∷ es) (e ∷ set_value (is_at (λ v. cmp p (key v))) es w)) ≡ cond (is_eq (cmp p q)) (Some w) (cond (is_eq (cmp q (key e.0))) (Some e.1) (lookup (is_at (λ v. cmp q (key v))) es))
      by true t found more = here p q e w (lookup (is_at (λ v. cmp q (key v))) es) ((Equal-is (cmp p (key e.0))).0 t)
      by false t found more = ap (λ (o : Option X). cond (is_eq (cmp q (key e.0))) (Some e.1) o) (more found) ∙ apart p q e w (lookup (is_at (λ v. cmp q (key v))) es) t

  -- what stands at a place
  pub there : (es : List (V × X)) (p : K) (d old : X) → Some old ≡ lookup (is_at (λ v. cmp p (key v))) es → old ≡ unwrap_or (lookup (is_at (λ v. cmp p (key v))) es) d
  there es p d old found = ap (λ (o : Option X). unwrap_or o d) found

  module _ (es fs : List (V × X)) (p : K) (d old w : X) (found : Some old ≡ lookup (is_at (λ v. cmp p (key v))) es) (is : fs ≡ set_value (is_at (λ v. cmp p (key v))) es w) where
    pub written : (q : K) → unwrap_or (lookup (is_at (λ v. cmp q (key v))) fs) d ≡ cond (is_eq (cmp p q)) w (unwrap_or (lookup (is_at (λ v. cmp q (key v))) es) d)
    written q = ap (λ (o : Option X). unwrap_or o d) (ap (lookup (is_at (λ v. cmp q (key v)))) is ∙ set_looked es p q old w found) ∙ by (is_eq (cmp p q))
      where
        by : (t : Bool) → unwrap_or (cond t (Some w) (lookup (is_at (λ v. cmp q (key v))) es)) d ≡ cond t w (unwrap_or (lookup (is_at (λ v. cmp q (key v))) es) d)
        by true = refl
        by false = refl

    pub written_here : unwrap_or (lookup (is_at (λ v. cmp p (key v))) fs) d ≡ w
    written_here = written p ∙ ap (λ (t : Bool). cond t w (unwrap_or (lookup (is_at (λ v. cmp p (key v))) es) d)) (itself cmp total p)

    -- what holds of old and new, told whether it is the place that was written, holds at each place
    pub related : (R : Bool → X → X → Type 0) → ((x : X) → R false x x) → R true old w → (q : K) → R (is_eq (cmp p q)) (unwrap_or (lookup (is_at (λ v. cmp q (key v))) es) d) (unwrap_or (lookup (is_at (λ v. cmp q (key v))) fs) d)
    related R still moved q = subst (R (is_eq (cmp p q)) (unwrap_or (lookup (is_at (λ v. cmp q (key v))) es) d)) (sym (written q)) (by (is_eq (cmp p q)) refl)
      where
        by : (t : Bool) → is_eq (cmp p q) ≡ t → R t (unwrap_or (lookup (is_at (λ v. cmp q (key v))) es) d) (cond t w (unwrap_or (lookup (is_at (λ v. cmp q (key v))) es) d))
        by true t = subst (λ (x : X). R true x w) (there es p d old found ∙ ap (λ (o : Option X). unwrap_or o d) (sym (alike p q es t))) moved
        by false t = still (unwrap_or (lookup (is_at (λ v. cmp q (key v))) es) d)
