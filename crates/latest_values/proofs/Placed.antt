-- Names as lists of bytes: what a map of them has once a place is put.
use Rattle.std.proofs.Common.{◌≡◌, ℕ, List, [], ◌∷◌, map, Option, Some, None, Bool, true, false, cond, refl, sym, ap, subst, ◌∙◌}
use Rattle.std.specs.Prelude.{bytes_eq}
use Rattle.std.specs.Option.{is_some, unwrap_or, option_map}
use Rattle.std.specs.Map.{lookup}
use Rattle.std.specs.BTreeMap.{is_at, insert_entry}
use Rattle.std.specs.Cmp.Lexicographic.{slice_cmp}
use Rattle.std.specs.Ordering.{nat_cmp, match_ordering, is_eq}
use Rattle.std.specs.declared.cmp.Ordering.{Ordering}
use Rattle.std.specs.declared.cmp.Ordering.TheVariants.{Less, Equal, Greater}
use Rattle.std.proofs.lemmas.Bool.{true≢false}
use Rattle.std.proofs.lemmas.Cmp.{nat_list_eq_equiv}
use Rattle.std.proofs.lemmas.Map.Text.{is_eq-slice_cmp}
use Rattle.std.proofs.lemmas.Slice.Eq.{bytes_eq-Decides}
use Rattle.view_rules.specs.Changes.{Change}
use Rattle.view_rules.specs.Standing.{later, setting_of, after_saying}
use Rattle.view_rules.specs.Standing as standing
use Rattle.latest_values.specs.declared.setting.Setting.{Setting}
use Rattle.latest_values.specs.Settings.{setting_seen, stands_later}
use Rattle.latest_values.specs.Lists.{IsText, AreTexts}

abbrev pub at : List ℕ → List ℕ → Bool
at q = is_at (slice_cmp nat_cmp q)

pub at_is : (q k : List ℕ) → at q k ≡ bytes_eq k q
at_is q k = is_eq-slice_cmp q k ∙ nat_list_eq_equiv.symm q k

pub same_text : (a b : List ℕ) → bytes_eq a b ≡ true → a ≡ b
same_text a b e = (bytes_eq-Decides a b).0 e

text_itself : (a : List ℕ) → bytes_eq a a ≡ true
text_itself a = (bytes_eq-Decides a a).1 refl

equal_text : (a b : List ℕ) → slice_cmp nat_cmp a b ≡ Equal → a ≡ b
equal_text a b e = same_text a b (sym (is_eq-slice_cmp a b) ∙ ap is_eq e)

-- ---- lists of bytes as keys

module _ {X : Type 0} where
  twice : (t : Bool) (v w : X) (o : Option X) → cond t (Some v) o ≡ cond t (Some v) (cond t (Some w) o)
  twice true v w o = refl
  twice false v w o = refl

  put_looked : (es : List (List ℕ × X)) (k q : List ℕ) (v : X) → lookup (at q) (insert_entry (slice_cmp nat_cmp) es k v) ≡ cond (bytes_eq k q) (Some v) (lookup (at q) es)
  put_looked [] k q v = ap (λ (t : Bool). cond t (Some v) None) (at_is q k)
  put_looked (e ∷ es) k q v = by (slice_cmp nat_cmp k e.0) refl (put_looked es k q v)
    where
      apart : (a b : Bool) → at q e.0 ≡ a → bytes_eq k q ≡ b → slice_cmp nat_cmp k e.0 ≡ Greater → cond a (Some e.1) (cond b (Some v) (lookup (at q) es)) ≡ cond b (Some v) (cond a (Some e.1) (lookup (at q) es))
      apart true true p r greater =
          let here : e.0 ≡ q = same_text e.0 q (sym (at_is q e.0) ∙ p) in
          let there : k ≡ q = same_text k q r in
          let equal : is_eq (slice_cmp nat_cmp k e.0) ≡ true = is_eq-slice_cmp k e.0 ∙ (bytes_eq-Decides k e.0).1 (there ∙ sym here) in
          absurd (true≢false (sym equal ∙ ap is_eq greater))
      apart true false p r greater = refl
      apart false true p r greater = refl
      apart false false p r greater = refl

      by : (o : Ordering) → slice_cmp nat_cmp k e.0 ≡ o → lookup (at q) (insert_entry (slice_cmp nat_cmp) es k v) ≡ cond (bytes_eq k q) (Some v) (lookup (at q) es)
          → lookup (at q) (match_ordering o ((k, v) ∷ e ∷ es) ((e.0, v) ∷ es) (e ∷ insert_entry (slice_cmp nat_cmp) es k v)) ≡ cond (bytes_eq k q) (Some v) (cond (at q e.0) (Some e.1) (lookup (at q) es))
      by Less is more = ap (λ (t : Bool). cond t (Some v) (cond (at q e.0) (Some e.1) (lookup (at q) es))) (at_is q k)
      by Equal is more =
          let same : at q e.0 ≡ bytes_eq k q = at_is q e.0 ∙ ap (λ (x : List ℕ). bytes_eq x q) (sym (equal_text k e.0 is)) in
          ap (λ (t : Bool). cond t (Some v) (lookup (at q) es)) same ∙ twice (bytes_eq k q) v e.1 (lookup (at q) es)
          ∙ ap (λ (t : Bool). cond (bytes_eq k q) (Some v) (cond t (Some e.1) (lookup (at q) es))) (sym same)
      by Greater is more = ap (λ (o : Option X). cond (at q e.0) (Some e.1) o) more ∙ apart (at q e.0) (bytes_eq k q) refl refl is

-- ---- keys that have such a list

module _ {V X : Type 0} (items : V → List ℕ) where
  abbrev pub seen : List (V × X) → List (List ℕ × X)
  seen es = map (λ (e : V × X). (items e.0, e.1)) es

  pub looked : (q : List ℕ) (es : List (V × X)) → lookup (at q) (seen es) ≡ lookup (is_at (λ k. slice_cmp nat_cmp q (items k))) es
  looked q [] = refl
  looked q (e ∷ es) = ap (λ (o : Option X). cond (at q (items e.0)) (Some e.1) o) (looked q es)

  put_seen : (es : List (V × X)) (k : V) (v : X) → seen (insert_entry (λ a b. slice_cmp nat_cmp (items a) (items b)) es k v) ≡ insert_entry (slice_cmp nat_cmp) (seen es) (items k) v
  put_seen [] k v = refl
  put_seen (e ∷ es) k v = by (slice_cmp nat_cmp (items k) (items e.0)) (put_seen es k v)
    where
      by : (o : Ordering) → seen (insert_entry (λ a b. slice_cmp nat_cmp (items a) (items b)) es k v) ≡ insert_entry (slice_cmp nat_cmp) (seen es) (items k) v
          → seen (match_ordering o ((k, v) ∷ e ∷ es) ((e.0, v) ∷ es) (e ∷ insert_entry (λ a b. slice_cmp nat_cmp (items a) (items b)) es k v))
          ≡ match_ordering o ((items k, v) ∷ (items e.0, e.1) ∷ seen es) ((items e.0, v) ∷ seen es) ((items e.0, e.1) ∷ insert_entry (slice_cmp nat_cmp) (seen es) (items k) v)
      by Less h = refl
      by Equal h = refl
      by Greater h = ap (λ (zs : List (List ℕ × X)). (items e.0, e.1) ∷ zs) h

  pub there : (q : List ℕ) (es : List (V × X)) (o : Option X) → o ≡ lookup (is_at (λ k. slice_cmp nat_cmp q (items k))) es → o ≡ lookup (at q) (seen es)
  there q es o e = e ∙ sym (looked q es)

  module _ (es fs : List (V × X)) (k : V) (v : X) (is : fs ≡ insert_entry (λ a b. slice_cmp nat_cmp (items a) (items b)) es k v) where
    pub place_put : (q : List ℕ) → lookup (at q) (seen fs) ≡ cond (bytes_eq (items k) q) (Some v) (lookup (at q) (seen es))
    place_put q = ap (λ (gs : List (V × X)). lookup (at q) (seen gs)) is ∙ ap (lookup (at q)) (put_seen es k v) ∙ put_looked (seen es) (items k) q v

    pub made_put : is_some (lookup (at (items k)) (seen fs)) ≡ true
    made_put = ap is_some (place_put (items k)) ∙ ap (λ (t : Bool). is_some (cond t (Some v) (lookup (at (items k)) (seen es)))) (text_itself (items k))

    pub kept_put : (q : List ℕ) → is_some (lookup (at q) (seen es)) ≡ true → is_some (lookup (at q) (seen fs)) ≡ true
    kept_put q has = ap is_some (place_put q) ∙ by (bytes_eq (items k) q)
      where
        by : (t : Bool) → is_some (cond t (Some v) (lookup (at q) (seen es))) ≡ true
        by true = refl
        by false = has

    pub held_put : (d : X) (q : List ℕ) → unwrap_or (lookup (at q) (seen fs)) d ≡ cond (bytes_eq (items k) q) v (unwrap_or (lookup (at q) (seen es)) d)
    held_put d q = ap (λ (o : Option X). unwrap_or o d) (place_put q) ∙ by (bytes_eq (items k) q)
      where
        by : (t : Bool) → unwrap_or (cond t (Some v) (lookup (at q) (seen es))) d ≡ cond t v (unwrap_or (lookup (at q) (seen es)) d)
        by true = refl
        by false = refl

    -- where the name had none, an empty place changes nothing
    pub same_put : (q : List ℕ) → unwrap_or (lookup (at (items k)) (seen es)) v ≡ v → unwrap_or (lookup (at q) (seen fs)) v ≡ unwrap_or (lookup (at q) (seen es)) v
    same_put q none = held_put v q ∙ by (bytes_eq (items k) q) refl
      where
        by : (t : Bool) → bytes_eq (items k) q ≡ t → cond t v (unwrap_or (lookup (at q) (seen es)) v) ≡ unwrap_or (lookup (at q) (seen es)) v
        by true t = sym none ∙ ap (λ (x : List ℕ). unwrap_or (lookup (at x) (seen es)) v) (same_text (items k) q t)
        by false t = refl

-- where the name is a text, all are so still
pub texts_put : {V : Type 0} (items : V → List ℕ) (es fs : List (V × Option Setting)) (k : V) (v : Option Setting) → fs ≡ insert_entry (λ a b. slice_cmp nat_cmp (items a) (items b)) es k v → IsText (items k) → AreTexts (seen items es) → AreTexts (seen items fs)
texts_put items es fs k v is text texts q has = by (bytes_eq (items k) q) refl (sym (ap is_some (place_put items es fs k v is q)) ∙ has)
  where
    by : (t : Bool) → bytes_eq (items k) q ≡ t → is_some (cond t (Some v) (lookup (at q) (seen items es))) ≡ true → IsText q
    by true t has = subst IsText (same_text (items k) q t) text
    by false t has = texts q has

-- where no place was made nothing was said
pub nothing_held : {S : Type 0} (o : Option (Option S)) → is_some o ≡ false → unwrap_or o None ≡ None
nothing_held None e = refl
nothing_held (Some x) e = absurd (true≢false e)

-- ---- the later of two

latest_is : (s : Setting) (o : Option Setting) → stands_later (setting_seen s) (option_map setting_seen o) ≡ true → Some (setting_seen s) ≡ Some (later (setting_seen s) (option_map setting_seen o))
latest_is s None e = refl
latest_is s (Some t) e = ap (λ (b : Bool). Some (cond b (setting_seen s) (setting_seen t))) (sym e)

older_is : (s : Setting) (o : Option Setting) → stands_later (setting_seen s) (option_map setting_seen o) ≡ false → option_map setting_seen o ≡ Some (later (setting_seen s) (option_map setting_seen o))
older_is s None e = absurd (true≢false e)
older_is s (Some t) e = ap (λ (b : Bool). Some (cond b (setting_seen s) (setting_seen t))) (sym e)

-- with what is later put, and with what isn't left out
pub said_put : (name q : List ℕ) (s : Setting) (held : List ℕ → Option Setting) (new : Option Setting) → stands_later (setting_seen s) (option_map setting_seen (held name)) ≡ true → new ≡ cond (bytes_eq name q) (Some s) (held q)
    → option_map setting_seen new ≡ cond (bytes_eq name q) (Some (later (setting_seen s) (option_map setting_seen (held name)))) (option_map setting_seen (held q))
said_put name q s held new latest e = ap (option_map setting_seen) e ∙ by (bytes_eq name q)
  where
    by : (t : Bool) → option_map setting_seen (cond t (Some s) (held q)) ≡ cond t (Some (later (setting_seen s) (option_map setting_seen (held name)))) (option_map setting_seen (held q))
    by true = latest_is s (held name) latest
    by false = refl

pub said_left : (name q : List ℕ) (s : Setting) (held : List ℕ → Option Setting) → stands_later (setting_seen s) (option_map setting_seen (held name)) ≡ false
    → option_map setting_seen (held q) ≡ cond (bytes_eq name q) (Some (later (setting_seen s) (option_map setting_seen (held name)))) (option_map setting_seen (held q))
said_left name q s held older = by (bytes_eq name q) refl
  where
    by : (t : Bool) → bytes_eq name q ≡ t → option_map setting_seen (held q) ≡ cond t (Some (later (setting_seen s) (option_map setting_seen (held name)))) (option_map setting_seen (held q))
    by true t = ap (λ (x : List ℕ). option_map setting_seen (held x)) (sym (same_text name q t)) ∙ older_is s (held name) older
    by false t = refl

-- ---- one change more

-- where a change says something of one name alone, what is said of each name goes on by it
pub said_grows : (name q : List ℕ) (said : Option (List ℕ)) (c : Change) (old : List ℕ → Option standing.Setting) (o : Option (Option (List ℕ))) (new : Option standing.Setting) → o ≡ cond (bytes_eq name q) (Some said) None
    → new ≡ cond (bytes_eq name q) (Some (later (setting_of c said) (old name))) (old q) → new ≡ after_saying o c (old q)
said_grows name q said c old o new says is = is ∙ by (bytes_eq name q) refl ∙ sym (ap (λ (o : Option (Option (List ℕ))). after_saying o c (old q)) says)
  where
    by : (t : Bool) → bytes_eq name q ≡ t → cond t (Some (later (setting_of c said) (old name))) (old q) ≡ after_saying (cond t (Some said) None) c (old q)
    by true t = ap (λ (x : List ℕ). Some (later (setting_of c said) (old x))) (same_text name q t)
    by false t = refl
