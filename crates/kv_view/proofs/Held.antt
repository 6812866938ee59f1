-- What a view of keys holds once a place is put or written.
use Rattle.std.proofs.Common.{◌≡◌, ℕ, List, [], ◌∷◌, map, Option, Some, None, Bool, true, false, cond, ◌&&◌, Result, Ok, Err, IfOk, refl, sym, ap, subst, ◌∙◌}
use Rattle.std.specs.Prelude.{bytes_eq, IsSome, ◌↔◌}
use Rattle.std.specs.Option.{is_some, unwrap_or}
use Rattle.std.specs.Map.{lookup, set_value}
use Rattle.std.specs.BTreeMap.{is_at, insert_entry}
use Rattle.std.specs.Cmp.Lexicographic.{slice_cmp}
use Rattle.std.specs.Cmp.{eq_by_cmp_equiv}
use Rattle.std.specs.Ordering.{nat_cmp, is_eq}
use Rattle.std.proofs.lemmas.Bool.{and_parts}
use Rattle.std.proofs.lemmas.Cmp.{nat_list_cmp_total}
use Rattle.std.proofs.lemmas.Map.{lookup-set_value}
use Rattle.std.proofs.lemmas.Map.Text.{is_eq-slice_cmp}
use Rattle.std.proofs.lemmas.Slice.Eq.{bytes_eq-Decides}
use Rattle.view_rules.specs.Changes.{Change, HaveDistinctPlaces}
use Rattle.view_rules.specs.Views.{of_key, ShowsKv}
use Rattle.view_rules.specs.Standing.{Setting, later, setting_of, after_saying, last_said, value_of}
use Rattle.view_rules.proofs.Settings.{shown_from}
use Rattle.view_rules.proofs.Ones.{key_shown}
use Rattle.latest_values.specs.Settings.{Places, has_name, said_of, KeepsNames}
use Rattle.latest_values.proofs.Placed.{seen, looked, place_put}
use Rattle.view_rules.specs.Answers.{Named, IsKey, IsListOf, KvListAnswer}
use Rattle.record_model.specs.declared.names.NamedText.{NamedText}
use Rattle.latest_values.specs.declared.listing.Showing.TheVariants.{NamesAlone}
use Rattle.latest_values.specs.Lists.{IsThere, items_seen}
use Rattle.latest_values.proofs.Rising.{without_value, names_alone, list_along}
use Rattle.kv_view.specs.Pairs.{Pairs, keys_of, has_pair, said_in, KeepsPairs, Means, payload_for, keys_listed}

abbrev at : List ℕ → List ℕ → Bool
at q = is_at (slice_cmp nat_cmp q)

same_text : (a b : List ℕ) → bytes_eq a b ≡ true → a ≡ b
same_text a b e = (bytes_eq-Decides a b).0 e

-- ---- a namespace that is written

one_key : (q x y : List ℕ) → at q x ≡ true → at q y ≡ is_eq (slice_cmp nat_cmp x y)
one_key q x y e = ap (λ (z : List ℕ). is_eq (slice_cmp nat_cmp z y)) (same_text q x (sym (is_eq-slice_cmp q x) ∙ e))

module _ {V : Type 0} (items : V → List ℕ) where
  set_seen : {X : Type 0} (q : List ℕ) (es : List (V × X)) (w : X) → seen items (set_value (is_at (λ k. slice_cmp nat_cmp q (items k))) es w) ≡ set_value (at q) (seen items es) w
  set_seen q [] w = refl
  set_seen {X = X} q (e ∷ es) w = by (at q (items e.0)) (set_seen q es w)
    where
      by : (t : Bool) → seen items (set_value (is_at (λ k. slice_cmp nat_cmp q (items k))) es w) ≡ set_value (at q) (seen items es) w
          → seen items (cond t ((e.0, w) ∷ es) (e ∷ set_value (is_at (λ k. slice_cmp nat_cmp q (items k))) es w)) ≡ cond t ((items e.0, w) ∷ seen items es) ((items e.0, e.1) ∷ set_value (at q) (seen items es) w)
      by true h = refl
      by false h = ap (λ (zs : List (List ℕ × X)). (items e.0, e.1) ∷ zs) h

  pub keys_are : (es : List (V × Places)) (namespace : List ℕ) (o : Option Places) → o ≡ lookup (is_at (λ k. slice_cmp nat_cmp namespace (items k))) es → unwrap_or o [] ≡ keys_of (seen items es) namespace
  keys_are es namespace o e = ap (λ (o : Option Places). unwrap_or o []) (e ∙ sym (looked items namespace es))

  module _ (es fs : List (V × Places)) (namespace : List ℕ) (old w : Places) (found : Some old ≡ lookup (is_at (λ k. slice_cmp nat_cmp namespace (items k))) es) (is : fs ≡ set_value (is_at (λ k. slice_cmp nat_cmp namespace (items k))) es w) where
    keys_after : (n : List ℕ) → keys_of (seen items fs) n ≡ cond (bytes_eq namespace n) w (keys_of (seen items es) n)
    keys_after n =
        let there : lookup (at namespace) (seen items es) ≡ Some old = looked items namespace es ∙ sym found in
        ap (λ (gs : List (V × Places)). keys_of (seen items gs) n) is
        ∙ ap (λ (ps : Pairs). keys_of ps n) (set_seen namespace es w)
        ∙ ap (λ (o : Option Places). unwrap_or o []) (lookup-set_value {eq = λ a b. is_eq (slice_cmp nat_cmp a b)} (eq_by_cmp_equiv nat_list_cmp_total) (at namespace) (one_key namespace) n w (seen items es) (subst (λ (o : Option Places). IsSome o) (sym there) refl))
        ∙ ap (λ (t : Bool). unwrap_or (cond t (Some w) (lookup (at n) (seen items es))) []) (is_eq-slice_cmp namespace n) ∙ by (bytes_eq namespace n)
      where
        by : (t : Bool) → unwrap_or (cond t (Some w) (lookup (at n) (seen items es))) [] ≡ cond t w (keys_of (seen items es) n)
        by true = refl
        by false = refl

    pub keys_here : old ≡ keys_of (seen items es) namespace
    keys_here = keys_are es namespace (Some old) found

    pub pairs_kept : KeepsNames old w → KeepsPairs (seen items es) (seen items fs)
    pairs_kept keeps n k has = ap (λ (ps : Places). has_name ps k) (keys_after n) ∙ by (bytes_eq namespace n) refl
      where
        by : (t : Bool) → bytes_eq namespace n ≡ t → has_name (cond t w (keys_of (seen items es) n)) k ≡ true
        by true t = keeps k (ap (λ (ps : Places). has_name ps k) (keys_here ∙ ap (keys_of (seen items es)) (same_text namespace n t)) ∙ has)
        by false t = has

    pub pair_made : (k : List ℕ) → has_name w k ≡ true → has_pair (seen items fs) namespace k ≡ true
    pair_made k made = ap (λ (ps : Places). has_name ps k) (keys_after namespace ∙ ap (λ (t : Bool). cond t w (keys_of (seen items es) namespace)) ((bytes_eq-Decides namespace namespace).1 refl)) ∙ made

    pub pairs_same : ((q : List ℕ) → said_of w q ≡ said_of old q) → (n k : List ℕ) → said_in (seen items fs) n k ≡ said_in (seen items es) n k
    pairs_same same n k = ap (λ (ps : Places). said_of ps k) (keys_after n) ∙ by (bytes_eq namespace n) refl
      where
        by : (t : Bool) → bytes_eq namespace n ≡ t → said_of (cond t w (keys_of (seen items es) n)) k ≡ said_in (seen items es) n k
        by true t = same k ∙ ap (λ (ps : Places). said_of ps k) (keys_here ∙ ap (keys_of (seen items es)) (same_text namespace n t))
        by false t = refl

    pub pair_said : (key : List ℕ) (s : Setting) → ((q : List ℕ) → said_of w q ≡ cond (bytes_eq key q) (Some (later s (said_of old key))) (said_of old q))
        → (n k : List ℕ) → said_in (seen items fs) n k ≡ cond (bytes_eq namespace n && bytes_eq key k) (Some (later s (said_in (seen items es) namespace key))) (said_in (seen items es) n k)
    pair_said key s said n k = ap (λ (ps : Places). said_of ps k) (keys_after n) ∙ by (bytes_eq namespace n) refl
      where
        by : (t : Bool) → bytes_eq namespace n ≡ t → said_of (cond t w (keys_of (seen items es) n)) k ≡ cond (t && bytes_eq key k) (Some (later s (said_in (seen items es) namespace key))) (said_in (seen items es) n k)
        by true t =
            said k ∙ ap (λ (ps : Places). cond (bytes_eq key k) (Some (later s (said_of ps key))) (said_of ps k)) keys_here
            ∙ ap (λ (ps : Places). cond (bytes_eq key k) (Some (later s (said_in (seen items es) namespace key))) (said_of ps k)) (ap (keys_of (seen items es)) (same_text namespace n t))
        by false t = refl

  -- ---- a namespace that is made

  module _ (es fs : List (V × Places)) (v : V) (is : fs ≡ insert_entry (λ a b. slice_cmp nat_cmp (items a) (items b)) es v []) (absent : is_some (lookup (at (items v)) (seen items es)) ≡ false) where
    nothing : (o : Option Places) → is_some o ≡ false → unwrap_or o [] ≡ []
    nothing None e = refl
    nothing (Some ps) e = absurd cc

    pub keys_same : (n : List ℕ) → keys_of (seen items fs) n ≡ keys_of (seen items es) n
    keys_same n = ap (λ (o : Option Places). unwrap_or o []) (place_put items es fs v [] is n) ∙ by (bytes_eq (items v) n) refl
      where
        by : (t : Bool) → bytes_eq (items v) n ≡ t → unwrap_or (cond t (Some []) (lookup (at n) (seen items es))) [] ≡ keys_of (seen items es) n
        by true t = sym (nothing (lookup (at (items v)) (seen items es)) absent) ∙ ap (keys_of (seen items es)) (same_text (items v) n t)
        by false t = refl

pub if_ok : {T E A B : Type 0} (r : Result T E) → IfOk r (λ _. A) → (A → B) → IfOk r (λ _. B)
if_ok (Ok x) a f = f a
if_ok (Err e) a f = tt

-- ---- one change more

says : (namespace key n k : List ℕ) (said : Option (List ℕ)) → of_key n k (payload_for namespace key said) ≡ cond (bytes_eq namespace n && bytes_eq key k) (Some said) None
says namespace key n k None = refl
says namespace key n k (Some value) = refl

pub grows : (old new : Pairs) (namespace key : List ℕ) (said : Option (List ℕ)) (c : Change) (changes : List Change) → c.payload ≡ payload_for namespace key said
    → ((n k : List ℕ) → said_in new n k ≡ cond (bytes_eq namespace n && bytes_eq key k) (Some (later (setting_of c said) (said_in old namespace key))) (said_in old n k)) → Means old changes → Means new (c ∷ changes)
grows old new namespace key said c changes holds put means n k =
    put n k ∙ by (bytes_eq namespace n && bytes_eq key k) refl ∙ sym (ap (λ (o : Option (Option (List ℕ))). after_saying o c (last_said (of_key n k) changes)) (ap (of_key n k) holds ∙ says namespace key n k said))
  where
    by : (t : Bool) → (bytes_eq namespace n && bytes_eq key k) ≡ t → cond t (Some (later (setting_of c said) (said_in old namespace key))) (said_in old n k) ≡ after_saying (cond t (Some said) None) c (last_said (of_key n k) changes)
    by true t =
        let parts = and_parts (bytes_eq namespace n) (bytes_eq key k) t in
        ap (λ (held : Option Setting). Some (later (setting_of c said) held))
        (ap (λ (x : List ℕ). said_in old x key) (same_text namespace n parts.0) ∙ ap (said_in old n) (same_text key k parts.1) ∙ means n k)
    by false t = means n k

pub shows : (pairs : Pairs) (changes : List Change) (namespace key value : List ℕ) (o : Option (List ℕ)) → o ≡ value_of (said_in pairs namespace key) → Means pairs changes → HaveDistinctPlaces changes → (o ≡ Some value) ↔ ShowsKv changes namespace key value
shows pairs changes namespace key value o is means own =
    let said = is ∙ ap value_of (means namespace key) in (
      λ e. shown_from (of_key namespace key) changes value (sym said ∙ e),
      λ shown. said ∙ key_shown changes own namespace key value shown,
    )

-- ---- lists of keys

pub keys_there : (pairs : Pairs) (changes : List Change) (namespace : List ℕ) → Means pairs changes → HaveDistinctPlaces changes → (item : Named) → IsThere NamesAlone (keys_of pairs namespace) item ↔ IsKey changes namespace item
keys_there pairs changes namespace means own item = (
  λ there. (ap (λ (i : Named). i.value) there.2, (there.0, (shows pairs changes namespace item.name there.0 (value_of (said_in pairs namespace item.name)) refl means own).0 there.1)),
  λ key. (key.1.0, (shows pairs changes namespace item.name key.1.0 (value_of (said_in pairs namespace item.name)) refl means own).1 key.1.1, λ i. record { name = item.name; value = key.0 i }),
)

keys_of_items : (items : List NamedText) → map (λ (key : List ℕ). record { name = key; value = [] }) (map (λ (item : NamedText). item.name) items) ≡ map without_value (items_seen items)
keys_of_items [] = refl
keys_of_items (i ∷ items) = ap (λ (is : List Named). record { name = i.name; value = [] } ∷ is) (keys_of_items items)

pub lists : (pairs : Pairs) (namespace after : List ℕ) (limit : ℕ) (items : List NamedText) (names : List (List ℕ)) → names ≡ map (λ (item : NamedText). item.name) items → IsListOf (IsThere NamesAlone (keys_of pairs namespace)) after limit (items_seen items)
    → (changes : List Change) → Means pairs changes → HaveDistinctPlaces changes → KvListAnswer changes namespace after limit (keys_listed names)
lists pairs namespace after limit items names is listed changes means own =
    let same : keys_listed names ≡ items_seen items = ap keys_listed is ∙ keys_of_items items ∙ names_alone (keys_of pairs namespace) after limit (items_seen items) listed in
    list_along after limit (keys_listed names) (keys_there pairs changes namespace means own) (subst (λ (is : List Named). IsListOf (IsThere NamesAlone (keys_of pairs namespace)) after limit is) (sym same) listed)
