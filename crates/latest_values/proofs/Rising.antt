-- What a walk over names in rising order lists.
use Rattle.std.proofs.Common.{◌≡◌, ℕ, ◌≤◌, ◌<◌, List, [], ◌∷◌, ◌++◌, map, length, Option, Some, None, Bool, true, false, ◌&&◌, cond, inl, inr, refl, sym, ap, subst, ◌∙◌, arith}
use Rattle.std.specs.Prelude.{◌↔◌}
use Rattle.std.specs.Option.{option_map, unwrap_or, is_some}
use Rattle.std.specs.Map.{lookup, keys_of}
use Rattle.std.specs.BTreeMap.{is_at}
use Rattle.std.specs.List.{filter, filter_map, cons_option, AllByRecursion}
use Rattle.std.specs.List.Sorted.{IsStrictlySortedBy}
use Rattle.std.specs.Cmp.Lexicographic.{slice_cmp}
use Rattle.std.specs.Ordering.{nat_cmp, is_lt}
use Rattle.std.specs.declared.cmp.Ordering.{Ordering}
use Rattle.std.specs.declared.cmp.Ordering.TheVariants.{Less, Equal, Greater}
use Rattle.std.proofs.lemmas.List.{append_assoc}
use Rattle.definitions.specs.Search.{FitsPage, IsPage}
use Rattle.definitions.proofs.Among.{Among, Among-from_place, Contains-from_Among}
use Rattle.record_model.specs.declared.names.NamedText.{NamedText}
use Rattle.view_rules.specs.Answers.{Named, named_bytes, IsAbove, Rises, IsListOf}
use Rattle.view_rules.specs.Standing.{value_of}
use Rattle.view_rules.specs.Standing as standing
use Rattle.latest_values.specs.declared.setting.Setting.{Setting}
use Rattle.latest_values.specs.declared.listing.Showing.{Showing}
use Rattle.latest_values.specs.declared.listing.Showing.TheVariants.{NamesAlone, NamesWithValues}
use Rattle.latest_values.specs.Settings.{Places, setting_seen, said_of, has_name}
use Rattle.latest_values.specs.Lists.{IsText, IsThere, item_of, item_at, named_seen, items_seen, weight_of, is_above, IsOnWay}
use Rattle.latest_values.proofs.Placed.{seen, looked, same_text, at_is}

-- ---- tests of names

name_of_item : (showing : Showing) (name value : List ℕ) → (item_of showing name value).name ≡ name
name_of_item NamesAlone name value = refl
name_of_item NamesWithValues name value = refl

less_of : (o : Ordering) → is_lt o ≡ true → o ≡ Less
less_of Less e = refl
less_of Equal e = absurd cc
less_of Greater e = absurd cc

above_is : (after name : List ℕ) → is_above after name ≡ true → IsAbove after name
above_is [] name e = inl refl
above_is (byte ∷ bytes) name e = inr (less_of (slice_cmp nat_cmp (byte ∷ bytes) name) e)

is_above_of : (after name : List ℕ) → IsAbove after name → is_above after name ≡ true
is_above_of [] name above = refl
is_above_of (byte ∷ bytes) name (inl e) = absurd cc
is_above_of (byte ∷ bytes) name (inr less) = ap is_lt less

pub above_some : (after name : List ℕ) → 0 < length after → (is_lt (slice_cmp nat_cmp after name) && true) ≡ is_above after name
above_some [] name long = absurd (omega arith)
above_some (byte ∷ bytes) name long = by (is_lt (slice_cmp nat_cmp (byte ∷ bytes) name))
  where
    by : (t : Bool) → (t && true) ≡ t
    by true = refl
    by false = refl

pub above_none : (after name : List ℕ) → length after ≡ 0 → is_above after name ≡ true
above_none [] name short = refl
above_none (byte ∷ bytes) name short = absurd (omega arith)

pub filter_same : {X : Type 0} (p q : X → Bool) → ((x : X) → p x ≡ q x) → (xs : List X) → filter p xs ≡ filter q xs
filter_same p q same [] = refl
filter_same {X} p q same (x ∷ xs) = ap (λ (b : Bool). cond b (x ∷ filter p xs) (filter p xs)) (same x) ∙ ap (λ (zs : List X). cond (q x) (x ∷ zs) zs) (filter_same p q same xs)

-- ---- what is listed

module _ {V : Type 0} (items : V → List ℕ) (showing : Showing) where
  abbrev shows : V × Option Setting → Option Named
  shows e = item_at showing (items e.0) e.1

  -- what is shown at a place has its name, and a value that was said
  shown_at : (name : List ℕ) (o : Option standing.Setting) (item : Named) → option_map (item_of showing name) (value_of o) ≡ Some item → (value : List ℕ) × (item.name ≡ name) × (value_of o ≡ Some value) × (item ≡ item_of showing name value)
  shown_at name o item e = by (value_of o) refl e
    where
      by : (v : Option (List ℕ)) → value_of o ≡ v → option_map (item_of showing name) v ≡ Some item → (value : List ℕ) × (item.name ≡ name) × (value_of o ≡ Some value) × (item ≡ item_of showing name value)
      by None is f = absurd cc
      by (Some value) is f =
          let same : item_of showing name value ≡ item = cc in
          (value, ap (λ (i : Named). i.name) (sym same) ∙ name_of_item showing name value, is, sym same)

  -- the places that a list of items is of
  from_place : (es : List (V × Option Setting)) (item : Named) → Among item (filter_map shows es) → (e : V × Option Setting) × Among e es × (shows e ≡ Some item)
  from_place [] item m = absurd m
  from_place (e ∷ es) item m = by (shows e) refl m (λ n. from_place es item n)
    where
      by : (o : Option Named) → shows e ≡ o → Among item (cons_option o (filter_map shows es)) → (Among item (filter_map shows es) → (f : V × Option Setting) × Among f es × (shows f ≡ Some item)) → (f : V × Option Setting) × Among f (e ∷ es) × (shows f ≡ Some item)
      by None is m more = let f = more m in (f.0, inr f.1, f.2)
      by (Some i) is (inl same) more = (e, inl refl, is ∙ ap Some (sym same))
      by (Some i) is (inr m) more = let f = more m in (f.0, inr f.1, f.2)

  to_place : (es : List (V × Option Setting)) (e : V × Option Setting) (item : Named) → Among e es → shows e ≡ Some item → Among item (filter_map shows es)
  to_place [] e item m is = absurd m
  to_place (f ∷ es) e item (inl same) is = subst (λ (o : Option Named). Among item (cons_option o (filter_map shows es))) (sym (ap shows (sym same) ∙ is)) (inl refl)
  to_place (f ∷ es) e item (inr m) is = by (shows f) (to_place es e item m is)
    where
      by : (o : Option Named) → Among item (filter_map shows es) → Among item (cons_option o (filter_map shows es))
      by None n = n
      by (Some i) n = inr n

  module _ {X : Type 0} (p : X → Bool) where
    kept_of : (es : List X) (e : X) → Among e (filter p es) → Among e es × (p e ≡ true)
    kept_of [] e m = absurd m
    kept_of (f ∷ es) e m = by (p f) refl m (λ n. kept_of es e n)
      where
        by : (t : Bool) → p f ≡ t → Among e (cond t (f ∷ filter p es) (filter p es)) → (Among e (filter p es) → Among e es × (p e ≡ true)) → Among e (f ∷ es) × (p e ≡ true)
        by true t (inl same) more = (inl same, ap p same ∙ t)
        by true t (inr m) more = let n = more m in (inr n.0, n.1)
        by false t m more = let n = more m in (inr n.0, n.1)

    kept_in : (es : List X) (e : X) → Among e es → p e ≡ true → Among e (filter p es)
    kept_in [] e m is = absurd m
    kept_in (f ∷ es) e (inl same) is = subst (λ (t : Bool). Among e (cond t (f ∷ filter p es) (filter p es))) (sym (ap p (sym same) ∙ is)) (inl same)
    kept_in (f ∷ es) e (inr m) is = by (p f) (kept_in es e m is)
      where
        by : (t : Bool) → Among e (filter p es) → Among e (cond t (f ∷ filter p es) (filter p es))
        by true n = inr n
        by false n = n

  -- ---- which

  -- a place that a name is found at
  placed_at : (name : List ℕ) (setting : Option Setting) (es : List (V × Option Setting)) → lookup (is_at (λ k. slice_cmp nat_cmp name (items k))) es ≡ Some setting → (e : V × Option Setting) × Among e es × (items e.0 ≡ name) × (e.1 ≡ setting)
  placed_at name setting [] found = absurd cc
  placed_at name setting (e ∷ es) found = by (is_at (λ k. slice_cmp nat_cmp name (items k)) e.0) refl found (λ f. placed_at name setting es f)
    where
      by : (t : Bool) → is_at (λ k. slice_cmp nat_cmp name (items k)) e.0 ≡ t → cond t (Some e.1) (lookup (is_at (λ k. slice_cmp nat_cmp name (items k))) es) ≡ Some setting
          → (lookup (is_at (λ k. slice_cmp nat_cmp name (items k))) es ≡ Some setting → (f : V × Option Setting) × Among f es × (items f.0 ≡ name) × (f.1 ≡ setting)) → (f : V × Option Setting) × Among f (e ∷ es) × (items f.0 ≡ name) × (f.1 ≡ setting)
      by true t here more = (e, inl refl, same_text (items e.0) name (sym (at_is name (items e.0)) ∙ t), (let is : e.1 ≡ setting = cc in is))
      by false t here more = let f = more here in (f.0, inr f.1, f.2, f.3)

  some_place : (o : Option (Option Setting)) (value : List ℕ) → value_of (option_map setting_seen (unwrap_or o None)) ≡ Some value → (s : Option Setting) × (o ≡ Some s)
  some_place None value e = absurd cc
  some_place (Some s) value e = (s, refl)

  module _ (after : List ℕ) (es : List (V × Option Setting)) where
    abbrev pub listed : List Named
    listed = filter_map shows (filter (λ (e : V × Option Setting). is_above after (items e.0)) es)

    only_there : AllByRecursion (λ (e : V × Option Setting). lookup (is_at (λ k. slice_cmp nat_cmp (items e.0) (items k))) es ≡ Some e.1) (filter (λ (e : V × Option Setting). is_above after (items e.0)) es)
        → (item : Named) → Among item listed → IsThere showing (seen items es) item × IsAbove after item.name
    only_there found item m =
        let e = from_place (filter (λ (e : V × Option Setting). is_above after (items e.0)) es) item m in
        let kept = kept_of (λ (e : V × Option Setting). is_above after (items e.0)) es e.0 e.1 in
        let at = all_at (filter (λ (e : V × Option Setting). is_above after (items e.0)) es) e.0 found e.1 in
        let shown = shown_at (items e.0.0) (option_map setting_seen e.0.1) item e.2 in
        let said : said_of (seen items es) (items e.0.0) ≡ option_map setting_seen e.0.1 = ap (λ (o : Option (Option Setting)). option_map setting_seen (unwrap_or o None)) (looked items (items e.0.0) es ∙ at) in (
          (shown.0, ap (λ (n : List ℕ). value_of (said_of (seen items es) n)) shown.1 ∙ ap value_of said ∙ shown.2, shown.3 ∙ ap (λ (n : List ℕ). item_of showing n shown.0) (sym shown.1)),
          subst (λ (n : List ℕ). IsAbove after n) (sym shown.1) (above_is after (items e.0.0) kept.1),
        )
      where
        all_at : (fs : List (V × Option Setting)) (e : V × Option Setting) → AllByRecursion (λ (e : V × Option Setting). lookup (is_at (λ k. slice_cmp nat_cmp (items e.0) (items k))) es ≡ Some e.1) fs → Among e fs → lookup (is_at (λ k. slice_cmp nat_cmp (items e.0) (items k))) es ≡ Some e.1
        all_at [] e all m = absurd m
        all_at (f ∷ fs) e all (inl same) = subst (λ (x : V × Option Setting). lookup (is_at (λ k. slice_cmp nat_cmp (items x.0) (items k))) es ≡ Some x.1) (sym same) all.0
        all_at (f ∷ fs) e all (inr m) = all_at fs e all.1 m

    all_there : (item : Named) → IsThere showing (seen items es) item → IsAbove after item.name → Among item listed
    all_there item there above =
        let place = some_place (lookup (is_at (slice_cmp nat_cmp item.name)) (seen items es)) there.0 there.1 in
        let e = placed_at item.name place.0 es (sym (looked items item.name es) ∙ place.1) in
        let said : value_of (option_map setting_seen place.0) ≡ Some there.0 = ap (λ (o : Option (Option Setting)). value_of (option_map setting_seen (unwrap_or o None))) (sym place.1) ∙ there.1 in
        let shown : shows e.0 ≡ Some item =
        ap (λ (n : List ℕ). item_at showing n e.0.1) e.2 ∙ ap (item_at showing item.name) e.3 ∙ ap (option_map (item_of showing item.name)) said ∙ ap Some (sym there.2) in
        to_place (filter (λ (e : V × Option Setting). is_above after (items e.0)) es) e.0 item
        (kept_in (λ (e : V × Option Setting). is_above after (items e.0)) es e.0 e.1 (ap (is_above after) e.2 ∙ is_above_of after item.name above)) shown

  -- ---- in which order

  abbrev Above : List ℕ → List Named → Type 0
  Above name = AllByRecursion (λ (later : Named). slice_cmp nat_cmp name later.name ≡ Less)

  module _ (p : V × Option Setting → Bool) where
    below_all : (name : List ℕ) (es : List (V × Option Setting)) → AllByRecursion (λ (k : V). slice_cmp nat_cmp name (items k) ≡ Less) (keys_of es) → Above name (filter_map shows (filter p es))
    below_all name [] all = tt
    below_all name (e ∷ es) all = by (p e) (below_all name es all.1)
      where
        one : (o : Option Named) → shows e ≡ o → Above name (filter_map shows (filter p es)) → Above name (cons_option o (filter_map shows (filter p es)))
        one None is rest = rest
        one (Some i) is rest = (ap (slice_cmp nat_cmp name) (shown_at (items e.0) (option_map setting_seen e.1) i is).1 ∙ all.0, rest)

        by : (t : Bool) → Above name (filter_map shows (filter p es)) → Above name (filter_map shows (cond t (e ∷ filter p es) (filter p es)))
        by true rest = one (shows e) refl rest
        by false rest = rest

    rises_from : (es : List (V × Option Setting)) → IsStrictlySortedBy (λ (a b : V). slice_cmp nat_cmp (items a) (items b)) (keys_of es) → Rises (filter_map shows (filter p es))
    unfolding IsStrictlySortedBy
    rises_from [] up = tt
    rises_from (e ∷ es) up = by (p e) (rises_from es up.1) (below_all (items e.0) es up.0)
      where
        one : (o : Option Named) → shows e ≡ o → Rises (filter_map shows (filter p es)) → Above (items e.0) (filter_map shows (filter p es)) → Rises (cons_option o (filter_map shows (filter p es)))
        one None is rest below = rest
        one (Some i) is rest below = (subst (λ (n : List ℕ). Above n (filter_map shows (filter p es))) (sym (shown_at (items e.0) (option_map setting_seen e.1) i is).1) below, rest)

        by : (t : Bool) → Rises (filter_map shows (filter p es)) → Above (items e.0) (filter_map shows (filter p es)) → Rises (filter_map shows (cond t (e ∷ filter p es) (filter p es)))
        by true rest below = one (shows e) refl rest below
        by false rest below = rest

  pub is_list : (after : List ℕ) (limit : ℕ) (es : List (V × Option Setting)) (page : List Named) → IsStrictlySortedBy (λ (a b : V). slice_cmp nat_cmp (items a) (items b)) (keys_of es)
      → AllByRecursion (λ (e : V × Option Setting). lookup (is_at (λ k. slice_cmp nat_cmp (items e.0) (items k))) es ≡ Some e.1) (filter (λ (e : V × Option Setting). is_above after (items e.0)) es)
      → IsPage named_bytes limit (listed after es) page → IsListOf (IsThere showing (seen items es)) after limit page
  is_list after limit es page up found cut = record {
    all = listed after es;
    same = λ item. (
      λ c. only_there after es found item (Among-from_place Named (listed after es) item c.0 c.1 c.2),
      λ both. Contains-from_Among Named (listed after es) item (all_there after es item both.0 both.1),
    );
    rises = rises_from (λ (e : V × Option Setting). is_above after (items e.0)) es up;
    cut = cut;
  }

  -- ---- texts

  pub texts_among : (es fs : List (V × Option Setting)) → ((name : List ℕ) → has_name (seen items es) name ≡ true → IsText name) → AllByRecursion (λ (e : V × Option Setting). lookup (is_at (λ k. slice_cmp nat_cmp (items e.0) (items k))) es ≡ Some e.1) fs
      → AllByRecursion (λ (e : V × Option Setting). IsText (items e.0)) fs
  texts_among es [] texts found = tt
  texts_among es (e ∷ fs) texts found = (texts (items e.0) (ap is_some (looked items (items e.0) es ∙ found.0)), texts_among es fs texts found.1)

  -- ---- the walk

  items-more : (page : List NamedText) (item : NamedText) → items_seen (page ++ item ∷ []) ≡ items_seen page ++ named_seen item ∷ []
  items-more [] item = refl
  items-more (i ∷ page) item = ap (λ (is : List Named). named_seen i ∷ is) (items-more page item)

  module _ (limit : ℕ) (all : List (V × Option Setting)) where
    pub begins : 1 ≤ limit → (left : List (V × Option Setting)) (page : List NamedText) → left ≡ all → AllByRecursion (λ (e : V × Option Setting). IsText (items e.0)) all → page ≡ [] → IsOnWay items showing limit all left page 0
    begins one left page same texts none =
        subst (λ (ps : List NamedText). IsOnWay items showing limit all left ps 0) (sym none)
        (subst (λ (es : List (V × Option Setting)). IsOnWay items showing limit all es [] 0) (sym same) (record { texts = texts; weighed = refl; fits = (omega arith, inl (omega arith)); whole = refl }))

    pub passes_over : (e : V × Option Setting) (left : List (V × Option Setting)) (page : List NamedText) (bytes : ℕ) → IsOnWay items showing limit all (e ∷ left) page bytes → value_of (option_map setting_seen e.1) ≡ None → IsOnWay items showing limit all left page bytes
    passes_over e left page bytes way none = record {
      texts = way.texts.1;
      weighed = way.weighed;
      fits = way.fits;
      whole = ap (λ (o : Option (List ℕ)). items_seen page ++ cons_option (option_map (item_of showing (items e.0)) o) (filter_map shows left)) (sym none) ∙ way.whole;
    }

    pub takes : (e : V × Option Setting) (value : List ℕ) (left : List (V × Option Setting)) (item : NamedText) (page most : List NamedText) (bytes weight : ℕ) → IsOnWay items showing limit all (e ∷ left) page bytes → value_of (option_map setting_seen e.1) ≡ Some value
        → named_seen item ≡ item_of showing (items e.0) value → most ≡ page ++ item ∷ [] → weight ≡ weight_of most → FitsPage named_bytes limit (items_seen most) → IsOnWay items showing limit all left most weight
    takes e value left item page most bytes weight way some shown is weighed fits = record {
      texts = way.texts.1;
      weighed = weighed;
      fits = fits;
      whole = ap (λ (ps : List NamedText). items_seen ps ++ filter_map shows left) is ∙ ap (λ (is : List Named). is ++ filter_map shows left) (items-more page item) ∙ append_assoc (items_seen page) (named_seen item ∷ []) (filter_map shows left)
          ∙ ap (λ (i : Named). items_seen page ++ i ∷ filter_map shows left) shown ∙ ap (λ (o : Option (List ℕ)). items_seen page ++ cons_option (option_map (item_of showing (items e.0)) o) (filter_map shows left)) (sym some) ∙ way.whole;
    }

    pub ends : (page : List NamedText) (bytes : ℕ) → IsOnWay items showing limit all [] page bytes → IsPage named_bytes limit (filter_map shows all) (items_seen page)
    ends page bytes way = record { rest = []; begins = sym way.whole; fits = way.fits; most = λ next others e. absurd cc }

    pub breaks : (e : V × Option Setting) (value : List ℕ) (left : List (V × Option Setting)) (item : NamedText) (page : List NamedText) (bytes : ℕ) → IsOnWay items showing limit all (e ∷ left) page bytes → value_of (option_map setting_seen e.1) ≡ Some value
        → named_seen item ≡ item_of showing (items e.0) value → (FitsPage named_bytes limit (items_seen page ++ named_seen item ∷ []) → ⊥) → IsPage named_bytes limit (filter_map shows all) (items_seen page)
    breaks e value left item page bytes way some shown full = record {
      rest = named_seen item ∷ filter_map shows left;
      begins = sym way.whole ∙ ap (λ (o : Option (List ℕ)). items_seen page ++ cons_option (option_map (item_of showing (items e.0)) o) (filter_map shows left)) some ∙ ap (λ (i : Named). items_seen page ++ i ∷ filter_map shows left) (sym shown);
      fits = way.fits;
      most = λ next others same fits. full (let is : named_seen item ≡ next = cc in subst (λ (x : Named). FitsPage named_bytes limit (items_seen page ++ x ∷ [])) (sym is) fits);
    }

-- ---- with other words for what is there

pub list_along : {There Other : Named → Type 0} (after : List ℕ) (limit : ℕ) (page : List Named) → ((item : Named) → There item ↔ Other item) → IsListOf There after limit page → IsListOf Other after limit page
list_along after limit page same listed = record {
  all = listed.all;
  same = λ item. (
    λ c. let both = (listed.same item).0 c in ((same item).0 both.0, both.1),
    λ both. (listed.same item).1 ((same item).1 both.0, both.1),
  );
  rises = listed.rises;
  cut = listed.cut;
}

-- no places, no items
pub list_none : (showing : Showing) (after : List ℕ) (limit : ℕ) (page : List Named) → page ≡ [] → IsListOf (IsThere showing []) after limit page
list_none showing after limit page none = subst (λ (is : List Named). IsListOf (IsThere showing []) after limit is) (sym none)
    (record {
      all = [];
      same = λ item. (λ c. absurd (omega (arith, c.1)), λ both. absurd (let never : None ≡ Some both.0.0 = both.0.1 in cc));
      rises = tt;
      cut = record { rest = []; begins = refl; fits = (omega arith, inl (omega arith)); most = λ next others e. absurd cc };
    })

-- names alone have the empty text in the value's place
abbrev pub without_value : Named → Named
without_value item = record { name = item.name; value = [] }

none_left : (all page rest : List Named) → all ≡ page ++ rest → ((item : Named) → Among item all → item ≡ without_value item) → map without_value page ≡ page
none_left all [] rest begins alone = refl
none_left [] (i ∷ page) rest begins alone = absurd cc
none_left (a ∷ all) (i ∷ page) rest begins alone =
    let first : a ≡ i = cc in
    let more : all ≡ page ++ rest = cc in
    ap (λ (x : Named). x ∷ map without_value page) (sym (subst (λ (x : Named). x ≡ without_value x) first (alone a (inl refl)))) ∙ ap (λ (is : List Named). i ∷ is) (none_left all page rest more (λ item m. alone item (inr m)))

pub names_alone : (places : Places) (after : List ℕ) (limit : ℕ) (page : List Named) → IsListOf (IsThere NamesAlone places) after limit page → map without_value page ≡ page
names_alone places after limit page listed =
    none_left listed.all page listed.cut.rest listed.cut.begins (λ item m. ((listed.same item).0 (Contains-from_Among Named listed.all item m)).0.2)
