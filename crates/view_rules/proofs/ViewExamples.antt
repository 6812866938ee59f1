-- Lists that are the same, and lists of the names that views show, computed.
use Rattle.std.proofs.Common.{◌≡◌, ℕ, List, [], ◌∷◌, Option, Some, None, refl, sym, ◌∙◌, ap, subst, arith, inl, inr}
use Rattle.std.specs.Prelude.{codes, ◌↔◌}
use Rattle.std.specs.List.{Contains}
use Rattle.std.proofs.lemmas.List.Sorted.{IsPermutation-refl}
use Rattle.std.proofs.lemmas.Option.{same_Some}
use Rattle.definitions.specs.Journal.{HistoryRecord}
use Rattle.definitions.specs.Search.{hit_bytes}
use Rattle.definitions.proofs.Search.{whole_page}
use Rattle.definitions.proofs.Among.{HaveDistinctIds-none, HaveDistinctIds-more}
use Rattle.std.specs.Cmp.Lexicographic.{slice_cmp}
use Rattle.std.specs.Ordering.{nat_cmp}
use Rattle.std.specs.declared.cmp.Ordering.TheVariants.{Less}
use Rattle.record_rules.proofs.Members.{Has}
use Rattle.payload_rules.specs.Payloads.{HistoryCreate}
use Rattle.view_rules.specs.Changes.{Change, time_cmp, gives, changes_of}
use Rattle.view_rules.specs.Views.{Dead, by_deletion, by_creation, ShowsHistory, Saying, of_key, of_name, SaysLast, ShowsKv, ShowsAlias}
use Rattle.view_rules.specs.Answers.{Named, IsAbove, IsKey}
use Rattle.view_rules.specs.Examples.{creation, deletion, ended_at, of_host_3, ended_later, ended_earlier, early, late, named, creation_elsewhere, early_elsewhere, alias_elsewhere, WorkedViews, record_at, opens_first, WorkedChanges}
use Rattle.view_rules.proofs.Records.{Has-from_Contains, Contains-from_Has, have_one_list, gives_once, computed_list}
use Rattle.view_rules.proofs.Settings.{of_key_set, of_name_set, of_name_ended}
use Rattle.view_rules.proofs.Examples.{one_of_one, one_of_two, second_one, ls_shown, keys, n_is_not_x, three_not_ended, ended_hidden}
use Rattle.view_rules.proofs.ListExamples.{whole_list}

-- ---- the same records

two_into_three : (r : Change) → Has (creation ∷ deletion ∷ []) r → Has (deletion ∷ creation ∷ creation ∷ []) r
two_into_three r (inl e) = inr (inl e)
two_into_three r (inr (inl e)) = inl e
two_into_three r (inr (inr none)) = absurd none

three_into_two : (r : Change) → Has (deletion ∷ creation ∷ creation ∷ []) r → Has (creation ∷ deletion ∷ []) r
three_into_two r (inl e) = inr (inl e)
three_into_two r (inr (inl e)) = inl e
three_into_two r (inr (inr (inl e))) = inl e
three_into_two r (inr (inr (inr none))) = absurd none

-- what is in a list of one record is of its host
alone : (r s : Change) → Contains (r ∷ []) s → r.host ≡ s.host
alone r s c = one_of_one (λ x. r.host ≡ x.host) r s c refl

nothing_dead : Dead [] 9 → ⊥
nothing_dead (by_deletion r among opened) = let lt = among.1 in omega arith
nothing_dead (by_creation r h time made same deleted) = let lt = made.among.1 in omega arith

-- the last of one change
last_alone : (saying : Saying) (c : Change) (said : Option (List ℕ)) → saying c.payload ≡ Some said → (time_cmp c c ≡ Less → ⊥) → SaysLast saying (c ∷ []) c said
last_alone saying c said says same = record {
  here = record { among = (0, omega arith, refl); says = says };
  last = λ d other more less. one_of_one (λ x. time_cmp c x ≡ Less → ⊥) c d more.among same less;
}

-- ---- names

no_names : (There : Named → Type 0) (after : List ℕ) → ((item : Named) → There item → IsAbove after item.name → ⊥) → (item : Named) → Contains [] item ↔ (There item × IsAbove after item.name)
no_names There after none item = (λ c. absurd (let lt = c.1 in omega arith), λ l. absurd (none item l.0 l.1))

not_above_itself : (name : List ℕ) (other : List ℕ) → (name ≡ [] → ⊥) → (slice_cmp nat_cmp name name ≡ Less → ⊥) → name ≡ other → IsAbove name other → ⊥
not_above_itself name other some same e (inl none) = some none
not_above_itself name other some same e (inr less) = same (subst (λ (n : List ℕ). slice_cmp nat_cmp name n ≡ Less) (sym e) less)

-- ---- a key

key_is : (namespace key value : List ℕ) → ShowsKv (late ∷ early ∷ []) namespace key value → (codes "n" ≡ namespace) × (codes "k" ≡ key)
key_is namespace key value shown = one_of_two (λ c. of_key namespace key c.payload ≡ Some (Some value) → (codes "n" ≡ namespace) × (codes "k" ≡ key)) late early shown.0 shown.1.here.among
    (λ e. let parts = of_key_set namespace key (codes "n") (codes "k") (codes "late") (Some value) e in (parts.0, parts.1))
    (λ e. let parts = of_key_set namespace key (codes "n") (codes "k") (codes "early") (Some value) e in (parts.0, parts.1)) shown.1.here.says

abbrev IsKeyOf : List ℕ → Named → Type 0
IsKeyOf namespace item = IsKey (late ∷ early ∷ []) namespace item

k_from : (item : Named) → Has (named (codes "k") ∷ []) item → IsKeyOf (codes "n") item × IsAbove [] item.name
k_from item (inl e) = subst (λ (x : Named). IsKeyOf (codes "n") x × IsAbove [] x.name) e ((refl, (codes "late", keys.later)), inl refl)
k_from item (inr none) = absurd none

k_into : (item : Named) → IsKeyOf (codes "n") item → named (codes "k") ≡ item
k_into item is = ap (λ (name : List ℕ). named name) (key_is (codes "n") item.name is.1.0 is.1.1).1 ∙ ap (λ (value : List ℕ). record { name = item.name; value = value }) (sym is.0)

k_same : (item : Named) → Contains (named (codes "k") ∷ []) item ↔ (IsKeyOf (codes "n") item × IsAbove [] item.name)
k_same item = (λ c. k_from item (Has-from_Contains (named (codes "k") ∷ []) item c), λ l. Contains-from_Has (named (codes "k") ∷ []) item (inl (k_into item l.0)))

none_above_k : (item : Named) → IsKeyOf (codes "n") item → IsAbove (codes "k") item.name → ⊥
none_above_k item is above = not_above_itself (codes "k") item.name (λ e. cc) (λ e. cc) (key_is (codes "n") item.name is.1.0 is.1.1).1 above

none_in_x : (item : Named) → IsKeyOf (codes "x") item → IsAbove [] item.name → ⊥
none_in_x item is above = n_is_not_x (key_is (codes "x") item.name is.1.0 is.1.1).0

-- ---- an alias

abbrev three : Named
three = record { name = codes "g"; value = codes "three" }

abbrev IsAlias : (first second : Change) → Named → Type 0
IsAlias first second item = ShowsAlias (first ∷ second ∷ []) item.name item.value

alias_is : (item : Named) → IsAlias of_host_3 ended_earlier item → (codes "g" ≡ item.name) × (codes "three" ≡ item.value)
alias_is item shown = one_of_two (λ c. of_name item.name c.payload ≡ Some (Some item.value) → (codes "g" ≡ item.name) × (codes "three" ≡ item.value)) of_host_3 ended_earlier shown.0 shown.1.here.among
    (λ e. let parts = of_name_set item.name (codes "g") (codes "three") (Some item.value) e in (parts.0, same_Some (codes "three") item.value parts.1))
    (λ e. let parts = of_name_ended item.name (codes "g") (Some item.value) e in absurd (let none = parts.1 in cc)) shown.1.here.says

g_from : (item : Named) → Has (three ∷ []) item → IsAlias of_host_3 ended_earlier item × IsAbove [] item.name
g_from item (inl e) = subst (λ (x : Named). IsAlias of_host_3 ended_earlier x × IsAbove [] x.name) e (three_not_ended, inl refl)
g_from item (inr none) = absurd none

g_into : (item : Named) → IsAlias of_host_3 ended_earlier item → three ≡ item
g_into item is = ap (λ (name : List ℕ). record { name = name; value = codes "three" }) (alias_is item is).0 ∙ ap (λ (value : List ℕ). record { name = item.name; value = value }) (alias_is item is).1

g_same : (item : Named) → Contains (three ∷ []) item ↔ (IsAlias of_host_3 ended_earlier item × IsAbove [] item.name)
g_same item = (λ c. g_from item (Has-from_Contains (three ∷ []) item c), λ l. Contains-from_Has (three ∷ []) item (inl (g_into item l.0)))

none_above_g : (item : Named) → IsAlias of_host_3 ended_earlier item → IsAbove (codes "g") item.name → ⊥
none_above_g item is above = not_above_itself (codes "g") item.name (λ e. cc) (λ e. cc) (alias_is item is).0 above

none_left : (item : Named) → IsAlias ended_later of_host_3 item → IsAbove [] item.name → ⊥
none_left item shown above = ended_hidden item.value (subst (λ (name : List ℕ). ShowsAlias (ended_later ∷ of_host_3 ∷ []) name item.value) (sym is_g) shown)
  where
    is_g : codes "g" ≡ item.name
    is_g = one_of_two (λ c. of_name item.name c.payload ≡ Some (Some item.value) → codes "g" ≡ item.name) ended_later of_host_3 shown.0 shown.1.here.among
        (λ e. (of_name_ended item.name (codes "g") (Some item.value) e).0) (λ e. (of_name_set item.name (codes "g") (codes "three") (Some item.value) e).0) shown.1.here.says

-- ---- a command

abbrev ls : HistoryRecord
ls = ended_at 9 100 (codes "ls") None

ls_of : (h : HistoryRecord) → HistoryCreate ls ≡ HistoryCreate h → ls ≡ h
ls_of h e = cc

ls_from : (h : HistoryRecord) → Has (ls ∷ []) h → ShowsHistory (creation ∷ []) h
ls_from h (inl e) = subst (λ (x : HistoryRecord). ShowsHistory (creation ∷ []) x) e ls_shown
ls_from h (inr none) = absurd none

ls_into : (h : HistoryRecord) → ShowsHistory (creation ∷ []) h → ls ≡ h
ls_into h shown = one_of_one (λ c. c.payload ≡ HistoryCreate h → ls ≡ h) creation shown.0 shown.1.created.among (ls_of h) shown.1.created.creates

pub views : WorkedViews
views = record {
  same_set = λ r. (λ c. Contains-from_Has (deletion ∷ creation ∷ creation ∷ []) r (two_into_three r (Has-from_Contains (creation ∷ deletion ∷ []) r c)), λ c. Contains-from_Has (creation ∷ deletion ∷ []) r (three_into_two r (Has-from_Contains (deletion ∷ creation ∷ creation ∷ []) r c)));
  one_less = λ same. let h : ◌≡◌ {A = ℕ} 2 3 = alone creation deletion ((same deletion).0 (second_one creation deletion)) in omega arith;
  one_more = λ same. let h : ◌≡◌ {A = ℕ} 2 3 = alone creation deletion ((same deletion).1 (second_one creation deletion)) in omega arith;
  dead_in_one = λ same. nothing_dead ((same.dead 9).0 (by_deletion deletion (0, omega arith, refl) refl));
  other_creation = λ same.
      let there : ◌≡◌ {A = ℕ} 7 ls_shown.0.host = alone creation_elsewhere ls_shown.0 ((same.history ls_shown.0 ls).0 ls_shown.1).created.among in
      let here : ◌≡◌ {A = ℕ} 2 ls_shown.0.host = alone creation ls_shown.0 ls_shown.1.created.among in
      let both : ◌≡◌ {A = ℕ} 7 2 = there ∙ sym here in
      omega arith;
  other_setting = λ same. let h : ◌≡◌ {A = ℕ} 7 3 = alone early_elsewhere early ((same.kv (codes "n") (codes "k") early (Some (codes "early"))).0 (last_alone (of_key (codes "n") (codes "k")) early (Some (codes "early")) refl (λ e. cc))).here.among in omega arith;
  other_alias = λ same. let h : ◌≡◌ {A = ℕ} 7 3 = alone alias_elsewhere of_host_3 ((same.aliases (codes "g") of_host_3 (Some (codes "three"))).0 (last_alone (of_name (codes "g")) of_host_3 (Some (codes "three")) refl (λ e. cc))).here.among in omega arith;
  key_listed = whole_list 10 (IsKeyOf (codes "n")) [] (named (codes "k") ∷ []) k_same (tt, tt) (omega arith, inl (omega arith));
  no_key_above = whole_list 10 (IsKeyOf (codes "n")) (codes "k") [] (no_names (IsKeyOf (codes "n")) (codes "k") none_above_k) tt (omega arith, inl (omega arith));
  no_key_fits = record { all = named (codes "k") ∷ []; same = k_same; rises = (tt, tt); cut = record { rest = named (codes "k") ∷ []; begins = refl; fits = (omega arith, inl (omega arith)); most = λ next others e more. let many = more.0 in omega arith } };
  no_other_key = whole_list 10 (IsKeyOf (codes "x")) [] [] (no_names (IsKeyOf (codes "x")) [] none_in_x) tt (omega arith, inl (omega arith));
  alias_listed = whole_list 10 (IsAlias of_host_3 ended_earlier) [] (three ∷ []) g_same (tt, tt) (omega arith, inl (omega arith));
  no_alias_above = whole_list 10 (IsAlias of_host_3 ended_earlier) (codes "g") [] (no_names (IsAlias of_host_3 ended_earlier) (codes "g") none_above_g) tt (omega arith, inl (omega arith));
  no_alias_fits = record { all = three ∷ []; same = g_same; rises = (tt, tt); cut = record { rest = three ∷ []; begins = refl; fits = (omega arith, inl (omega arith)); most = λ next others e more. let many = more.0 in omega arith } };
  command_found = record {
    entries = ls ∷ [];
    listed = record { own = HaveDistinctIds-more HistoryRecord (λ h. h.id) [] ls (HaveDistinctIds-none HistoryRecord (λ h. h.id)) refl; same = λ h. (λ c. ls_from h (Has-from_Contains (ls ∷ []) h c), λ shown. Contains-from_Has (ls ∷ []) h (inl (ls_into h shown))) };
    answer = record { in_order = ls ∷ []; found = IsPermutation-refl (ls ∷ []); sorted = λ k d low high. absurd (omega arith); cut = whole_page hit_bytes 10 (ls ∷ []) (omega arith, inl (omega arith)) };
  };
  ended_unlisted = whole_list 10 (IsAlias ended_later of_host_3) [] [] (no_names (IsAlias ended_later of_host_3) [] none_left) tt (omega arith, inl (omega arith));
}

-- ---- records of which one opens

pub changes : WorkedChanges
changes = record {
  second = refl;
  none = refl;
  listed = computed_list opens_first (record_at 1 0 7 ∷ record_at 1 1 1 ∷ []);
  not_left_out = λ empty. let none = (have_one_list (gives opens_first)).one (gives_once opens_first) (record_at 1 1 1 ∷ []) [] (changes_of opens_first (record_at 1 1 1 ∷ [])) empty (computed_list opens_first (record_at 1 1 1 ∷ [])) in cc;
}
