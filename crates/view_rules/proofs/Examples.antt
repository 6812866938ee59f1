-- The examples, computed.
use Rattle.std.proofs.Common.{◌≡◌, ℕ, zero, suc, Bool, true, false, cond, List, [], ◌∷◌, length, drop, get_or, Option, Some, None, refl, sym, ap, subst, ◌∙◌, arith, inl, inr}
use Rattle.std.specs.Prelude.{codes}
use Rattle.std.specs.List.{Contains}
use Rattle.std.specs.List.Sorted.{IsPermutation, IsSortedBy}
use Rattle.std.proofs.lemmas.List.Sorted.{IsPermutation-refl}
use Rattle.std.proofs.lemmas.Option.{same_Some}
use Rattle.definitions.specs.Journal.{HistoryRecord}
use Rattle.payload_rules.specs.Payloads.{HistoryCreate}
use Rattle.definitions.specs.Search.{is_shown_before, hit_bytes, IsPage}
use Rattle.definitions.proofs.Search.{whole_page}
use Rattle.definitions.proofs.Among.{HaveDistinctIds-none}
use Rattle.record_rules.proofs.Members.{Has}
use Rattle.view_rules.specs.Changes.{Change, HaveDistinctPlaces}
use Rattle.view_rules.specs.Views.{Dead, by_deletion, by_creation, ShowsHistory, of_key, of_name, ShowsKv, ShowsAlias}
use Rattle.view_rules.specs.Standing.{Created, standing, shown_of, last_said, value_of}
use Rattle.view_rules.specs.Answers.{ScopedQuery, firsts, IsScopedAnswer, SearchAnswer}
use Rattle.view_rules.specs.Examples.{creation, deletion, lesser_host, greater_idx, deleted_creation, ended_at, WorkedHistory, of_host_2, of_host_3, ended_later, ended_earlier, WorkedAliases, early, late, again, old_deletion, new_deletion, WorkedKeys, first_a, only_b, last_a, WorkedSearches}
use Rattle.view_rules.proofs.Records.{Has-from_Contains}
use Rattle.view_rules.proofs.Standings.{shown_to, shown_from}
use Rattle.view_rules.proofs.Settings.{shown_from as last_from}
use Rattle.view_rules.proofs.Ones.{key_shown, name_shown}
use Rattle.view_rules.proofs.Searches.{search_one}

-- ---- short lists

pub one_of_one : (P : Change → Type 0) (a c : Change) → Contains (a ∷ []) c → P a → P c
one_of_one P a c among at_a = by (Has-from_Contains (a ∷ []) c among)
  where
    by : Has (a ∷ []) c → P c
    by (inl e) = subst P e at_a
    by (inr none) = absurd none

pub one_of_two : (P : Change → Type 0) (a b c : Change) → Contains (a ∷ b ∷ []) c → P a → P b → P c
one_of_two P a b c among at_a at_b = by (Has-from_Contains (a ∷ b ∷ []) c among)
  where
    by : Has (a ∷ b ∷ []) c → P c
    by (inl e) = subst P e at_a
    by (inr (inl e)) = subst P e at_b
    by (inr (inr none)) = absurd none

pub own_one : (a : Change) → HaveDistinctPlaces (a ∷ [])
own_one a c d in_c in_d hosts tags idxs = one_of_one (λ x. x ≡ d) a c in_c (one_of_one (λ x. a ≡ x) a d in_d refl)

-- two changes at places that differ
pub own_two : (a b : Change) → (a.host ≡ b.host → a.idx ≡ b.idx → ⊥) → HaveDistinctPlaces (a ∷ b ∷ [])
own_two a b differ c d in_c in_d hosts tags idxs = one_of_two (λ x. x.host ≡ d.host → x.idx ≡ d.idx → x ≡ d) a b c in_c
    (one_of_two (λ x. a.host ≡ x.host → a.idx ≡ x.idx → a ≡ x) a b d in_d (λ h i. refl) (λ h i. absurd (differ h i)))
    (one_of_two (λ x. b.host ≡ x.host → b.idx ≡ x.idx → b ≡ x) a b d in_d (λ h i. absurd (differ (sym h) (sym i))) (λ h i. refl)) hosts idxs

pub first_one : (a b : Change) → Contains (a ∷ b ∷ []) a
first_one a b = (0, omega arith, refl)

pub second_one : (a b : Change) → Contains (a ∷ b ∷ []) b
second_one a b = (1, omega arith, refl)

-- ---- commands

abbrev ls : HistoryRecord
ls = ended_at 9 100 (codes "ls") None

abbrev pwd : HistoryRecord
pwd = ended_at 9 200 (codes "pwd") None

-- whatever these changes create has the id 9
creates_nine : (changes : List Change) → ((c : Change) → Contains changes c → (h : HistoryRecord) → c.payload ≡ HistoryCreate h → h.id ≡ 9) → Dead changes 9 → (h : HistoryRecord) → ShowsHistory changes h → ⊥
creates_nine changes nine dead h shown =
    let made = shown.1.created in
    shown.1.alive (subst (λ (id : ℕ). Dead changes id) (sym (nine shown.0 made.among h made.creates)) dead)

abbrev IsOfNine : Change → Type 0
IsOfNine c = (h : HistoryRecord) → c.payload ≡ HistoryCreate h → h.id ≡ 9

of_creation : IsOfNine creation
of_creation h e = let same : ls ≡ h = cc in ap (λ (x : HistoryRecord). x.id) (sym same)

of_deletion : IsOfNine deletion
of_deletion h e = absurd cc

of_deleted : IsOfNine deleted_creation
of_deleted h e = let same : ended_at 9 100 (codes "ls") (Some 400) ≡ h = cc in ap (λ (x : HistoryRecord). x.id) (sym same)

hidden_before : (h : HistoryRecord) → ShowsHistory (deletion ∷ creation ∷ []) h → ⊥
hidden_before = creates_nine (deletion ∷ creation ∷ []) (λ c among. one_of_two IsOfNine deletion creation c among of_deletion of_creation) (by_deletion deletion (first_one deletion creation) refl)

hidden_after : (h : HistoryRecord) → ShowsHistory (creation ∷ deletion ∷ []) h → ⊥
hidden_after = creates_nine (creation ∷ deletion ∷ []) (λ c among. one_of_two IsOfNine creation deletion c among of_creation of_deletion) (by_deletion deletion (second_one creation deletion) refl)

hidden_by_creation : (h : HistoryRecord) → ShowsHistory (deleted_creation ∷ creation ∷ []) h → ⊥
hidden_by_creation = creates_nine (deleted_creation ∷ creation ∷ []) (λ c among. one_of_two IsOfNine deleted_creation creation c among of_deleted of_creation)
    (by_creation deleted_creation (ended_at 9 100 (codes "ls") (Some 400)) 400 (record { among = first_one deleted_creation creation; creates = refl }) refl refl)

nothing_created : (h : HistoryRecord) → ShowsHistory (deletion ∷ []) h → ⊥
nothing_created h shown = one_of_one (λ c. c.payload ≡ HistoryCreate h → ⊥) deletion shown.0 shown.1.created.among (λ e. cc) shown.1.created.creates

pub ls_shown : ShowsHistory (creation ∷ []) ls
ls_shown = shown_from (creation ∷ []) ls (record { host = 2; idx = 0; command = ls }, refl, refl)

-- of an id another command is shown
another_shown : (changes : List Change) (h : HistoryRecord) (c : Created) → HaveDistinctPlaces changes → shown_of (standing changes h.id) ≡ Some c → (c.command.timestamp ≡ h.timestamp → ⊥) → ShowsHistory changes h → ⊥
another_shown changes h c own stands differs shown =
    let first = shown_to changes h own shown in
    let same : c ≡ first.0 = same_Some c first.0 (sym stands ∙ first.1) in
    differs (ap (λ (c : Created). c.command.timestamp) same ∙ ap (λ (h : HistoryRecord). h.timestamp) first.2)

apart : (a b : Change) → (a.host ≡ b.host → ⊥) → HaveDistinctPlaces (a ∷ b ∷ [])
apart a b hosts = own_two a b (λ h i. hosts h)

-- ---- searches over nothing

abbrev no_hits : List HistoryRecord
no_hits = []

drop_none : (n : ℕ) → drop n (no_hits) ≡ no_hits
drop_none zero = refl
drop_none (suc n) = refl

cond_none : (b : Bool) → cond b (firsts no_hits) no_hits ≡ no_hits
cond_none true = refl
cond_none false = refl

page_of_none : (limit : ℕ) → IsPage hit_bytes limit no_hits no_hits
page_of_none limit = record { rest = no_hits; begins = refl; fits = (omega arith, inl (omega arith)); most = λ next others e fits. absurd cc }

answer_of_none : (asked : ScopedQuery) → IsScopedAnswer asked no_hits no_hits
answer_of_none asked = record {
  in_order = no_hits;
  found = IsPermutation-refl no_hits;
  sorted = λ k d low high. absurd (omega arith);
  cut = subst (λ (hits : List HistoryRecord). IsPage hit_bytes asked.query.limit hits no_hits) (sym (ap (λ (hits : List HistoryRecord). drop asked.query.offset hits) (cond_none asked.unique) ∙ drop_none asked.query.offset)) (page_of_none asked.query.limit);
}

none_answered : (records : List Change) → ((h : HistoryRecord) → ShowsHistory records h → ⊥) → (asked : ScopedQuery) → SearchAnswer records asked no_hits
none_answered records hidden asked = record {
  entries = no_hits;
  listed = record { own = HaveDistinctIds-none HistoryRecord (λ h. h.id); same = λ h. (λ c. absurd (let lt = c.1 in omega arith), λ shown. absurd (hidden h shown)) };
  answer = answer_of_none asked;
}

none_found : (records : List Change) → ((h : HistoryRecord) → ShowsHistory records h → ⊥) → (asked : ScopedQuery) (page : List HistoryRecord) → SearchAnswer records asked page → page ≡ no_hits
none_found records hidden asked page answer = search_one records asked page no_hits answer (none_answered records hidden asked)

pub history : WorkedHistory
history = record {
  shown = ls_shown;
  deleted_before = hidden_before;
  deleted_after = hidden_after;
  deleted_at = hidden_by_creation;
  search_before = none_found (deletion ∷ []) nothing_created;
  search_after = none_found (deletion ∷ creation ∷ []) hidden_before;
  search_answered = none_answered (deletion ∷ creation ∷ []) hidden_before;
  least_host = shown_from (creation ∷ lesser_host ∷ []) pwd (record { host = 1; idx = 7; command = pwd }, refl, refl);
  least_idx = shown_from (greater_idx ∷ creation ∷ []) ls (record { host = 2; idx = 0; command = ls }, refl, refl);
  not_the_greater_idx = another_shown (greater_idx ∷ creation ∷ []) (ended_at 9 300 (codes "cd") None) (record { host = 2; idx = 0; command = ls }) (own_two greater_idx creation (λ h i. let differ = i in omega arith)) refl (λ e. let differ = e in omega arith);
  only_one = another_shown (creation ∷ lesser_host ∷ []) ls (record { host = 1; idx = 7; command = pwd }) (apart creation lesser_host (λ h. let differ = h in omega arith)) refl (λ e. let differ = e in omega arith);
}

-- ---- aliases

pub three_not_ended : ShowsAlias (of_host_3 ∷ ended_earlier ∷ []) (codes "g") (codes "three")
three_not_ended = last_from (of_name (codes "g")) (of_host_3 ∷ ended_earlier ∷ []) (codes "three") refl

-- of two changes at different hosts another value was the last
other_value : (a b : Change) (name value : List ℕ) (o : Option (List ℕ)) → (a.host ≡ b.host → ⊥) → value_of (last_said (of_name name) (a ∷ b ∷ [])) ≡ o → (o ≡ Some value → ⊥) → ShowsAlias (a ∷ b ∷ []) name value → ⊥
other_value a b name value o hosts last differs shown = differs (sym last ∙ name_shown (a ∷ b ∷ []) (apart a b hosts) name value shown)

texts_differ : (a b : List ℕ) → (length a ≡ length b → ⊥) → Some a ≡ Some b → ⊥
texts_differ a b lengths e = lengths (ap (λ (text : List ℕ). length text) (same_Some a b e))

pub ended_hidden : (value : List ℕ) → ShowsAlias (ended_later ∷ of_host_3 ∷ []) (codes "g") value → ⊥
ended_hidden value = other_value ended_later of_host_3 (codes "g") value None (λ h. let differ = h in omega arith) refl (λ e. absurd cc)

pub aliases : WorkedAliases
aliases = record {
  in_order = last_from (of_name (codes "g")) (of_host_2 ∷ of_host_3 ∷ []) (codes "three") refl;
  out_of_order = last_from (of_name (codes "g")) (of_host_3 ∷ of_host_2 ∷ []) (codes "three") refl;
  not_the_lesser = other_value of_host_3 of_host_2 (codes "g") (codes "two") (Some (codes "three")) (λ h. let differ = h in omega arith) refl (texts_differ (codes "three") (codes "two") (λ e. let differ = e in omega arith));
  ended = ended_hidden;
  not_ended = three_not_ended;
  no_other = λ value shown. let none : None ≡ Some value = name_shown (of_host_3 ∷ []) (own_one of_host_3) (codes "zz") value shown in cc;
}

-- ---- keys

pub n_is_not_x : codes "n" ≡ codes "x" → ⊥
n_is_not_x e = let letters : ◌≡◌ {A = ℕ} 110 120 = ap (λ (text : List ℕ). get_or text 0 0) e in omega arith

pub k_late : ShowsKv (late ∷ early ∷ []) (codes "n") (codes "k") (codes "late")
k_late = last_from (of_key (codes "n") (codes "k")) (late ∷ early ∷ []) (codes "late") refl

-- of two changes at different hosts this was the last that was said
key_is : (a b : Change) (namespace key value : List ℕ) (o : Option (List ℕ)) → (a.host ≡ b.host → ⊥) → value_of (last_said (of_key namespace key) (a ∷ b ∷ [])) ≡ o → ShowsKv (a ∷ b ∷ []) namespace key value → o ≡ Some value
key_is a b namespace key value o hosts last shown = sym last ∙ key_shown (a ∷ b ∷ []) (apart a b hosts) namespace key value shown

pub keys : WorkedKeys
keys = record {
  set = last_from (of_key (codes "n") (codes "k")) (early ∷ []) (codes "early") refl;
  other_key = λ value shown. let none : None ≡ Some value = key_shown (early ∷ []) (own_one early) (codes "n") (codes "x") value shown in cc;
  other_namespace = λ value shown. let none : None ≡ Some value = key_shown (early ∷ []) (own_one early) (codes "x") (codes "k") value shown in cc;
  later = k_late;
  not_the_earlier = λ shown. texts_differ (codes "late") (codes "early") (λ e. let differ = e in omega arith) (key_is late early (codes "n") (codes "k") (codes "early") (Some (codes "late")) (λ h. let differ = h in omega arith) refl shown);
  greater = last_from (of_key (codes "n") (codes "k")) (again ∷ late ∷ []) (codes "again") refl;
  outlived = last_from (of_key (codes "n") (codes "k")) (old_deletion ∷ late ∷ []) (codes "late") refl;
  ended = λ value shown. let none : None ≡ Some value = key_is late new_deletion (codes "n") (codes "k") value None (λ h. let differ = h in omega arith) refl shown in cc;
}

-- ---- searches

abbrev ended_in_turn : List HistoryRecord
ended_in_turn = first_a ∷ only_b ∷ last_a ∷ []

abbrev newest : List HistoryRecord
newest = last_a ∷ only_b ∷ first_a ∷ []

turned : IsPermutation ended_in_turn newest
turned = record { moves = (0, 2) ∷ []; below = (omega arith, omega arith, tt); is = refl }

newest_sorted : IsSortedBy is_shown_before newest
newest_sorted zero d low high = refl
newest_sorted (suc zero) d low high = refl
newest_sorted (suc (suc k)) d low high = absurd (omega arith)

pub searches : WorkedSearches
searches = record {
  newest_first = record { in_order = newest; found = turned; sorted = newest_sorted; cut = whole_page hit_bytes 10 newest (omega arith, inr (omega arith)) };
  unique = record { in_order = newest; found = turned; sorted = newest_sorted; cut = whole_page hit_bytes 10 (last_a ∷ only_b ∷ []) (omega arith, inr (omega arith)) };
  matching = record { in_order = only_b ∷ []; found = IsPermutation-refl (only_b ∷ []); sorted = λ k d low high. absurd (omega arith); cut = whole_page hit_bytes 10 (only_b ∷ []) (omega arith, inl (omega arith)) };
  limit_1 = record { in_order = newest; found = turned; sorted = newest_sorted; cut = record { rest = only_b ∷ []; begins = refl; fits = (omega arith, inl (omega arith)); most = λ next others e more. let many = more.0 in omega arith } };
  offset_1 = record { in_order = newest; found = turned; sorted = newest_sorted; cut = whole_page hit_bytes 10 (only_b ∷ []) (omega arith, inl (omega arith)) };
  offset_5 = record { in_order = newest; found = turned; sorted = newest_sorted; cut = page_of_none 10 };
  capitals = refl;
  prefix = refl;
  within = refl;
  folded = refl;
  other_session = refl;
  own_session = refl;
  other_hostname = refl;
  own_hostname = refl;
  other_cwd = refl;
  own_cwd = refl;
}
