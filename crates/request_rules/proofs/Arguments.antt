-- Arguments of the kinds of a call's number are those of a call, and of one call alone.
use Rattle.std.proofs.Common.{◌≡◌, ℕ, zero, suc, ◌-◌, ◌^◌, ◌<◌, ◌≤◌, ℤ, pos, negsuc, Bool, true, false, eqb, List, [], ◌∷◌, length, Option, Some, None, refl, sym, ap, subst, ◌∙◌, arith}
use Rattle.std.proofs.lemmas.Bool.{eqb-true}
use Rattle.definitions.specs.Calls.{SearchMode, by_prefix, by_substring, mode_number, Argument, a_text, an_integer, Kind, any_text, id_digits, signed_64, from_to, start_kinds, end_kinds, IsOfKind, SpellsArguments}
use Rattle.definitions.proofs.Ids.{id_value-id_text}
use Rattle.definitions.proofs.Numbered.{by_test}
use Rattle.view_rules.specs.Answers.{Scope, of_all, of_hostname, of_session, of_cwd, ScopedQuery}
use Rattle.definitions.specs.Limits.{most_listed}
use Rattle.step_rules.specs.Calls.{Call, start_call, end_call, delete_call, search_call, kv_set_call, kv_delete_call, kv_get_call, kv_list_call, alias_set_call, alias_delete_call, alias_list_call, status_call}
use Rattle.request_rules.specs.Reading.{mode_of, scope_of, unique_of, search_of, call_from}
use Rattle.request_rules.specs.Requests.{request_number, limit_kind, authored_kinds, delete_kinds, search_kinds, one_text, two_texts, three_texts, kv_list_kinds, alias_list_kinds, no_kinds, call_kinds, scope_number, IsScopeText, unique_number, a_number, an_id, HasArguments}

-- ---- the kinds of a call's arguments

abbrev pub some_kinds : List Kind → Option (List Kind)
some_kinds all = Some all

pub same_kinds : (a b : List Kind) → some_kinds a ≡ some_kinds b → a ≡ b
same_kinds a b e = cc

-- what holds of each row of the table
pub record EachRow (P : ℕ → List Kind → Type 0) : Type 0 where
  pub start : P 1 start_kinds
  pub end : P 2 end_kinds
  pub delete : P 3 delete_kinds
  pub search : P 4 search_kinds
  pub kv_set : P 5 three_texts
  pub kv_get : P 6 two_texts
  pub kv_list : P 7 kv_list_kinds
  pub alias_set : P 8 two_texts
  pub alias_delete : P 9 one_text
  pub alias_list : P 10 alias_list_kinds
  pub status : P 11 no_kinds
  pub authored_end : P 12 authored_kinds
  pub kv_delete : P 13 two_texts

row : (P : ℕ → List Kind → Type 0) (n c : ℕ) (kinds all : List Kind) → P n kinds → eqb c n ≡ true → some_kinds kinds ≡ Some all → P c all
row P n c kinds all p t e = subst (λ (x : ℕ). P x all) (sym (eqb-true c n t)) (subst (λ (ks : List Kind). P n ks) (same_kinds kinds all e) p)

-- a number of a call is one of thirteen
pub kinds_are : (P : ℕ → List Kind → Type 0) → EachRow P → (c : ℕ) (all : List Kind) → call_kinds c ≡ Some all → P c all
kinds_are P rows c all e =
    by_test (eqb c 1) (λ t. row P 1 c start_kinds all rows.start t (rw t at e)) (λ f. let e1 = rw f at e in
    by_test (eqb c 2) (λ t. row P 2 c end_kinds all rows.end t (rw t at e1)) (λ f. let e2 = rw f at e1 in
    by_test (eqb c 3) (λ t. row P 3 c delete_kinds all rows.delete t (rw t at e2)) (λ f. let e3 = rw f at e2 in
    by_test (eqb c 4) (λ t. row P 4 c search_kinds all rows.search t (rw t at e3)) (λ f. let e4 = rw f at e3 in
    by_test (eqb c 5) (λ t. row P 5 c three_texts all rows.kv_set t (rw t at e4)) (λ f. let e5 = rw f at e4 in
    by_test (eqb c 6) (λ t. row P 6 c two_texts all rows.kv_get t (rw t at e5)) (λ f. let e6 = rw f at e5 in
    by_test (eqb c 7) (λ t. row P 7 c kv_list_kinds all rows.kv_list t (rw t at e6)) (λ f. let e7 = rw f at e6 in
    by_test (eqb c 8) (λ t. row P 8 c two_texts all rows.alias_set t (rw t at e7)) (λ f. let e8 = rw f at e7 in
    by_test (eqb c 9) (λ t. row P 9 c one_text all rows.alias_delete t (rw t at e8)) (λ f. let e9 = rw f at e8 in
    by_test (eqb c 10) (λ t. row P 10 c alias_list_kinds all rows.alias_list t (rw t at e9)) (λ f. let e10 = rw f at e9 in
    by_test (eqb c 11) (λ t. row P 11 c no_kinds all rows.status t (rw t at e10)) (λ f. let e11 = rw f at e10 in
    by_test (eqb c 12) (λ t. row P 12 c authored_kinds all rows.authored_end t (rw t at e11)) (λ f. let e12 = rw f at e11 in
    by_test (eqb c 13) (λ t. row P 13 c two_texts all rows.kv_delete t (rw t at e12)) (λ f. absurd (let none = rw f at e12 in cc))))))))))))))

pub most_kinds : (c : ℕ) (all : List Kind) → call_kinds c ≡ Some all → length all ≤ 7
most_kinds c all e =
    kinds_are (λ c all. length all ≤ 7)
    (record {
      start = omega arith;
      end = omega arith;
      delete = omega arith;
      search = omega arith;
      kv_set = omega arith;
      kv_get = omega arith;
      kv_list = omega arith;
      alias_set = omega arith;
      alias_delete = omega arith;
      alias_list = omega arith;
      status = omega arith;
      authored_end = omega arith;
      kv_delete = omega arith;
    }) c all e

-- ---- the first argument, by its kind

joined : (good more tail : List Argument) (x : Argument) → good ≡ x ∷ more → more ≡ tail → good ≡ x ∷ tail
joined good more tail x e f = e ∙ ap (λ (m : List Argument). x ∷ m) f

abbrev Spelled : List Kind → List Argument → Type 0
Spelled kinds good = (spelled : List ℕ) × SpellsArguments kinds good spelled

first_argument : (kind : Kind) (others : List Kind) (good : List Argument) → Spelled (kind ∷ others) good → (argument : Argument) × (more : List Argument) × (good ≡ argument ∷ more) × IsOfKind kind argument × Spelled others more
first_argument kind others [] s = elim s.1 [ ]
first_argument kind others (argument ∷ more) s = (argument, more, refl, s.1.2, (s.1.1, s.1.4))

no_argument : (good : List Argument) → Spelled [] good → good ≡ []
no_argument [] s = refl
no_argument (argument ∷ more) s = elim s.1 [ ]

a_text_is : (argument : Argument) → IsOfKind any_text argument → (text : List ℕ) × (argument ≡ a_text text)
a_text_is (a_text text) k = (text, refl)
a_text_is (an_integer z) k = elim k [ ]

an_id_is : (argument : Argument) → IsOfKind id_digits argument → (id : ℕ) × (id < 2 ^ 128) × (argument ≡ an_id id)
an_id_is (a_text text) k = (k.0, k.1, ap (λ (t : List ℕ). a_text t) k.2)
an_id_is (an_integer z) k = elim k [ ]

an_integer_is : (argument : Argument) → IsOfKind signed_64 argument → (z : ℤ) × (argument ≡ an_integer z)
an_integer_is (a_text text) k = elim k [ ]
an_integer_is (an_integer z) k = (z, refl)

a_number_is : (low high : ℕ) (argument : Argument) → IsOfKind (from_to low high) argument → (n : ℕ) × (low ≤ n) × (n ≤ high) × (argument ≡ a_number n)
a_number_is low high (a_text text) k = elim k [ ]
a_number_is low high (an_integer (pos n)) k = (n, k.0, k.1, refl)
a_number_is low high (an_integer (negsuc n)) k = elim k [ ]

abbrev headed : (good more : List Argument) (x y : Argument) → good ≡ x ∷ more → x ≡ y → good ≡ y ∷ more
headed good more x y e f = e ∙ ap (λ (a : Argument). a ∷ more) f

text_first : (others : List Kind) (good : List Argument) → Spelled (any_text ∷ others) good → (text : List ℕ) × (more : List Argument) × (good ≡ a_text text ∷ more) × Spelled others more
text_first others good s =
    let a = first_argument any_text others good s in
    let text = a_text_is a.0 a.3 in
    (text.0, a.1, headed good a.1 a.0 (a_text text.0) a.2 text.1, a.4)

id_first : (others : List Kind) (good : List Argument) → Spelled (id_digits ∷ others) good → (id : ℕ) × (more : List Argument) × (good ≡ an_id id ∷ more) × Spelled others more × (id < 2 ^ 128)
id_first others good s =
    let a = first_argument id_digits others good s in
    let id = an_id_is a.0 a.3 in
    (id.0, a.1, headed good a.1 a.0 (an_id id.0) a.2 id.2, a.4, id.1)

integer_first : (others : List Kind) (good : List Argument) → Spelled (signed_64 ∷ others) good → (z : ℤ) × (more : List Argument) × (good ≡ an_integer z ∷ more) × Spelled others more
integer_first others good s =
    let a = first_argument signed_64 others good s in
    let z = an_integer_is a.0 a.3 in
    (z.0, a.1, headed good a.1 a.0 (an_integer z.0) a.2 z.1, a.4)

number_first : (low high : ℕ) (others : List Kind) (good : List Argument) → Spelled (from_to low high ∷ others) good → (n : ℕ) × (more : List Argument) × (good ≡ a_number n ∷ more) × Spelled others more × (n ≤ high)
number_first low high others good s =
    let a = first_argument (from_to low high) others good s in
    let n = a_number_is low high a.0 a.3 in
    (n.0, a.1, headed good a.1 a.0 (a_number n.0) a.2 n.3, a.4, n.2)

-- ---- the call that arguments are of

abbrev pub IsCallOf : ℕ → List Argument → Type 0
IsCallOf c good = (call : Call) × (c ≡ request_number call) × HasArguments call good

abbrev Row : ℕ → List Kind → Type 0
Row c kinds = (good : List Argument) → Spelled kinds good → IsCallOf c good

start_is : Row 1 start_kinds
start_is good s =
    let a = text_first three_texts good s in
    let b = text_first two_texts a.1 a.3 in
    let c = text_first one_text b.1 b.3 in
    let d = text_first [] c.1 c.3 in
    (start_call a.0 b.0 c.0 d.0, refl, joined good a.1 _ (a_text a.0) a.2 (joined a.1 b.1 _ (a_text b.0) b.2 (joined b.1 c.1 _ (a_text c.0) c.2 (joined c.1 d.1 _ (a_text d.0) d.2 (no_argument d.1 d.3)))))

end_is : Row 2 end_kinds
end_is good s =
    let a = id_first (signed_64 ∷ signed_64 ∷ []) good s in
    let b = integer_first (signed_64 ∷ []) a.1 a.3 in
    let c = integer_first [] b.1 b.3 in
    (end_call a.0 b.0 c.0 None, refl, (a.4, joined good a.1 _ (an_id a.0) a.2 (joined a.1 b.1 _ (an_integer b.0) b.2 (joined b.1 c.1 _ (an_integer c.0) c.2 (no_argument c.1 c.3)))))

authored_end_is : Row 12 authored_kinds
authored_end_is good s =
    let a = id_first (signed_64 ∷ signed_64 ∷ any_text ∷ []) good s in
    let b = integer_first (signed_64 ∷ any_text ∷ []) a.1 a.3 in
    let c = integer_first (any_text ∷ []) b.1 b.3 in
    let d = text_first [] c.1 c.3 in
    (end_call a.0 b.0 c.0 (Some d.0), refl, (a.4, joined good a.1 _ (an_id a.0) a.2 (joined a.1 b.1 _ (an_integer b.0) b.2 (joined b.1 c.1 _ (an_integer c.0) c.2 (joined c.1 d.1 _ (a_text d.0) d.2 (no_argument d.1 d.3))))))

delete_is : Row 3 delete_kinds
delete_is good s =
    let a = id_first [] good s in
    (delete_call a.0, refl, (a.4, joined good a.1 _ (an_id a.0) a.2 (no_argument a.1 a.3)))

texts_are : (n : ℕ) (f : List ℕ → List ℕ → Call) → ((a b : List ℕ) → n ≡ request_number (f a b)) → ((a b : List ℕ) (good : List Argument) → good ≡ a_text a ∷ a_text b ∷ [] → HasArguments (f a b) good) → Row n two_texts
texts_are n f number has good s =
    let a = text_first one_text good s in
    let b = text_first [] a.1 a.3 in
    (f a.0 b.0, number a.0 b.0, has a.0 b.0 good (joined good a.1 _ (a_text a.0) a.2 (joined a.1 b.1 _ (a_text b.0) b.2 (no_argument b.1 b.3))))

kv_set_is : Row 5 three_texts
kv_set_is good s =
    let a = text_first two_texts good s in
    let b = text_first one_text a.1 a.3 in
    let c = text_first [] b.1 b.3 in
    (kv_set_call a.0 b.0 c.0, refl, joined good a.1 _ (a_text a.0) a.2 (joined a.1 b.1 _ (a_text b.0) b.2 (joined b.1 c.1 _ (a_text c.0) c.2 (no_argument c.1 c.3))))

kv_list_is : Row 7 kv_list_kinds
kv_list_is good s =
    let a = text_first alias_list_kinds good s in
    let b = text_first (limit_kind ∷ []) a.1 a.3 in
    let c = number_first 1 most_listed [] b.1 b.3 in
    (kv_list_call a.0 b.0 c.0, refl, joined good a.1 _ (a_text a.0) a.2 (joined a.1 b.1 _ (a_text b.0) b.2 (joined b.1 c.1 _ (a_number c.0) c.2 (no_argument c.1 c.3))))

alias_delete_is : Row 9 one_text
alias_delete_is good s =
    let a = text_first [] good s in
    (alias_delete_call a.0, refl, joined good a.1 _ (a_text a.0) a.2 (no_argument a.1 a.3))

alias_list_is : Row 10 alias_list_kinds
alias_list_is good s =
    let a = text_first (limit_kind ∷ []) good s in
    let b = number_first 1 most_listed [] a.1 a.3 in
    (alias_list_call a.0 b.0, refl, joined good a.1 _ (a_text a.0) a.2 (joined a.1 b.1 _ (a_number b.0) b.2 (no_argument b.1 b.3)))

status_is : Row 11 no_kinds
status_is good s = (status_call, refl, no_argument good s)

a_mode_is : (n : ℕ) → n ≤ 1 → (mode : SearchMode) × (n ≡ mode_number mode)
a_mode_is zero le = (by_prefix, refl)
a_mode_is (suc zero) le = (by_substring, refl)
a_mode_is (suc (suc n)) le = absurd (omega arith)

a_scope_is : (n : ℕ) (text : List ℕ) → n ≤ 3 → (scope : Scope) × (n ≡ scope_number scope) × IsScopeText scope text
a_scope_is zero text le = (of_all, refl, tt)
a_scope_is (suc zero) text le = (of_hostname text, refl, refl)
a_scope_is (suc (suc zero)) text le = (of_session text, refl, refl)
a_scope_is (suc (suc (suc zero))) text le = (of_cwd text, refl, refl)
a_scope_is (suc (suc (suc (suc n)))) text le = absurd (omega arith)

a_unique_is : (n : ℕ) → n ≤ 1 → (unique : Bool) × (n ≡ unique_number unique)
a_unique_is zero le = (false, refl)
a_unique_is (suc zero) le = (true, refl)
a_unique_is (suc (suc n)) le = absurd (omega arith)

numbers_are : (m n u m' n' u' : ℕ) (after : List Argument) (scope_text text : List ℕ) → m ≡ m' → n ≡ n' → u ≡ u'
    → ◌≡◌ {A = List Argument} (a_number m ∷ a_number n ∷ a_text scope_text ∷ a_text text ∷ a_number u ∷ after) (a_number m' ∷ a_number n' ∷ a_text scope_text ∷ a_text text ∷ a_number u' ∷ after)
numbers_are m n u m' n' u' after scope_text text e f g = rw (e, f, g) refl

search_is : Row 4 search_kinds
search_is good s =
    let a = number_first 0 1 (from_to 0 3 ∷ any_text ∷ any_text ∷ from_to 0 1 ∷ from_to 0 (2 ^ 32 - 1) ∷ limit_kind ∷ []) good s in
    let b = number_first 0 3 (any_text ∷ any_text ∷ from_to 0 1 ∷ from_to 0 (2 ^ 32 - 1) ∷ limit_kind ∷ []) a.1 a.3 in
    let c = text_first (any_text ∷ from_to 0 1 ∷ from_to 0 (2 ^ 32 - 1) ∷ limit_kind ∷ []) b.1 b.3 in
    let d = text_first (from_to 0 1 ∷ from_to 0 (2 ^ 32 - 1) ∷ limit_kind ∷ []) c.1 c.3 in
    let f = number_first 0 1 (from_to 0 (2 ^ 32 - 1) ∷ limit_kind ∷ []) d.1 d.3 in
    let g = number_first 0 (2 ^ 32 - 1) (limit_kind ∷ []) f.1 f.3 in
    let h = number_first 1 most_listed [] g.1 g.3 in
    let mode = a_mode_is a.0 a.4 in
    let scope = a_scope_is b.0 c.0 b.4 in
    let unique = a_unique_is f.0 f.4 in
    let asked : ScopedQuery = record { scope = scope.0; unique = unique.0; query = record { mode = mode.0; text = d.0; offset = g.0; limit = h.0 } } in
    let after : List Argument = a_number g.0 ∷ a_number h.0 ∷ [] in
    let last = joined d.1 f.1 after (a_number f.0) f.2 (joined f.1 g.1 _ (a_number g.0) g.2 (joined g.1 h.1 _ (a_number h.0) h.2 (no_argument h.1 h.3))) in
    let texts = joined b.1 c.1 _ (a_text c.0) c.2 (joined c.1 d.1 _ (a_text d.0) d.2 last) in
    let all = joined good a.1 _ (a_number a.0) a.2 (joined a.1 b.1 _ (a_number b.0) b.2 texts) in
    (search_call asked, refl, (c.0, scope.2, all ∙ numbers_are a.0 b.0 f.0 (mode_number mode.0) (scope_number scope.0) (unique_number unique.0) after c.0 d.0 mode.1 scope.1 unique.1))

-- arguments of the kinds of a call's number are those of a call
pub call_is : (c : ℕ) (all : List Kind) (good : List Argument) (spelled : List ℕ) → call_kinds c ≡ Some all → SpellsArguments all good spelled → IsCallOf c good
call_is c all good spelled e s =
    kinds_are Row
    (record {
      start = start_is;
      end = end_is;
      delete = delete_is;
      search = search_is;
      kv_set = kv_set_is;
      kv_get = texts_are 6 kv_get_call (λ a b. refl) (λ a b good e. e);
      kv_list = kv_list_is;
      alias_set = texts_are 8 alias_set_call (λ a b. refl) (λ a b good e. e);
      alias_delete = alias_delete_is;
      alias_list = alias_list_is;
      status = status_is;
      authored_end = authored_end_is;
      kv_delete = texts_are 13 kv_delete_call (λ a b. refl) (λ a b good e. e);
    }) c all e good (spelled, s)

-- ---- a call from its number and its arguments

mode_back : (mode : SearchMode) → mode_of (mode_number mode) ≡ mode
mode_back by_prefix = refl
mode_back by_substring = refl

scope_back : (scope : Scope) (text : List ℕ) → IsScopeText scope text → scope_of (scope_number scope) text ≡ scope
scope_back of_all text i = refl
scope_back (of_hostname hostname) text i = ap of_hostname i
scope_back (of_session session) text i = ap of_session i
scope_back (of_cwd cwd) text i = ap of_cwd i

unique_back : (unique : Bool) → unique_of (unique_number unique) ≡ unique
unique_back false = refl
unique_back true = refl

same_search : (m m' : SearchMode) (s s' : Scope) (u u' : Bool) (text : List ℕ) (offset limit : ℕ) → m ≡ m' → s ≡ s' → u ≡ u' → search_of m s text u offset limit ≡ search_of m' s' text u' offset limit
same_search m m' s s' u u' text offset limit e f g = rw (e, f, g) refl

pub built_back : (call : Call) (good : List Argument) → HasArguments call good → call_from (request_number call) good ≡ call
built_back (start_call command cwd session hostname) good h = ap (call_from 1) h
built_back (end_call id duration exit None) good h = ap (call_from 2) h.1 ∙ ap (λ (n : ℕ). end_call n duration exit None) (id_value-id_text id h.0)
built_back (end_call id duration exit (Some author)) good h = ap (call_from 12) h.1 ∙ ap (λ (n : ℕ). end_call n duration exit (Some author)) (id_value-id_text id h.0)
built_back (delete_call id) good h = ap (call_from 3) h.1 ∙ ap delete_call (id_value-id_text id h.0)
built_back (search_call asked) good h =
    ap (call_from 4) h.2 ∙ same_search (mode_of (mode_number asked.query.mode)) asked.query.mode (scope_of (scope_number asked.scope) h.0) asked.scope (unique_of (unique_number asked.unique)) asked.unique asked.query.text asked.query.offset asked.query.limit
    (mode_back asked.query.mode) (scope_back asked.scope h.0 h.1) (unique_back asked.unique)
built_back (kv_set_call namespace key value) good h = ap (call_from 5) h
built_back (kv_get_call namespace key) good h = ap (call_from 6) h
built_back (kv_list_call namespace after limit) good h = ap (call_from 7) h
built_back (alias_set_call name value) good h = ap (call_from 8) h
built_back (alias_delete_call name) good h = ap (call_from 9) h
built_back (alias_list_call after limit) good h = ap (call_from 10) h
built_back status_call good h = ap (call_from 11) h
built_back (kv_delete_call namespace key) good h = ap (call_from 13) h

-- arguments and a number are those of one call
pub calls_one : (a b : Call) (good more : List Argument) → HasArguments a good → HasArguments b more → request_number a ≡ request_number b → good ≡ more → a ≡ b
calls_one a b good more h k n e = sym (built_back a good h) ∙ ap (λ (x : ℕ). call_from x good) n ∙ ap (λ (x : List Argument). call_from (request_number b) x) e ∙ built_back b more k
