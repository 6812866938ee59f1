-- What is remembered of texts, as more is.
use Rattle.std.proofs.Common.{◌≡◌, ◌<◌, ℕ, zero, suc, List, [], ◌∷◌, length, get_or, Option, Some, None, Bool, true, false, refl, sym, ap, subst, ◌∙◌, arith, inl, inr, ◌⊎◌, slice_set}
use Rattle.std.specs.Prelude.{slice_get, bytes_eq, not, ◌&&◌, ◌||◌}
use Rattle.std.proofs.lemmas.Option.{slice_get_within, slice_get_read}
use Rattle.std.proofs.lemmas.Slice.Eq.{bytes_eq-Decides}
use Rattle.history_view.specs.Texts.{AreDistinct}
use Rattle.std.specs.Prelude.{IsSome}
use Rattle.std.specs.Option.{unwrap_or, option_map}
use Rattle.definitions.specs.Journal.{HistoryRecord}
use Rattle.history_view.specs.declared.rows.TextNumbers.{TextNumbers}
use Rattle.history_view.specs.declared.walk.Walked.{Walked}
use Rattle.history_view.specs.Rows.{command_of}
use Rattle.history_view.specs.ViewState.{ViewState}
use Rattle.history_view.specs.Walk.{IsRow, shown_command}
use Rattle.std.proofs.Common.{cond}
use Rattle.record_model.specs.declared.asking.Query.{Query}
use Rattle.view_rules.specs.Answers.{in_scope}
use Rattle.history_view.specs.declared.bucket.ScopeNumber.{ScopeNumber}
use Rattle.history_view.specs.Buckets.{has_scope, Selects}
use Rattle.std.specs.List.{cons_option}
use Rattle.search_query.specs.Answers.{Seens, scope_seen, test_of, is_new, kept, hit_at, passing, IsMemo, Remembers, IsKnown, more_seen}

pub read_at : {X : Type 0} (memo : List X) (texts : List (List ℕ)) (n : ℕ) (command : List ℕ) (x : X) → slice_get texts n ≡ Some command → length memo ≡ length texts → x ≡ get_or memo n x → slice_get memo n ≡ Some x
read_at memo texts n command x named long is =
    let within = slice_get_within texts n command named in
    slice_get_read memo (length memo) n x refl (omega arith) is

-- where each is known, none isn't
pub not_known : {P : Type 0} (memo : List (Option Bool)) (n : ℕ) → slice_get memo n ≡ Some None → IsKnown memo → P
not_known memo n at known = let is : false ≡ true = known n None at in absurd cc

read_set : {X : Type 0} (xs : List X) (i n : ℕ) (v o : X) → slice_get (slice_set xs i v) n ≡ Some o → ((n ≡ i) × (o ≡ v)) ⊎ (slice_get xs n ≡ Some o)
read_set [] i n v o e = inr e
read_set (x ∷ xs) zero zero v o e = inl (refl, (let is : o ≡ v = cc in is))
read_set (x ∷ xs) zero (suc n) v o e = inr e
read_set (x ∷ xs) (suc i) zero v o e = inr e
read_set (x ∷ xs) (suc i) (suc n) v o e = elim (read_set xs i n v o e) [
  | inl p ↦ inl (ap suc p.0, p.1)
  | inr f ↦ inr f
]

same_some : {X : Type 0} (x y : X) → Some x ≡ Some y → x ≡ y
same_some x y e = cc

-- of one text, what is so of it
pub remembers_more : (texts : List (List ℕ)) (test : List ℕ → Bool) (seen : Seens) (memo : List (Option Bool)) (i : ℕ) (command : List ℕ) (b : Bool) → slice_get texts i ≡ Some command → IsMemo command test seen (Some b) → Remembers texts test seen memo
    → Remembers texts test seen (slice_set memo i (Some b))
remembers_more texts test seen memo i command b named is remembers n o other at there = elim (read_set memo i n (Some b) o at) [
  | inl p ↦
      let same : command ≡ other = same_some command other (sym named ∙ ap (slice_get texts) (sym p.0) ∙ there) in
      subst (λ (c : List ℕ). IsMemo c test seen o) same (subst (λ (q : Option Bool). IsMemo command test seen q) (sym p.1) is)
  | inr e ↦ remembers n o other e there
]

and_not_true : (b : Bool) → false ≡ (b && not true)
and_not_true true = refl
and_not_true false = refl

or_true : (b : Bool) → (b || true) ≡ true
or_true true = refl
or_true false = refl

or_false : (b : Bool) → (b || false) ≡ b
or_false true = refl
or_false false = refl

other_kept : (command other : List ℕ) (test : List ℕ → Bool) (seen : Seens) (o : Option Bool) → bytes_eq other command ≡ false → IsMemo other test seen o → IsMemo other test (more_seen true seen command) o
other_kept command other test seen None apart is = ap (λ (b : Bool). seen other || b) apart ∙ or_false (seen other) ∙ is
other_kept command other test seen (Some b) apart is = is ∙ ap (λ (b : Bool). test other && not b) (sym (ap (λ (b : Bool). seen other || b) apart ∙ or_false (seen other)))

-- one text more was seen
pub remembers_seen : (texts : List (List ℕ)) (test : List ℕ → Bool) (seen : Seens) (memo : List (Option Bool)) (i : ℕ) (command : List ℕ) → AreDistinct texts → slice_get texts i ≡ Some command → Remembers texts test seen memo
    → Remembers texts test (more_seen true seen command) (slice_set memo i (Some false))
remembers_seen texts test seen memo i command distinct named remembers n o other at there = by (bytes_eq other command) refl
  where
    set_here : n ≡ i → o ≡ Some false
    set_here same = read_here memo i n o same at
      where
        read_here : (xs : List (Option Bool)) (i n : ℕ) (o : Option Bool) → n ≡ i → slice_get (slice_set xs i (Some false)) n ≡ Some o → o ≡ Some false
        read_here [] i n o same e = absurd cc
        read_here (x ∷ xs) zero zero o same e = (let is : o ≡ Some false = cc in is)
        read_here (x ∷ xs) zero (suc n) o same e = absurd (omega arith)
        read_here (x ∷ xs) (suc i) zero o same e = absurd (omega arith)
        read_here (x ∷ xs) (suc i) (suc n) o same e = read_here xs i n o (omega arith) e

    by : (t : Bool) → bytes_eq other command ≡ t → IsMemo other test (more_seen true seen command) o
    by true t =
        let is : other ≡ command = (bytes_eq-Decides other command).0 t in
        let one : n ≡ i = distinct n i other there (named ∙ ap Some (sym is)) in
        subst (λ (q : Option Bool). IsMemo other test (more_seen true seen command) q) (sym (set_here one))
        (and_not_true (test other) ∙ ap (λ (b : Bool). test other && not b) (sym (ap (λ (b : Bool). seen other || b) t ∙ or_true (seen other))))
    by false t = elim (read_set memo i n (Some false) o at) [
      | inl p ↦
          let is : command ≡ other = same_some command other (sym named ∙ ap (slice_get texts) (sym p.0) ∙ there) in
          let same : bytes_eq other command ≡ true = (bytes_eq-Decides other command).1 (sym is) in
          absurd cc
      | inr e ↦ other_kept command other test seen o t (remembers n o other e there)
    ]

-- nothing is lost where hits need not be unique
pub remembers_any : (texts : List (List ℕ)) (test : List ℕ → Bool) (seen : Seens) (memo : List (Option Bool)) (command : List ℕ) → Remembers texts test seen memo → Remembers texts test (more_seen false seen command) memo
remembers_any texts test seen memo command remembers n o other at there = by o (remembers n o other at there)
  where
    by : (o : Option Bool) → IsMemo other test seen o → IsMemo other test (more_seen false seen command) o
    by None is = or_false (seen other) ∙ is
    by (Some b) is = is ∙ ap (λ (b : Bool). test other && not b) (sym (or_false (seen other)))

pub and_unseen : (b s : Bool) → s ≡ false → b ≡ (b && not s)
and_unseen true s e = sym (ap not e)
and_unseen false s e = refl

-- the text of the number that was walked to is the command
text_of : (texts : List (List ℕ)) (n : ℕ) → IsSome (slice_get texts n) → slice_get texts n ≡ Some (unwrap_or (slice_get texts n) [])
text_of texts n has = by (slice_get texts n) has
  where
    by : (o : Option (List ℕ)) → IsSome o → o ≡ Some (unwrap_or o [])
    by None h = absurd cc
    by (Some text) h = refl

pub row_named : (s : ViewState) (w : Walked) → IsRow s w → (h : HistoryRecord) → shown_command s w.id ≡ Some h → slice_get s.texts w.numbers.command ≡ Some h.command
row_named s w row h e =
    let is : command_of s.texts w.id row.creation ≡ h = same_some (command_of s.texts w.id row.creation) h (ap (option_map (command_of s.texts w.id)) (sym row.shown) ∙ e) in
    ap (λ (numbers : TextNumbers). slice_get s.texts numbers.command) row.numbers ∙ text_of s.texts row.creation.command row.texts.command ∙ ap (λ (k : HistoryRecord). Some k.command) is

pub row_shown : (s : ViewState) (w : Walked) (row : IsRow s w) → shown_command s w.id ≡ Some (command_of s.texts w.id row.creation)
row_shown s w row = ap (option_map (command_of s.texts w.id)) row.shown

-- the text of its number is that of the command
pub same_command : (s : ViewState) (w : Walked) → IsRow s w → (text : List ℕ) → slice_get s.texts w.numbers.command ≡ Some text → (h : HistoryRecord) → shown_command s w.id ≡ Some h → text ≡ h.command
same_command s w row text named h shown = same_some text h.command (sym named ∙ row_named s w row h shown)

pub has_text : (s : ViewState) (w : Walked) (row : IsRow s w) → IsSome (slice_get s.texts w.numbers.command)
has_text s w row = subst (λ (numbers : TextNumbers). IsSome (slice_get s.texts numbers.command)) (sym row.numbers) row.texts.command

-- what is remembered as no hit is none
not_new : (a b c : Bool) → false ≡ (b && c) → ((a && b) && c) ≡ false
not_new true b c e = sym e
not_new false b c e = refl

pub no_hit : (query : Query) (s : ViewState) (w : Walked) (seen : Seens) (memo : List (Option Bool)) → IsRow s w → Remembers s.texts (test_of query) seen memo → slice_get memo w.numbers.command ≡ Some (Some false) → None ≡ hit_at query seen s w
no_hit query s w seen memo row remembers at =
    let h : HistoryRecord = command_of s.texts w.id row.creation in
    let shown : shown_command s w.id ≡ Some h = ap (option_map (command_of s.texts w.id)) row.shown in
    let miss = remembers w.numbers.command (Some false) h.command at (row_named s w row h shown) in
    sym (ap (kept (is_new query seen)) shown ∙ ap (λ (b : Bool). cond b (Some h) None) (not_new (in_scope (scope_seen query.filter) h) (test_of query h.command) (not (seen h.command)) miss))

pub row_within : (s : ViewState) (w : Walked) → IsRow s w → w.numbers.command < length s.texts
row_within s w row =
    let named = row_named s w row (command_of s.texts w.id row.creation) (ap (option_map (command_of s.texts w.id)) row.shown) in
    slice_get_within s.texts w.numbers.command (command_of s.texts w.id row.creation).command named

-- a command that isn't new to the walk is no hit, and one that is new is one
pub no_match : (query : Query) (s : ViewState) (w : Walked) (seen : Seens) (h : HistoryRecord) → shown_command s w.id ≡ Some h → (test_of query h.command && not (seen h.command)) ≡ false → None ≡ hit_at query seen s w
no_match query s w seen h shown miss =
    sym (ap (kept (is_new query seen)) shown ∙ ap (λ (b : Bool). cond b (Some h) None) (not_new (in_scope (scope_seen query.filter) h) (test_of query h.command) (not (seen h.command)) (sym miss)))

all_three : (a b c : Bool) → a ≡ true → (b && c) ≡ true → ((a && b) && c) ≡ true
all_three a b c e f = ap (λ (x : Bool). (x && b) && c) e ∙ f

pub is_hit : (query : Query) (s : ViewState) (w : Walked) (seen : Seens) (h : HistoryRecord) → shown_command s w.id ≡ Some h → in_scope (scope_seen query.filter) h ≡ true → (test_of query h.command && not (seen h.command)) ≡ true → Some h ≡ hit_at query seen s w
is_hit query s w seen h shown scoped matches =
    sym (ap (kept (is_new query seen)) shown ∙ ap (λ (b : Bool). cond b (Some h) None) (all_three (in_scope (scope_seen query.filter) h) (test_of query h.command) (not (seen h.command)) scoped matches))

-- ---- the filter

-- by the numbers that were walked to the filter lets through what it lets through by the texts
pub scope_of : (query : Query) (s : ViewState) (w : Walked) (scope : ScopeNumber) → IsRow s w → Selects s.texts (scope_seen query.filter) scope → (h : HistoryRecord) → shown_command s w.id ≡ Some h → has_scope scope w.numbers ≡ in_scope (scope_seen query.filter) h
scope_of query s w scope row selects h e =
    let is : command_of s.texts w.id row.creation ≡ h = same_some (command_of s.texts w.id row.creation) h (ap (option_map (command_of s.texts w.id)) (sym row.shown) ∙ e) in
    ap (has_scope scope) row.numbers ∙ selects w.id row.creation row.texts ∙ ap (in_scope (scope_seen query.filter)) is

outside : (a b c : Bool) → a ≡ false → ((a && b) && c) ≡ false
outside a b c e = ap (λ (x : Bool). (x && b) && c) e

pub not_scoped : (query : Query) (s : ViewState) (w : Walked) (seen : Seens) (scope : ScopeNumber) → IsRow s w → Selects s.texts (scope_seen query.filter) scope → has_scope scope w.numbers ≡ false → None ≡ hit_at query seen s w
not_scoped query s w seen scope row selects out =
    let h : HistoryRecord = command_of s.texts w.id row.creation in
    let shown : shown_command s w.id ≡ Some h = ap (option_map (command_of s.texts w.id)) row.shown in
    let scoped = sym (scope_of query s w scope row selects h shown) ∙ out in
    sym (ap (kept (is_new query seen)) shown ∙ ap (λ (b : Bool). cond b (Some h) None) (outside (in_scope (scope_seen query.filter) h) (test_of query h.command) (not (seen h.command)) scoped))

-- what the filter lets through is one that passes
pub passing_one : (query : Query) (s : ViewState) (w : Walked) (h : HistoryRecord) → shown_command s w.id ≡ Some h → in_scope (scope_seen query.filter) h ≡ true → passing query s (w ∷ []) ≡ 1
passing_one query s w h shown scoped =
    ap (λ (o : Option HistoryRecord). length (cons_option (kept (in_scope (scope_seen query.filter)) o) [])) shown ∙ ap (λ (b : Bool). length (cons_option (cond b (Some h) None) [])) scoped
