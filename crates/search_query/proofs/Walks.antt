-- A walk over what is shown finds what a search is to answer.
use Rattle.std.proofs.Common.{◌≡◌, ℕ, zero, suc, ◌+◌, ◌-◌, ◌≤◌, ◌<◌, List, [], ◌∷◌, ◌++◌, length, drop, Option, Some, None, Bool, true, false, cond, get_or, inl, refl, sym, ap, subst, ◌∙◌, arith}
use Rattle.std.specs.List.{filter, filter_map, cons_option, All, AllByRecursion}
use Rattle.std.proofs.lemmas.Option.{slice_get_within, get_or_from_slice_get}
use Rattle.std.proofs.Math.Seq.{drop-nil}
use Rattle.std.proofs.lemmas.List.{append_assoc, length-append, length-map}
use Rattle.definitions.specs.Journal.{HistoryRecord}
use Rattle.definitions.specs.Search.{hit_bytes, FitsPage}
use Rattle.record_model.specs.declared.asking.Query.{Query}
use Rattle.history_view.specs.declared.shown.ShownCommand.{ShownCommand}
use Rattle.history_view.specs.declared.walk.Walked.{Walked}
use Rattle.history_view.specs.ViewState.{ViewState}
use Rattle.history_view.specs.Shown.{command_seen}
use Rattle.history_view.specs.declared.spans.Span.{Span}
use Rattle.history_view.specs.Spans.{IsWithin, began_within, joined}
use Rattle.history_view.specs.Walk.{IsRow, shown_command, walked_in, newest_of}
use Rattle.std.specs.Prelude.{IsSome, slice_get, bytes_eq, not, leb, ltb, ◌&&◌, ◌||◌}
use Rattle.std.proofs.lemmas.Bool.{true≢false, ltb-true, ltb-false, le-leb}
use Rattle.search_query.proofs.Memos.{row_within, no_hit}
use Rattle.std.proofs.lemmas.Slice.Eq.{bytes_eq-Decides}
use Rattle.view_rules.specs.Answers.{in_scope, is_found, firsts}
use Rattle.search_query.specs.Answers.{Seens, none_seen, more_seen, scope_seen, query_seen, test_of, passing, is_new, IsAnswerOf, Remembers, IsKnown, IsTold, IsMemo, seen_of, weight_of, kept, uniques, hit_at, answer_from, MakesAnswer, SpansHits, IsOnWay}

-- ---- lists

module _ {X : Type 0} where
  filter-filter : (p q : X → Bool) (xs : List X) → filter p (filter q xs) ≡ filter (λ (x : X). q x && p x) xs
  filter-filter p q [] = refl
  filter-filter p q (x ∷ xs) = by (q x) (filter-filter p q xs)
    where
      by : (t : Bool) → filter p (filter q xs) ≡ filter (λ (x : X). q x && p x) xs → filter p (cond t (x ∷ filter q xs) (filter q xs)) ≡ cond (t && p x) (x ∷ filter (λ (x : X). q x && p x) xs) (filter (λ (x : X). q x && p x) xs)
      by true e = ap (λ (zs : List X). cond (p x) (x ∷ zs) zs) e
      by false e = e

  filter-congr : (p q : X → Bool) → ((x : X) → p x ≡ q x) → (xs : List X) → filter p xs ≡ filter q xs
  filter-congr p q h [] = refl
  filter-congr p q h (x ∷ xs) = ap (λ (b : Bool). cond b (x ∷ filter p xs) (filter p xs)) (h x) ∙ ap (λ (zs : List X). cond (q x) (x ∷ zs) zs) (filter-congr p q h xs)

and_flips : (a b : Bool) → (a && b) ≡ (b && a)
and_flips true true = refl
and_flips true false = refl
and_flips false true = refl
and_flips false false = refl

and_itself : (a : Bool) → (a && a) ≡ a
and_itself true = refl
and_itself false = refl

-- hits with another command
abbrev apart : List ℕ → HistoryRecord → Bool
apart command h = not (bytes_eq h.command command)

firsts-apart : (command : List ℕ) (hs : List HistoryRecord) → filter (apart command) (firsts hs) ≡ firsts (filter (apart command) hs)
firsts-apart command [] = refl
firsts-apart command (h ∷ hs) = by (bytes_eq h.command command) refl (firsts-apart command hs)
  where
    by : (t : Bool) → bytes_eq h.command command ≡ t → filter (apart command) (firsts hs) ≡ firsts (filter (apart command) hs)
        → cond (not t) (h ∷ filter (apart command) (filter (apart h.command) (firsts hs))) (filter (apart command) (filter (apart h.command) (firsts hs))) ≡ firsts (cond (not t) (h ∷ filter (apart command) hs) (filter (apart command) hs))
    by true e more =
        let same : h.command ≡ command = (bytes_eq-Decides h.command command).0 e in
        filter-filter (apart command) (apart h.command) (firsts hs)
        ∙ filter-congr (λ (x : HistoryRecord). apart h.command x && apart command x) (apart command) (λ x. ap (λ (c : List ℕ). apart c x && apart command x) same ∙ and_itself (apart command x)) (firsts hs) ∙ more
    by false e more = ap (λ (zs : List HistoryRecord). h ∷ zs)
        (filter-filter (apart command) (apart h.command) (firsts hs) ∙ filter-congr (λ (x : HistoryRecord). apart h.command x && apart command x) (λ (x : HistoryRecord). apart command x && apart h.command x) (λ x. and_flips (apart h.command x) (apart command x)) (firsts hs)
        ∙ sym (filter-filter (apart h.command) (apart command) (firsts hs)) ∙ ap (filter (apart h.command)) more)

filter-kept : (passes : HistoryRecord → Bool) (f : Walked → Option HistoryRecord) (ws : List Walked) → filter passes (filter_map f ws) ≡ filter_map (λ (w : Walked). kept passes (f w)) ws
filter-kept passes f [] = refl
filter-kept passes f (w ∷ ws) = by (f w) (filter-kept passes f ws)
  where
    open_kept : (h : HistoryRecord) (t : Bool) (xs ys : List HistoryRecord) → xs ≡ ys → cond t (h ∷ xs) xs ≡ cons_option (cond t (Some h) None) ys
    open_kept h true xs ys e = ap (λ (zs : List HistoryRecord). h ∷ zs) e
    open_kept h false xs ys e = e

    by : (o : Option HistoryRecord) → filter passes (filter_map f ws) ≡ filter_map (λ (w : Walked). kept passes (f w)) ws → filter passes (cons_option o (filter_map f ws)) ≡ cons_option (kept passes o) (filter_map (λ (w : Walked). kept passes (f w)) ws)
    by None e = e
    by (Some h) e = open_kept h (passes h) _ _ e

filter_map-congr : (f g : Walked → Option HistoryRecord) → ((w : Walked) → f w ≡ g w) → (ws : List Walked) → filter_map f ws ≡ filter_map g ws
filter_map-congr f g h [] = refl
filter_map-congr f g h (w ∷ ws) = ap (λ (o : Option HistoryRecord). cons_option o (filter_map f ws)) (h w) ∙ ap (cons_option (g w)) (filter_map-congr f g h ws)

-- ---- what was seen

or_false : (b : Bool) → (b || false) ≡ b
or_false true = refl
or_false false = refl

and_true : (b : Bool) → (b && true) ≡ b
and_true true = refl
and_true false = refl

kept_apart : (found seen : Bool) (h : HistoryRecord) (command : List ℕ) → cond (found && not (seen || true && bytes_eq h.command command)) (Some h) None ≡ kept (apart command) (cond (found && not seen) (Some h) None)
kept_apart true true h command = refl
kept_apart true false h command = refl
kept_apart false true h command = refl
kept_apart false false h command = refl

module _ (query : Query) (s : ViewState) where
  once_seen : (seen : Seens) (command : List ℕ) (ws : List Walked) → filter_map (hit_at query (more_seen true seen command) s) ws ≡ filter (apart command) (filter_map (hit_at query seen s) ws)
  once_seen seen command ws =
      filter_map-congr (hit_at query (more_seen true seen command) s) (λ (w : Walked). kept (apart command) (hit_at query seen s w)) (λ w. by (shown_command s w.id)) ws ∙ sym (filter-kept (apart command) (hit_at query seen s) ws)
    where
      by : (o : Option HistoryRecord) → kept (is_new query (more_seen true seen command)) o ≡ kept (apart command) (kept (is_new query seen) o)
      by None = refl
      by (Some h) = kept_apart (is_found (query_seen query) h) (seen h.command) h command

  never_seen : (seen : Seens) (command : List ℕ) (ws : List Walked) → filter_map (hit_at query (more_seen false seen command) s) ws ≡ filter_map (hit_at query seen s) ws
  never_seen seen command ws = filter_map-congr (hit_at query (more_seen false seen command) s) (hit_at query seen s) (λ w. by (shown_command s w.id)) ws
    where
      by : (o : Option HistoryRecord) → kept (is_new query (more_seen false seen command)) o ≡ kept (is_new query seen) o
      by None = refl
      by (Some h) = ap (λ (b : Bool). cond (is_found (query_seen query) h && not b) (Some h) None) (or_false (seen h.command))

  -- a hit, and what is left behind it
  first_of : (unique : Bool) (seen : Seens) (h : HistoryRecord) (ws : List Walked) → uniques unique (h ∷ filter_map (hit_at query seen s) ws) ≡ h ∷ uniques unique (filter_map (hit_at query (more_seen unique seen h.command) s) ws)
  first_of true seen h ws = ap (λ (zs : List HistoryRecord). h ∷ zs) (firsts-apart h.command (filter_map (hit_at query seen s) ws) ∙ ap firsts (sym (once_seen seen h.command ws)))
  first_of false seen h ws = ap (λ (zs : List HistoryRecord). h ∷ zs) (sym (never_seen seen h.command ws))

-- ---- how many are tested

one_more : (o : Option HistoryRecord) (hs : List HistoryRecord) → length (cons_option o hs) ≡ length (cons_option o []) + length hs
one_more None hs = omega arith
one_more (Some h) hs = omega arith

passing-more : (query : Query) (s : ViewState) (w : Walked) (ws : List Walked) → passing query s (w ∷ ws) ≡ passing query s (w ∷ []) + passing query s ws
passing-more query s w ws = one_more (kept (in_scope (scope_seen query.filter)) (shown_command s w.id)) (filter_map (λ (v : Walked). kept (in_scope (scope_seen query.filter)) (shown_command s v.id)) ws)

pub passing_all : (query : Query) (s : ViewState) → passing query s (walked_in s.order) ≡ length (filter (in_scope (scope_seen query.filter)) (newest_of s))
passing_all query s = ap (λ (hs : List HistoryRecord). length hs) (sym (filter-kept (in_scope (scope_seen query.filter)) (λ (w : Walked). shown_command s w.id) (walked_in s.order)))

-- ---- steps of the walk

module _ (query : Query) (s : ViewState) (all : List Walked) (first : ℕ) where
  hit_opened : (w : Walked) (h : HistoryRecord) (left : List Walked) (seen : Seens) (skip : ℕ) (hits : List ShownCommand) → hit_at query seen s w ≡ Some h
      → answer_from query seen s skip hits (w ∷ left) ≡ seen_of hits ++ drop skip (h ∷ uniques query.unique (filter_map (hit_at query (more_seen query.unique seen h.command) s) left))
  hit_opened w h left seen skip hits some =
      ap (λ (o : Option HistoryRecord). seen_of hits ++ drop skip (uniques query.unique (cons_option o (filter_map (hit_at query seen s) left)))) some
      ∙ ap (λ (zs : List HistoryRecord). seen_of hits ++ drop skip zs) (first_of query s query.unique seen h left)

  -- what was walked to is no hit
  pub passes_over : (w : Walked) (left : List Walked) (memo more : List (Option Bool)) (hits : List ShownCommand) (bytes skip steps now : ℕ) → (way : IsOnWay query s all (w ∷ left) memo hits bytes skip first steps)
      → hit_at query way.seen s w ≡ None → Remembers s.texts (test_of query) way.seen more → length more ≡ length s.texts → now ≤ steps + passing query s (w ∷ []) → IsOnWay query s all left more hits bytes skip first now
  passes_over w left memo more hits bytes skip steps now way none remembers long few =
      let counted = way.counted in
      let one = passing-more query s w left in
      record {
        seen = way.seen;
        remembers = remembers;
        long = long;
        rows = way.rows.1;
        weighed = way.weighed;
        fits = way.fits;
        whole = ap (λ (o : Option HistoryRecord). seen_of hits ++ drop skip (uniques query.unique (cons_option o (filter_map (hit_at query way.seen s) left)))) (sym none) ∙ way.whole;
        counted = omega arith;
      }

  -- a hit that is left out
  pub leaves_out : (w : Walked) (h : HistoryRecord) (left : List Walked) (memo more : List (Option Bool)) (hits : List ShownCommand) (bytes skip steps now : ℕ) → (way : IsOnWay query s all (w ∷ left) memo hits bytes skip first steps)
      → hit_at query way.seen s w ≡ Some h → 0 < skip → Remembers s.texts (test_of query) (more_seen query.unique way.seen h.command) more → length more ≡ length s.texts → now ≤ steps + passing query s (w ∷ []) → IsOnWay query s all left more hits bytes (skip - 1) first now
  leaves_out w h left memo more hits bytes zero steps now way some positive remembers long few = absurd (omega arith)
  leaves_out w h left memo more hits bytes (suc skip) steps now way some positive remembers long few =
      let counted = way.counted in
      let one = passing-more query s w left in
      let less : suc skip - 1 ≡ skip = omega arith in
      record {
        seen = more_seen query.unique way.seen h.command;
        remembers = remembers;
        long = long;
        rows = way.rows.1;
        weighed = way.weighed;
        fits = way.fits;
        whole = ap (λ (n : ℕ). answer_from query (more_seen query.unique way.seen h.command) s n hits left) less ∙ sym (hit_opened w h left way.seen (suc skip) hits some) ∙ way.whole;
        counted = omega arith;
      }

  here : (w : Walked) (h : HistoryRecord) (left : List Walked) (seen : Seens) (hits : List ShownCommand) (skip : ℕ) → hit_at query seen s w ≡ Some h → skip ≤ 0
      → answer_from query seen s skip hits (w ∷ left) ≡ seen_of hits ++ h ∷ uniques query.unique (filter_map (hit_at query (more_seen query.unique seen h.command) s) left)
  here w h left seen hits skip some none =
      let nothing : skip ≡ 0 = omega arith in
      ap (λ (n : ℕ). answer_from query seen s n hits (w ∷ left)) nothing ∙ hit_opened w h left seen 0 hits some

  map-more : (hits : List ShownCommand) (h : ShownCommand) → seen_of (hits ++ h ∷ []) ≡ seen_of hits ++ command_seen h ∷ []
  map-more [] h = refl
  map-more (x ∷ hits) h = ap (λ (hs : List HistoryRecord). command_seen x ∷ hs) (map-more hits h)

  -- a hit that is taken
  pub takes : (w : Walked) (h : ShownCommand) (left : List Walked) (memo more : List (Option Bool)) (hits most : List ShownCommand) (bytes weight skip steps now : ℕ)
      → (way : IsOnWay query s all (w ∷ left) memo hits bytes skip first steps) → hit_at query way.seen s w ≡ Some (command_seen h) → skip ≤ 0 → most ≡ hits ++ h ∷ [] → weight ≡ weight_of most → FitsPage hit_bytes query.limit (seen_of most)
      → Remembers s.texts (test_of query) (more_seen query.unique way.seen (command_seen h).command) more → length more ≡ length s.texts → now ≤ steps + passing query s (w ∷ []) → IsOnWay query s all left more most weight skip first now
  takes w h left memo more hits most bytes weight skip steps now way some none is weighed fits remembers long few =
      let counted = way.counted in
      let one = passing-more query s w left in
      let nothing : skip ≡ 0 = omega arith in
      let seen : Seens = more_seen query.unique way.seen (command_seen h).command in
      let others : List HistoryRecord = uniques query.unique (filter_map (hit_at query seen s) left) in
      record {
        seen = seen;
        remembers = remembers;
        long = long;
        rows = way.rows.1;
        weighed = weighed;
        fits = fits;
        whole = ap (λ (n : ℕ). answer_from query seen s n most left) nothing ∙ ap (λ (hs : List ShownCommand). seen_of hs ++ others) is
            ∙ ap (λ (hs : List HistoryRecord). hs ++ others) (map-more hits h) ∙ append_assoc (seen_of hits) (command_seen h ∷ []) others
            ∙ sym (here w (command_seen h) left way.seen hits skip some none) ∙ way.whole;
        counted = omega arith;
      }

-- ---- its ends

module _ (query : Query) (s : ViewState) where
  whole_of : answer_from query none_seen s query.offset [] (walked_in s.order) ≡ drop query.offset (uniques query.unique (filter (is_found (query_seen query)) (newest_of s)))
  whole_of = ap (λ (hs : List HistoryRecord). drop query.offset (uniques query.unique hs))
      (filter_map-congr (hit_at query none_seen s) (λ (w : Walked). kept (is_found (query_seen query)) (shown_command s w.id)) (λ w. by (shown_command s w.id)) (walked_in s.order) ∙ sym (filter-kept (is_found (query_seen query)) (λ (w : Walked). shown_command s w.id) (walked_in s.order)))
    where
      by : (o : Option HistoryRecord) → kept (is_new query none_seen) o ≡ kept (is_found (query_seen query)) o
      by None = refl
      by (Some h) = ap (λ (b : Bool). cond b (Some h) None) (and_true (is_found (query_seen query) h))

  none_left : (unique : Bool) → uniques unique [] ≡ []
  none_left true = refl
  none_left false = refl

  pub ends : (first : ℕ) (memo : List (Option Bool)) (hits : List ShownCommand) (bytes skip steps : ℕ) → IsOnWay query s (walked_in s.order) [] memo hits bytes skip first steps → IsAnswerOf query (newest_of s) (seen_of hits)
  ends first memo hits bytes skip steps way =
      record { rest = []; begins = sym whole_of ∙ sym way.whole ∙ ap (λ (hs : List HistoryRecord). seen_of hits ++ drop skip hs) (none_left query.unique) ∙ ap (λ (hs : List HistoryRecord). seen_of hits ++ hs) (drop-nil skip); fits = way.fits; most = λ next others e. absurd cc }

  pub breaks : (first : ℕ) (w : Walked) (h : ShownCommand) (left : List Walked) (memo : List (Option Bool)) (hits : List ShownCommand) (bytes skip steps : ℕ) → (way : IsOnWay query s (walked_in s.order) (w ∷ left) memo hits bytes skip first steps)
      → hit_at query way.seen s w ≡ Some (command_seen h) → skip ≤ 0 → (FitsPage hit_bytes query.limit (seen_of hits ++ command_seen h ∷ []) → ⊥) → IsAnswerOf query (newest_of s) (seen_of hits)
  breaks first w h left memo hits bytes skip steps way some none full =
      record {
        rest = command_seen h ∷ uniques query.unique (filter_map (hit_at query (more_seen query.unique way.seen (command_seen h).command) s) left);
        begins = sym whole_of ∙ sym way.whole ∙ here query s (walked_in s.order) first w (command_seen h) left way.seen hits skip some none;
        fits = way.fits;
        most = λ next others e fits. full (let same : command_seen h ≡ next = cc in subst (λ (x : HistoryRecord). FitsPage hit_bytes query.limit (seen_of hits ++ x ∷ [])) (sym same) fits);
      }

  -- as many hits as are shown
  pub filled : (first : ℕ) (left : List Walked) (memo : List (Option Bool)) (hits : List ShownCommand) (bytes skip steps : ℕ) → IsOnWay query s (walked_in s.order) left memo hits bytes skip first steps → query.limit ≤ length hits → IsAnswerOf query (newest_of s) (seen_of hits)
  filled first left memo hits bytes skip steps way full =
      record {
        rest = drop skip (uniques query.unique (filter_map (hit_at query way.seen s) left));
        begins = sym whole_of ∙ sym way.whole;
        fits = way.fits;
        most = λ next others e fits.
            let few = fits.0 in
            let many = length-map hits command_seen in
            let more = length-append (seen_of hits) (next ∷ []) in
            omega (arith, full, few, many, more);
      }

-- ---- its beginning

pub blank_remembers : (texts : List (List ℕ)) (test : List ℕ → Bool) (memo : List (Option Bool)) → All (λ (o : Option Bool). o ≡ None) memo → Remembers texts test none_seen memo
blank_remembers texts test memo all n o command at named =
    let inside = slice_get_within memo n o at in
    let there : get_or memo n None ≡ o = get_or_from_slice_get memo n o None at in
    let none : get_or memo n None ≡ None = all n None inside in
    subst (λ (p : Option Bool). IsMemo command test none_seen p) (sym none ∙ there) refl

pub begins_walk : (query : Query) (s : ViewState) (left : List Walked) (memo : List (Option Bool)) (hits : List ShownCommand) (first : ℕ) → MakesAnswer query s left → Remembers s.texts (test_of query) none_seen memo → length memo ≡ length s.texts → hits ≡ []
    → IsOnWay query s (walked_in s.order) left memo hits 0 query.offset first first
begins_walk query s left memo hits first makes remembers long none =
    let few = makes.few in
    let plain : IsOnWay query s (walked_in s.order) left memo [] 0 query.offset first first = record { seen = none_seen; remembers = remembers; long = long; rows = makes.rows; weighed = refl; fits = (omega arith, inl (omega arith)); whole = makes.whole; counted = omega arith } in
    subst (λ (hs : List ShownCommand). IsOnWay query s (walked_in s.order) left memo hs 0 query.offset first first) (sym none) plain

-- the tests so far, and that of what was walked to, are no more than what passes the filter
pub tested : (query : Query) (s : ViewState) (w : Walked) (left : List Walked) (memo : List (Option Bool)) (hits : List ShownCommand) (bytes skip first steps : ℕ) → IsOnWay query s (walked_in s.order) (w ∷ left) memo hits bytes skip first steps
    → steps + passing query s (w ∷ []) ≤ first + length (filter (in_scope (scope_seen query.filter)) (newest_of s))
tested query s w left memo hits bytes skip first steps way =
    let counted = way.counted in
    let one = passing-more query s w left in
    let all = passing_all query s in
    omega arith

pub tested_so_far : (query : Query) (s : ViewState) (left : List Walked) (memo : List (Option Bool)) (hits : List ShownCommand) (bytes skip first steps : ℕ) → IsOnWay query s (walked_in s.order) left memo hits bytes skip first steps
    → steps ≤ first + length (filter (in_scope (scope_seen query.filter)) (newest_of s))
tested_so_far query s left memo hits bytes skip first steps way =
    let counted = way.counted in
    let all = passing_all query s in
    omega arith

-- what is told of texts is remembered of them
pub told_remembers : (texts : List (List ℕ)) (test : List ℕ → Bool) (memo : List (Option Bool)) → IsTold texts test memo → Remembers texts test none_seen memo
told_remembers texts test memo told n o command at named = subst (λ (p : Option Bool). IsMemo command test none_seen p) (sym (told n o command at named)) (sym (and_true (test command)))

pub told_known : (texts : List (List ℕ)) (test : List ℕ → Bool) (memo : List (Option Bool)) → length memo ≡ length texts → IsTold texts test memo → IsKnown memo
told_known texts test memo long told n o at =
    let within = slice_get_within memo n o at in
    let there = inside texts n (omega (arith, within, long)) in
    subst (λ (p : Option Bool). IsSome p) (sym (told n o there.0 at there.1)) refl
  where
    inside : (ts : List (List ℕ)) (k : ℕ) → k < length ts → (t : List ℕ) × (slice_get ts k ≡ Some t)
    inside [] k below = absurd (omega (arith, below))
    inside (t ∷ ts) zero below = (t, refl)
    inside (t ∷ ts) (suc k) below = inside ts k (omega (arith, below))

-- ---- what is to be walked to

pub makes_all : (query : Query) (s : ViewState) (ws : List Walked) → ws ≡ walked_in s.order → AllByRecursion (IsRow s) (walked_in s.order) → MakesAnswer query s ws
makes_all query s ws is rows =
    let all : MakesAnswer query s (walked_in s.order) = record { rows = rows; whole = refl; few = omega arith } in
    subst (λ (vs : List Walked). MakesAnswer query s vs) (sym is) all

fewer : (p : Walked → Bool) (f : Walked → Option HistoryRecord) (ws : List Walked) → length (filter_map f (filter p ws)) ≤ length (filter_map f ws)
fewer p f [] = omega arith
fewer p f (w ∷ ws) = by (p w) (fewer p f ws)
  where
    by : (t : Bool) → length (filter_map f (filter p ws)) ≤ length (filter_map f ws) → length (filter_map f (cond t (w ∷ filter p ws) (filter p ws))) ≤ length (cons_option (f w) (filter_map f ws))
    by true few = let part = one_more (f w) (filter_map f (filter p ws)) in let all = one_more (f w) (filter_map f ws) in omega arith
    by false few = let all = one_more (f w) (filter_map f ws) in omega arith

not_within : (span : Span) (w : Walked) → began_within span w ≡ false → IsWithin span w.timestamp → ⊥
not_within span w out within =
    let both : began_within span w ≡ true = ap (λ (b : Bool). b && leb w.timestamp span.latest) (le-leb span.earliest w.timestamp within.0) ∙ le-leb w.timestamp span.latest within.1 in
    true≢false (sym both ∙ out)

module _ (query : Query) (s : ViewState) (memo : List (Option Bool)) (span : Span) (remembers : Remembers s.texts (test_of query) none_seen memo) (spans : SpansHits s memo span) where
  outside : (w : Walked) → IsRow s w → (IsWithin span w.timestamp → ⊥) → hit_at query none_seen s w ≡ None
  outside w row out = by (slice_get memo w.numbers.command) refl
    where
      no_miss : (o : Option (Option Bool)) → slice_get memo w.numbers.command ≡ o → (o ≡ Some (Some false) → ⊥) → hit_at query none_seen s w ≡ None
      no_miss o e other = absurd (out (spans w row (λ f. other (sym e ∙ f))))

      by : (o : Option (Option Bool)) → slice_get memo w.numbers.command ≡ o → hit_at query none_seen s w ≡ None
      by None e = no_miss None e (λ f. cc)
      by (Some None) e = no_miss (Some None) e (λ f. cc)
      by (Some (Some true)) e = no_miss (Some (Some true)) e (λ f. cc)
      by (Some (Some false)) e = sym (no_hit query s w none_seen memo row remembers e)

  hits_between : (ws : List Walked) → AllByRecursion (IsRow s) ws → filter_map (hit_at query none_seen s) (filter (began_within span) ws) ≡ filter_map (hit_at query none_seen s) ws
  hits_between [] rows = refl
  hits_between (w ∷ ws) rows = by (began_within span w) refl (hits_between ws rows.1)
    where
      by : (t : Bool) → began_within span w ≡ t → filter_map (hit_at query none_seen s) (filter (began_within span) ws) ≡ filter_map (hit_at query none_seen s) ws
          → filter_map (hit_at query none_seen s) (cond t (w ∷ filter (began_within span) ws) (filter (began_within span) ws)) ≡ cons_option (hit_at query none_seen s w) (filter_map (hit_at query none_seen s) ws)
      by true e rest = ap (cons_option (hit_at query none_seen s w)) rest
      by false e rest = rest ∙ ap (λ (o : Option HistoryRecord). cons_option o (filter_map (hit_at query none_seen s) ws)) (sym (outside w rows.0 (not_within span w e)))

  rows_between : (ws : List Walked) → AllByRecursion (IsRow s) ws → AllByRecursion (IsRow s) (filter (began_within span) ws)
  rows_between [] rows = tt
  rows_between (w ∷ ws) rows = by (began_within span w) (rows_between ws rows.1)
    where
      by : (t : Bool) → AllByRecursion (IsRow s) (filter (began_within span) ws) → AllByRecursion (IsRow s) (cond t (w ∷ filter (began_within span) ws) (filter (began_within span) ws))
      by true rest = (rows.0, rest)
      by false rest = rest

  -- what began within the span of all hits
  pub makes_between : (ws : List Walked) → ws ≡ filter (began_within span) (walked_in s.order) → AllByRecursion (IsRow s) (walked_in s.order) → MakesAnswer query s ws
  makes_between ws is rows =
      let part : MakesAnswer query s (filter (began_within span) (walked_in s.order)) = record {
        rows = rows_between (walked_in s.order) rows;
        whole = ap (λ (hs : List HistoryRecord). drop query.offset (uniques query.unique hs)) (hits_between (walked_in s.order) rows);
        few = fewer (began_within span) (λ (w : Walked). kept (in_scope (scope_seen query.filter)) (shown_command s w.id)) (walked_in s.order);
      } in
      subst (λ (vs : List Walked). MakesAnswer query s vs) (sym is) part

  -- nothing, where the span has no times
  module _ (empty : span.latest < span.earliest) where
    never : (w : Walked) → IsWithin span w.timestamp → ⊥
    never w within = let from = within.0 in let to = within.1 in omega arith

    none_hits : (ws : List Walked) → AllByRecursion (IsRow s) ws → filter_map (hit_at query none_seen s) ws ≡ []
    none_hits [] rows = refl
    none_hits (w ∷ ws) rows = ap (λ (o : Option HistoryRecord). cons_option o (filter_map (hit_at query none_seen s) ws)) (outside w rows.0 (never w)) ∙ none_hits ws rows.1

    pub nothing_found : (hits : List ShownCommand) → hits ≡ [] → AllByRecursion (IsRow s) (walked_in s.order) → IsAnswerOf query (newest_of s) (seen_of hits)
    nothing_found hits none rows = subst (λ (hs : List ShownCommand). IsAnswerOf query (newest_of s) (seen_of hs)) (sym none) record {
      rest = [];
      begins = sym (whole_of query s) ∙ ap (λ (hs : List HistoryRecord). drop query.offset (uniques query.unique hs)) (none_hits (walked_in s.order) rows) ∙ ap (drop query.offset) (none_left query s query.unique) ∙ drop-nil query.offset;
      fits = (omega arith, inl (omega arith));
      most = λ next others e. absurd cc;
    }

-- ---- the span of all hits

pub joined_this : (a b : Span) (t : ℕ) → IsWithin a t → IsWithin (joined a b) t
joined_this a b t within = let from = within.0 in let to = within.1 in (omega arith, omega arith)

pub joined_other : (a b : Span) (t : ℕ) → IsWithin b t → IsWithin (joined a b) t
joined_other a b t within = let from = within.0 in let to = within.1 in (omega arith, omega arith)

-- so far it is one of the hits with texts below a number
abbrev pub SpansBelow : ViewState → List (Option Bool) → ℕ → Span → Type 0
SpansBelow s memo k span = (w : Walked) → IsRow s w → w.numbers.command < k → (slice_get memo w.numbers.command ≡ Some (Some false) → ⊥) → IsWithin span w.timestamp

pub spans_more : (s : ViewState) (memo : List (Option Bool)) (k : ℕ) (span next : Span) → SpansBelow s memo k span → ((t : ℕ) → IsWithin span t → IsWithin next t)
    → ((slice_get memo k ≡ Some (Some false) → ⊥) → (w : Walked) → IsRow s w → w.numbers.command ≡ k → IsWithin next w.timestamp) → SpansBelow s memo (k + 1) next
spans_more s memo k span next below keeps has w row less hit = by (ltb w.numbers.command k) refl
  where
    by : (t : Bool) → ltb w.numbers.command k ≡ t → IsWithin next w.timestamp
    by true e = keeps w.timestamp (below w row (ltb-true w.numbers.command k e) hit)
    by false e =
        let far = ltb-false w.numbers.command k e in
        let same : w.numbers.command ≡ k = omega arith in
        has (λ f. hit (ap (slice_get memo) same ∙ f)) w row same

pub spans_all : (s : ViewState) (memo : List (Option Bool)) (k : ℕ) (span : Span) → length memo ≡ length s.texts → length memo ≤ k → SpansBelow s memo k span → SpansHits s memo span
spans_all s memo k span long all below w row hit = let within = row_within s w row in below w row (omega arith) hit
