-- The commands that are shown, in order.
use Rattle.std.proofs.Common.{◌≡◌, ℕ, List, [], ◌∷◌, Option, Some, None, Bool, true, false, cond, refl, sym, ap, subst, ◌∙◌, arith, inl, inr}
use Rattle.std.specs.Option.{option_map, unwrap_or}
use Rattle.std.specs.Map.{lookup, keys_of}
use Rattle.std.specs.List.{filter_map, cons_option, AllByRecursion}
use Rattle.std.specs.List.Sorted.{IsStrictlySortedBy}
use Rattle.std.specs.BTreeMap.{is_at}
use Rattle.std.specs.declared.cmp.Ordering.TheVariants.{Less}
use Rattle.std.proofs.lemmas.Bool.{eq-eqb}
use Rattle.std.proofs.lemmas.Bool.Decides.{nat_tests}
use Rattle.definitions.specs.Journal.{HistoryRecord}
use Rattle.definitions.specs.Search.{is_shown_before}
use Rattle.definitions.proofs.Among.{Among, Among-from_place, Contains-from_Among}
use Rattle.history_view.specs.declared.rows.Creation.{Creation}
use Rattle.history_view.specs.declared.rows.TextNumbers.{TextNumbers}
use Rattle.history_view.specs.declared.walk.Walked.{Walked}
use Rattle.history_view.specs.Rows.{command_of, shown_row, numbers_of}
use Rattle.history_view.specs.Places.{OrderKey, key_cmp, held_in, numbers_in, numbers_for}
use Rattle.history_view.specs.ViewState.{ViewState, IsSound}
use Rattle.history_view.specs.Walk.{walked_in, with_numbers, shown_command, newest_of, IsRow, StandInOrder, AreShown}
use Rattle.history_view.proofs.OrderKeys.{one_key}

-- ---- order

abbrev key_of : Walked → OrderKey
key_of w = (record { 0 = w.timestamp }, w.id)

walked_below : (x : OrderKey) (es : List (OrderKey × Option TextNumbers)) → AllByRecursion (λ (k : OrderKey). key_cmp x k ≡ Less) (keys_of es) → AllByRecursion (λ (w : Walked). key_cmp x (key_of w) ≡ Less) (walked_in es)
walked_below x [] all = tt
walked_below x (e ∷ es) all = by e.1 (walked_below x es all.1)
  where
    by : (o : Option TextNumbers) → AllByRecursion (λ (w : Walked). key_cmp x (key_of w) ≡ Less) (walked_in es) → AllByRecursion (λ (w : Walked). key_cmp x (key_of w) ≡ Less) (with_numbers e.0 o (walked_in es))
    by None rest = rest
    by (Some numbers) rest = (all.0, rest)

before_of : (a b c d : ℕ) (h k : HistoryRecord) → h.timestamp ≡ a → h.id ≡ b → k.timestamp ≡ c → k.id ≡ d → key_cmp (record { 0 = a }, b) (record { 0 = c }, d) ≡ Less → is_shown_before h k ≡ true
before_of a b c d h k e f g i less = grind (arith, nat_tests)

module _ (s : ViewState) where
  -- what is shown of a walked one has its time and its id
  shown_of_row : (w : Walked) → IsRow s w → (h : HistoryRecord) → shown_command s w.id ≡ Some h → (h.timestamp ≡ w.timestamp) × (h.id ≡ w.id)
  shown_of_row w row h e =
      let both : Some (command_of s.texts w.id row.creation) ≡ Some h = ap (option_map (command_of s.texts w.id)) (sym row.shown) ∙ e in
      let same : command_of s.texts w.id row.creation ≡ h = cc in
      (ap (λ (k : HistoryRecord). k.timestamp) (sym same) ∙ row.timestamp, ap (λ (k : HistoryRecord). k.id) (sym same))

  later_shown : (w : Walked) (h : HistoryRecord) → h.timestamp ≡ w.timestamp → h.id ≡ w.id → (ws : List Walked) → AllByRecursion (IsRow s) ws → AllByRecursion (λ (v : Walked). key_cmp (key_of w) (key_of v) ≡ Less) ws
      → AllByRecursion (λ (later : HistoryRecord). is_shown_before h later ≡ true) (filter_map (λ (v : Walked). shown_command s v.id) ws)
  later_shown w h e f [] rows all = tt
  later_shown w h e f (v ∷ ws) rows all = by (shown_command s v.id) refl (later_shown w h e f ws rows.1 all.1)
    where
      by : (o : Option HistoryRecord) → shown_command s v.id ≡ o → AllByRecursion (λ (later : HistoryRecord). is_shown_before h later ≡ true) (filter_map (λ (v : Walked). shown_command s v.id) ws)
          → AllByRecursion (λ (later : HistoryRecord). is_shown_before h later ≡ true) (cons_option o (filter_map (λ (v : Walked). shown_command s v.id) ws))
      by None is rest = rest
      by (Some k) is rest = let at = shown_of_row v rows.0 k is in (before_of w.timestamp w.id v.timestamp v.id h k e f at.0 at.1 all.0, rest)

  stand_from : (es : List (OrderKey × Option TextNumbers)) → IsStrictlySortedBy key_cmp (keys_of es) → AllByRecursion (IsRow s) (walked_in es) → StandInOrder (filter_map (λ (w : Walked). shown_command s w.id) (walked_in es))
  unfolding IsStrictlySortedBy
  stand_from [] up rows = tt
  stand_from (e ∷ es) up rows = by e.1 rows (λ more. stand_from es up.1 more) (walked_below e.0 es up.0)
    where
      shown : List Walked → List HistoryRecord
      shown ws = filter_map (λ (w : Walked). shown_command s w.id) ws

      one : (w : Walked) → IsRow s w → AllByRecursion (IsRow s) (walked_in es) → AllByRecursion (λ (v : Walked). key_cmp (key_of w) (key_of v) ≡ Less) (walked_in es) → StandInOrder (filter_map (λ (w : Walked). shown_command s w.id) (walked_in es)) → (o : Option HistoryRecord) → shown_command s w.id ≡ o
          → StandInOrder (cons_option o (filter_map (λ (w : Walked). shown_command s w.id) (walked_in es)))
      one w row rest below stands None is = stands
      one w row rest below stands (Some h) is = let at = shown_of_row w row h is in (later_shown w h at.0 at.1 (walked_in es) rest below, stands)

      by : (o : Option TextNumbers) → AllByRecursion (IsRow s) (with_numbers e.0 o (walked_in es)) → (AllByRecursion (IsRow s) (walked_in es) → StandInOrder (filter_map (λ (w : Walked). shown_command s w.id) (walked_in es)))
          → AllByRecursion (λ (w : Walked). key_cmp e.0 (key_of w) ≡ Less) (walked_in es) → StandInOrder (filter_map (λ (w : Walked). shown_command s w.id) (with_numbers e.0 o (walked_in es)))
      by None rows more below = more rows
      by (Some numbers) rows more below = one (record { timestamp = e.0.0.0; id = e.0.1; numbers = numbers }) rows.0 rows.1 below (more rows.1) (shown_command s e.0.1) refl

  pub stand_in_order : IsStrictlySortedBy key_cmp (keys_of s.order) → AllByRecursion (IsRow s) (walked_in s.order) → StandInOrder (newest_of s)
  stand_in_order up rows = stand_from s.order up rows

  -- ---- which

  only_shown : (ws : List Walked) → AllByRecursion (IsRow s) ws → (h : HistoryRecord) → Among h (filter_map (λ (w : Walked). shown_command s w.id) ws) → shown_command s h.id ≡ Some h
  only_shown [] rows h m = absurd m
  only_shown (w ∷ ws) rows h m = by (shown_command s w.id) refl m (λ n. only_shown ws rows.1 h n)
    where
      by : (o : Option HistoryRecord) → shown_command s w.id ≡ o → Among h (cons_option o (filter_map (λ (w : Walked). shown_command s w.id) ws)) → (Among h (filter_map (λ (w : Walked). shown_command s w.id) ws) → shown_command s h.id ≡ Some h) → shown_command s h.id ≡ Some h
      by None is m more = more m
      by (Some k) is (inl e) more = ap (shown_command s) (ap (λ (x : HistoryRecord). x.id) e ∙ (shown_of_row w rows.0 k is).1) ∙ is ∙ ap Some (sym e)
      by (Some k) is (inr n) more = more n

  among_shown : (ws : List Walked) (w : Walked) (h : HistoryRecord) → Among w ws → shown_command s w.id ≡ Some h → Among h (filter_map (λ (w : Walked). shown_command s w.id) ws)
  among_shown [] w h m e = absurd m
  among_shown (v ∷ ws) w h (inl same) e = subst (λ (o : Option HistoryRecord). Among h (cons_option o (filter_map (λ (w : Walked). shown_command s w.id) ws))) (sym (ap (λ (x : Walked). shown_command s x.id) (sym same) ∙ e)) (inl refl)
  among_shown (v ∷ ws) w h (inr m) e = by (shown_command s v.id) (among_shown ws w h m e)
    where
      by : (o : Option HistoryRecord) → Among h (filter_map (λ (w : Walked). shown_command s w.id) ws) → Among h (cons_option o (filter_map (λ (w : Walked). shown_command s w.id) ws))
      by None n = n
      by (Some k) n = inr n

walked_at : (key : OrderKey) (numbers : TextNumbers) (es : List (OrderKey × Option TextNumbers)) → lookup (is_at (key_cmp key)) es ≡ Some (Some numbers) → Among (record { timestamp = key.0.0; id = key.1; numbers = numbers }) (walked_in es)
walked_at key numbers [] e = absurd cc
walked_at key numbers (x ∷ es) e = by (is_at (key_cmp key) x.0) refl e (λ f. walked_at key numbers es f)
  where
    wanted : Walked
    wanted = record { timestamp = key.0.0; id = key.1; numbers = numbers }

    later : (o : Option TextNumbers) → Among wanted (walked_in es) → Among wanted (with_numbers x.0 o (walked_in es))
    later None m = m
    later (Some other) m = inr m

    by : (t : Bool) → is_at (key_cmp key) x.0 ≡ t → cond t (Some x.1) (lookup (is_at (key_cmp key)) es) ≡ Some (Some numbers) → (lookup (is_at (key_cmp key)) es ≡ Some (Some numbers) → Among wanted (walked_in es)) → Among wanted (with_numbers x.0 x.1 (walked_in es))
    by true t found more =
        let is : x.1 ≡ Some numbers = cc in
        let at : key ≡ x.0 = one_key key x.0 t in
        subst (λ (o : Option TextNumbers). Among wanted (with_numbers x.0 o (walked_in es))) (sym is) (inl (λ i. record { timestamp = (at i).0.0; id = (at i).1; numbers = numbers }))
    by false t found more = later x.1 (more found)

module _ (s : ViewState) (sound : IsSound s) where
  numbers_there : (o : Option (Option TextNumbers)) (numbers : TextNumbers) → unwrap_or o None ≡ Some numbers → o ≡ Some (Some numbers)
  numbers_there None numbers e = absurd cc
  numbers_there (Some p) numbers e = ap Some e

  some_row : (id : ℕ) (o : Option Creation) (h : HistoryRecord) → option_map (command_of s.texts id) o ≡ Some h → (c : Creation) × (o ≡ Some c)
  some_row id None h e = absurd cc
  some_row id (Some c) h e = (c, refl)

  all_shown : (h : HistoryRecord) → shown_command s h.id ≡ Some h → Among h (newest_of s)
  all_shown h e =
      let row = some_row h.id (shown_row (held_in s.ids h.id)) h e in
      let key : OrderKey = (record { 0 = row.0.timestamp }, h.id) in
      let stands : numbers_in s.order key ≡ Some (numbers_of row.0) =
      sound.order key ∙ ap (numbers_for row.0.timestamp) row.1 ∙ ap (λ (b : Bool). cond b (Some (numbers_of row.0)) None) (eq-eqb row.0.timestamp row.0.timestamp refl) in
      among_shown s (walked_in s.order) (record { timestamp = row.0.timestamp; id = h.id; numbers = numbers_of row.0 }) h
      (walked_at key (numbers_of row.0) s.order (numbers_there (lookup (is_at (key_cmp key)) s.order) (numbers_of row.0) stands)) e

  pub are_shown : AllByRecursion (IsRow s) (walked_in s.order) → AreShown s (newest_of s)
  are_shown rows h = (
    λ c. only_shown s (walked_in s.order) rows h (Among-from_place HistoryRecord (newest_of s) h c.0 c.1 c.2),
    λ e. Contains-from_Among HistoryRecord (newest_of s) h (all_shown h e),
  )
