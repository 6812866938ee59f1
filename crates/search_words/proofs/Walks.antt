-- The walk of the parser over the words of a search, beside the reading of the definitions.
use Rattle.std.proofs.Common.{◌≡◌, ℕ, nat_lt, length, slice_get, Bool, true, false, cond, ◌||◌, ◌&&◌, List, [], ◌∷◌, ◌++◌, Option, Some, None, option_map, codes, refl, sym, ap, ◌∙◌, subst, fold, ◌⊎◌, inl, inr}
use Rattle.std.specs.Str.{bytes_eq, IsUtf8, chars}
use Rattle.std.proofs.lemmas.List.Folds.{list_any-append}
use Rattle.std.proofs.lemmas.Slice.Eq.{bytes_eq-Decides}
use Rattle.clap.specs.Lexer.{long_of, short_of}
use Rattle.clap.specs.Kinds.{Kinds, or_else}
use Rattle.clap.specs.Faults.{bundle_fault, bundle_step_fault, check_fault, defaults_fault, flags_fault, given_default_fault, long_fault, repeat_fault, settle_fault, step_fault, turn_fault, walk_fault, word_fault}
use Rattle.clap.specs.Simple.{Shape, built}
use Rattle.clap.specs.Walk.{option_word, after_flag, long_met, Held, Row, Rule, Step, Waiting, Walk, after_step, arg_by_id, arg_by_long, default_rows, finished, has_row, idle, is_empty, reading_by, next, option, settled, settled_rows, trailing, value as free_word, walked, with_default, with_values, without, word_met, pushed, is_pending}
use Rattle.clap.specs.declared.error.kind.ErrorKind.{ErrorKind}
use Rattle.clap.specs.declared.error.kind.ErrorKind.TheVariants as kind
use Rattle.clap.specs.declared.builder.value_parser.Reading.TheVariants as reading
use Rattle.clap.specs.declared.builder.value_parser.ValueParser.TheVariants as vp
use Rattle.clap.specs.declared.parser.matches.ValueSource.TheVariants.{CommandLine}
use Rattle.search_words.specs.Words.{Text, Word, end_of_options, named, hyphened, plain, word_of, OptionKind, with_value, alone, unknown, option_kind, Said, is_said, says, behind_end, Next, refused, ended, goes_on, goes_on_with, after_named, after_word, follow, read_words, ◌>>=◌}
use Rattle.search_words.specs.Parsing.{search_app, flag_rule, option_rule, text_rule}
use Rattle.search_words.proofs.Rows.{has_said, one_more, rows_for}
use Rattle.search_words.proofs.Turns.{IsBundle, Looks, by_test, fault_is, looks, met_is, turn_fault_is, two_hyphens, walk_on, walked_is}

-- ---- the command as it is parsed

abbrev pub shape : Shape
shape = (built search_app).top

abbrev pub slots : List Rule
slots = shape.rules

abbrev pub text_name : Text
text_name = codes "text"

-- an option that takes a value, filled in
abbrev value_slot : Text → Rule
value_slot name = record (option_rule name) { parser = Some vp.String; range = Some (record { start_inclusive = 1; end_inclusive = 1 }) }

abbrev pub IsOption : Text → Type 0
IsOption name = (name ≡ codes "mode") ⊎ ((name ≡ codes "filter") ⊎ ((name ≡ codes "offset") ⊎ (name ≡ codes "limit")))

module _ (P : Text → Type 0) (mode : P (codes "mode")) (filter : P (codes "filter")) (offset : P (codes "offset")) (limit : P (codes "limit")) where
  by_option : (name : Text) → IsOption name → P name
  by_option name (inl e) = subst P (sym e) mode
  by_option name (inr (inl e)) = subst P (sym e) filter
  by_option name (inr (inr (inl e))) = subst P (sym e) offset
  by_option name (inr (inr (inr e))) = subst P (sym e) limit

long_slot : (name : Text) → IsOption name → arg_by_long slots name ≡ Some (value_slot name)
long_slot = by_option (λ n. arg_by_long slots n ≡ Some (value_slot n)) refl refl refl refl

id_slot : (name : Text) → IsOption name → arg_by_id slots name ≡ Some (value_slot name)
id_slot = by_option (λ n. arg_by_id slots n ≡ Some (value_slot n)) refl refl refl refl

same_name : (name : Text) → IsOption name → bytes_eq name name ≡ true
same_name = by_option (λ n. bytes_eq n n ≡ true) refl refl refl refl

no_text : (name : Text) → IsOption name → bytes_eq name text_name ≡ false
no_text = by_option (λ n. bytes_eq n text_name ≡ false) refl refl refl refl

-- what the kind of a name says of it
abbrev Kinded : Text → OptionKind → Type 0
Kinded name with_value = IsOption name
Kinded name alone = name ≡ codes "unique"
Kinded name unknown = arg_by_long slots name ≡ None

called : (a name : Text) → bytes_eq a name ≡ true → name ≡ a
called a name e = sym ((bytes_eq-Decides a name).0 e)

not_called : (b : Bool) (slot : Rule) (others : Option Rule) → b ≡ false → others ≡ None → cond (b || false) (Some slot) others ≡ None
not_called b slot others e none = subst (λ (t : Bool). cond (t || false) (Some slot) others ≡ None) (sym e) none

none_long : (name : Text) → bytes_eq (codes "mode") name ≡ false → bytes_eq (codes "filter") name ≡ false → bytes_eq (codes "unique") name ≡ false
    → bytes_eq (codes "offset") name ≡ false → bytes_eq (codes "limit") name ≡ false → arg_by_long slots name ≡ None
none_long name mode filter unique offset limit =
    not_called (bytes_eq (codes "mode") name) _ _ mode (not_called (bytes_eq (codes "filter") name) _ _ filter (not_called (bytes_eq (codes "unique") name) _ _ unique
    (not_called (bytes_eq (codes "offset") name) _ _ offset (not_called (bytes_eq (codes "limit") name) _ _ limit refl))))

kinded : (name : Text) → Kinded name (option_kind name)
kinded name =
    by_test (bytes_eq (codes "mode") name) (λ e. rw e (inl (called (codes "mode") name e))) (λ no_mode.
    by_test (bytes_eq (codes "filter") name) (λ e. rw (no_mode, e) (inr (inl (called (codes "filter") name e)))) (λ no_filter.
    by_test (bytes_eq (codes "unique") name) (λ e. rw (no_mode, no_filter, e) (called (codes "unique") name e)) (λ no_unique.
    by_test (bytes_eq (codes "offset") name) (λ e. rw (no_mode, no_filter, no_unique, e) (inr (inr (inl (called (codes "offset") name e))))) (λ no_offset.
    by_test (bytes_eq (codes "limit") name) (λ e. rw (no_mode, no_filter, no_unique, no_offset, e) (inr (inr (inr (called (codes "limit") name e))))) (λ no_limit.
    rw (no_mode, no_filter, no_unique, no_offset, no_limit) (none_long name no_mode no_filter no_unique no_offset no_limit))))))

-- ---- what was met and isn't kept yet

pub data Pending : Type 0 where
  none : Pending
  value_held : Text → Text → Pending
  waits : Text → Pending

abbrev IsSlot : Text → Type 0
IsSlot name = IsOption name ⊎ (name ≡ text_name)

abbrev pub IsFit : Pending → Type 0
IsFit none = Unit {0}
IsFit (value_held name value) = IsSlot name
IsFit (waits name) = IsOption name

abbrev pend : Pending → Option (Text × List Text)
pend none = None
pend (value_held name value) = Some (name, value ∷ [])
pend (waits name) = Some (name, [])

abbrev wait_of : Pending → Waiting
wait_of none = idle
wait_of (value_held name value) = idle
wait_of (waits name) = option name

abbrev held_at : Said → Pending → Held
held_at said p = record { rows = rows_for said; pending = pend p; skip = 0 }

abbrev flushed : Said → Pending → Option Said
flushed said none = Some said
flushed said (value_held name value) = says name value said
flushed said (waits name) = None

abbrev is_taken : Said → Pending → Bool
is_taken said none = is_said text_name said
is_taken said (value_held name value) = is_said text_name (said ++ (name, value) ∷ [])
is_taken said (waits name) = is_said text_name said

abbrev place_of : Bool → ℕ
place_of taken = cond taken 2 1

abbrev pub walk_at : Bool → Said → Pending → Walk
walk_at is_trailing said p = walk_on is_trailing (wait_of p) (place_of (is_taken said p)) (held_at said p)

abbrev Settles : Said → Pending → Option Said → Type 0
Settles said p (Some after) =
    (settle_fault slots false (held_at said p) ≡ []) × (settled slots (held_at said p) ≡ held_at after none) × (is_taken said p ≡ is_said text_name after)
Settles said p None = (k : ErrorKind) × (ks : Kinds) × (settle_fault slots false (held_at said p) ≡ k ∷ ks)

module _ (value : Text) (rows : List Row) where
  abbrev ValueFault : Text → Type 0
  ValueFault name = settle_fault slots false (record { rows = rows; pending = Some (name, value ∷ []); skip = 0 }) ≡ or_else (repeat_fault false name rows) []

  abbrev ValueRows : Text → Type 0
  ValueRows name = settled_rows slots (Some (name, value ∷ [])) rows ≡ with_values name reading.AsWritten CommandLine (value ∷ []) (without name rows)

  value_fault : (name : Text) → IsSlot name → ValueFault name
  value_fault name (inl o) = by_option ValueFault refl refl refl refl name o
  value_fault name (inr e) = subst ValueFault (sym e) refl

  value_rows : (name : Text) → IsSlot name → ValueRows name
  value_rows name (inl o) = by_option ValueRows refl refl refl refl name o
  value_rows name (inr e) = subst ValueRows (sym e) refl

waiting_fault : (rows : List Row) (name : Text) → IsOption name → settle_fault slots false (record { rows = rows; pending = Some (name, []); skip = 0 }) ≡ kind.InvalidValue ∷ []
waiting_fault rows = by_option (λ n. settle_fault slots false (record { rows = rows; pending = Some (n, []); skip = 0 }) ≡ kind.InvalidValue ∷ []) refl refl refl refl

module _ (name : Text) (said : Said) where
  repeated : is_said name said ≡ true → repeat_fault false name (rows_for said) ≡ kind.ArgumentConflict ∷ []
  repeated e = ap (λ (t : Bool). cond (t && true) (kind.ArgumentConflict ∷ []) []) (has_said name said ∙ e)

  not_repeated : is_said name said ≡ false → repeat_fault false name (rows_for said) ≡ []
  not_repeated e = ap (λ (t : Bool). cond (t && true) (kind.ArgumentConflict ∷ []) []) (has_said name said ∙ e)

settles : (said : Said) (p : Pending) → IsFit p → Settles said p (flushed said p)
settles said none fit = (refl, refl, refl)
settles said (value_held name value) fit =
    let P : Bool → Type 0 = λ t. Settles said (value_held name value) (cond t None (Some (said ++ (name, value) ∷ []))) in
    by_test (is_said name said)
    (λ yes. subst P (sym yes) (kind.ArgumentConflict, [], value_fault value (rows_for said) name fit ∙ ap (λ (k : Kinds). or_else k []) (repeated name said yes)))
    (λ no. subst P (sym no) (
      value_fault value (rows_for said) name fit ∙ ap (λ (k : Kinds). or_else k []) (not_repeated name said no),
      ap (λ (rows : List Row). record { rows = rows; pending = None; skip = 0 }) (value_rows value (rows_for said) name fit ∙ one_more name value said no),
      refl,
    ))
settles said (waits name) fit = (kind.InvalidValue, [], waiting_fault (rows_for said) name fit)

-- ---- the end of a walk

abbrev pub gives : Kinds → List Row → Option (List Row)
gives [] rows = Some rows
gives (k ∷ ks) rows = None

abbrev after_settling : Held → Kinds
after_settling h = or_else (defaults_fault (settled slots h).rows slots) (check_fault shape (finished slots h) false)

abbrev ending : Held → Kinds
ending h = or_else [] (or_else (settle_fault slots false h) (after_settling h))

abbrev end_held : Walk → List Text → Held
end_held w words = (fold (walked slots []) w words).held

abbrev pub parsed : Walk → List Text → Option (List Row)
parsed w words = gives (or_else (walk_fault shape [] w words) (ending (end_held w words))) (finished slots (end_held w words))

abbrev AllFine : List Rule → Type 0
AllFine [] = Unit {0}
AllFine (a ∷ more) = (given_default_fault a a.defaults ≡ []) × AllFine more

fine_default : (b c : Bool) (k : Kinds) → k ≡ [] → cond (b || c) [] k ≡ []
fine_default true c k e = refl
fine_default false true k e = refl
fine_default false false k e = e

no_default_fault : (more : List Rule) → AllFine more → (rows : List Row) → defaults_fault rows more ≡ []
unfolding defaults_fault
no_default_fault [] fine rows = refl
no_default_fault (a ∷ more) fine rows =
    ap (λ (k : Kinds). or_else k (defaults_fault (with_default rows a) more)) (fine_default (has_row a.id rows) (is_empty a.defaults) (given_default_fault a a.defaults) fine.0)
    ∙ no_default_fault more fine.1 (with_default rows a)

abbrev NoDefaults : List Rule → Type 0
NoDefaults [] = Unit {0}
NoDefaults (a ∷ more) = (a.defaults ≡ []) × NoDefaults more

same_either : (b : Bool) (rows others : List Row) → others ≡ rows → cond b rows others ≡ rows
same_either true rows others e = refl
same_either false rows others e = e

nothing_added : (more : List Rule) → NoDefaults more → (rows : List Row) → fold with_default rows more ≡ rows
nothing_added [] bare rows = refl
nothing_added (a ∷ more) bare rows =
    ap (λ (r : List Row). fold with_default r more)
    (same_either (has_row a.id rows) rows (default_rows a.id (reading_by a) a.defaults rows) (ap (λ (ds : List Text). default_rows a.id (reading_by a) ds rows) bare.0))
    ∙ nothing_added more bare.1 rows

abbrev pub unique_slot : Rule
unique_slot = record (flag_rule (codes "unique")) {
  defaults = codes "false" ∷ [];
  missing = codes "true" ∷ [];
  parser = Some vp.Bool;
  range = Some (record { start_inclusive = 0; end_inclusive = 0 });
}

abbrev text_slot : Rule
text_slot = record text_rule { parser = Some vp.String; range = Some (record { start_inclusive = 1; end_inclusive = 1 }); index = Some 1 }

abbrev last_slots : List Rule
last_slots = value_slot (codes "offset") ∷ value_slot (codes "limit") ∷ text_slot ∷ []

-- the rows at the end
abbrev pub finish : Said → List Row
finish said = with_default (rows_for said) unique_slot

finished_is : (rows : List Row) → fold with_default rows slots ≡ with_default rows unique_slot
finished_is rows =
    ap (λ (r : List Row). fold with_default (with_default r unique_slot) last_slots) (nothing_added (value_slot (codes "mode") ∷ value_slot (codes "filter") ∷ []) (refl, (refl, tt)) rows)
    ∙ nothing_added last_slots (refl, (refl, (refl, tt))) (with_default rows unique_slot)

module _ (said : Said) (p : Pending) where
  end_by : (f : Option Said) → Settles said p f → gives (ending (held_at said p)) (finished slots (held_at said p)) ≡ option_map finish f
  end_by (Some after) h =
      ap (λ (k : Kinds). gives (or_else k (after_settling (held_at said p))) (finished slots (held_at said p))) h.0
      ∙ ap (λ (k : Kinds). gives (or_else k (check_fault shape (finished slots (held_at said p)) false)) (finished slots (held_at said p)))
      (no_default_fault slots (refl, (refl, (refl, (refl, (refl, (refl, tt)))))) (settled slots (held_at said p)).rows)
      ∙ ap (λ (held : Held). Some (fold with_default held.rows slots)) h.1 ∙ ap Some (finished_is (rows_for after))
  end_by None h = ap (λ (k : Kinds). gives (or_else k (after_settling (held_at said p))) (finished slots (held_at said p))) h.2

parsed_end : (t : Bool) (said : Said) (p : Pending) → IsFit p → parsed (walk_at t said p) [] ≡ option_map finish (flushed said p)
unfolding walk_fault
parsed_end t said p fit = end_by said p (flushed said p) (settles said p fit)

-- ---- turns

module _ (w : Walk) (word : Text) (rest : List Text) where
  stop_turn : (k : ErrorKind) (ks : Kinds) → turn_fault shape [] w word ≡ k ∷ ks → parsed w (word ∷ rest) ≡ None
  unfolding walk_fault
  stop_turn k ks e =
      ap (λ (f : Kinds). gives (or_else (or_else f (walk_fault shape [] (walked slots [] w word) rest)) (ending (end_held w (word ∷ rest)))) (finished slots (end_held w (word ∷ rest)))) e

  go_turn : (after : Walk) → turn_fault shape [] w word ≡ [] → walked slots [] w word ≡ after → parsed w (word ∷ rest) ≡ parsed after rest
  unfolding walk_fault
  go_turn after e to =
      ap (λ (f : Kinds). gives (or_else (or_else f (walk_fault shape [] (walked slots [] w word) rest)) (ending (end_held w (word ∷ rest)))) (finished slots (end_held w (word ∷ rest)))) e
      ∙ ap (λ (x : Walk). parsed x rest) to

-- ---- a word that is no option's

or_nothing : (b : Bool) → (b || false) ≡ b
or_nothing true = refl
or_nothing false = refl

or_true : (b : Bool) → (b || true) ≡ true
or_true true = refl
or_true false = refl

otherwise : {A : Type 0} (b : Bool) (x y : A) → cond (b && false) x y ≡ y
otherwise true x y = refl
otherwise false x y = refl

text_is_said : (said : Said) (text : Text) → is_said text_name (said ++ (text_name, text) ∷ []) ≡ true
text_is_said said text = list_any-append (λ (p : Text × Text). bytes_eq p.0 text_name) said ((text_name, text) ∷ []) ∙ or_true (is_said text_name said)

no_text_said : (name value : Text) (said : Said) → bytes_eq name text_name ≡ false → is_said text_name (said ++ (name, value) ∷ []) ≡ is_said text_name said
no_text_said name value said other =
    list_any-append (λ (p : Text × Text). bytes_eq p.0 text_name) said ((name, value) ∷ [])
    ∙ ap (λ (t : Bool). is_said text_name said || (t || false)) other ∙ or_nothing (is_said text_name said)

-- what the walk comes to once what was met is kept
abbrev pub kept_then : Option Said → (Said → Option (List Row)) → Option (List Row)
kept_then None go = None
kept_then (Some after) go = go after

module _ (t : Bool) (said : Said) (p : Pending) (word : Text) (rest : List Text) where
  abbrev here : Held
  here = held_at said p

  abbrev place : ℕ
  place = place_of (is_taken said p)

  abbrev start : Walk
  start = walk_at t said p

  abbrev text_then : Said → Option (List Row)
  text_then after = cond (is_said text_name after) None (parsed (walk_at t after (value_held text_name word)) rest)

  module _ (faulty : word_fault shape [] t (wait_of p) word here ≡ []) (is_met : word_met slots [] t (wait_of p) place word here ≡ (here, free_word)) where
    fault_here : turn_fault shape [] start word ≡ step_fault shape place here free_word
    fault_here = turn_fault_is shape t (wait_of p) place word here [] (here, free_word) faulty is_met

    walked_here : walked slots [] start word ≡ after_step slots word start here free_word
    walked_here = walked_is shape t (wait_of p) place word here [] (here, free_word) faulty is_met

    two_texts : is_taken said p ≡ true → parsed start (word ∷ rest) ≡ None
    two_texts taken = stop_turn start word rest kind.UnknownArgument [] (fault_here ∙ ap (λ (b : Bool). step_fault shape (place_of b) here free_word) taken)

    first_fault : is_taken said p ≡ false → turn_fault shape [] start word ≡ settle_fault slots false here
    first_fault free =
        fault_here ∙ ap (λ (b : Bool). step_fault shape (place_of b) here free_word) free
        ∙ otherwise (is_pending text_slot (pend p)) [] (settle_fault slots false here)

    to_text : (after : Said) → settled slots here ≡ held_at after none → is_taken said p ≡ false
        → walked slots [] start word ≡ walk_at t after (value_held text_name word)
    to_text after is_settled free =
        walked_here
        ∙ ap (λ (b : Bool). after_step slots word (walk_on t (wait_of p) (place_of b) here) here free_word) free
        ∙ ap (λ (b : Bool). walk_on b idle 2 (pushed text_name word (cond (is_pending text_slot (pend p) && false) here (settled slots here)))) (or_nothing t)
        ∙ ap (λ (h : Held). walk_on t idle 2 (pushed text_name word h)) (otherwise (is_pending text_slot (pend p)) here (settled slots here) ∙ is_settled)
        ∙ ap (λ (b : Bool). walk_on t idle (place_of b) (held_at after (value_held text_name word))) (sym (text_is_said after word))

    text_by : (f : Option Said) → Settles said p f → parsed start (word ∷ rest) ≡ kept_then f text_then
    text_by None h =
        by_test (is_taken said p) two_texts
        (λ free. stop_turn start word rest h.0 h.1 (first_fault free ∙ h.2))
    text_by (Some after) h =
        let P : Bool → Type 0 = λ b. parsed start (word ∷ rest) ≡ cond b None (parsed (walk_at t after (value_held text_name word)) rest) in
        by_test (is_taken said p)
        (λ taken. subst P (sym (sym h.2 ∙ taken)) (two_texts taken))
        (λ free. subst P (sym (sym h.2 ∙ free)) (go_turn start word rest (walk_at t after (value_held text_name word)) (first_fault free ∙ h.0) (to_text after h.1 free)))

    pub text_turn : IsFit p → parsed start (word ∷ rest) ≡ kept_then (flushed said p) text_then
    text_turn fit = text_by (flushed said p) (settles said p fit)

-- ---- behind `--`

same_bind : {A : Type 0} (o : Option A) → (o >>= λ x. Some x) ≡ o
same_bind None = refl
same_bind (Some x) = refl

nothing_bound : {A B : Type 0} (o : Option A) → ◌>>=◌ {A = A} {B = B} o (λ x. None) ≡ None
nothing_bound None = refl
nothing_bound (Some x) = refl

saying_again : (said : Said) (first second : Text) → says text_name second (said ++ (text_name, first) ∷ []) ≡ None
saying_again said first second = ap (λ (b : Bool). cond b None (Some (said ++ (text_name, first) ∷ [] ++ (text_name, second) ∷ []))) (text_is_said said first)

text_once : (word : Text) (rest : List Text) (said : Said) → (says text_name word said >>= behind_end rest) ≡ behind_end (word ∷ rest) said
text_once word [] said = same_bind (says text_name word said)
text_once word (second ∷ []) said =
    by_test (is_said text_name said)
    (λ yes. rw yes refl)
    (λ no. rw no (saying_again said word second))
text_once word (second ∷ third ∷ rest) said = nothing_bound (says text_name word said)

-- the reading, as the walk comes to it
abbrev read_behind : List Text → Option Said → Option (List Row)
read_behind words f = option_map finish (f >>= behind_end words)

trail_text : (word : Text) (rest : List Text) → ((said : Said) (p : Pending) → IsFit p → parsed (walk_at true said p) rest ≡ read_behind rest (flushed said p))
    → (f : Option Said) → kept_then f (text_then true [] none word rest) ≡ read_behind (word ∷ rest) f
trail_text word rest go None = refl
trail_text word rest go (Some said) =
    let X : Option (List Row) = parsed (walk_at true said (value_held text_name word)) rest in
    let last : read_behind rest (says text_name word said) ≡ read_behind (word ∷ rest) (Some said) = ap (option_map finish) (text_once word rest said) in
    by_test (is_said text_name said)
    (λ yes. ap (λ (b : Bool). cond b None X) yes ∙ sym (ap (λ (b : Bool). read_behind rest (cond b None (Some (said ++ (text_name, word) ∷ [])))) yes) ∙ last)
    (λ no. ap (λ (b : Bool). cond b None X) no ∙ go said (value_held text_name word) (inr refl) ∙ last)

trail : (words : List Text) (said : Said) (p : Pending) → IsFit p → parsed (walk_at true said p) words ≡ read_behind words (flushed said p)
trail [] said p fit = parsed_end true said p fit ∙ ap (option_map finish) (sym (same_bind (flushed said p)))
trail (word ∷ rest) said p fit =
    text_turn true said p word rest refl refl fit
    ∙ trail_text word rest (trail rest) (flushed said p)

-- ---- a word that begins with hyphens

abbrev follow_parsed : Next → List Text → Option (List Row)
follow_parsed refused rest = None
follow_parsed (ended said) rest = parsed (walk_at true said none) rest
follow_parsed (goes_on None said) rest = parsed (walk_at false said none) rest
follow_parsed (goes_on (Some name) said) rest = parsed (walk_at false said (waits name)) rest

module _ (said : Said) (p : Pending) (fit : IsFit p) (word : Text) (rest : List Text) where
  abbrev at_word : Held
  at_word = held_at said p

  abbrev word_place : ℕ
  word_place = place_of (is_taken said p)

  abbrev from : Walk
  from = walk_at false said p

  ended_here : bytes_eq word two_hyphens ≡ true → parsed from (word ∷ rest) ≡ parsed (walk_at true said p) rest
  ended_here e =
      let faulty = fault_is shape (wait_of p) word at_word true (long_of word) (short_of word) e refl refl in
      let is_met = met_is slots (wait_of p) word_place word at_word true (long_of word) (short_of word) e refl refl in
      go_turn from word rest (walk_at true said p) (turn_fault_is shape false (wait_of p) word_place word at_word [] (at_word, trailing word_place) faulty is_met)
      (walked_is shape false (wait_of p) word_place word at_word [] (at_word, trailing word_place) faulty is_met)

  bundle_refused : (first : ℕ) (flags : Text) (character : ℕ) → slice_get (chars (first ∷ flags)) 0 ≡ Some character
      → bundle_fault slots false (first ∷ flags) at_word ≡ kind.UnknownArgument ∷ []
  unfolding flags_fault
  bundle_refused first flags character e =
      ap (λ (o : Option ℕ). bundle_step_fault slots false o (first ∷ flags) 0 at_word (flags_fault slots false (length flags))) e

  bundle_here : bytes_eq word two_hyphens ≡ false → long_of word ≡ None → IsBundle word → parsed from (word ∷ rest) ≡ None
  bundle_here e l b =
      let faulty : word_fault shape [] false (wait_of p) word at_word ≡ kind.UnknownArgument ∷ [] =
      fault_is shape (wait_of p) word at_word false None (Some (b.first ∷ b.rest)) e l b.short ∙ bundle_refused b.first b.rest b.character b.begins in
      stop_turn from word rest kind.UnknownArgument [] (turn_fault_is shape false (wait_of p) word_place word at_word (kind.UnknownArgument ∷ []) _ faulty refl)

  module _ (name : Text) (value : Option Text) (e : bytes_eq word two_hyphens ≡ false) (l : long_of word ≡ Some (name, value)) where
    abbrev slot_fault : Option Rule → Kinds
    slot_fault o = long_fault slots false o value at_word

    abbrev slot_met : Option Rule → Held × Step
    slot_met o = after_flag slots (wait_of p) word (long_met slots o value at_word).0 (long_met slots o value at_word).1

    module _ (o : Option Rule) (is_slot : arg_by_long slots name ≡ o) where
      slot_faulty : word_fault shape [] false (wait_of p) word at_word ≡ slot_fault o
      slot_faulty = fault_is shape (wait_of p) word at_word false (Some (name, value)) (short_of word) e l refl ∙ ap slot_fault is_slot

      slot_is_met : word_met slots [] false (wait_of p) word_place word at_word ≡ slot_met o
      slot_is_met = met_is slots (wait_of p) word_place word at_word false (Some (name, value)) (short_of word) e l refl ∙ ap slot_met is_slot

      slot_turn : turn_fault shape [] from word ≡ or_else (slot_fault o) (step_fault shape word_place (slot_met o).0 (slot_met o).1)
      slot_turn = turn_fault_is shape false (wait_of p) word_place word at_word (slot_fault o) (slot_met o) slot_faulty slot_is_met

      slot_walked : walked slots [] from word ≡ after_step slots word from (slot_met o).0 (slot_met o).1
      slot_walked = walked_is shape false (wait_of p) word_place word at_word (slot_fault o) (slot_met o) slot_faulty slot_is_met

      slot_stops : (k : ErrorKind) (ks : Kinds) → slot_fault o ≡ k ∷ ks → parsed from (word ∷ rest) ≡ None
      slot_stops k ks bad =
          stop_turn from word rest k ks (slot_turn ∙ ap (λ (f : Kinds). or_else f (step_fault shape word_place (slot_met o).0 (slot_met o).1)) bad)

      -- the option keeps a value at once
      module _ (kept : Text) (other : bytes_eq name text_name ≡ false) where
        abbrev rows_now : List Row
        rows_now = (settled slots at_word).rows

        abbrev KeepsFault : Type 0
        KeepsFault = slot_fault o ≡ or_else (settle_fault slots false at_word) (or_else (repeat_fault false name rows_now) [])

        abbrev KeepsRows : Type 0
        KeepsRows = slot_met o ≡ (record { rows = with_values name reading.AsWritten CommandLine (kept ∷ []) (without name rows_now); pending = None; skip = 0 }, next idle)

        abbrev keeps_then : Said → Option (List Row)
        keeps_then after = follow_parsed (goes_on_with (says name kept after)) rest

        module _ (faulty : KeepsFault) (is_met : KeepsRows) where
          keep_by : (f : Option Said) → Settles said p f → parsed from (word ∷ rest) ≡ kept_then f keeps_then
          keep_by None h = slot_stops h.0 h.1 (faulty ∙ ap (λ (k : Kinds). or_else k (or_else (repeat_fault false name rows_now) [])) h.2)
          keep_by (Some after) h =
              let P : Bool → Type 0 = λ b. parsed from (word ∷ rest) ≡ follow_parsed (goes_on_with (cond b None (Some (after ++ (name, kept) ∷ [])))) rest in
              let now : rows_now ≡ rows_for after = ap (λ (x : Held). x.rows) h.1 in
              let settled_fault : slot_fault o ≡ or_else (repeat_fault false name (rows_for after)) [] =
              faulty ∙ ap (λ (k : Kinds). or_else k (or_else (repeat_fault false name rows_now) [])) h.0
              ∙ ap (λ (r : List Row). or_else (repeat_fault false name r) []) now in
              by_test (is_said name after)
              (λ yes. subst P (sym yes) (slot_stops kind.ArgumentConflict [] (settled_fault ∙ ap (λ (k : Kinds). or_else k []) (repeated name after yes))))
              (λ no. subst P (sym no) (go_turn from word rest (walk_at false (after ++ (name, kept) ∷ []) none)
              (slot_turn
              ∙ ap (λ (k : Kinds). or_else k (step_fault shape word_place (slot_met o).0 (slot_met o).1)) (settled_fault ∙ ap (λ (k : Kinds). or_else k []) (not_repeated name after no))
              ∙ ap (λ (m : Held × Step). step_fault shape word_place m.0 m.1) is_met)
              (slot_walked
              ∙ ap (λ (m : Held × Step). after_step slots word from m.0 m.1) is_met
              ∙ ap (λ (r : List Row). walk_on false idle word_place (record { rows = with_values name reading.AsWritten CommandLine (kept ∷ []) (without name r); pending = None; skip = 0 })) now
              ∙ ap (λ (r : List Row). walk_on false idle word_place (record { rows = r; pending = None; skip = 0 })) (one_more name kept after no)
              ∙ ap (λ (b : Bool). walk_on false idle (place_of b) (held_at (after ++ (name, kept) ∷ []) none)) (h.2 ∙ sym (no_text_said name kept after other)))))

          keep_turn : parsed from (word ∷ rest) ≡ kept_then (flushed said p) keeps_then
          keep_turn = keep_by (flushed said p) (settles said p fit)

      -- the option waits for its value
      module _ (is_faulty : slot_fault o ≡ settle_fault slots false at_word)
          (is_met : slot_met o ≡ (record (settled slots at_word) { pending = Some (name, []) }, next (option name))) where
        abbrev waits_then : Said → Option (List Row)
        waits_then after = parsed (walk_at false after (waits name)) rest

        wait_by : (f : Option Said) → Settles said p f → parsed from (word ∷ rest) ≡ kept_then f waits_then
        wait_by None h = slot_stops h.0 h.1 (is_faulty ∙ h.2)
        wait_by (Some after) h =
            go_turn from word rest (walk_at false after (waits name))
            (slot_turn
            ∙ ap (λ (k : Kinds). or_else k (step_fault shape word_place (slot_met o).0 (slot_met o).1)) (is_faulty ∙ h.0)
            ∙ ap (λ (m : Held × Step). step_fault shape word_place m.0 m.1) is_met)
            (slot_walked
            ∙ ap (λ (m : Held × Step). after_step slots word from m.0 m.1) is_met
            ∙ ap (λ (x : Held). walk_on false (option name) word_place (record x { pending = Some (name, []) })) h.1
            ∙ ap (λ (b : Bool). walk_on false (option name) (place_of b) (held_at after (waits name))) h.2)

        wait_turn : parsed from (word ∷ rest) ≡ kept_then (flushed said p) waits_then
        wait_turn = wait_by (flushed said p) (settles said p fit)

  nothing_kept : (f : Option Said) → None ≡ kept_then f (λ after. None)
  nothing_kept None = refl
  nothing_kept (Some after) = refl

  abbrev NamedTurn : OptionKind → Text → Option Text → Type 0
  NamedTurn kind_is name value = parsed from (word ∷ rest) ≡ kept_then (flushed said p) (λ after. follow_parsed (after_named kind_is name value after) rest)

  named_turn : (kind_is : OptionKind) (name : Text) (value : Option Text) → Kinded name kind_is
      → bytes_eq word two_hyphens ≡ false → long_of word ≡ Some (name, value) → NamedTurn kind_is name value
  named_turn with_value name (Some value) o e l =
      keep_turn name (Some value) e l (Some (value_slot name)) (long_slot name o) value (no_text name o) refl refl
  named_turn with_value name None o e l = wait_turn name None e l (Some (value_slot name)) (long_slot name o) refl refl
  named_turn alone name (Some value) is_unique e l =
      slot_stops name (Some value) e l (Some unique_slot) (ap (arg_by_long slots) is_unique) kind.TooManyValues [] refl ∙ nothing_kept (flushed said p)
  named_turn alone name None is_unique e l =
      subst (λ (n : Text). long_of word ≡ Some (n, None) → NamedTurn alone n None) (sym is_unique)
      (λ as_unique. keep_turn (codes "unique") None e as_unique (Some unique_slot) refl (codes "true") refl refl refl) l
  named_turn unknown name value none_has e l =
      slot_stops name value e l None none_has kind.UnknownArgument [] refl ∙ nothing_kept (flushed said p)

-- ---- a value in a word of its own

module _ (said : Said) (name : Text) (o : IsOption name) (word : Text) (rest : List Text) (e : bytes_eq word two_hyphens ≡ false) (l : long_of word ≡ None) (f : short_of word ≡ None) where
  abbrev waiting_held : Held
  waiting_held = held_at said (waits name)

  abbrev waiting_place : ℕ
  waiting_place = place_of (is_said text_name said)

  abbrev value_met : Option Rule → Held × Step
  value_met a = ((option_word a name word waiting_held).0, next (option_word a name word waiting_held).1)

  value_faulty : word_fault shape [] false (option name) word waiting_held ≡ []
  value_faulty = fault_is shape (option name) word waiting_held false None None e l f

  value_is_met : word_met slots [] false (option name) waiting_place word waiting_held ≡ (held_at said (value_held name word), next idle)
  value_is_met =
      met_is slots (option name) waiting_place word waiting_held false None None e l f
      ∙ ap value_met (id_slot name o)
      ∙ ap (λ (b : Bool). (held_at said (value_held name word), next (cond (nat_lt (cond b 1 0) 1) (option name) idle))) (same_name name o)

  value_turn : parsed (walk_at false said (waits name)) (word ∷ rest) ≡ parsed (walk_at false said (value_held name word)) rest
  value_turn =
      go_turn (walk_at false said (waits name)) word rest (walk_at false said (value_held name word))
      (turn_fault_is shape false (option name) waiting_place word waiting_held [] (held_at said (value_held name word), next idle) value_faulty value_is_met)
      (walked_is shape false (option name) waiting_place word waiting_held [] (held_at said (value_held name word), next idle) value_faulty value_is_met
      ∙ ap (λ (b : Bool). walk_on false idle (place_of b) (held_at said (value_held name word))) (sym (no_text_said name word said (no_text name o))))

-- ---- all words

abbrev pub Words : List Text → Type 0
Words [] = Unit {0}
Words (word ∷ rest) = IsUtf8 word × Words rest

abbrev pub own : Said → Pending → List Text → Option Said
own said none words = read_words words None said
own said (value_held name value) words = says name value said >>= read_words words None
own said (waits name) words = read_words words (Some name) said

abbrev own_word : Word → Said → Pending → List Text → Option Said
own_word k said none rest = follow (after_word None k said) rest (read_words rest)
own_word k said (value_held name value) rest = says name value said >>= λ after. follow (after_word None k after) rest (read_words rest)
own_word k said (waits name) rest = follow (after_word (Some name) k said) rest (read_words rest)

read_bound : (word : Text) (rest : List Text) (f : Option Said)
    → (f >>= read_words (word ∷ rest) None) ≡ (f >>= λ after. follow (after_word None (word_of word) after) rest (read_words rest))
unfolding read_words
read_bound word rest None = refl
read_bound word rest (Some after) = refl

own_is : (word : Text) (rest : List Text) (said : Said) (p : Pending) → own said p (word ∷ rest) ≡ own_word (word_of word) said p rest
unfolding read_words
own_is word rest said none = refl
own_is word rest said (value_held name value) = read_bound word rest (says name value said)
own_is word rest said (waits name) = refl

end_read : (f : Option Said) → (f >>= read_words [] None) ≡ f
unfolding read_words
end_read None = refl
end_read (Some after) = refl

own_end : (said : Said) (p : Pending) → flushed said p ≡ own said p []
unfolding read_words
own_end said none = refl
own_end said (value_held name value) = sym (end_read (says name value said))
own_end said (waits name) = refl

abbrev Reads : List Text → Type 0
Reads words = (said : Said) (p : Pending) → IsFit p → parsed (walk_at false said p) words ≡ option_map finish (own said p words)

module _ (rest : List Text) (go : Reads rest) where
  abbrev IsFitNext : Next → Type 0
  IsFitNext (goes_on (Some name) said) = IsOption name
  IsFitNext _ = Unit {0}

  follows : (n : Next) → IsFitNext n → follow_parsed n rest ≡ option_map finish (follow n rest (read_words rest))
  follows refused fit = refl
  follows (ended said) fit = trail rest said none tt
  follows (goes_on None said) fit = go said none tt
  follows (goes_on (Some name) said) fit = go said (waits name) fit

  said_fits : (f : Option Said) → IsFitNext (goes_on_with f)
  said_fits None = tt
  said_fits (Some after) = tt

  named_fits : (kind_is : OptionKind) (name : Text) (value : Option Text) (said : Said) → Kinded name kind_is → IsFitNext (after_named kind_is name value said)
  named_fits with_value name (Some value) said o = said_fits (says name value said)
  named_fits with_value name None said o = o
  named_fits alone name (Some value) said e = tt
  named_fits alone name None said e = said_fits (says name (codes "true") said)
  named_fits unknown name value said e = tt

  bound : (name : Text) (value : Option Text) (f : Option Said)
      → kept_then f (λ after. follow_parsed (after_named (option_kind name) name value after) rest)
      ≡ option_map finish (f >>= λ after. follow (after_word None (named name value) after) rest (read_words rest))
  bound name value None = refl
  bound name value (Some after) = follows (after_named (option_kind name) name value after) (named_fits (option_kind name) name value after (kinded name))

  behind_bound : (f : Option Said) → read_behind rest f ≡ option_map finish (f >>= λ after. follow (after_word None end_of_options after) rest (read_words rest))
  behind_bound None = refl
  behind_bound (Some after) = refl

  refused_bound : (f : Option Said) → None ≡ option_map finish (f >>= λ after. follow (after_word None hyphened after) rest (read_words rest))
  refused_bound None = refl
  refused_bound (Some after) = refl

  said_bound : (f : Option Said) → (f >>= read_words rest None) ≡ follow (goes_on_with f) rest (read_words rest)
  said_bound None = refl
  said_bound (Some after) = refl

  text_bound : (word : Text) (f : Option Said) → kept_then f (text_then false [] none word rest) ≡ option_map finish (f >>= λ after. follow (after_word None (plain word) after) rest (read_words rest))
  text_bound word None = refl
  text_bound word (Some after) =
      let X : Option (List Row) = parsed (walk_at false after (value_held text_name word)) rest in
      let whole : option_map finish (says text_name word after >>= read_words rest None) ≡ option_map finish (follow (after_word None (plain word) after) rest (read_words rest)) =
      ap (option_map finish) (said_bound (says text_name word after)) in
      by_test (is_said text_name after)
      (λ yes. ap (λ (b : Bool). cond b None X) yes ∙ sym (ap (λ (b : Bool). option_map finish (cond b None (Some (after ++ (text_name, word) ∷ [])) >>= read_words rest None)) yes) ∙ whole)
      (λ no. ap (λ (b : Bool). cond b None X) no ∙ go after (value_held text_name word) (inr refl) ∙ whole)

  word_step : (word : Text) (k : Word) → Looks word k → (said : Said) (p : Pending) → IsFit p → parsed (walk_at false said p) (word ∷ rest) ≡ option_map finish (own_word k said p rest)
  word_step word end_of_options e said none fit = ended_here said none fit word rest e ∙ trail rest said none fit ∙ behind_bound (Some said)
  word_step word end_of_options e said (value_held n v) fit = ended_here said (value_held n v) fit word rest e ∙ trail rest said (value_held n v) fit ∙ behind_bound (says n v said)
  word_step word end_of_options e said (waits n) fit = ended_here said (waits n) fit word rest e ∙ trail rest said (waits n) fit
  word_step word hyphened h said none fit = bundle_here said none fit word rest h.0 h.1 h.2
  word_step word hyphened h said (value_held n v) fit = bundle_here said (value_held n v) fit word rest h.0 h.1 h.2 ∙ refused_bound (says n v said)
  word_step word hyphened h said (waits n) fit = bundle_here said (waits n) fit word rest h.0 h.1 h.2
  word_step word (named name value) h said none fit = named_turn said none fit word rest (option_kind name) name value (kinded name) h.0 h.1 ∙ bound name value (Some said)
  word_step word (named name value) h said (value_held n v) fit =
      named_turn said (value_held n v) fit word rest (option_kind name) name value (kinded name) h.0 h.1 ∙ bound name value (says n v said)
  word_step word (named name value) h said (waits n) fit = named_turn said (waits n) fit word rest (option_kind name) name value (kinded name) h.0 h.1
  word_step word (plain text) h said none fit =
      text_turn false said none word rest (fault_is shape idle word (held_at said none) false None None h.0 h.1 h.2)
      (met_is slots idle (place_of (is_taken said none)) word (held_at said none) false None None h.0 h.1 h.2) fit
      ∙ text_bound word (Some said) ∙ ap (λ (t : Text). option_map finish (own_word (plain t) said none rest)) (sym h.3)
  word_step word (plain text) h said (value_held n v) fit =
      text_turn false said (value_held n v) word rest (fault_is shape idle word (held_at said (value_held n v)) false None None h.0 h.1 h.2)
      (met_is slots idle (place_of (is_taken said (value_held n v))) word (held_at said (value_held n v)) false None None h.0 h.1 h.2) fit
      ∙ text_bound word (says n v said) ∙ ap (λ (t : Text). option_map finish (own_word (plain t) said (value_held n v) rest)) (sym h.3)
  word_step word (plain text) h said (waits n) fit =
      value_turn said n fit word rest h.0 h.1 h.2 ∙ go said (value_held n word) (inl fit) ∙ ap (option_map finish) (said_bound (says n word said))
      ∙ ap (λ (t : Text). option_map finish (own_word (plain t) said (waits n) rest)) (sym h.3)

pub reads : (words : List Text) → Words words → Reads words
reads [] u said p fit = parsed_end false said p fit ∙ ap (option_map finish) (own_end said p)
reads (word ∷ rest) u said p fit =
    word_step rest (reads rest u.1) word (word_of word) (looks word u.0) said p fit ∙ ap (option_map finish) (sym (own_is word rest said p))
