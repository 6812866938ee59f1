-- What a filter lets through by the numbers of texts is what it lets through by the texts.
use Rattle.std.proofs.Common.{◌≡◌, ℕ, suc, ◌+◌, List, [], ◌∷◌, length, Option, Some, None, Bool, true, false, cond, eqb, refl, sym, ap, ◌∙◌, arith, IsSome, slice_get}
use Rattle.std.specs.Prelude.{bytes_eq}
use Rattle.std.specs.Option.{unwrap_or, option_map}
use Rattle.std.specs.List.{filter, filter_map, cons_option, sum_by, AllByRecursion}
use Rattle.std.specs.Map.{values_of}
use Rattle.std.proofs.lemmas.List.Sums.{sum_by-cons}
use Rattle.std.proofs.lemmas.Bool.{eqb-true, eq-eqb, true≢false}
use Rattle.std.proofs.lemmas.Slice.Eq.{bytes_eq-Decides}
use Rattle.definitions.specs.Journal.{HistoryRecord}
use Rattle.view_rules.specs.Answers.{Scope, in_scope}
use Rattle.history_view.specs.declared.bucket.Bucket.{Bucket}
use Rattle.history_view.specs.declared.bucket.ScopeNumber.{ScopeNumber}
use Rattle.history_view.specs.declared.bucket.ScopeNumber.TheVariants.{Nothing}
use Rattle.history_view.specs.declared.rows.TextNumbers.{TextNumbers}
use Rattle.history_view.specs.declared.walk.Walked.{Walked}
use Rattle.history_view.specs.Places.{OrderKey}
use Rattle.history_view.specs.Rows.{text_at, command_of}
use Rattle.history_view.specs.Texts.{IsNumberOf}
use Rattle.history_view.specs.ViewState.{ViewState}
use Rattle.history_view.specs.Walk.{IsRow, walked_in, with_numbers, shown_command}
use Rattle.history_view.specs.Buckets.{has_scope, bucket_in, Selects}

-- ---- a number for a text

same_bytes : (a b : List ℕ) → bytes_eq a b ≡ true → a ≡ b
same_bytes a b e = (bytes_eq-Decides a b).0 e

other_bytes : (a b : List ℕ) → (a ≡ b → ⊥) → bytes_eq a b ≡ false
other_bytes a b apart = by (bytes_eq a b) refl
  where
    by : (t : Bool) → bytes_eq a b ≡ t → bytes_eq a b ≡ false
    by true t = absurd (apart (same_bytes a b t))
    by false t = t

named_text : (texts : List (List ℕ)) (n : ℕ) → IsSome (slice_get texts n) → slice_get texts n ≡ Some (text_at texts n)
named_text texts n has = by (slice_get texts n) refl has
  where
    by : (o : Option (List ℕ)) → slice_get texts n ≡ o → IsSome o → o ≡ Some (unwrap_or o [])
    by None e h = absurd cc
    by (Some text) e h = refl

pub one_number : (texts : List (List ℕ)) (text : List ℕ) (n m : ℕ) → IsNumberOf texts text (Some n) → IsSome (slice_get texts m) → eqb m n ≡ bytes_eq (text_at texts m) text
one_number texts text n m is has = by (eqb m n) refl
  where
    by : (t : Bool) → eqb m n ≡ t → t ≡ bytes_eq (text_at texts m) text
    by true t =
        let same : text_at texts m ≡ text = ap (λ (o : Option (List ℕ)). unwrap_or o []) (ap (slice_get texts) (eqb-true m n t) ∙ is.0) in
        sym ((bytes_eq-Decides (text_at texts m) text).1 same)
    by false t = sym (other_bytes (text_at texts m) text (λ same. true≢false (sym (eq-eqb m n (is.1 m (named_text texts m has ∙ ap Some same))) ∙ t)))

pub no_number : (texts : List (List ℕ)) (text : List ℕ) (m : ℕ) → IsNumberOf texts text None → IsSome (slice_get texts m) → false ≡ bytes_eq (text_at texts m) text
no_number texts text m is has = sym (other_bytes (text_at texts m) text (λ same. is m (named_text texts m has ∙ ap Some same)))

-- ---- what a walk has

shown_at : (s : ViewState) (w : Walked) (row : IsRow s w) → shown_command s w.id ≡ Some (command_of s.texts w.id row.creation)
shown_at s w row = ap (option_map (command_of s.texts w.id)) row.shown

module _ (s : ViewState) (scope : Scope) (by : ScopeNumber) (selects : Selects s.texts scope by) where
  selected : (w : Walked) (row : IsRow s w) → has_scope by w.numbers ≡ in_scope scope (command_of s.texts w.id row.creation)
  selected w row = ap (has_scope by) row.numbers ∙ selects w.id row.creation row.texts

  pub rows_filtered : (ws : List Walked) → AllByRecursion (IsRow s) ws → AllByRecursion (IsRow s) (filter (λ (w : Walked). has_scope by w.numbers) ws)
  rows_filtered [] rows = tt
  rows_filtered (w ∷ ws) rows = one (has_scope by w.numbers) (rows_filtered ws rows.1)
    where
      one : (t : Bool) → AllByRecursion (IsRow s) (filter (λ (v : Walked). has_scope by v.numbers) ws) → AllByRecursion (IsRow s) (cond t (w ∷ filter (λ (v : Walked). has_scope by v.numbers) ws) (filter (λ (v : Walked). has_scope by v.numbers) ws))
      one true rest = (rows.0, rest)
      one false rest = rest

  abbrev shown : List Walked → List HistoryRecord
  shown ws = filter_map (λ (w : Walked). shown_command s w.id) ws

  pub commands_filtered : (ws : List Walked) → AllByRecursion (IsRow s) ws → shown (filter (λ (w : Walked). has_scope by w.numbers) ws) ≡ filter (in_scope scope) (shown ws)
  commands_filtered [] rows = refl
  commands_filtered (w ∷ ws) rows =
      ap (λ (b : Bool). shown (cond b (w ∷ filter (λ (v : Walked). has_scope by v.numbers) ws) (filter (λ (v : Walked). has_scope by v.numbers) ws))) (selected w rows.0)
      ∙ one (in_scope scope h) (commands_filtered ws rows.1)
      ∙ ap (λ (o : Option HistoryRecord). filter (in_scope scope) (cons_option o (shown ws))) (sym (shown_at s w rows.0))
    where
      h : HistoryRecord
      h = command_of s.texts w.id rows.0.creation

      one : (t : Bool) → shown (filter (λ (v : Walked). has_scope by v.numbers) ws) ≡ filter (in_scope scope) (shown ws)
          → shown (cond t (w ∷ filter (λ (v : Walked). has_scope by v.numbers) ws) (filter (λ (v : Walked). has_scope by v.numbers) ws)) ≡ cond t (h ∷ filter (in_scope scope) (shown ws)) (filter (in_scope scope) (shown ws))
      one true e = ap (λ (o : Option HistoryRecord). cons_option o (shown (filter (λ (v : Walked). has_scope by v.numbers) ws))) (shown_at s w rows.0) ∙ ap (λ (hs : List HistoryRecord). h ∷ hs) e
      one false e = e

length_shown : (s : ViewState) (ws : List Walked) → AllByRecursion (IsRow s) ws → length (filter_map (λ (w : Walked). shown_command s w.id) ws) ≡ length ws
length_shown s [] rows = refl
length_shown s (w ∷ ws) rows = ap (λ (o : Option HistoryRecord). length (cons_option o (filter_map (λ (v : Walked). shown_command s v.id) ws))) (shown_at s w rows.0) ∙ ap (λ (n : ℕ). suc n) (length_shown s ws rows.1)

-- ---- how many there are

module _ (passes : TextNumbers → Bool) (f : Option TextNumbers → ℕ) (none : f None ≡ 0) (some : (numbers : TextNumbers) → f (Some numbers) ≡ cond (passes numbers) 1 0) where
  pub length_summed : (es : List (OrderKey × Option TextNumbers)) → length (filter (λ (w : Walked). passes w.numbers) (walked_in es)) ≡ sum_by f (values_of es)
  length_summed [] = refl
  length_summed (e ∷ es) = by e.1 (length_summed es) ∙ sym (sum_by-cons f e.1 (values_of es))
    where
      one : (t : Bool) (w : Walked) (m : ℕ) → length (filter (λ (v : Walked). passes v.numbers) (walked_in es)) ≡ m → length (cond t (w ∷ filter (λ (v : Walked). passes v.numbers) (walked_in es)) (filter (λ (v : Walked). passes v.numbers) (walked_in es))) ≡ cond t 1 0 + m
      one true w m e = omega arith
      one false w m e = omega arith

      by : (o : Option TextNumbers) → length (filter (λ (w : Walked). passes w.numbers) (walked_in es)) ≡ sum_by f (values_of es) → length (filter (λ (w : Walked). passes w.numbers) (with_numbers e.0 o (walked_in es))) ≡ f o + sum_by f (values_of es)
      by None rest = omega arith
      by (Some numbers) rest = one (passes numbers) (record { timestamp = e.0.0.0; id = e.0.1; numbers = numbers }) (sum_by f (values_of es)) rest ∙ ap (λ (n : ℕ). n + sum_by f (values_of es)) (sym (some numbers))

pub none_filtered : (es : List (OrderKey × Option TextNumbers)) → ◌≡◌ {A = ℕ} 0 (length (filter (λ (w : Walked). has_scope Nothing w.numbers) (walked_in es)))
none_filtered es = none (walked_in es)
  where
    none : (ws : List Walked) → ◌≡◌ {A = ℕ} 0 (length (filter (λ (w : Walked). has_scope Nothing w.numbers) ws))
    none [] = refl
    none (w ∷ ws) = none ws

-- as many commands are let through as a walk over them has
pub bucket_length : (s : ViewState) (b : Bucket) (hs : List HistoryRecord) → AllByRecursion (IsRow s) (bucket_in b) → filter_map (λ (w : Walked). shown_command s w.id) (bucket_in b) ≡ hs → walked_in b.newest.inner ≡ walked_in s.order
    → length (filter (λ (w : Walked). has_scope b.scope w.numbers) (walked_in s.order)) ≡ length hs
bucket_length s b hs rows filtered walked =
    ap (λ (ws : List Walked). length (filter (λ (w : Walked). has_scope b.scope w.numbers) ws)) (sym walked) ∙ sym (length_shown s (bucket_in b) rows) ∙ ap (λ (is : List HistoryRecord). length is) filtered
