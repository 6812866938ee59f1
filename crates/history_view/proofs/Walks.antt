-- What is walked to is what is shown.
use Rattle.std.proofs.Common.{◌≡◌, ℕ, List, [], ◌∷◌, Option, Some, None, Bool, true, false, cond, eqb, refl, sym, ap, ◌∙◌}
use Rattle.std.specs.Option.{unwrap_or}
use Rattle.std.specs.Map.{lookup}
use Rattle.std.specs.List.{AllByRecursion}
use Rattle.std.specs.BTreeMap.{is_at}
use Rattle.std.proofs.lemmas.Bool.{eqb-true}
use Rattle.history_view.specs.declared.rows.Creation.{Creation}
use Rattle.history_view.specs.declared.rows.TextNumbers.{TextNumbers}
use Rattle.history_view.specs.declared.rows.Held.{Held}
use Rattle.history_view.specs.Rows.{shown_row, numbers_of}
use Rattle.history_view.specs.Places.{OrderKey, key_cmp, held_in, numbers_in, numbers_for}
use Rattle.history_view.specs.ViewState.{ViewState, IsSound}
use Rattle.history_view.specs.Walk.{walked_in, with_numbers, IsRow}

pub first_shown : (held : Held) (c : Creation) → shown_row held ≡ Some c → held.first ≡ Some c
first_shown held c e = by held.dead refl
  where
    by : (t : Bool) → held.dead ≡ t → held.first ≡ Some c
    by true t = let none : None ≡ Some c = sym (ap (λ (b : Bool). cond b None held.first) t) ∙ e in absurd cc
    by false t = sym (ap (λ (b : Bool). cond b None held.first) t) ∙ e

numbers_for-some : (time : ℕ) (o : Option Creation) (numbers : TextNumbers) → numbers_for time o ≡ Some numbers → (c : Creation) × (o ≡ Some c) × (numbers ≡ numbers_of c) × (c.timestamp ≡ time)
numbers_for-some time None numbers e = absurd cc
numbers_for-some time (Some c) numbers e = by (eqb c.timestamp time) refl
  where
    by : (t : Bool) → eqb c.timestamp time ≡ t → (d : Creation) × (Some c ≡ Some d) × (numbers ≡ numbers_of d) × (d.timestamp ≡ time)
    by true t =
        let same : Some (numbers_of c) ≡ Some numbers = sym (ap (λ (b : Bool). cond b (Some (numbers_of c)) None) t) ∙ e in
        (c, refl, (let back : numbers ≡ numbers_of c = cc in back), eqb-true c.timestamp time t)
    by false t = let none : None ≡ Some numbers = sym (ap (λ (b : Bool). cond b (Some (numbers_of c)) None) t) ∙ e in absurd cc

module _ (s : ViewState) (sound : IsSound s) where
  row_at : (key : OrderKey) (numbers : TextNumbers) → lookup (is_at (key_cmp key)) s.order ≡ Some (Some numbers) → IsRow s (record { timestamp = key.0.0; id = key.1; numbers = numbers })
  row_at key numbers found =
      let at : numbers_in s.order key ≡ Some numbers = ap (λ (o : Option (Option TextNumbers)). unwrap_or o None) found in
      let row = numbers_for-some key.0.0 (shown_row (held_in s.ids key.1)) numbers (sym (sound.order key) ∙ at) in
      record { creation = row.0; shown = row.1; numbers = row.2; timestamp = row.3; texts = sound.texts key.1 row.0 (first_shown (held_in s.ids key.1) row.0 row.1) }

  pub rows_in : (es : List (OrderKey × Option TextNumbers)) → AllByRecursion (λ (e : OrderKey × Option TextNumbers). lookup (is_at (key_cmp e.0)) s.order ≡ Some e.1) es → AllByRecursion (IsRow s) (walked_in es)
  rows_in [] all = tt
  rows_in (e ∷ es) all = by e.1 refl (rows_in es all.1)
    where
      by : (o : Option TextNumbers) → e.1 ≡ o → AllByRecursion (IsRow s) (walked_in es) → AllByRecursion (IsRow s) (with_numbers e.0 o (walked_in es))
      by None is rest = rest
      by (Some numbers) is rest = (row_at e.0 numbers (all.0 ∙ ap Some is), rest)
