-- What began within the span of its command stays within it, as spans are made and widened.
use Rattle.std.proofs.Common.{◌≡◌, ℕ, ◌≤◌, List, length, Option, Some, None, Bool, true, false, cond, refl, sym, ap, subst, ◌∙◌}
use Rattle.std.specs.Prelude.{nat_eq}
use Rattle.std.specs.Ordering.{nat_cmp, ordering_then, is_lt}
use Rattle.history_view.specs.declared.rows.Creation.{Creation}
use Rattle.history_view.specs.declared.rows.TextNumbers.{TextNumbers}
use Rattle.history_view.specs.declared.rows.Held.{Held}
use Rattle.history_view.specs.declared.spans.Span.{Span}
use Rattle.history_view.specs.declared.walk.Walked.{Walked}
use Rattle.history_view.specs.Rows.{held_after, earlier_row}
use Rattle.history_view.specs.Places.{held_in}
use Rattle.history_view.specs.ViewState.{ViewState, Steady}
use Rattle.history_view.specs.Walk.{IsRow}
use Rattle.history_view.specs.Spans.{IsWithin, span_of, AreSpanned, IsKept}
use Rattle.history_view.proofs.Meaning.{sound_kept}
use Rattle.history_view.proofs.Walks.{first_shown}

-- ---- nothing but texts, places and spans

pub still_spanned : (spans more : List Span) (ids now : List (ℕ × Held)) → AreSpanned spans ids → ((n : ℕ) → span_of more n ≡ span_of spans n) → ((id : ℕ) → held_in now id ≡ held_in ids id) → AreSpanned more now
still_spanned spans more ids now spanned same held id c e = subst (λ (s : Span). IsWithin s c.timestamp) (sym (same c.command)) (spanned id c (ap (λ (h : Held). h.first) (sym (held id)) ∙ e))

pub still_kept : (old new : ViewState) (spans more : List Span) → Steady old new → IsKept old spans → ((n : ℕ) → span_of more n ≡ span_of spans n) → length new.texts ≤ length more → IsKept new more
still_kept old new spans more steady is same reach = record {
  sound = sound_kept old new steady is.sound;
  spanned = still_spanned spans more old.ids new.ids is.spanned same steady.ids;
  reach = reach;
}

-- ---- one change more

same_some : (c d : Creation) → Some c ≡ Some d → c ≡ d
same_some c d e = cc

earlier_has : (P : Creation → Type 0) (c : Creation) (o : Option Creation) → P c → ((d : Creation) → o ≡ Some d → P d) → P (earlier_row c o)
earlier_has P c None has more = has
earlier_has P c (Some d) has more = by (is_lt (ordering_then (nat_cmp c.host d.host) (nat_cmp c.idx d.idx)))
  where
    by : (t : Bool) → P (cond t c d)
    by true = has
    by false = more d refl

module _ (spans more : List Span) (ids : List (ℕ × Held)) (spanned : AreSpanned spans ids) (keeps : (n t : ℕ) → IsWithin (span_of spans n) t → IsWithin (span_of more n) t) (id : ℕ) where
  pub created_within : (placed : Creation) → IsWithin (span_of more placed.command) placed.timestamp → (d : Creation) → (held_after placed (held_in ids id)).first ≡ Some d → IsWithin (span_of more d.command) d.timestamp
  created_within placed within d e =
      subst (λ (x : Creation). IsWithin (span_of more x.command) x.timestamp) (same_some (earlier_row placed (held_in ids id).first) d e)
      (earlier_has (λ (x : Creation). IsWithin (span_of more x.command) x.timestamp) placed (held_in ids id).first within (λ x f. keeps x.command x.timestamp (spanned id x f)))

  pub spanned_grown : (now : List (ℕ × Held)) (new : Held) → ((d : Creation) → new.first ≡ Some d → IsWithin (span_of more d.command) d.timestamp) → ((q : ℕ) → held_in now q ≡ cond (nat_eq id q) new (held_in ids q)) → AreSpanned more now
  spanned_grown now new within held q d e = by (nat_eq id q) (sym (ap (λ (h : Held). h.first) (held q)) ∙ e)
    where
      by : (t : Bool) → (cond t new (held_in ids q)).first ≡ Some d → IsWithin (span_of more d.command) d.timestamp
      by true f = within d f
      by false f = keeps d.command d.timestamp (spanned q d f)

-- ---- what is walked to

pub row_within_span : (s : ViewState) (spans : List Span) → AreSpanned spans s.ids → (w : Walked) → IsRow s w → IsWithin (span_of spans w.numbers.command) w.timestamp
row_within_span s spans spanned w row =
    let began : IsWithin (span_of spans row.creation.command) row.creation.timestamp = spanned w.id row.creation (first_shown (held_in s.ids w.id) row.creation row.shown) in
    let then : IsWithin (span_of spans row.creation.command) w.timestamp = subst (λ (t : ℕ). IsWithin (span_of spans row.creation.command) t) row.timestamp began in
    subst (λ (x : TextNumbers). IsWithin (span_of spans x.command) w.timestamp) (sym row.numbers) then
