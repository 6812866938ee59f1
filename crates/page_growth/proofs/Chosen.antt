-- The marked records of a list.
use Rattle.std.proofs.Common.{◌≡◌, ℕ, ◌+◌, Bool, true, false, cond, List, [], ◌∷◌, ◌++◌, length, drop, get_or, ◌<◌, ◌≤◌, Some, refl, sym, ◌∙◌, ap, arith, add-one, drop-cons}
use Rattle.std.specs.Prelude.{◌&&◌, filter, find}
use Rattle.std.proofs.lemmas.List.{drop_all}
use Rattle.record_rules.specs.Records.{SealedRecord}
use Rattle.record_model.specs.declared.sealed.Record.{Record}
use Rattle.record_model.specs.Seen.{record_seen, records_seen}
use Rattle.page_growth.specs.Checking.{chosen}

-- one more mark for one more item
pub chosen-push : {A : Type 0} (marks : List Bool) (items : List A) (mark : Bool) (item : A) → length marks ≡ length items → chosen (marks ++ mark ∷ []) (items ++ item ∷ []) ≡ chosen marks items ++ cond mark (item ∷ []) []
chosen-push [] [] mark item e = refl
chosen-push [] (x ∷ items) mark item e = absurd (omega (arith, e))
chosen-push (m ∷ marks) [] mark item e = absurd (omega (arith, e))
chosen-push {A} (m ∷ marks) (x ∷ items) mark item e = by m (chosen-push marks items mark item (omega (arith, e)))
  where
    by : (b : Bool) → chosen (marks ++ mark ∷ []) (items ++ item ∷ []) ≡ chosen marks items ++ cond mark (item ∷ []) []
        → cond b (x ∷ chosen (marks ++ mark ∷ []) (items ++ item ∷ [])) (chosen (marks ++ mark ∷ []) (items ++ item ∷ [])) ≡ cond b (x ∷ chosen marks items) (chosen marks items) ++ cond mark (item ∷ []) []
    by true h = ap (λ (xs : List A). x ∷ xs) h
    by false h = h

-- where the first item is passed, nothing marked passes among the later ones either, and so on
module _ (p : SealedRecord → Bool) (marks : List Bool) (records : List SealedRecord) (x : SealedRecord) where
  pub find_here : (mark : Bool) → (mark && p x) ≡ true → find p (chosen (mark ∷ marks) (x ∷ records)) ≡ Some x
  find_here true h = ap (λ (b : Bool). cond b (Some x) (find p (chosen marks records))) h
  find_here false h = absurd cc

  pub find_later : (mark : Bool) → (mark && p x) ≡ false → find p (chosen (mark ∷ marks) (x ∷ records)) ≡ find p (chosen marks records)
  find_later true h = ap (λ (b : Bool). cond b (Some x) (find p (chosen marks records))) h
  find_later false h = refl

  pub count_more : (mark : Bool) → length (filter p (chosen (mark ∷ marks) (x ∷ records))) ≡ cond (mark && p x) 1 0 + length (filter p (chosen marks records))
  count_more true =
      elim (p x) as (λ (b : Bool). length (cond b (x ∷ filter p (chosen marks records)) (filter p (chosen marks records))) ≡ cond b 1 0 + length (filter p (chosen marks records))) [
        | true ↦ omega arith
        | false ↦ omega arith
      ]
  count_more false = omega arith

pub chosen-nothing : {A : Type 0} (marks : List Bool) → chosen {A = A} marks [] ≡ []
chosen-nothing [] = refl
chosen-nothing (m ∷ marks) = refl

-- what is marked from one place on: this item, if it is marked, and what is marked behind it
pub from_place : (marks : List Bool) (before : List Record) (at : ℕ) (mark : Bool) (x : Record) → at < length marks → at < length before → mark ≡ get_or marks at false → x ≡ get_or before at x
    → chosen (drop at marks) (records_seen (drop at before)) ≡ chosen (mark ∷ drop (at + 1) marks) (record_seen x ∷ records_seen (drop (at + 1) before))
from_place marks before at mark x in_marks in_before mark_is x_is =
    let ms : drop at marks ≡ mark ∷ drop (at + 1) marks = drop-cons marks at false in_marks ∙ (λ i. sym mark_is i ∷ drop (sym (add-one at) i) marks) in
    let xs : drop at before ≡ x ∷ drop (at + 1) before = drop-cons before at x in_before ∙ (λ i. sym x_is i ∷ drop (sym (add-one at) i) before) in
    λ i. chosen (ms i) (records_seen (xs i))

-- and past the end nothing
pub from_end : (marks : List Bool) (before : List Record) (at : ℕ) → length before ≤ at → chosen (drop at marks) (records_seen (drop at before)) ≡ []
from_end marks before at past = ap (λ (rs : List Record). chosen (drop at marks) (records_seen rs)) (drop_all at before past) ∙ chosen-nothing (drop at marks)
