-- What one record that opens shows by itself.
use Rattle.std.proofs.Common.{◌≡◌, ℕ, Bool, cond, List, [], ◌∷◌, Option, Some, None, refl, sym, ap, subst, ◌∙◌, arith, inl, inr}
use Rattle.std.specs.Option.{option_map, is_some}
use Rattle.std.specs.List.{Contains, cons_option}
use Rattle.std.proofs.lemmas.Bool.{eq-eqb}
use Rattle.definitions.specs.Journal.{HistoryRecord}
use Rattle.payload_rules.specs.Payloads.{Payload, HistoryCreate}
use Rattle.record_rules.specs.Records.{SealedRecord}
use Rattle.record_rules.proofs.Members.{Has}
use Rattle.view_rules.specs.Changes.{Change, HaveDistinctPlaces, change_of, Opening, changes_of}
use Rattle.view_rules.specs.Views.{ShowsHistory, Saying, SaysLast}
use Rattle.view_rules.specs.Standing.{untouched, after_creation, standing, shown_of, after_saying, last_said, value_of}
use Rattle.view_rules.proofs.Records.{Has-from_Contains}
use Rattle.view_rules.proofs.Standings.{shown_from}
use Rattle.view_rules.proofs.Settings.{shown_from as last_from}
use Rattle.view_rules.proofs.Examples.{own_one}

pub none_of_none : {X : Type 0} (x : X) → Contains [] x → ⊥
none_of_none x among = let below = among.1 in omega arith

module _ (opening : Opening) (r : SealedRecord) (payload : Payload) (opened : opening r ≡ Some payload) where
  pub one_change : changes_of opening (r ∷ []) ≡ change_of r payload ∷ []
  one_change = ap (λ (o : Option Payload). cons_option (option_map (change_of r) o) []) opened

  pub own_change : HaveDistinctPlaces (changes_of opening (r ∷ []))
  own_change = subst HaveDistinctPlaces (sym one_change) (own_one (change_of r payload))

  only_change : (c : Change) → Contains (changes_of opening (r ∷ [])) c → c.payload ≡ payload
  only_change c among = by (Has-from_Contains (change_of r payload ∷ []) c (subst (λ (changes : List Change). Contains changes c) one_change among))
    where
      by : Has (change_of r payload ∷ []) c → c.payload ≡ payload
      by (inl e) = ap (λ (c : Change). c.payload) (sym e)
      by (inr none) = absurd none

  -- what it says is the last that was said, and nothing else is
  pub says_alone : (saying : Saying) (value : List ℕ) → saying payload ≡ Some (Some value) → (c : Change) × SaysLast saying (changes_of opening (r ∷ [])) c (Some value)
  says_alone saying value says =
      last_from saying (changes_of opening (r ∷ [])) value (ap (λ (changes : List Change). value_of (last_said saying changes)) one_change ∙ by (saying payload) says)
    where
      by : (o : Option (Option (List ℕ))) → o ≡ Some (Some value) → value_of (after_saying o (change_of r payload) None) ≡ Some value
      by o e = ap (λ (o : Option (Option (List ℕ))). value_of (after_saying o (change_of r payload) None)) e

  pub said_alone : (saying : Saying) (c : Change) (said : Option (List ℕ)) → SaysLast saying (changes_of opening (r ∷ [])) c said → saying payload ≡ Some said
  said_alone saying c said shown = ap saying (sym (only_change c shown.here.among)) ∙ shown.here.says

  -- the command that it creates is shown, and no other one
  pub command_alone : (h : HistoryRecord) → payload ≡ HistoryCreate h → h.deleted_at ≡ None → ShowsHistory (changes_of opening (r ∷ [])) h
  command_alone h creates alive =
      subst (λ (changes : List Change). ShowsHistory changes h) (sym (one_change ∙ ap (λ (p : Payload). change_of r p ∷ []) creates))
      (shown_from (change_of r (HistoryCreate h) ∷ []) h (record { host = r.host; idx = r.idx; command = h }, stands, refl))
    where
      stands : shown_of (standing (change_of r (HistoryCreate h) ∷ []) h.id) ≡ Some (record { host = r.host; idx = r.idx; command = h })
      stands = ap (λ (b : Bool). shown_of (cond b (after_creation (record { host = r.host; idx = r.idx; command = h }) untouched) untouched)) (eq-eqb h.id h.id refl)
          ∙ ap (λ (o : Option ℕ). cond (is_some o) None (Some (record { host = r.host; idx = r.idx; command = h }))) alive

  pub created_alone : (h : HistoryRecord) → ShowsHistory (changes_of opening (r ∷ [])) h → payload ≡ HistoryCreate h
  created_alone h shown = sym (only_change shown.0 shown.1.created.among) ∙ shown.1.created.creates
