-- What one event more makes of what is kept.
use Rattle.std.proofs.Common.{◌≡◌, ℕ, List, [], ◌∷◌, ◌++◌, Option, None, sym, subst}
use Rattle.std.specs.Option.{option_map}
use Rattle.payload_rules.specs.Payloads.{Payload}
use Rattle.definitions.specs.Journal.{StartedRecord}
use Rattle.record_rules.specs.Records.{SealedRecord, Entry, Event, Started}
use Rattle.view_rules.specs.Changes.{Change, change_of}
use Rattle.started_commands.specs.Kept.{IsOf}
use Rattle.call_drafts.specs.declared.kept.Kept.{Kept}
use Rattle.kept_views.specs.declared.rooms.EventRoom.{EventRoom}
use Rattle.kept_views.specs.Shown.{shown_under, change_under}
use Rattle.kept_views.specs.Rooms.{HoldsShown}
use Rattle.kept_views.specs.Keeping.{KeepsFor, MayAdd, GrowsBy}
use Rattle.kept_views.proofs.Changes.{keeps_more}

module _ (host : ℕ) (key : Option (List ℕ)) (old new : Kept) (journal : List Entry) (entry : Entry) (room : EventRoom) (may : MayAdd host key old journal entry room) where
  -- a command that starts
  pub started_keeps : (s : StartedRecord) → entry.event ≡ Started s → GrowsBy old new None → (IsOf old.commands journal → IsOf new.commands (journal ++ entry ∷ [])) → KeepsFor host key new (journal ++ entry ∷ [])
  started_keeps s says grows commands = keeps_more host key old new journal entry may.sound commands (subst (λ (event : Event). GrowsBy old new (change_under key event)) (sym says) grows) may.keeps

  -- a record
  pub record_keeps : (r : SealedRecord) (event : Event) → entry.event ≡ event → change_under key event ≡ option_map (change_of r) (shown_under key event)
      → ((shown : Option Payload) → HoldsShown old shown room → GrowsBy old new (option_map (change_of r) shown)) → (IsOf old.commands journal → IsOf new.commands (journal ++ entry ∷ [])) → KeepsFor host key new (journal ++ entry ∷ [])
  record_keeps r event says change grows commands =
      let holds : HoldsShown old (shown_under key event) room = subst (λ (e : Event). HoldsShown old (shown_under key e) room) says may.ready.holds in
      let grown : GrowsBy old new (change_under key event) = subst (λ (c : Option Change). GrowsBy old new c) (sym change) (grows (shown_under key event) holds) in
      keeps_more host key old new journal entry may.sound commands (subst (λ (e : Event). GrowsBy old new (change_under key e)) (sym says) grown) may.keeps
