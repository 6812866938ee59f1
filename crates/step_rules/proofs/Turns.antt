-- What a turn leaves.
use Rattle.std.proofs.Common.{◌≡◌, ℕ, true, false, ◌⊎◌, inl, inr, List, [], ◌∷◌, ◌++◌, length, map, refl, sym, ◌∙◌, ap, subst, append_assoc}
use Rattle.std.proofs.lemmas.Bool.{true≢false}
use Rattle.std.proofs.lemmas.List.{append-nil, map-append}
use Rattle.definitions.specs.Uses.{Used, used_nothing}
use Rattle.record_rules.specs.Records.{Caller, Entry}
use Rattle.record_rules.specs.Journal.{events_of, SoundEvents, Sound}
use Rattle.step_rules.specs.Calls.{Call, CallFits, is_read}
use Rattle.step_rules.specs.Answers.{Answer, Reply}
use Rattle.step_rules.specs.Store.{KeyedStore, SealsWell}
use Rattle.step_rules.specs.Turn.{settled_entry, settled, TurnLeaves, Turn, read_turn, short_unread_turn, unsettled_turn, step_turn, undrawn_turn, uncommitted_turn, short_turn, short_settled_turn}
use Rattle.step_rules.proofs.Steps.{Step-sound, Step-adds, drafts_write}

-- ---- soundness speaks of events alone

settled_events : (batch : List Entry) → events_of batch ≡ events_of (map settled_entry batch)
settled_events [] = refl
settled_events (entry ∷ batch) = ap (λ events. entry.event ∷ events) (settled_events batch)

-- a batch may be settled where it may stand
pub settled_sound : (journal batch : List Entry) (host : ℕ) → Sound (journal ++ batch) host → Sound (settled journal batch) host
settled_sound journal batch host sound =
    subst (λ events. SoundEvents events host)
    (map-append (λ (e : Entry). e.event) journal batch ∙ ap (λ events. events_of journal ++ events) (settled_events batch) ∙ sym (map-append (λ (e : Entry). e.event) journal (map settled_entry batch)))
    sound

-- ---- what a turn leaves is sound

abbrev pub BothSound : ℕ → List Entry → List Entry → Type 0
BothSound host journal doubt = Sound journal host × Sound (settled journal doubt) host

module _ (store : KeyedStore) (journal doubt after doubt_after : List Entry) (reply : Reply) (answer : Answer) (host : ℕ) where
  left_sound : TurnLeaves journal doubt after doubt_after reply answer → Sound journal host → Sound (settled journal doubt) host → BothSound host after doubt_after
  left_sound leaves first second = (
    subst (λ j. Sound j host) (sym leaves.journal_is) first,
    subst (λ j. Sound (settled j doubt_after) host) (sym leaves.journal_is) (subst (λ d. Sound (settled journal d) host) (sym leaves.doubt_is) second),
  )

-- with nothing in doubt
pub nothing_settled : (journal : List Entry) (host : ℕ) → Sound journal host → Sound (settled journal []) host
nothing_settled journal host sound = subst (λ j. Sound j host) (sym (append-nil journal)) sound

pub lost_or_left : (journal batch left : List Entry) (host : ℕ) → Sound journal host → Sound (journal ++ batch) host → (left ≡ []) ⊎ (left ≡ batch) → Sound (settled journal left) host
lost_or_left journal batch left host sound more (inl lost) = subst (λ l. Sound (settled journal l) host) (sym lost) (nothing_settled journal host sound)
lost_or_left journal batch left host sound more (inr kept) = subst (λ l. Sound (settled journal l) host) (sym kept) (settled_sound journal batch host more)

pub Turn-sound : (store : KeyedStore) (journal doubt : List Entry) (caller : Caller) (call : Call) (used : Used) (after doubt_after : List Entry) (reply : Reply) → SealsWell store → CallFits call → Sound journal store.host → Sound (settled journal doubt) store.host → Turn store journal doubt caller call used after doubt_after reply → BothSound store.host after doubt_after
Turn-sound store journal doubt caller call used after doubt_after reply well asked sound doubted (read_turn _ _ _ l) = left_sound store journal doubt after doubt_after reply _ store.host l sound doubted
Turn-sound store journal doubt caller call used after doubt_after reply well asked sound doubted (short_unread_turn _ l) = left_sound store journal doubt after doubt_after reply _ store.host l sound doubted
Turn-sound store journal doubt caller call used after doubt_after reply well asked sound doubted (unsettled_turn _ _ _ _ l) = left_sound store journal doubt after doubt_after reply _ store.host l sound doubted
Turn-sound store journal doubt caller call used after doubt_after reply well asked sound doubted (step_turn made answer _ step l) =
    let stepped = Step-sound store (settled journal doubt) caller call used made answer well asked doubted step in
    left_sound store made [] after doubt_after reply answer store.host l stepped (nothing_settled made store.host stepped)
Turn-sound store journal doubt caller call used after doubt_after reply well asked sound doubted (undrawn_turn _ _ _ _ l) = left_sound store (settled journal doubt) [] after doubt_after reply _ store.host l doubted (nothing_settled (settled journal doubt) store.host doubted)
Turn-sound store journal doubt caller call used after doubt_after reply well asked sound doubted (uncommitted_turn batch left answer _ _ step which l) =
    let stepped = Step-sound store (settled journal doubt) caller call used (settled journal doubt ++ batch) answer well asked doubted step in
    left_sound store (settled journal doubt) left after doubt_after reply _ store.host l doubted (lost_or_left (settled journal doubt) batch left store.host doubted stepped which)
Turn-sound store journal doubt caller call used after doubt_after reply well asked sound doubted (short_turn _ _ _ l) = left_sound store journal doubt after doubt_after reply _ store.host l sound doubted
Turn-sound store journal doubt caller call used after doubt_after reply well asked sound doubted (short_settled_turn _ _ l) = left_sound store (settled journal doubt) [] after doubt_after reply _ store.host l doubted (nothing_settled (settled journal doubt) store.host doubted)

-- ---- the front, and what is added

pub record TurnAdds (journal after : List Entry) (reply : Reply) : Type 0 where
  pub added : List Entry
  pub after_is : after ≡ journal ++ added
  pub front_is : reply.front ≡ length after

left_as : (journal from doubt after doubt_after added : List Entry) (reply : Reply) (answer : Answer) → from ≡ journal ++ added → TurnLeaves from doubt after doubt_after reply answer → TurnAdds journal after reply
left_as journal from doubt after doubt_after added reply answer more l = record { added = added; after_is = l.journal_is ∙ more; front_is = ap (λ (r : Reply). r.front) l.reply_is }

pub Turn-leaves : (store : KeyedStore) (journal doubt : List Entry) (caller : Caller) (call : Call) (used : Used) (after doubt_after : List Entry) (reply : Reply) → Turn store journal doubt caller call used after doubt_after reply → TurnAdds journal after reply
Turn-leaves store journal doubt caller call used after doubt_after reply (read_turn _ _ _ l) = left_as journal journal doubt after doubt_after [] reply _ (sym (append-nil journal)) l
Turn-leaves store journal doubt caller call used after doubt_after reply (short_unread_turn _ l) = left_as journal journal doubt after doubt_after [] reply _ (sym (append-nil journal)) l
Turn-leaves store journal doubt caller call used after doubt_after reply (unsettled_turn _ _ _ _ l) = left_as journal journal doubt after doubt_after [] reply _ (sym (append-nil journal)) l
Turn-leaves store journal doubt caller call used after doubt_after reply (step_turn made answer _ step l) =
    let adds = Step-adds store (settled journal doubt) caller call used made answer step in
    left_as journal made [] after doubt_after (map settled_entry doubt ++ adds.added) reply answer (adds.after_is ∙ append_assoc journal (map settled_entry doubt) adds.added) l
Turn-leaves store journal doubt caller call used after doubt_after reply (undrawn_turn _ _ _ _ l) = left_as journal (settled journal doubt) [] after doubt_after (map settled_entry doubt) reply _ refl l
Turn-leaves store journal doubt caller call used after doubt_after reply (uncommitted_turn _ left _ _ _ _ _ l) = left_as journal (settled journal doubt) left after doubt_after (map settled_entry doubt) reply _ refl l
Turn-leaves store journal doubt caller call used after doubt_after reply (short_turn _ _ _ l) = left_as journal journal doubt after doubt_after [] reply _ (sym (append-nil journal)) l
Turn-leaves store journal doubt caller call used after doubt_after reply (short_settled_turn _ _ l) = left_as journal (settled journal doubt) [] after doubt_after (map settled_entry doubt) reply _ refl l

-- ---- reads

-- a call that only asks is none that writes
module _ (store : KeyedStore) (journal doubt : List Entry) (caller : Caller) (call : Call) (used : Used) (after doubt_after : List Entry) (reply : Reply) (reads : is_read call ≡ true) where
  not_both : is_read call ≡ false → ⊥
  not_both writes = true≢false (sym reads ∙ writes)

  pub reads_stay : Turn store journal doubt caller call used after doubt_after reply → (used ≡ used_nothing) × (after ≡ journal) × (doubt_after ≡ doubt)
  reads_stay (read_turn _ e _ l) = (e, l.journal_is, l.doubt_is)
  reads_stay (short_unread_turn e l) = (e, l.journal_is, l.doubt_is)
  reads_stay (unsettled_turn _ writes _ _ _) = absurd (not_both writes)
  reads_stay (step_turn _ _ writes _ _) = absurd (not_both writes)
  reads_stay (undrawn_turn _ draft ready _ _) = absurd (not_both (drafts_write store (settled journal doubt) call draft ready.drafts))
  reads_stay (uncommitted_turn _ _ _ writes _ _ _ _) = absurd (not_both writes)
  reads_stay (short_turn _ writes _ _) = absurd (not_both writes)
  reads_stay (short_settled_turn writes _ _) = absurd (not_both writes)
