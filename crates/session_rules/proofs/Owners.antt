-- A turn in which nothing went wrong, at a journal with nothing in doubt, answers as the owner's own entries have it.
use Rattle.std.proofs.Common.{◌≡◌, ℕ, true, false, Some, None, Option, List, [], ◌++◌, map, Err, Ok, refl, sym, ap, subst, ◌∙◌}
use Rattle.std.proofs.lemmas.Bool.{true≢false}
use Rattle.std.proofs.lemmas.Option.{none-some, same_Some}
use Rattle.std.proofs.lemmas.List.{append-nil, length-map}
use Rattle.definitions.specs.Uses.{Used}
use Rattle.record_rules.specs.Records.{SealedRecord, Caller, Entry}
use Rattle.record_rules.specs.Journal.{own_events, records_of}
use Rattle.record_rules.specs.Growth.{PageRefusal, fresh_of, first_refusal, taken_entry, batch_or, grow, grown}
use Rattle.record_rules.specs.Answers.{AskStatus, AskPage, SendPage, OwnerAsked, PageAdded, growth_reply, reply_to}
use Rattle.record_rules.proofs.Isolation.{replies_alike}
use Rattle.step_rules.specs.Store.{KeyedStore}
use Rattle.step_rules.specs.PageTurns.{PageAnswer, PageTurn, unsettled_page, taken_page, refused_page, uncommitted_page, short_page, short_settled_page}
use Rattle.step_rules.specs.ReadTurns.{StoreRead, status_read, page_read, front_read, ReadAnswer, ReadTurn, tells_status, tells_page, tells_front, faults_on_page, wants_memory}
use Rattle.session_rules.specs.Sessions.{Asked, a_call, no_call, a_page, a_read, unrouted, SessionAnswer, to_page, to_read}
use Rattle.session_rules.specs.Turns.{TurnAnswers, answers_call, answers_unread, answers_bad, answers_page, answers_read, answers_unrouted}
use Rattle.session_rules.specs.Owners.{owner_asks, as_answer, went_well, AnswersOwner}

-- what didn't go well isn't told
told_well : {P : Type 0} (answer other : SessionAnswer) → answer ≡ other → went_well other ≡ false → went_well answer ≡ true → P
told_well answer other is bad well = absurd (true≢false (sym well ∙ ap went_well is ∙ bad))

module _ (journal : List Entry) (caller : Caller) where
  page_alone : (owner : ℕ) (records : List SealedRecord) (after doubt_after : List Entry) (given : PageAnswer) → PageTurn journal [] caller owner records after doubt_after given → went_well (to_page given) ≡ true
      → AnswersOwner journal (record { owner = owner; request = SendPage caller records }) after doubt_after (to_page given)
  page_alone owner records after doubt_after given (unsettled_page in_doubt _ _) well = absurd (in_doubt refl)
  page_alone owner records after doubt_after given (taken_page batch grows l same) well =
      let here : grow journal caller owner records ≡ Ok batch = ap (λ j. grow j caller owner records) (sym (append-nil journal)) ∙ grows in
      record { answer_is = ap to_page same ∙ sym (ap (λ r. as_answer (growth_reply r)) here); after_is = l.journal_is ∙ ap (λ j. j ++ batch) (append-nil journal) ∙ sym (ap (grown journal) here); doubt_is = l.doubt_is }
  page_alone owner records after doubt_after given (refused_page refusal grows l same) well =
      let here : grow journal caller owner records ≡ Err refusal = ap (λ j. grow j caller owner records) (sym (append-nil journal)) ∙ grows in
      record { answer_is = ap to_page same ∙ sym (ap (λ r. as_answer (growth_reply r)) here); after_is = l.journal_is ∙ append-nil journal ∙ sym (ap (grown journal) here); doubt_is = l.doubt_is }
  page_alone owner records after doubt_after given (uncommitted_page _ _ _ _ _ _ same) well = told_well (to_page given) _ (ap to_page same) refl well
  page_alone owner records after doubt_after given (short_page _ same) well = told_well (to_page given) _ (ap to_page same) refl well
  page_alone owner records after doubt_after given (short_settled_page _ same) well = told_well (to_page given) _ (ap to_page same) refl well

  -- the request of an owner is the one that is asked
  this_one : (asked : Asked) (one other : OwnerAsked) (after doubt_after : List Entry) (answer : SessionAnswer) → owner_asks caller asked ≡ Some one → owner_asks caller asked ≡ Some other → AnswersOwner journal one after doubt_after answer → AnswersOwner journal other after doubt_after answer
  this_one asked one other after doubt_after answer first second answers = subst (λ o. AnswersOwner journal o after doubt_after answer) (same_Some one other (sym first ∙ second)) answers

  no_one : {P : Type 0} (asked : Asked) (one : OwnerAsked) → owner_asks caller asked ≡ None → owner_asks caller asked ≡ Some one → P
  no_one asked one none at = absurd (none-some one (sym none ∙ at))

  read_alone : (read : StoreRead) (after doubt_after : List Entry) (given : ReadAnswer) (one : OwnerAsked) → ReadTurn journal [] read after doubt_after given → owner_asks caller (a_read read) ≡ Some one → went_well (to_read given) ≡ true → AnswersOwner journal one after doubt_after (to_read given)
  read_alone read after doubt_after given one (tells_status owner is l same) at well =
      this_one (a_read read) (record { owner = owner; request = AskStatus }) one after doubt_after (to_read given) (ap (λ r. owner_asks caller (a_read r)) is) at (record { answer_is = ap to_read same; after_is = l.journal_is; doubt_is = l.doubt_is })
  read_alone read after doubt_after given one (tells_page owner host tag start count is l same) at well =
      this_one (a_read read) (record { owner = owner; request = AskPage host tag start count }) one after doubt_after (to_read given) (ap (λ r. owner_asks caller (a_read r)) is) at (record { answer_is = ap to_read same; after_is = l.journal_is; doubt_is = l.doubt_is })
  read_alone read after doubt_after given one (tells_front is _ _) at well = no_one (a_read read) one (ap (λ r. owner_asks caller (a_read r)) is) at
  read_alone read after doubt_after given one (faults_on_page _ _ _ _ _ _ _ same) at well = told_well (to_read given) _ (ap to_read same) refl well
  read_alone read after doubt_after given one (wants_memory _ _ same) at well = told_well (to_read given) _ (ap to_read same) refl well

  pub answers_owner : (store : KeyedStore) (asked : Asked) (used : Used) (after doubt_after : List Entry) (answer : SessionAnswer) (one : OwnerAsked) → TurnAnswers store journal [] caller asked used after doubt_after answer → owner_asks caller asked ≡ Some one → went_well answer ≡ true
      → AnswersOwner journal one after doubt_after answer
  answers_owner store asked used after doubt_after answer one (answers_call _ _ is _ _) at well = no_one asked one (ap (owner_asks caller) is) at
  answers_owner store asked used after doubt_after answer one (answers_unread _ is _ _ _) at well = no_one asked one (ap (owner_asks caller) is) at
  answers_owner store asked used after doubt_after answer one (answers_bad _ is _ _ _) at well = no_one asked one (ap (owner_asks caller) is) at
  answers_owner store asked used after doubt_after answer one (answers_page owner records given is _ turn told) at well =
      this_one asked (record { owner = owner; request = SendPage caller records }) one after doubt_after answer (ap (owner_asks caller) is) at
      (subst (AnswersOwner journal (record { owner = owner; request = SendPage caller records }) after doubt_after) (sym told) (page_alone owner records after doubt_after given turn (sym (ap went_well told) ∙ well)))
  answers_owner store asked used after doubt_after answer one (answers_read read given is _ turn told) at well =
      subst (AnswersOwner journal one after doubt_after) (sym told) (read_alone read after doubt_after given one turn (ap (owner_asks caller) (sym is) ∙ at) (sym (ap went_well told) ∙ well))
  answers_owner store asked used after doubt_after answer one (answers_unrouted _ is _ _ _) at well = no_one asked one (ap (owner_asks caller) is) at

-- ---- whoever asks

-- how many records a growth adds is no matter of the caller
growth_by_any : (caller other : Caller) (owner : ℕ) (fresh : List SealedRecord) (refusal : Option PageRefusal) → growth_reply (batch_or (map (taken_entry caller owner) fresh) refusal) ≡ growth_reply (batch_or (map (taken_entry other owner) fresh) refusal)
growth_by_any caller other owner fresh None = ap PageAdded (length-map fresh (taken_entry caller owner) ∙ sym (length-map fresh (taken_entry other owner)))
growth_by_any caller other owner fresh (Some refusal) = refl

same_reply : (caller other : Caller) (asked : Asked) (one two : OwnerAsked) (journal : List Entry) → owner_asks caller asked ≡ Some one → owner_asks other asked ≡ Some two → reply_to journal one.owner one.request ≡ reply_to journal two.owner two.request
same_reply caller other (a_page owner records) one two journal first second =
    let by_one = ap (λ (o : OwnerAsked). reply_to journal o.owner o.request) (same_Some _ one first) in
    let by_two = ap (λ (o : OwnerAsked). reply_to journal o.owner o.request) (same_Some _ two second) in
    let owned = own_events journal owner in
    sym by_one ∙ growth_by_any caller other owner (fresh_of (records_of owned) records) (first_refusal owner owned [] records) ∙ by_two
same_reply caller other (a_read (status_read owner)) one two journal first second = ap (λ (o : OwnerAsked). reply_to journal o.owner o.request) (same_Some one two (sym first ∙ second))
same_reply caller other (a_read (page_read owner host tag start count)) one two journal first second = ap (λ (o : OwnerAsked). reply_to journal o.owner o.request) (same_Some one two (sym first ∙ second))
same_reply caller other (a_read front_read) one two journal first second = absurd (none-some one first)
same_reply caller other (a_call call) one two journal first second = absurd (none-some one first)
same_reply caller other (no_call place) one two journal first second = absurd (none-some one first)
same_reply caller other (unrouted code) one two journal first second = absurd (none-some one first)

-- two turns of one request of an owner, at journals at which the owner has the same
pub answered_alike : (store there : KeyedStore) (journal like : List Entry) (caller other : Caller) (asked : Asked) (one two : OwnerAsked) (used used_there : Used) (after after_there doubt_after doubt_there : List Entry) (answer answer_there : SessionAnswer)
    → owner_asks caller asked ≡ Some one → owner_asks other asked ≡ Some two → own_events journal one.owner ≡ own_events like one.owner
    → TurnAnswers store journal [] caller asked used after doubt_after answer → TurnAnswers there like [] other asked used_there after_there doubt_there answer_there → went_well answer ≡ true → went_well answer_there ≡ true → answer ≡ answer_there
answered_alike store there journal like caller other asked one two used used_there after after_there doubt_after doubt_there answer answer_there is_one is_two same first second well well_there =
    let here = (answers_owner journal caller store asked used after doubt_after answer one first is_one well).answer_is in
    let far = (answers_owner like other there asked used_there after_there doubt_there answer_there two second is_two well_there).answer_is in
    here ∙ ap as_answer (replies_alike one.owner one.request journal like same ∙ same_reply caller other asked one two like is_one is_two) ∙ sym far
