-- What a turn with a page leaves.
use Rattle.std.proofs.Common.{◌≡◌, ℕ, List, [], ◌++◌, map, Ok, Result, sym, ◌∙◌, subst, append_assoc}
use Rattle.std.proofs.lemmas.List.{append-nil}
use Rattle.record_rules.specs.Records.{SealedRecord, Caller, Entry}
use Rattle.record_rules.specs.Journal.{Sound}
use Rattle.record_rules.specs.Growth.{PageRefusal, grow, grown}
use Rattle.record_rules.proofs.Growth.{growth_stays_sound}
use Rattle.step_rules.specs.Turn.{settled_entry, settled}
use Rattle.step_rules.specs.PageTurns.{PageAnswer, PageLeaves, PageTurn, unsettled_page, taken_page, refused_page, uncommitted_page, short_page, short_settled_page}
use Rattle.step_rules.proofs.Turns.{BothSound, nothing_settled, lost_or_left}

module _ (journal doubt : List Entry) (caller : Caller) (owner : ℕ) (records : List SealedRecord) (after doubt_after : List Entry) (answer : PageAnswer) where
  module _ (host : ℕ) (sound : Sound journal host) (doubted : Sound (settled journal doubt) host) where
    stands_sound : (j d : List Entry) → PageLeaves j d after doubt_after → Sound j host → Sound (settled j d) host → BothSound host after doubt_after
    stands_sound j d stands first second = (
      subst (λ k. Sound k host) (sym stands.journal_is) first,
      subst (λ k. Sound (settled k doubt_after) host) (sym stands.journal_is) (subst (λ l. Sound (settled j l) host) (sym stands.doubt_is) second),
    )

    grows_sound : (batch : List Entry) → grow (settled journal doubt) caller owner records ≡ Ok batch → Sound (settled journal doubt ++ batch) host
    grows_sound batch is = subst (λ (r : Result (List Entry) PageRefusal). Sound (grown (settled journal doubt) r) host) is (growth_stays_sound (settled journal doubt) host caller owner records doubted)

    settled_alone : Sound (settled (settled journal doubt) []) host
    settled_alone = nothing_settled (settled journal doubt) host doubted

    pub PageTurn-sound : PageTurn journal doubt caller owner records after doubt_after answer → BothSound host after doubt_after
    PageTurn-sound (unsettled_page _ stands _) = stands_sound journal doubt stands sound doubted
    PageTurn-sound (taken_page batch is stands _) =
        let more = grows_sound batch is in
        stands_sound (settled journal doubt ++ batch) [] stands more (nothing_settled (settled journal doubt ++ batch) host more)
    PageTurn-sound (refused_page _ _ stands _) = stands_sound (settled journal doubt) [] stands doubted settled_alone
    PageTurn-sound (uncommitted_page batch left is _ which stands _) =
        stands_sound (settled journal doubt) left stands doubted (lost_or_left (settled journal doubt) batch left host doubted (grows_sound batch is) which)
    PageTurn-sound (short_page stands _) = stands_sound journal doubt stands sound doubted
    PageTurn-sound (short_settled_page stands _) = stands_sound (settled journal doubt) [] stands doubted settled_alone

  -- a turn with a page only adds
  pub PageTurn-adds : PageTurn journal doubt caller owner records after doubt_after answer → (added : List Entry) × (after ≡ journal ++ added)
  PageTurn-adds (unsettled_page _ stands _) = ([], stands.journal_is ∙ sym (append-nil journal))
  PageTurn-adds (taken_page batch _ stands _) = (map settled_entry doubt ++ batch, stands.journal_is ∙ append_assoc journal (map settled_entry doubt) batch)
  PageTurn-adds (refused_page _ _ stands _) = (map settled_entry doubt, stands.journal_is)
  PageTurn-adds (uncommitted_page _ _ _ _ _ stands _) = (map settled_entry doubt, stands.journal_is)
  PageTurn-adds (short_page stands _) = ([], stands.journal_is ∙ sym (append-nil journal))
  PageTurn-adds (short_settled_page stands _) = (map settled_entry doubt, stands.journal_is)
