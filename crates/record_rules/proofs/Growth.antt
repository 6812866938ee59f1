-- A page that isn't refused adds one record after the other, and each may follow.
use Rattle.std.proofs.Common.{◌≡◌, ℕ, ◌+◌, Bool, true, false, not, ◌&&◌, cond, inl, inr, List, [], ◌∷◌, ◌++◌, length, map, filter, Option, Some, None, refl, sym, ◌∙◌, ap, subst, arith, append_assoc, length-append}
use Rattle.std.specs.Prelude.{option_map, ◌==◌}
use Rattle.std.specs.Option.{option_or}
use Rattle.std.proofs.lemmas.Bool.{true≢false, cases_Bool, eqb-true, not-false}
use Rattle.std.proofs.lemmas.List.{append-nil, map-append}
use Rattle.std.proofs.lemmas.List.Elements.{filter-append}
use Rattle.std.proofs.lemmas.List.Sums.{sum_by-append}
use Rattle.record_rules.specs.Records.{SealedRecord, Caller, Entry, Taken, record_weight, page_weight}
use Rattle.record_rules.specs.Journal.{own_events, records_of, in_place, RecordFits, limit_passed, Sound, MayFollow}
use Rattle.record_rules.specs.Growth.{PageRefusal, PageGap, PageFull, is_fresh, fresh_of, too_long_at, forked_at, wanted_idx, gap_at, full_at, refusal_at, first_refusal, taken_entry, batch_or, grow, grown}
use Rattle.record_rules.proofs.Options.{cond_none, option_or_none, option_map_none}
use Rattle.record_rules.proofs.Owned.{own_events-append, own_events_taken, records_after}
use Rattle.record_rules.proofs.TooLong.{within_page}
use Rattle.record_rules.proofs.Soundness.{Sound-push, taken_not_started}

pub fresh_of-push : (records earlier : List SealedRecord) (r : SealedRecord) → fresh_of records (earlier ++ r ∷ []) ≡ fresh_of records earlier ++ cond (is_fresh (records ++ earlier) r) (r ∷ []) []
fresh_of-push records [] r = ap (λ rs. cond (is_fresh rs r) (r ∷ []) []) (sym (append-nil records))
fresh_of-push records (x ∷ earlier) r =
    let next : fresh_of (records ++ x ∷ []) (earlier ++ r ∷ []) ≡ fresh_of (records ++ x ∷ []) earlier ++ cond (is_fresh (records ++ x ∷ earlier) r) (r ∷ []) [] = fresh_of-push (records ++ x ∷ []) earlier r ∙ ap (λ rs. fresh_of (records ++ x ∷ []) earlier ++ cond (is_fresh rs r) (r ∷ []) []) (append_assoc records (x ∷ []) earlier) in
    elim (is_fresh records x) as (λ b. cond b (x ∷ fresh_of (records ++ x ∷ []) (earlier ++ r ∷ [])) (fresh_of (records ++ x ∷ []) (earlier ++ r ∷ [])) ≡ cond b (x ∷ fresh_of (records ++ x ∷ []) earlier) (fresh_of (records ++ x ∷ []) earlier) ++ cond (is_fresh (records ++ x ∷ earlier) r) (r ∷ []) []) [
      | true ↦ ap (λ rest. x ∷ rest) next
      | false ↦ next
    ]

-- a record that isn't too long is within the limits
fits_from_accepted : (earlier : List SealedRecord) (r : SealedRecord) → too_long_at earlier r ≡ None → RecordFits r
fits_from_accepted earlier r short =
    let within = within_page earlier r short in
    let sum : page_weight (earlier ++ r ∷ []) ≡ page_weight earlier + (0 + record_weight r) = sum_by-append record_weight earlier (r ∷ []) in
    record {
      host_name = within.host_name;
      version = within.version;
      tag = within.tag;
      weight = omega (arith, sum, within.together);
    }

-- a fresh record that is no gap has the wanted idx
next_idx : (fresh : Bool) (idx wanted : ℕ) (refusal : PageRefusal) → fresh ≡ true → cond (fresh && not (idx == wanted)) (Some refusal) None ≡ None → idx ≡ wanted
next_idx fresh idx wanted refusal is none =
    let other : (fresh && not (idx == wanted)) ≡ false = (cond_none (fresh && not (idx == wanted)) refusal None none).0 in
    eqb-true idx wanted (not-false (idx == wanted) (sym (ap (λ b. b && not (idx == wanted)) is) ∙ other))

module _ (journal : List Entry) (host : ℕ) (caller : Caller) (owner : ℕ) where
  -- the journal with the fresh records of the page so far
  abbrev so_far : List SealedRecord → List Entry
  so_far earlier = journal ++ map (taken_entry caller owner) (fresh_of (records_of (own_events journal owner)) earlier)

  -- after one more position
  so_far_fresh : (earlier : List SealedRecord) (r : SealedRecord) → is_fresh (records_of (own_events journal owner) ++ earlier) r ≡ true → so_far (earlier ++ r ∷ []) ≡ so_far earlier ++ taken_entry caller owner r ∷ []
  so_far_fresh earlier r fresh =
      let records = records_of (own_events journal owner) in
      ap (λ rs. journal ++ map (taken_entry caller owner) rs) (fresh_of-push records earlier r ∙ ap (λ b. fresh_of records earlier ++ cond b (r ∷ []) []) fresh)
      ∙ ap (λ entries. journal ++ entries) (map-append (taken_entry caller owner) (fresh_of records earlier) (r ∷ []))
      ∙ sym (append_assoc journal (map (taken_entry caller owner) (fresh_of records earlier)) (taken_entry caller owner r ∷ []))

  so_far_stale : (earlier : List SealedRecord) (r : SealedRecord) → is_fresh (records_of (own_events journal owner) ++ earlier) r ≡ false → so_far (earlier ++ r ∷ []) ≡ so_far earlier
  so_far_stale earlier r stale =
      let records = records_of (own_events journal owner) in
      ap (λ rs. journal ++ map (taken_entry caller owner) rs) (fresh_of-push records earlier r ∙ ap (λ b. fresh_of records earlier ++ cond b (r ∷ []) []) stale ∙ append-nil (fresh_of records earlier))

  owned_so_far : (earlier : List SealedRecord) → own_events (journal ++ map (taken_entry caller owner) (fresh_of (records_of (own_events journal owner)) earlier)) owner ≡ own_events journal owner ++ map (Taken owner) (fresh_of (records_of (own_events journal owner)) earlier)
  owned_so_far earlier = own_events-append journal (map (taken_entry caller owner) (fresh_of (records_of (own_events journal owner)) earlier)) owner ∙ ap (λ events. own_events journal owner ++ events) (own_events_taken caller owner (fresh_of (records_of (own_events journal owner)) earlier))

  -- the fresh record of a position that isn't refused may follow
  taken_may_follow : (earlier : List SealedRecord) (r : SealedRecord) → is_fresh (records_of (own_events journal owner) ++ earlier) r ≡ true → refusal_at owner (own_events journal owner) earlier r ≡ None → MayFollow (journal ++ map (taken_entry caller owner) (fresh_of (records_of (own_events journal owner)) earlier)) host (Taken owner r)
  taken_may_follow earlier r fresh accepted =
      let owned = own_events journal owner in
      let records = records_of (own_events journal owner) in
      let added = fresh_of (records_of (own_events journal owner)) earlier in
      let long = option_or_none (too_long_at earlier r) (option_or (forked_at owned earlier r) (option_or (gap_at owned earlier r) (full_at owner owned earlier r))) accepted in
      let forked = option_or_none (forked_at owned earlier r) (option_or (gap_at owned earlier r) (full_at owner owned earlier r)) long.1 in
      let gap = option_or_none (gap_at owned earlier r) (full_at owner owned earlier r) forked.1 in
      let wanted = wanted_idx owned earlier r in
      let next : r.idx ≡ wanted = next_idx (is_fresh (records ++ earlier) r) r.idx wanted (PageGap (length earlier) wanted) fresh gap.0 in
      let counted : length (filter (in_place r.host r.tag) (records_of (own_events (journal ++ map (taken_entry caller owner) (fresh_of (records_of (own_events journal owner)) earlier)) owner))) ≡ wanted = ap (λ rs. length (filter (in_place r.host r.tag) rs)) (records_after journal caller owner added) ∙ ap length (filter-append (in_place r.host r.tag) records added) ∙ length-append (filter (in_place r.host r.tag) records) (filter (in_place r.host r.tag) added) in
      let room : limit_passed (owned ++ map (Taken owner) added) (record_weight r) (Some (record { host = r.host; tag = r.tag })) ≡ None = option_map_none PageFull (limit_passed (owned ++ map (Taken owner) added) (record_weight r) (Some (record { host = r.host; tag = r.tag }))) (sym (ap (λ b. cond b (option_map PageFull (limit_passed (owned ++ map (Taken owner) added) (record_weight r) (Some (record { host = r.host; tag = r.tag })))) None) fresh) ∙ gap.1) in
      record {
        numbered = next ∙ sym counted;
        made_here = tt;
        closes_running = λ closed closes. absurd (true≢false (sym closes));
        started_apart = λ k s t at same. absurd (taken_not_started owner r t same);
        event_fits = fits_from_accepted earlier r long.0;
        held_fits = ap (λ events. limit_passed events (record_weight r) (Some (record { host = r.host; tag = r.tag }))) (owned_so_far earlier) ∙ room;
      }

  accepted_stays_sound : (earlier page : List SealedRecord) → first_refusal owner (own_events journal owner) earlier page ≡ None → Sound (so_far earlier) host → Sound (so_far (earlier ++ page)) host
  accepted_stays_sound earlier [] none sound = subst (λ all. Sound (so_far all) host) (sym (append-nil earlier)) sound
  accepted_stays_sound earlier (r ∷ page) none sound =
      let parts = option_or_none (refusal_at owner (own_events journal owner) earlier r) (first_refusal owner (own_events journal owner) (earlier ++ r ∷ []) page) none in
      let next : Sound (so_far (earlier ++ r ∷ [])) host = elim (cases_Bool (is_fresh (records_of (own_events journal owner) ++ earlier) r)) [
        | inl fresh ↦ subst (λ all. Sound all host) (sym (so_far_fresh earlier r fresh)) (Sound-push (so_far earlier) (taken_entry caller owner r) host sound (taken_may_follow earlier r fresh parts.0))
        | inr stale ↦ subst (λ all. Sound all host) (sym (so_far_stale earlier r stale)) sound
      ] in
      subst (λ all. Sound (so_far all) host) (append_assoc earlier (r ∷ []) page) (accepted_stays_sound (earlier ++ r ∷ []) page parts.1 next)

  growth_by : (page : List SealedRecord) (refusal : Option PageRefusal) → first_refusal owner (own_events journal owner) [] page ≡ refusal → Sound journal host → Sound (grown journal (batch_or (map (taken_entry caller owner) (fresh_of (records_of (own_events journal owner)) page)) refusal)) host
  growth_by page None none sound = accepted_stays_sound [] page none (subst (λ all. Sound all host) (sym (append-nil journal)) sound)
  growth_by page (Some refusal) some sound = sound

-- a growth from a sound journal leaves a sound journal
pub growth_stays_sound : (journal : List Entry) (host : ℕ) (caller : Caller) (owner : ℕ) (page : List SealedRecord) → Sound journal host → Sound (grown journal (grow journal caller owner page)) host
growth_stays_sound journal host caller owner page sound = growth_by journal host caller owner page (first_refusal owner (own_events journal owner) [] page) refl sound
