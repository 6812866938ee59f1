-- An owner's replies depend on what that owner holds alone.
use Rattle.std.proofs.Common.{◌≡◌, ◌≢◌, ℕ, inl, inr, List, [], ◌∷◌, filter, take, drop, min, refl, sym, ◌∙◌, ap, subst}
use Rattle.std.proofs.lemmas.Bool.{eq-eqb, ne_eqb, cases_eq}
use Rattle.definitions.specs.Limits.{most_page_records, most_page_weight}
use Rattle.definitions.specs.Pages.{longest_within}
use Rattle.record_rules.specs.Records.{Entry, record_weight}
use Rattle.record_rules.specs.Journal.{own, own_events, counts_of, records_of, in_place}
use Rattle.record_rules.specs.Growth.{grow, grown, growth_of}
use Rattle.record_rules.specs.Answers.{OwnerRequest, OwnerReply, AskStatus, AskPage, SendPage, StatusIs, PageIs, growth_reply, reply_to, journal_after, OwnerAsked, OwnerTold, replies, asked_by, told_to}
use Rattle.record_rules.proofs.Owned.{own_events_grown_other, own_events_grown_same, own_alone}

pub replies_alike : (owner : ℕ) (request : OwnerRequest) (journal like : List Entry) → own_events journal owner ≡ own_events like owner → reply_to journal owner request ≡ reply_to like owner request
replies_alike owner AskStatus journal like same = ap (λ owned. StatusIs (counts_of owned)) same
replies_alike owner (AskPage host tag start count) journal like same = ap (λ owned. PageIs (longest_within record_weight most_page_weight (take (min count most_page_records) (drop start (filter (in_place host tag) (records_of owned)))))) same
replies_alike owner (SendPage caller records) journal like same = ap (λ owned. growth_reply (growth_of caller owner owned records)) same

abbrev told_first : ℕ → OwnerReply → List OwnerTold → List OwnerTold
told_first owner reply later = record { owner = owner; reply = reply } ∷ later

-- the owner's own request leaves the same to it in both
own_request_alike : (owner : ℕ) (request : OwnerRequest) (journal like : List Entry) → own_events journal owner ≡ own_events like owner → own_events (journal_after journal owner request) owner ≡ own_events (journal_after like owner request) owner
own_request_alike owner AskStatus journal like same = same
own_request_alike owner (AskPage host tag start count) journal like same = same
own_request_alike owner (SendPage caller records) journal like same = own_events_grown_same journal like owner (grow journal caller owner records) same ∙ ap (λ owned. own_events (grown like (growth_of caller owner owned records)) owner) same

-- the request of someone else leaves what the owner holds
other_request_leaves : (owner other : ℕ) (request : OwnerRequest) (journal : List Entry) → owner ≢ other → own_events (journal_after journal owner request) other ≡ own_events journal other
other_request_leaves owner other AskStatus journal differ = refl
other_request_leaves owner other (AskPage host tag start count) journal differ = refl
other_request_leaves owner other (SendPage caller records) journal differ = own_events_grown_other journal caller owner other records differ

pub replies_alone : (owner : ℕ) (requests : List OwnerAsked) (journal like : List Entry) → own_events journal owner ≡ own_events like owner → told_to owner (replies journal requests) ≡ replies like (asked_by owner requests)
replies_alone owner [] journal like same = refl
replies_alone owner (asked ∷ requests) journal like same =
    elim (cases_eq asked.owner owner) [
      | inl own ↦
          let asker_same : own_events journal asked.owner ≡ own_events like asked.owner = subst (λ p. own_events journal p ≡ own_events like p) (sym own) same in
          let after : own_events (journal_after journal asked.owner asked.request) owner ≡ own_events (journal_after like asked.owner asked.request) owner = subst (λ p. own_events (journal_after journal asked.owner asked.request) p ≡ own_events (journal_after like asked.owner asked.request) p) own (own_request_alike asked.owner asked.request journal like asker_same) in
          let reply : reply_to journal asked.owner asked.request ≡ reply_to like asked.owner asked.request = replies_alike asked.owner asked.request journal like asker_same in
          let later : told_to owner (replies (journal_after journal asked.owner asked.request) requests) ≡ replies (journal_after like asked.owner asked.request) (asked_by owner requests) = replies_alone owner requests (journal_after journal asked.owner asked.request) (journal_after like asked.owner asked.request) after in
          rw (eq-eqb asked.owner owner own) (λ i. told_first asked.owner (reply i) (later i))
      | inr differ ↦ rw (ne_eqb asked.owner owner differ) (replies_alone owner requests (journal_after journal asked.owner asked.request) like (other_request_leaves asked.owner owner asked.request journal differ ∙ same))
    ]

-- ---- as if no one else had anything

pub replies_as_alone : (owner : ℕ) (requests : List OwnerAsked) (journal : List Entry) → told_to owner (replies journal requests) ≡ replies (own journal owner) (asked_by owner requests)
replies_as_alone owner requests journal = replies_alone owner requests journal (own journal owner) (own_alone journal owner)
