-- What an owner is answered, and runs of requests of all owners.
use Rattle.std.specs.Prelude.{ℕ, List, [], ◌∷◌, length, filter, take, drop, min, Result, Ok, Err, ◌==◌}
use Rattle.definitions.specs.Limits.{most_page_records, most_page_weight}
use Rattle.definitions.specs.Pages.{longest_within}
use Rattle.record_rules.specs.Records.{SealedRecord, Caller, Entry, record_weight}
use Rattle.record_rules.specs.Journal.{ChainCount, status, chain}
use Rattle.record_rules.specs.Growth.{PageRefusal, grow, grown}

-- a page of a chain: from `start`, at most `count` and at most 100 records, as many as the weight of a page allows
abbrev pub page : List Entry → ℕ → ℕ → List ℕ → ℕ → ℕ → List SealedRecord
page journal owner host tag start count = longest_within record_weight most_page_weight (take (min count most_page_records) (drop start (chain journal owner host tag)))

-- what an owner may ask for: its status, a page of one of its chains, and that a page is taken in
pub data OwnerRequest : Type 0 where
  AskStatus : OwnerRequest
  AskPage : (host : ℕ) (tag : List ℕ) (start count : ℕ) → OwnerRequest
  SendPage : Caller → List SealedRecord → OwnerRequest

-- what an owner is told: how many records were added, or why none was
pub data OwnerReply : Type 0 where
  StatusIs : List ChainCount → OwnerReply
  PageIs : List SealedRecord → OwnerReply
  PageAdded : ℕ → OwnerReply
  PageRefused : PageRefusal → OwnerReply

-- how a growth is answered
abbrev pub growth_reply : Result (List Entry) PageRefusal → OwnerReply
growth_reply (Ok batch) = PageAdded (length batch)
growth_reply (Err refusal) = PageRefused refusal

-- the reply to the owner's request at this journal
abbrev pub reply_to : List Entry → ℕ → OwnerRequest → OwnerReply
reply_to journal owner AskStatus = StatusIs (status journal owner)
reply_to journal owner (AskPage host tag start count) = PageIs (page journal owner host tag start count)
reply_to journal owner (SendPage caller records) = growth_reply (grow journal caller owner records)

-- the journal after the owner's request
abbrev pub journal_after : List Entry → ℕ → OwnerRequest → List Entry
journal_after journal owner AskStatus = journal
journal_after journal owner (AskPage host tag start count) = journal
journal_after journal owner (SendPage caller records) = grown journal (grow journal caller owner records)

-- a request with the owner who makes it, and a reply with the owner to whom it goes
pub record OwnerAsked : Type 0 where
  pub owner : ℕ
  pub request : OwnerRequest

pub record OwnerTold : Type 0 where
  pub owner : ℕ
  pub reply : OwnerReply

-- the replies to the requests of all owners, served one after the other
abbrev pub replies : List Entry → List OwnerAsked → List OwnerTold
replies journal [] = []
replies journal (asked ∷ later) = record { owner = asked.owner; reply = reply_to journal asked.owner asked.request } ∷ replies (journal_after journal asked.owner asked.request) later

-- the requests of one owner, and the replies to one owner, in order
abbrev pub asked_by : ℕ → List OwnerAsked → List OwnerAsked
asked_by owner requests = filter (λ asked. asked.owner == owner) requests

abbrev pub told_to : ℕ → List OwnerTold → List OwnerTold
told_to owner replies = filter (λ told. told.owner == owner) replies
