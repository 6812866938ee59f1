-- What is asked for an owner, and answered where nothing went wrong: the words of turns beside those of the law that owners are alone.
use Rattle.std.specs.Prelude.{◌≡◌, List, [], Bool, true, false, Option, Some, None}
use Rattle.record_rules.specs.Records.{Caller, Entry}
use Rattle.record_rules.specs.Answers.{AskStatus, AskPage, SendPage, OwnerReply, StatusIs, PageIs, PageAdded, PageRefused, OwnerAsked, reply_to, journal_after}
use Rattle.step_rules.specs.PageTurns.{took, page_refused, page_faulted, page_no_memory}
use Rattle.step_rules.specs.ReadTurns.{status_read, page_read, told_status, told_page, read_faulted, read_no_memory}
use Rattle.session_rules.specs.Sessions.{Asked, a_page, a_read, SessionAnswer, to_page, to_read}

-- the owner's request that is made in this caller's call: a page that comes, a status or a page that is read
abbrev pub owner_asks : Caller → Asked → Option OwnerAsked
owner_asks caller (a_page owner records) = Some (record { owner = owner; request = SendPage caller records })
owner_asks caller (a_read (status_read owner)) = Some (record { owner = owner; request = AskStatus })
owner_asks caller (a_read (page_read owner host tag start count)) = Some (record { owner = owner; request = AskPage host tag start count })
owner_asks caller _ = None

-- the answer that an owner's reply is
abbrev pub as_answer : OwnerReply → SessionAnswer
as_answer (StatusIs counts) = to_read (told_status counts)
as_answer (PageIs records) = to_read (told_page records)
as_answer (PageAdded added) = to_page (took added)
as_answer (PageRefused refusal) = to_page (page_refused refusal)

-- whether neither a fault of the disk nor want of memory is told
abbrev pub went_well : SessionAnswer → Bool
went_well (to_page page_faulted) = false
went_well (to_page page_no_memory) = false
went_well (to_read read_faulted) = false
went_well (to_read read_no_memory) = false
went_well _ = true

-- the owner's request is answered as at this journal, leaves what it leaves there, and nothing in doubt
pub record AnswersOwner (journal : List Entry) (asked : OwnerAsked) (after doubt_after : List Entry) (answer : SessionAnswer) : Type 0 where
  pub answer_is : answer ≡ as_answer (reply_to journal asked.owner asked.request)
  pub after_is : after ≡ journal_after journal asked.owner asked.request
  pub doubt_is : doubt_after ≡ []
