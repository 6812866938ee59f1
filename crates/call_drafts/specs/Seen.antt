-- Which word of the rules a draft and a long text stand for.
use Rattle.std.specs.Prelude.{ℕ, List, length, Option, Some, None, if◌then◌else◌, nat_lt}
use Rattle.step_rules.specs.Calls as asks
use Rattle.step_rules.specs.Step as steps
use Rattle.payload_forms.specs.Seen.{payload_seen}
use Rattle.call_drafts.specs.declared.drafts.Draft.{Draft}
use Rattle.call_drafts.specs.declared.drafts.Draft.TheVariants as drafts
use Rattle.call_drafts.specs.declared.lengths.LongText.{LongText}

abbrev pub draft_seen : Draft → steps.Draft
draft_seen (drafts.Start command cwd session hostname) = steps.start_draft command cwd session hostname
draft_seen (drafts.Record closes payload) = steps.record_draft closes (payload_seen payload)

abbrev pub long_seen : LongText → asks.LongText
long_seen l = record { field = l.field; length = l.length }

-- the text where it is longer than that
abbrev pub long_one : ℕ → List ℕ → ℕ → Option asks.LongText
long_one field text most = if nat_lt most (length text) then Some (record { field = field; length = length text }) else None
