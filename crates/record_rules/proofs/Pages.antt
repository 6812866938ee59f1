-- The records that a page takes are the longest prefix within the weight.
use Rattle.std.proofs.Common.{ℕ, List, take, drop, min}
use Rattle.definitions.specs.Limits.{most_page_records, most_page_weight}
use Rattle.definitions.specs.Pages.{IsLongestWithin}
use Rattle.definitions.proofs.Pages.{longest_within-longest}
use Rattle.record_rules.specs.Records.{Entry, record_weight}
use Rattle.record_rules.specs.Journal.{chain}
use Rattle.record_rules.specs.Answers.{page}

pub page_is_longest : (journal : List Entry) (owner host : ℕ) (tag : List ℕ) (start count : ℕ) → IsLongestWithin record_weight most_page_weight (take (min count most_page_records) (drop start (chain journal owner host tag))) (page journal owner host tag start count)
page_is_longest journal owner host tag start count = longest_within-longest record_weight most_page_weight (take (min count most_page_records) (drop start (chain journal owner host tag)))
