-- How much one reply shows at most.
use Rattle.std.specs.Prelude.{ℕ, ◌≤◌, ◌-◌, ◌^◌, List, length, All, Some, None, ⊤}
use Rattle.std.specs.List.{sum_by}
use Rattle.definitions.specs.Limits.{most_shown_bytes, most_page_weight, most_places, most_tag_bytes, most_call_bytes, most_listed}
use Rattle.definitions.specs.Search.{hit_bytes}
use Rattle.record_rules.specs.Journal.{ChainCount}
use Rattle.view_rules.specs.Answers.{named_bytes}
use Rattle.step_rules.specs.Answers.{Answer, hits, value_is, keys, aliases, places, refused, unknown_name}

-- a reply's frame names its length in four bytes, of which half are used
abbrev pub most_reply_bytes : ℕ
most_reply_bytes = 2 ^ 31 - 1

-- what the answer shows is within these bounds: so many items, and so many bytes of texts
abbrev pub ShowsWithin : Answer → Type 0
ShowsWithin (hits found) = (length found ≤ most_listed) × (sum_by hit_bytes found ≤ most_shown_bytes)
ShowsWithin (value_is None) = ⊤
ShowsWithin (value_is (Some value)) = length value ≤ most_page_weight
ShowsWithin (keys found) = (length found ≤ most_listed) × (sum_by (λ (key : List ℕ). length key) found ≤ most_shown_bytes)
ShowsWithin (aliases found) = (length found ≤ most_listed) × (sum_by named_bytes found ≤ most_shown_bytes)
ShowsWithin (places found) = (length found ≤ most_places) × All (λ (chain : ChainCount). length chain.tag ≤ most_tag_bytes) found
ShowsWithin (refused (unknown_name name)) = length name ≤ most_call_bytes
ShowsWithin _ = ⊤
