-- Worked examples: plans of a few counts.
use Rattle.std.specs.Prelude.{◌≡◌, ℕ, List, [], ◌∷◌, codes}
use Rattle.record_rules.specs.Journal.{ChainPlace, ChainCount}
use Rattle.plan_rules.specs.Plans.{Upload, Download, plan}

abbrev pub counted : (host : ℕ) (tag : List ℕ) (count : ℕ) → ChainCount
counted host tag count = record { host = host; tag = tag; count = count }

abbrev pub place_of : (host : ℕ) (tag : List ℕ) → ChainPlace
place_of host tag = record { host = host; tag = tag }

pub record WorkedPlans : Type 0 where
  -- what the other one lacks goes up, what this store lacks comes down
  pub both_ways : plan (counted 1 (codes "history") 5 ∷ []) (counted 1 (codes "history") 3 ∷ counted 2 (codes "kv") 2 ∷ [])
      ≡ Upload (place_of 1 (codes "history")) 3 5 ∷ Download (place_of 2 (codes "kv")) 0 2 ∷ []
  -- a place that only this store has goes up from 0
  pub new_there : plan (counted 1 (codes "history") 5 ∷ []) [] ≡ Upload (place_of 1 (codes "history")) 0 5 ∷ []
  -- equal counts need nothing
  pub equal : plan (counted 1 (codes "history") 5 ∷ counted 2 (codes "kv") 2 ∷ []) (counted 2 (codes "kv") 2 ∷ counted 1 (codes "history") 5 ∷ []) ≡ []
  -- by host, then by the bytes of the tag
  pub in_order : plan (counted 2 (codes "kv") 1 ∷ counted 2 (codes "history") 1 ∷ []) (counted 1 (codes "kv") 1 ∷ [])
      ≡ Download (place_of 1 (codes "kv")) 0 1 ∷ Upload (place_of 2 (codes "history")) 0 1 ∷ Upload (place_of 2 (codes "kv")) 0 1 ∷ []
  -- a chain that is there in part comes down from its end
  pub partly_there : plan (counted 2 (codes "kv") 3 ∷ []) (counted 2 (codes "kv") 5 ∷ []) ≡ Download (place_of 2 (codes "kv")) 3 5 ∷ []
  -- the first count of a place holds, and it has one step
  pub listed_again : plan (counted 1 (codes "kv") 5 ∷ counted 1 (codes "kv") 0 ∷ []) [] ≡ Upload (place_of 1 (codes "kv")) 0 5 ∷ []
