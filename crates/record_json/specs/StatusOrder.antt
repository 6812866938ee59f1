-- Statuses in order.
use Rattle.std.specs.Prelude.{◌≡◌, ℕ, ◌<◌, List, [], ◌∷◌, map, ⊤}
use Rattle.std.specs.Cmp.Lexicographic.{slice_cmp}
use Rattle.std.specs.List.{AllByRecursion}
use Rattle.std.specs.Ordering.{nat_cmp}
use Rattle.std.specs.declared.cmp.Ordering.TheVariants.{Less}
use Rattle.record_rules.specs.Journal.{ChainPlace, ChainCount, Ascends}
use Rattle.serde_json.specs.Data.{Members, no_members, member}

abbrev pub place_of : ChainCount → ChainPlace
place_of listed = record { host = listed.host; tag = listed.tag }

-- in order of host, then of the tag's bytes, no place twice, and no chain empty
pub record IsInOrder (chains : List ChainCount) : Type 0 where
  pub places : Ascends (map place_of chains)
  pub filled : AllByRecursion (λ c. 0 < c.count) chains

-- ---- the members that they are read from

abbrev pub tags_of : Members → List (List ℕ)
tags_of no_members = []
tags_of (member tag value later) = tag ∷ tags_of later

-- each tag comes before all later ones, by its bytes
abbrev pub Rises : List (List ℕ) → Type 0
Rises [] = ⊤
Rises (tag ∷ tags) = AllByRecursion (λ other. slice_cmp nat_cmp tag other ≡ Less) tags × Rises tags

abbrev pub AllRise : List (ℕ × Members) → Type 0
AllRise [] = ⊤
AllRise (host ∷ hosts) = Rises (tags_of host.1) × AllRise hosts
