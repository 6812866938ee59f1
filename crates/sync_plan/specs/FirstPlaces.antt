-- The first place of two statuses in order, with what each says of it and what is behind it.
use Rattle.std.specs.Prelude.{ℕ, List, [], ◌∷◌, Option, Some, None}
use Rattle.std.specs.declared.cmp.Ordering.{Ordering}
use Rattle.std.specs.declared.cmp.Ordering.TheVariants.{Less, Equal, Greater}
use Rattle.record_rules.specs.Journal.{ChainPlace, ChainCount, place_cmp}

abbrev pub place_of : ChainCount → ChainPlace
place_of listed = record { host = listed.host; tag = listed.tag }

pub record FirstOf : Type 0 where
  pub place : ChainPlace
  pub local : ℕ
  pub remote : ℕ
  pub ours : List ChainCount
  pub theirs : List ChainCount

-- the place of one of two counts, by how they compare
abbrev pub earlier : Ordering → (one : ChainCount) (ours : List ChainCount) (other : ChainCount) (theirs : List ChainCount) → FirstOf
earlier Less one ours other theirs = record { place = place_of one; local = one.count; remote = 0; ours = ours; theirs = other ∷ theirs }
earlier Equal one ours other theirs = record { place = place_of one; local = one.count; remote = other.count; ours = ours; theirs = theirs }
earlier Greater one ours other theirs = record { place = place_of other; local = 0; remote = other.count; ours = one ∷ ours; theirs = theirs }

abbrev pub first_of : (ours theirs : List ChainCount) → Option FirstOf
first_of [] [] = None
first_of (one ∷ ours) [] = Some (record { place = place_of one; local = one.count; remote = 0; ours = ours; theirs = [] })
first_of [] (other ∷ theirs) = Some (record { place = place_of other; local = 0; remote = other.count; ours = []; theirs = theirs })
first_of (one ∷ ours) (other ∷ theirs) = Some (earlier (place_cmp (place_of one) (place_of other)) one ours other theirs)
