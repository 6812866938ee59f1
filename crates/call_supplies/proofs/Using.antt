-- What was used of supplies.
use Rattle.std.proofs.Common.{ℕ, ◌<◌, ◌^◌, List, [], ◌∷◌, arith}
use Rattle.std.proofs.lemmas.List.Elements.{All-nil, All-cons}
use Rattle.definitions.specs.Spelling.{IsBytes}
use Rattle.definitions.specs.Counts.{Rose}
use Rattle.definitions.specs.Uses.{Used, used_nothing, read_clock, read_and_drew, read_and_failed, UsedFits}
use Rattle.definitions.proofs.Uses.{UsedFits-nothing}
use Rattle.definitions.proofs.Counts.{RoseBy-nothing}
use Rattle.at_edge.specs.Drawing.{EntropySeen, Drew}
use Rattle.at_edge.specs.Telling.{ClockSeen, Told}
use Rattle.at_edge.proofs.EntropyLaws.{Drew-nothing}
use Rattle.at_edge.proofs.ClockLaws.{Told-nothing}
use Rattle.call_supplies.specs.Supplies.{Supplies, supplies, UsesRandom, Uses}

one_reading_fits : (now : ℕ) (drawn : List ℕ) (faults : ℕ) → now < 2 ^ 64 → IsBytes drawn → UsedFits (record { readings = now ∷ []; drawn = drawn; faults = faults })
one_reading_fits now drawn faults below are = (All-cons (λ (n : ℕ). n < 2 ^ 64) now [] below (All-nil (λ (n : ℕ). n < 2 ^ 64)), are)

pub nothing_used : (seen : Supplies) → Uses seen seen used_nothing
nothing_used seen = record { fits = UsedFits-nothing; drew = Drew-nothing seen.rand; failed = RoseBy-nothing seen.rand.faults; told = Told-nothing seen.clock }

pub only_read : (rand : EntropySeen) (now : ℕ) → now < 2 ^ 64 → UsesRandom rand rand (read_clock now)
only_read rand now below = record { fits = one_reading_fits now [] 0 below UsedFits-nothing.1; drew = Drew-nothing rand; failed = RoseBy-nothing rand.faults }

pub read_then_drew : (old new : EntropySeen) (now : ℕ) (drawn : List ℕ) → now < 2 ^ 64 → IsBytes drawn → Drew old new drawn → UsesRandom old new (read_and_drew now drawn)
read_then_drew old new now drawn below are drew = let up = drew.faults in record { fits = one_reading_fits now drawn 0 below are; drew = drew; failed = omega (arith, up) }

pub read_then_failed : (old new : EntropySeen) (now : ℕ) → now < 2 ^ 64 → Drew old new [] → Rose old.faults new.faults → UsesRandom old new (read_and_failed now)
read_then_failed old new now below drew rose = record { fits = one_reading_fits now [] 1 below UsedFits-nothing.1; drew = drew; failed = rose }

pub with_readings : (old new : EntropySeen) (before after : ClockSeen) (used : Used) → UsesRandom old new used → Told before after used.readings → Uses (supplies old before) (supplies new after) used
with_readings old new before after used random told = record { fits = random.fits; drew = random.drew; failed = random.failed; told = told }
