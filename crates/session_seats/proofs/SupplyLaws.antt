-- Supplies of which nothing was used, and those that were used twice.
use Rattle.definitions.specs.Uses.{Used, used_nothing, then_used}
use Rattle.definitions.proofs.Uses.{UsedFits-nothing, UsedFits-then}
use Rattle.definitions.proofs.Counts.{RoseBy-nothing, RoseBy-then}
use Rattle.at_edge.proofs.EntropyLaws.{Drew-nothing, Drew-then}
use Rattle.at_edge.proofs.ClockLaws.{Told-nothing, Told-then}
use Rattle.call_supplies.specs.Supplies.{Supplies, Uses}

pub Uses-nothing : (s : Supplies) → Uses s s used_nothing
Uses-nothing s = record { fits = UsedFits-nothing; drew = Drew-nothing s.rand; failed = RoseBy-nothing s.rand.faults; told = Told-nothing s.clock }

pub Uses-then : (a b c : Supplies) (x y : Used) → Uses a b x → Uses b c y → Uses a c (then_used x y)
Uses-then a b c x y first second = record {
  fits = UsedFits-then x y first.fits second.fits;
  drew = Drew-then a.rand b.rand c.rand x.drawn y.drawn first.drew second.drew;
  failed = RoseBy-then x.faults y.faults a.rand.faults b.rand.faults c.rand.faults first.failed second.failed;
  told = Told-then a.clock b.clock c.clock x.readings y.readings first.told second.told;
}
