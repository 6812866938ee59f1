use Rattle.std.proofs.Common.{refl, sym, subst}
use Rattle.chain_index.specs.Chains.{IndexSeen}
use Rattle.chain_index.specs.Meaning.{IsIndexOf}
use Rattle.chain_index.proofs.Filing.{started_is}
use Rattle.chain_index.proofs.index.ChainIndex.add_started.Goals as goal

pub returns-clause-files : goal.returns-clause-files
returns-clause-files c = λ filed entry s is says weighs.
    started_is (record { here = c.self.inside.here; others = c.self.inside.others.entries; ids = c.self.inside.ids.entries }) (record { here = c.add_started.new.self; others = c.self.inside.others.entries; ids = c.self.inside.ids.entries })
    filed entry s c.args.weight (subst (λ (x : IndexSeen). IsIndexOf x filed) (sym c.self.view_is) is) says weighs c.add_started.ensures.held c.add_started.ensures.hosts refl refl
