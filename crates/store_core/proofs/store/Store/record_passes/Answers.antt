use Rattle.std.proofs.Common.{◌≡◌, List, subst, ap, ◌∙◌}
use Rattle.record_rules.specs.Journal.{held}
use Rattle.payload_forms.specs.Seen.{payload_seen}
use Rattle.chain_index.specs.Chains.{IndexSeen}
use Rattle.chain_index.specs.Meaning.{Filed, journal_of, totals_seen, IsIndexOf}
use Rattle.store_core.specs.Store.{StoreSeen}
use Rattle.store_core.proofs.Recorded.{passes_told}
use Rattle.store_core.proofs.store.Store.record_passes.Goals as goal

pub returns : goal.returns
returns g c = λ key journal is.
    let index = c.index.ensures ∙ ap (λ (s : StoreSeen). s.tables.entries.index) c.self.view_is in
    passes_told c.args.self.now key journal (payload_seen c.args.payload.now) c.args.idx c.weight.result c.held-held.result c.limit_passed.result is c.requires.next
    (subst (λ (seen : IndexSeen). (filed : List Filed) → IsIndexOf seen filed → totals_seen c.held-held.result ≡ held (journal_of filed) 0) index c.held-held.ensures)
    (c.weight.ensures c.args.self.now.log.host key) c.limit_passed.ensures
