use Rattle.std.proofs.Common.{IfOk, List, ap, subst, ◌∙◌}
use Rattle.std.specs.List.{AllZip}
use Rattle.plain_types.specs.declared.no_memory.NoMemory.{NoMemory}
use Rattle.rayon.proofs.ToStd.{slice-AllZip}
use Rattle.record_model.specs.Seen.{record_seen}
use Rattle.record_model.specs.declared.sealed.Record.{Record}
use Rattle.record_seal.specs.Unsealing.{Unseals, answer_of}
use Rattle.record_seal.specs.declared.group.Opened.{Opened}
use Rattle.record_seal.proofs.Groups.{collected}
use Rattle.record_seal.proofs.group.unseal_all.Goals as goal

pub returns : goal.returns
returns g c =
    let h = c.in_ok-collect.ensures in
    let chain = h.1 in
    let slice = ap (λ it. it.base.slice.now) c.map.ensures.base ∙ ap (λ it. it.slice.now) c.with_min_len.ensures.base ∙ c.par_iter.ensures in
    let R : Record → Opened → Type 0 = λ rec opened. Unseals c.map.result.f.1.now.key.now (record_seen rec) (answer_of opened) in
    subst (λ (key : List _). IfOk c.in_ok-collect.field-0
    (λ all. AllZip (λ rec opened. Unseals key (record_seen rec) (answer_of opened)) c.args.recs.now all.items))
    (ap (λ f. f.1.now.key.now) c.map.ensures.f ∙ c.new-named.ensures)
    (collected Record Opened NoMemory R _ (λ all. all.items) c.args.recs.now h.0 c.in_ok-collect.field-0
    (slice-AllZip chain.0 c.args.recs.now (chain.1 ∙ slice) (λ rec opened. IfOk opened (R rec)) h.0 chain.2) h.2)
