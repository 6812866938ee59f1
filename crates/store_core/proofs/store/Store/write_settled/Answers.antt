use Rattle.std.proofs.Common.{◌<◌, ◌^◌, refl, sym, subst, arith}
use Rattle.definitions.specs.Uses.{read_clock}
use Rattle.record_model.specs.Seen.{caller_seen}
use Rattle.model_words.specs.Seen.{call_seen, result_seen}
use Rattle.payload_forms.specs.Seen.{payload_seen}
use Rattle.step_rules.specs.Step.{Drafts, start_draft, record_draft}
use Rattle.call_drafts.specs.declared.drafts.Draft.{Draft}
use Rattle.call_drafts.specs.Drafting.{IsKeptOf}
use Rattle.call_drafts.specs.Seen.{draft_seen, long_seen}
use Rattle.call_supplies.proofs.Using.{only_read}
use Rattle.store_core.specs.Store.{StoreSeen}
use Rattle.store_core.proofs.Stepping.{long_written}
use Rattle.store_core.proofs.Turning.{DraftsIt, DraftsNone, may_write, call_written, undrafted_written, undrafted_told}
use Rattle.store_core.proofs.store.Store.write_settled.Goals as goal

pub returns-in-Some-clause-writes : goal.returns-in-Some-clause-writes
returns-in-Some-clause-writes g c =
    let below : c.args.now < 2 ^ 64 = omega arith in record {
      used = read_clock c.args.now;
      random = only_read (g.E.Entropy.entropy c.args.rand.now) c.args.now below;
      reading = refl;
      writes = λ key journal keyed is. long_written c.args.self.now c.args.self.now key journal (caller_seen c.args.caller) (call_seen c.args.call.now) is refl c.args.now (long_seen c.in-Some.long) (sym c.in-Some.ensures);
    }

pub start-requires-clause-writes : goal.start-requires-clause-writes
start-requires-clause-writes g c =
    let drafts : DraftsIt c.args.self.now (call_seen c.args.call.now) (start_draft c.in-Ok-Start.command c.in-Ok-Start.cwd c.in-Ok-Start.session c.in-Ok-Start.hostname) =
    λ keyed journal kept. subst (λ (d : Draft). Drafts keyed journal (call_seen c.args.call.now) (draft_seen d)) c.in-Ok-Start.field-0-is (c.in-Ok-Start.ensures keyed journal (subst (λ (s : StoreSeen). IsKeptOf s.tables.kept keyed journal) (sym c.self.view_is) kept)) in
    may_write c.args.self.now c.requires.means.0 (call_seen c.args.call.now) (start_draft c.in-Ok-Start.command c.in-Ok-Start.cwd c.in-Ok-Start.session c.in-Ok-Start.hostname) c.requires.key c.requires.means.1 c.requires.fits (sym c.in-None.ensures) drafts

pub record-requires-clause-writes : goal.record-requires-clause-writes
record-requires-clause-writes g c =
    let drafts : DraftsIt c.args.self.now (call_seen c.args.call.now) (record_draft c.in-Ok-Record.closes (payload_seen c.in-Ok-Record.payload)) =
    λ keyed journal kept. subst (λ (d : Draft). Drafts keyed journal (call_seen c.args.call.now) (draft_seen d)) c.in-Ok-Record.field-0-is (c.in-Ok-Record.ensures keyed journal (subst (λ (s : StoreSeen). IsKeptOf s.tables.kept keyed journal) (sym c.self.view_is) kept)) in
    may_write c.args.self.now c.requires.means.0 (call_seen c.args.call.now) (record_draft c.in-Ok-Record.closes (payload_seen c.in-Ok-Record.payload)) c.requires.key c.requires.means.1 c.requires.fits (sym c.in-None.ensures) drafts

pub returns-in-Ok-Start-clause-writes : goal.returns-in-Ok-Start-clause-writes
returns-in-Ok-Start-clause-writes g c =
    let drafts : DraftsIt c.args.self.now (call_seen c.args.call.now) (start_draft c.in-Ok-Start.command c.in-Ok-Start.cwd c.in-Ok-Start.session c.in-Ok-Start.hostname) =
    λ keyed journal kept. subst (λ (d : Draft). Drafts keyed journal (call_seen c.args.call.now) (draft_seen d)) c.in-Ok-Start.field-0-is (c.in-Ok-Start.ensures keyed journal (subst (λ (s : StoreSeen). IsKeptOf s.tables.kept keyed journal) (sym c.self.view_is) kept)) in
    call_written c.args.self.now c.start.new.self (g.E.Entropy.entropy c.args.rand.now) (g.E.Entropy.entropy c.start.new.rand) (caller_seen c.args.caller) (call_seen c.args.call.now) (start_draft c.in-Ok-Start.command c.in-Ok-Start.cwd c.in-Ok-Start.session c.in-Ok-Start.hostname) c.args.now
    (result_seen c.start.result) c.requires.fits (sym c.in-None.ensures) drafts c.start.ensures.writes

pub returns-in-Ok-Record-clause-writes : goal.returns-in-Ok-Record-clause-writes
returns-in-Ok-Record-clause-writes g c =
    let drafts : DraftsIt c.args.self.now (call_seen c.args.call.now) (record_draft c.in-Ok-Record.closes (payload_seen c.in-Ok-Record.payload)) =
    λ keyed journal kept. subst (λ (d : Draft). Drafts keyed journal (call_seen c.args.call.now) (draft_seen d)) c.in-Ok-Record.field-0-is (c.in-Ok-Record.ensures keyed journal (subst (λ (s : StoreSeen). IsKeptOf s.tables.kept keyed journal) (sym c.self.view_is) kept)) in
    call_written c.args.self.now c.record.new.self (g.E.Entropy.entropy c.args.rand.now) (g.E.Entropy.entropy c.record.new.rand) (caller_seen c.args.caller) (call_seen c.args.call.now) (record_draft c.in-Ok-Record.closes (payload_seen c.in-Ok-Record.payload)) c.args.now
    (result_seen c.record.result) c.requires.fits (sym c.in-None.ensures) drafts c.record.ensures.writes

pub returns-in-Err-clause-writes : goal.returns-in-Err-clause-writes
returns-in-Err-clause-writes g c =
    let below : c.args.now < 2 ^ 64 = omega arith in
    let none : DraftsNone c.args.self.now (call_seen c.args.call.now) c.in-Err.refusal = λ keyed journal kept. c.in-Err.ensures keyed journal (subst (λ (s : StoreSeen). IsKeptOf s.tables.kept keyed journal) (sym c.self.view_is) kept) in
    undrafted_written c.args.self.now (g.E.Entropy.entropy c.args.rand.now) (caller_seen c.args.caller) (call_seen c.args.call.now) c.args.now c.in-Err.refusal below (sym c.in-None.ensures) none

pub returns-in-Err-clause-told : goal.returns-in-Err-clause-told
returns-in-Err-clause-told g c = λ told.
    let none : DraftsNone c.args.self.now (call_seen c.args.call.now) c.in-Err.refusal = λ keyed journal kept. c.in-Err.ensures keyed journal (subst (λ (s : StoreSeen). IsKeptOf s.tables.kept keyed journal) (sym c.self.view_is) kept) in
    absurd (undrafted_told c.args.self.now c.requires.means.0 (call_seen c.args.call.now) c.in-Err.refusal c.requires.key c.requires.means.1 none told)
