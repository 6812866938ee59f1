use Rattle.std.proofs.Common.{◌<◌, ◌^◌, ℕ, None, refl, sym, ap, subst, ◌∙◌, arith}
use Rattle.std.proofs.lemmas.Result.{err_from_is_err_and}
use Rattle.definitions.specs.Uses.{read_clock, read_and_drew, read_and_failed}
use Rattle.record_rules.specs.Journal.{first_limit_passed}
use Rattle.started_commands.specs.Kept.{IsOf}
use Rattle.call_supplies.proofs.Using.{only_read, read_then_drew, read_then_failed}
use Rattle.store_core.specs.Store.{StoreSeen}
use Rattle.store_core.proofs.Started.{full_start, undrawn_start, taken_start, short_start, may_start, start_fits, committed_start, uncommitted_start}
use Rattle.store_core.proofs.store.Store.start.Goals as goal

pub returns-in-Some-clause-writes : goal.returns-in-Some-clause-writes
returns-in-Some-clause-writes g c =
    let below : c.args.now < 2 ^ 64 = omega arith in record {
      used = read_clock c.args.now;
      random = only_read (g.E.Entropy.entropy c.args.rand.now) c.args.now below;
      reading = refl;
      writes = full_start c.args.self.now c.args.caller c.args.command c.args.cwd c.args.session c.args.hostname c.args.now c.start_passes.result
          (λ journal doubt is. c.start_passes.ensures journal doubt is ∙ ap (λ (w : ℕ). first_limit_passed journal 0 w None) c.weight.ensures.value) c.in-Some.passed c.in-Some.is;
    }

pub returns-in-Err-clause-writes : goal.returns-in-Err-clause-writes
returns-in-Err-clause-writes g c =
    let below : c.args.now < 2 ^ 64 = omega arith in record {
      used = read_and_failed c.args.now;
      random = read_then_failed (g.E.Entropy.entropy c.args.rand.now) (g.E.Entropy.entropy c.draw_id.new.rand) c.args.now below c.in-Err.ensures.0 c.in-Err.ensures.1;
      reading = refl;
      writes = undrawn_start c.args.self.now c.args.caller c.args.command c.args.cwd c.args.session c.args.hostname c.args.now c.start_passes.result
          (λ journal doubt is. c.start_passes.ensures journal doubt is ∙ ap (λ (w : ℕ). first_limit_passed journal 0 w None) c.weight.ensures.value) c.in-None.is;
    }

pub returns-then-is_known-clause-writes : goal.returns-then-is_known-clause-writes
returns-then-is_known-clause-writes g c =
    let below : c.args.now < 2 ^ 64 = omega arith in
    let drew = c.in-Ok.ensures in record {
      used = read_and_drew c.args.now drew.drawn;
      random = read_then_drew (g.E.Entropy.entropy c.args.rand.now) (g.E.Entropy.entropy c.draw_id.new.rand) c.args.now drew.drawn below drew.bytes drew.drew;
      reading = refl;
      writes = taken_start c.args.self.now c.args.caller c.args.command c.args.cwd c.args.session c.args.hostname c.args.now c.start_passes.result
          (λ journal doubt is. c.start_passes.ensures journal doubt is ∙ ap (λ (w : ℕ). first_limit_passed journal 0 w None) c.weight.ensures.value) c.in-None.is drew.drawn drew.ten c.in-Ok.id drew.made c.is_known.result
          (λ journal of. c.is_known.ensures.started journal (subst (λ (s : StoreSeen). IsOf s.tables.kept.commands journal) (sym c.self.view_is) of)) c.if-is_known.true;
    }

pub ready_start-requires-clause-fits : goal.ready_start-requires-clause-fits
ready_start-requires-clause-fits g c =
    let drew = c.in-Ok.ensures in
    start_fits c.args.self.now c.args.caller c.args.command c.args.cwd c.args.session c.args.hostname c.args.now c.start_passes.result
    (λ journal doubt is. c.start_passes.ensures journal doubt is ∙ ap (λ (w : ℕ). first_limit_passed journal 0 w None) c.weight.ensures.value) c.in-None.is drew.drawn drew.ten c.in-Ok.id drew.made c.is_known.result
    (λ journal of. c.is_known.ensures.started journal (subst (λ (s : StoreSeen). IsOf s.tables.kept.commands journal) (sym c.self.view_is) of)) c.if-is_known.false c.requires.writes

pub returns-in_err-batch-clause-writes : goal.returns-in_err-batch-clause-writes
returns-in_err-batch-clause-writes g c =
    let below : c.args.now < 2 ^ 64 = omega arith in
    let drew = c.in-Ok.ensures in
    let p = err_from_is_err_and c.from_residual.result c.from_residual.ensures.1 in
    rw (p.1, p.2)
    (record {
      used = read_and_drew c.args.now drew.drawn;
      random = read_then_drew (g.E.Entropy.entropy c.args.rand.now) (g.E.Entropy.entropy c.draw_id.new.rand) c.args.now drew.drawn below drew.bytes drew.drew;
      reading = refl;
      writes = short_start c.args.self.now c.args.caller c.args.command c.args.cwd c.args.session c.args.hostname c.args.now c.start_passes.result
          (λ journal doubt is. c.start_passes.ensures journal doubt is ∙ ap (λ (w : ℕ). first_limit_passed journal 0 w None) c.weight.ensures.value) c.in-None.is drew.drawn drew.ten c.in-Ok.id drew.made c.is_known.result
          (λ journal of. c.is_known.ensures.started journal (subst (λ (s : StoreSeen). IsOf s.tables.kept.commands journal) (sym c.self.view_is) of)) c.ready_start.new.self c.ready_start.ensures.same c.ready_start.ensures.log;
    })

pub commit-requires : goal.commit-requires
commit-requires g c =
    let drew = c.in-Ok.ensures in (
      c.requires.writes.journal,
      c.in_ok-batch.ensures.ready c.requires.writes.journal
          (may_start c.args.self.now c.args.caller c.args.command c.args.cwd c.args.session c.args.hostname c.args.now c.start_passes.result
          (λ journal doubt is. c.start_passes.ensures journal doubt is ∙ ap (λ (w : ℕ). first_limit_passed journal 0 w None) c.weight.ensures.value) c.in-None.is drew.drawn drew.ten c.in-Ok.id drew.made c.is_known.result
          (λ journal of. c.is_known.ensures.started journal (subst (λ (s : StoreSeen). IsOf s.tables.kept.commands journal) (sym c.self.view_is) of)) c.if-is_known.false c.requires.writes),
    )

pub returns-in-Ok-commit-clause-writes : goal.returns-in-Ok-commit-clause-writes
returns-in-Ok-commit-clause-writes g c =
    let below : c.args.now < 2 ^ 64 = omega arith in
    let drew = c.in-Ok.ensures in record {
      used = read_and_drew c.args.now drew.drawn;
      random = read_then_drew (g.E.Entropy.entropy c.args.rand.now) (g.E.Entropy.entropy c.draw_id.new.rand) c.args.now drew.drawn below drew.bytes drew.drew;
      reading = refl;
      writes = committed_start c.args.self.now c.args.caller c.args.command c.args.cwd c.args.session c.args.hostname c.args.now c.start_passes.result
          (λ journal doubt is. c.start_passes.ensures journal doubt is ∙ ap (λ (w : ℕ). first_limit_passed journal 0 w None) c.weight.ensures.value) c.in-None.is drew.drawn drew.ten c.in-Ok.id drew.made c.is_known.result
          (λ journal of. c.is_known.ensures.started journal (subst (λ (s : StoreSeen). IsOf s.tables.kept.commands journal) (sym c.self.view_is) of)) c.if-is_known.false
          c.ready_start.new.self c.commit.new.self c.ready_start.ensures.log c.in_ok-batch.batch c.in_ok-batch.bytes c.in_ok-batch.ensures.entries c.in_ok-batch.ensures.ready c.in-Ok-commit.ensures.commits;
    }

pub returns-in-Err-commit-clause-writes : goal.returns-in-Err-commit-clause-writes
returns-in-Err-commit-clause-writes g c =
    let below : c.args.now < 2 ^ 64 = omega arith in
    let drew = c.in-Ok.ensures in record {
      used = read_and_drew c.args.now drew.drawn;
      random = read_then_drew (g.E.Entropy.entropy c.args.rand.now) (g.E.Entropy.entropy c.draw_id.new.rand) c.args.now drew.drawn below drew.bytes drew.drew;
      reading = refl;
      writes = uncommitted_start c.args.self.now c.args.caller c.args.command c.args.cwd c.args.session c.args.hostname c.args.now c.start_passes.result
          (λ journal doubt is. c.start_passes.ensures journal doubt is ∙ ap (λ (w : ℕ). first_limit_passed journal 0 w None) c.weight.ensures.value) c.in-None.is drew.drawn drew.ten c.in-Ok.id drew.made c.is_known.result
          (λ journal of. c.is_known.ensures.started journal (subst (λ (s : StoreSeen). IsOf s.tables.kept.commands journal) (sym c.self.view_is) of)) c.if-is_known.false
          c.ready_start.new.self c.commit.new.self c.ready_start.ensures.log c.in_ok-batch.batch c.in_ok-batch.bytes c.in_ok-batch.ensures.entries c.in_ok-batch.ensures.ready c.in-Err-commit.ensures.commits;
    }
