use Rattle.std.proofs.Common.{arith}
use Rattle.std.proofs.Common.{List, ◌∷◌, ◌+◌, ◌≤◌, ℕ, refl, Option, ap, sym, subst, ◌∙◌, Vec, Global}
use Rattle.std.specs.Option.{option_map}
use Rattle.std.specs.Prelude.{IfSome}
use Rattle.history_view.specs.declared.walk.Walked.{Walked}
use Rattle.history_view.specs.declared.walk.Newest.{Newest}
use Rattle.history_view.specs.declared.shown.ShownCommand.{ShownCommand}
use Rattle.history_view.specs.Shown.{command_seen}
use Rattle.history_view.specs.Walk.{walked_in, newest_of}
use Rattle.search_query.specs.Answers.{IsOnWay, MakesAnswer, IsAnswerOf, Remembers, IsOneFewer, seen_of, seen_after, test_of}
use Rattle.definitions.specs.Journal.{HistoryRecord}
use Rattle.search_query.proofs.Walks.{begins_walk, filled, passes_over, leaves_out, takes, ends, breaks, tested, tested_so_far}
use Rattle.search_query.proofs.Bounds.{begins_bounded, bounded_on, bounded_tests, stops, known_on}
use Rattle.search_query.proofs.searching.walk.Goals as goal
use Rattle.search_query.proofs.searching.walk.Goals.{in-None, in-Some+then-len-query, in-Some+else-len-query+in-Some-one_fewer+in-Some-found+else-skip-gt0+in_ok-take+then-not-branch}

pub loop-walked-init : goal.loop-walked-init
loop-walked-init c = (
  begins_walk c.args.query.now c.args.view.now (walked_in c.into_iter-walked-iterator.result.inner) c.args.memo.items c.new-hits.result.items c.args.steps.now
      (subst (λ (n : Newest). MakesAnswer c.args.query.now c.args.view.now (walked_in n.inner)) (sym c.into_iter-walked-iterator.ensures.into_iter_gives) c.requires.makes) c.requires.remembers c.requires.long c.new-hits.ensures.items,
  begins_bounded c.args.steps.now c.args.most,
  λ known. (known, refl),
)

pub loop-walked-preserved-then-skip-gt0 : goal.loop-walked-preserved-then-skip-gt0
loop-walked-preserved-then-skip-gt0 c =
    let way = subst (λ (ws : List Walked). IsOnWay c.args.query.now c.args.view.now (walked_in c.args.view.now.order) ws c.loop-walked.memo.items c.loop-walked.hits.items c.loop-walked.bytes c.loop-walked.skip c.args.steps.now c.loop-walked.steps) c.in-Some.ensures.steps c.loop-walked.invariant.0 in (
      leaves_out c.args.query.now c.args.view.now (walked_in c.args.view.now.order) c.args.steps.now c.in-Some.walked (command_seen c.in-Some-found.h) (walked_in c.next.new.self.inner) c.loop-walked.memo.items c.hit-found.new.memo.items c.loop-walked.hits.items c.loop-walked.bytes c.loop-walked.skip c.loop-walked.steps c.hit-found.new.steps
          way (sym (c.hit-found.ensures.hit way.seen way.remembers) ∙ ap (option_map command_seen) c.in-Some-found.is) c.if-skip-gt0.true (subst (λ (o : Option HistoryRecord). Remembers c.args.view.now.texts (test_of c.args.query.now) (seen_after c.args.query.now.unique way.seen o) c.hit-found.new.memo.items) (ap (option_map command_seen) c.in-Some-found.is) (c.hit-found.ensures.memo way.seen way.remembers)) c.hit-found.ensures.long c.hit-found.ensures.steps,
      bounded_on c.args.steps.now c.loop-walked.steps c.hit-found.new.steps c.args.most c.loop-walked.left c.in-Some-one_fewer.fewer c.loop-walked.invariant.1 (subst (λ (o : Option (Option ℕ)). IsOneFewer c.loop-walked.left o) c.in-Some-one_fewer.is c.one_fewer.ensures) c.hit-found.ensures.one,
      known_on c.args.memo.items c.loop-walked.memo.items c.hit-found.new.memo.items c.args.steps.now c.loop-walked.steps c.hit-found.new.steps c.loop-walked.invariant.2 c.hit-found.ensures.known,
    )

pub loop-walked-preserved-else-not-branch : goal.loop-walked-preserved-else-not-branch
loop-walked-preserved-else-not-branch c =
    let way = subst (λ (ws : List Walked). IsOnWay c.args.query.now c.args.view.now (walked_in c.args.view.now.order) ws c.loop-walked.memo.items c.loop-walked.hits.items c.loop-walked.bytes c.loop-walked.skip c.args.steps.now c.loop-walked.steps) c.in-Some.ensures.steps c.loop-walked.invariant.0 in (
      takes c.args.query.now c.args.view.now (walked_in c.args.view.now.order) c.args.steps.now c.in-Some.walked c.in-Some-found.h (walked_in c.next.new.self.inner) c.loop-walked.memo.items c.hit-found.new.memo.items c.loop-walked.hits.items c.take.new.hits.items c.loop-walked.bytes c.take.new.bytes c.loop-walked.skip c.loop-walked.steps c.hit-found.new.steps
          way (sym (c.hit-found.ensures.hit way.seen way.remembers) ∙ ap (option_map command_seen) c.in-Some-found.is) c.if-skip-gt0.false (c.in_ok-take.ensures.taken c.if-not-branch.false) c.in_ok-take.ensures.bytes c.in_ok-take.ensures.fits (subst (λ (o : Option HistoryRecord). Remembers c.args.view.now.texts (test_of c.args.query.now) (seen_after c.args.query.now.unique way.seen o) c.hit-found.new.memo.items) (ap (option_map command_seen) c.in-Some-found.is) (c.hit-found.ensures.memo way.seen way.remembers)) c.hit-found.ensures.long c.hit-found.ensures.steps,
      bounded_on c.args.steps.now c.loop-walked.steps c.hit-found.new.steps c.args.most c.loop-walked.left c.in-Some-one_fewer.fewer c.loop-walked.invariant.1 (subst (λ (o : Option (Option ℕ)). IsOneFewer c.loop-walked.left o) c.in-Some-one_fewer.is c.one_fewer.ensures) c.hit-found.ensures.one,
      known_on c.args.memo.items c.loop-walked.memo.items c.hit-found.new.memo.items c.args.steps.now c.loop-walked.steps c.hit-found.new.steps c.loop-walked.invariant.2 c.hit-found.ensures.known,
    )

pub loop-walked-preserved : goal.loop-walked-preserved
loop-walked-preserved c =
    let way = subst (λ (ws : List Walked). IsOnWay c.args.query.now c.args.view.now (walked_in c.args.view.now.order) ws c.loop-walked.memo.items c.loop-walked.hits.items c.loop-walked.bytes c.loop-walked.skip c.args.steps.now c.loop-walked.steps) c.in-Some.ensures.steps c.loop-walked.invariant.0 in (
      passes_over c.args.query.now c.args.view.now (walked_in c.args.view.now.order) c.args.steps.now c.in-Some.walked (walked_in c.next.new.self.inner) c.loop-walked.memo.items c.hit-found.new.memo.items c.loop-walked.hits.items c.loop-walked.bytes c.loop-walked.skip c.loop-walked.steps c.hit-found.new.steps
          way (sym (c.hit-found.ensures.hit way.seen way.remembers) ∙ ap (option_map command_seen) c.in_default-found.is) (subst (λ (o : Option HistoryRecord). Remembers c.args.view.now.texts (test_of c.args.query.now) (seen_after c.args.query.now.unique way.seen o) c.hit-found.new.memo.items) (ap (option_map command_seen) c.in_default-found.is) (c.hit-found.ensures.memo way.seen way.remembers)) c.hit-found.ensures.long c.hit-found.ensures.steps,
      bounded_on c.args.steps.now c.loop-walked.steps c.hit-found.new.steps c.args.most c.loop-walked.left c.in-Some-one_fewer.fewer c.loop-walked.invariant.1 (subst (λ (o : Option (Option ℕ)). IsOneFewer c.loop-walked.left o) c.in-Some-one_fewer.is c.one_fewer.ensures) c.hit-found.ensures.one,
      known_on c.args.memo.items c.loop-walked.memo.items c.hit-found.new.memo.items c.args.steps.now c.loop-walked.steps c.hit-found.new.steps c.loop-walked.invariant.2 c.hit-found.ensures.known,
    )

pub returns-clause-page : goal.returns-clause-page
returns-clause-page c = elim c.match-next.branch [
  | in-None w ↦
      let way = subst (λ (ws : List Walked). IsOnWay c.args.query.now c.args.view.now (walked_in c.args.view.now.order) ws c.loop-walked.memo.items c.loop-walked.hits.items c.loop-walked.bytes c.loop-walked.skip c.args.steps.now c.loop-walked.steps) w.in-None.ensures.steps.0 c.loop-walked.invariant.0 in
      let page = ends c.args.query.now c.args.view.now c.args.steps.now c.loop-walked.memo.items c.loop-walked.hits.items c.loop-walked.bytes c.loop-walked.skip c.loop-walked.steps way in
      subst (λ (v : Vec ShownCommand Global). IsAnswerOf c.args.query.now (newest_of c.args.view.now) (seen_of v.items)) (sym w.hits-is) page
  | in-Some+then-len-query w ↦
      let way = subst (λ (ws : List Walked). IsOnWay c.args.query.now c.args.view.now (walked_in c.args.view.now.order) ws c.loop-walked.memo.items c.loop-walked.hits.items c.loop-walked.bytes c.loop-walked.skip c.args.steps.now c.loop-walked.steps) w.in-Some.ensures.steps c.loop-walked.invariant.0 in
      let page = filled c.args.query.now c.args.view.now c.args.steps.now (w.in-Some.walked ∷ walked_in c.next.new.self.inner) c.loop-walked.memo.items c.loop-walked.hits.items c.loop-walked.bytes c.loop-walked.skip c.loop-walked.steps way (omega (arith, w.len.ensures, w.if-len-query.true)) in
      subst (λ (v : Vec ShownCommand Global). IsAnswerOf c.args.query.now (newest_of c.args.view.now) (seen_of v.items)) (sym w.hits-is) page
  | in-Some+else-len-query+in-Some-one_fewer+in-Some-found+else-skip-gt0+in_ok-take+then-not-branch w ↦
      let way = subst (λ (ws : List Walked). IsOnWay c.args.query.now c.args.view.now (walked_in c.args.view.now.order) ws c.loop-walked.memo.items c.loop-walked.hits.items c.loop-walked.bytes c.loop-walked.skip c.args.steps.now c.loop-walked.steps) w.in-Some.ensures.steps c.loop-walked.invariant.0 in
      let full = w.in_ok-take.ensures.full w.if-not-branch.true in
      let page = breaks c.args.query.now c.args.view.now c.args.steps.now w.in-Some.walked w.in-Some-found.h (walked_in c.next.new.self.inner) c.loop-walked.memo.items c.loop-walked.hits.items c.loop-walked.bytes c.loop-walked.skip c.loop-walked.steps way
      (sym (w.hit-found.ensures.hit way.seen way.remembers) ∙ ap (option_map command_seen) w.in-Some-found.is) w.if-skip-gt0.false full.1 in
      subst (λ (hs : List ShownCommand). IsAnswerOf c.args.query.now (newest_of c.args.view.now) (seen_of hs)) (sym (ap (λ (v : Vec ShownCommand Global). v.items) w.hits-is ∙ full.0)) page
]

pub returns-in_err-take-clause-steps : goal.returns-in_err-take-clause-steps
returns-in_err-take-clause-steps c =
    let way = subst (λ (ws : List Walked). IsOnWay c.args.query.now c.args.view.now (walked_in c.args.view.now.order) ws c.loop-walked.memo.items c.loop-walked.hits.items c.loop-walked.bytes c.loop-walked.skip c.args.steps.now c.loop-walked.steps) c.in-Some.ensures.steps c.loop-walked.invariant.0 in
    let most = tested c.args.query.now c.args.view.now c.in-Some.walked (walked_in c.next.new.self.inner) c.loop-walked.memo.items c.loop-walked.hits.items c.loop-walked.bytes c.loop-walked.skip c.args.steps.now c.loop-walked.steps way in
    let few = c.hit-found.ensures.steps in
    omega arith

pub returns-clause-steps : goal.returns-clause-steps
returns-clause-steps c = elim c.match-next.branch [
  | in-None w ↦
      let so_far = tested_so_far c.args.query.now c.args.view.now (walked_in c.loop-walked.walked-iterator.inner) c.loop-walked.memo.items c.loop-walked.hits.items c.loop-walked.bytes c.loop-walked.skip c.args.steps.now c.loop-walked.steps c.loop-walked.invariant.0 in
      let is = w.steps-is in
      omega arith
  | in-Some+then-len-query w ↦
      let way = subst (λ (ws : List Walked). IsOnWay c.args.query.now c.args.view.now (walked_in c.args.view.now.order) ws c.loop-walked.memo.items c.loop-walked.hits.items c.loop-walked.bytes c.loop-walked.skip c.args.steps.now c.loop-walked.steps) w.in-Some.ensures.steps c.loop-walked.invariant.0 in
      let so_far = tested_so_far c.args.query.now c.args.view.now (w.in-Some.walked ∷ walked_in c.next.new.self.inner) c.loop-walked.memo.items c.loop-walked.hits.items c.loop-walked.bytes c.loop-walked.skip c.args.steps.now c.loop-walked.steps way in
      let is = w.steps-is in
      omega arith
  | in-Some+else-len-query+in-Some-one_fewer+in-Some-found+else-skip-gt0+in_ok-take+then-not-branch w ↦
      let way = subst (λ (ws : List Walked). IsOnWay c.args.query.now c.args.view.now (walked_in c.args.view.now.order) ws c.loop-walked.memo.items c.loop-walked.hits.items c.loop-walked.bytes c.loop-walked.skip c.args.steps.now c.loop-walked.steps) w.in-Some.ensures.steps c.loop-walked.invariant.0 in
      let most = tested c.args.query.now c.args.view.now w.in-Some.walked (walked_in c.next.new.self.inner) c.loop-walked.memo.items c.loop-walked.hits.items c.loop-walked.bytes c.loop-walked.skip c.args.steps.now c.loop-walked.steps way in
      let few = w.hit-found.ensures.steps in
      let is = w.steps-is in
      omega arith
]

pub hit-found-requires-clause-row : goal.hit-found-requires-clause-row
hit-found-requires-clause-row c = let way = subst (λ (ws : List Walked). IsOnWay c.args.query.now c.args.view.now (walked_in c.args.view.now.order) ws c.loop-walked.memo.items c.loop-walked.hits.items c.loop-walked.bytes c.loop-walked.skip c.args.steps.now c.loop-walked.steps) c.in-Some.ensures.steps c.loop-walked.invariant.0 in way.rows.0

pub hit-found-requires-clause-long : goal.hit-found-requires-clause-long
hit-found-requires-clause-long c = c.loop-walked.invariant.0.long

pub take-requires-clause-bytes : goal.take-requires-clause-bytes
take-requires-clause-bytes c = c.loop-walked.invariant.0.weighed

pub take-requires-clause-fits : goal.take-requires-clause-fits
take-requires-clause-fits c = c.loop-walked.invariant.0.fits

pub returns-in_err-take-clause-most : goal.returns-in_err-take-clause-most
returns-in_err-take-clause-most c = bounded_tests c.args.steps.now c.hit-found.new.steps c.args.most c.in-Some-one_fewer.fewer (bounded_on c.args.steps.now c.loop-walked.steps c.hit-found.new.steps c.args.most c.loop-walked.left c.in-Some-one_fewer.fewer c.loop-walked.invariant.1 (subst (λ (o : Option (Option ℕ)). IsOneFewer c.loop-walked.left o) c.in-Some-one_fewer.is c.one_fewer.ensures) c.hit-found.ensures.one)

pub returns-in_err-take-clause-known : goal.returns-in_err-take-clause-known
returns-in_err-take-clause-known c = λ k. let both = known_on c.args.memo.items c.loop-walked.memo.items c.hit-found.new.memo.items c.args.steps.now c.loop-walked.steps c.hit-found.new.steps c.loop-walked.invariant.2 c.hit-found.ensures.known k in both.1

pub returns-in_default-clause-most : goal.returns-in_default-clause-most
returns-in_default-clause-most c = bounded_tests c.args.steps.now c.loop-walked.steps c.args.most c.loop-walked.left c.loop-walked.invariant.1

pub returns-in_default-clause-known : goal.returns-in_default-clause-known
returns-in_default-clause-known c = λ k. let both = c.loop-walked.invariant.2 k in both.1

pub returns-in_default-clause-steps : goal.returns-in_default-clause-steps
returns-in_default-clause-steps c =
    tested_so_far c.args.query.now c.args.view.now (walked_in c.loop-walked.walked-iterator.inner) c.loop-walked.memo.items c.loop-walked.hits.items c.loop-walked.bytes c.loop-walked.skip c.args.steps.now c.loop-walked.steps c.loop-walked.invariant.0

pub returns-in_default-clause-all : goal.returns-in_default-clause-all
returns-in_default-clause-all c = λ e. absurd (stops c.args.steps.now c.loop-walked.steps c.args.most c.loop-walked.left c.loop-walked.invariant.1 c.in_default.ensures e)

pub returns-clause-most : goal.returns-clause-most
returns-clause-most c = elim c.match-next.branch [
  | in-None w ↦ subst (λ (k : ℕ). IfSome c.args.most (λ n. k ≤ c.args.steps.now + n)) (sym w.steps-is) (bounded_tests c.args.steps.now c.loop-walked.steps c.args.most c.loop-walked.left c.loop-walked.invariant.1)
  | in-Some+then-len-query w ↦ subst (λ (k : ℕ). IfSome c.args.most (λ n. k ≤ c.args.steps.now + n)) (sym w.steps-is) (bounded_tests c.args.steps.now c.loop-walked.steps c.args.most c.loop-walked.left c.loop-walked.invariant.1)
  | in-Some+else-len-query+in-Some-one_fewer+in-Some-found+else-skip-gt0+in_ok-take+then-not-branch w ↦ subst (λ (k : ℕ). IfSome c.args.most (λ n. k ≤ c.args.steps.now + n)) (sym w.steps-is) (bounded_tests c.args.steps.now w.hit-found.new.steps c.args.most w.in-Some-one_fewer.fewer (bounded_on c.args.steps.now c.loop-walked.steps w.hit-found.new.steps c.args.most c.loop-walked.left w.in-Some-one_fewer.fewer c.loop-walked.invariant.1 (subst (λ (o : Option (Option ℕ)). IsOneFewer c.loop-walked.left o) w.in-Some-one_fewer.is w.one_fewer.ensures) w.hit-found.ensures.one))
]

pub returns-clause-known : goal.returns-clause-known
returns-clause-known c = elim c.match-next.branch [
  | in-None w ↦ λ k. let both = c.loop-walked.invariant.2 k in w.steps-is ∙ both.1
  | in-Some+then-len-query w ↦ λ k. let both = c.loop-walked.invariant.2 k in w.steps-is ∙ both.1
  | in-Some+else-len-query+in-Some-one_fewer+in-Some-found+else-skip-gt0+in_ok-take+then-not-branch w ↦ λ k. let both = known_on c.args.memo.items c.loop-walked.memo.items w.hit-found.new.memo.items c.args.steps.now c.loop-walked.steps w.hit-found.new.steps c.loop-walked.invariant.2 w.hit-found.ensures.known k in w.steps-is ∙ both.1
]
