use Rattle.std.proofs.Common.{◌≡◌, ℕ, List, Option, Bool, subst, arith}
use Rattle.definitions.specs.Search.{matches_by}
use Rattle.search_query.specs.Matching.{Wanted}
use Rattle.record_model.specs.declared.asking.Query.{Query}
use Rattle.history_view.specs.Walk.{walked_in}
use Rattle.search_query.specs.Answers.{IsTold, Remembers, none_seen, wanted_of, test_of}
use Rattle.search_query.proofs.Walks.{told_remembers, told_known, makes_between, nothing_found}
use Rattle.search_query.proofs.searching.looked_through.Goals as goal

remembered : (texts : List (List ℕ)) (memo : List (Option Bool)) (wanted : Wanted) (query : Query) → wanted ≡ wanted_of query → IsTold texts (matches_by wanted.mode wanted.text) memo → Remembers texts (test_of query) none_seen memo
remembered texts memo wanted query is told = told_remembers texts (test_of query) memo (subst (λ (w : Wanted). IsTold texts (matches_by w.mode w.text) memo) is told)

pub whole-requires-clause-remembers : goal.whole-requires-clause-remembers
whole-requires-clause-remembers c = remembered c.args.view.now.texts c.in_ok-memo.memo.items c.args.matching.now c.args.query.now c.requires.matching c.in_ok-memo.ensures.told

pub whole-requires-clause-makes : goal.whole-requires-clause-makes
whole-requires-clause-makes c =
    makes_between c.args.query.now c.args.view.now c.in_ok-memo.memo.items c.hits_span-span.result (remembered c.args.view.now.texts c.in_ok-memo.memo.items c.args.matching.now c.args.query.now c.requires.matching c.in_ok-memo.ensures.told) c.hits_span-span.ensures
    (walked_in c.between-rows.result.inner) c.between-rows.ensures c.requires.rows

pub returns-then-is_empty-clause-page : goal.returns-then-is_empty-clause-page
returns-then-is_empty-clause-page c =
    nothing_found c.args.query.now c.args.view.now c.in_ok-memo.memo.items c.hits_span-span.result (remembered c.args.view.now.texts c.in_ok-memo.memo.items c.args.matching.now c.args.query.now c.requires.matching c.in_ok-memo.ensures.told) c.hits_span-span.ensures
    (c.is_empty.ensures.empty c.if-is_empty.true) c.new.result.items c.new.ensures.items c.requires.rows

pub returns-clause-steps : goal.returns-clause-steps
returns-clause-steps c =
    let known = told_known c.args.view.now.texts _ c.in_ok-memo.memo.items c.in_ok-memo.ensures.long c.in_ok-memo.ensures.told in
    let same = c.whole.ensures.known known in
    let few = c.told.ensures.steps in
    omega (arith, same, few)
