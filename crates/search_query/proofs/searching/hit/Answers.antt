use Rattle.std.proofs.Common.{◌≡◌, ℕ, List, [], ◌∷◌, arith, Bool, true, Option, None, Some, ap, sym, ◌∙◌, subst, ◌&&◌, not}
use Rattle.std.specs.Option.{option_map}
use Rattle.definitions.specs.Search.{matches_by}
use Rattle.history_view.specs.Shown.{command_seen}
use Rattle.search_query.specs.Matching.{Wanted}
use Rattle.definitions.specs.Journal.{HistoryRecord}
use Rattle.record_model.specs.declared.asking.Query.{Query}
use Rattle.history_view.specs.declared.bucket.ScopeNumber.{ScopeNumber}
use Rattle.history_view.specs.declared.walk.Walked.{Walked}
use Rattle.history_view.specs.Buckets.{has_scope, Selects}
use Rattle.history_view.specs.Rows.{command_of}
use Rattle.history_view.specs.ViewState.{ViewState}
use Rattle.history_view.specs.Walk.{IsRow}
use Rattle.search_query.specs.Answers.{Seens, Remembers, scope_seen, passing, test_of}
use Rattle.search_query.proofs.Memos.{row_named, row_within, row_shown, same_command, has_text, no_hit, no_match, is_hit, scope_of, not_scoped, passing_one}
use Rattle.search_query.proofs.searching.hit.Goals as goal

-- what is remembered, told by the text that is looked for, and back
by_wanted : (texts : List (List ℕ)) (wanted query : Wanted) (seen : Seens) (memo : List (Option Bool)) → wanted ≡ query → Remembers texts (matches_by query.mode query.text) seen memo → Remembers texts (matches_by wanted.mode wanted.text) seen memo
by_wanted texts wanted query seen memo same rem = subst (λ (w : Wanted). Remembers texts (matches_by w.mode w.text) seen memo) (sym same) rem

pub returns-then-not-has-clause-hit : goal.returns-then-not-has-clause-hit
returns-then-not-has-clause-hit c = λ seen rem. not_scoped c.args.query.now c.args.view.now c.args.walked seen c.args.scope.now c.requires.row c.requires.scope (sym c.has.ensures ∙ c.if-not-has.true)

pub returns-then-is_miss-clause-hit : goal.returns-then-is_miss-clause-hit
returns-then-is_miss-clause-hit c = λ seen rem. no_hit c.args.query.now c.args.view.now c.args.walked seen c.args.memo.now.items c.requires.row rem (c.is_miss.ensures c.if-is_miss.true)

pub text-command-requires : goal.text-command-requires
text-command-requires c = has_text c.args.view.now c.args.walked c.requires.row

no_command : (h : HistoryRecord) → None ≡ Some h → ⊥
no_command h e = cc

pub unreachable-requires : goal.unreachable-requires
unreachable-requires c =
    no_command (command_of c.args.view.now.texts c.args.walked.id c.requires.row.creation) (ap (option_map command_seen) (sym c.in-None.is) ∙ c.get.ensures ∙ row_shown c.args.view.now c.args.walked c.requires.row)

pub returns-then-not-matches-clause-hit : goal.returns-then-not-matches-clause-hit
returns-then-not-matches-clause-hit c = λ seen rem.
    let rem1 = by_wanted c.args.view.now.texts c.args.matching.now _ seen c.args.memo.now.items c.requires.matching rem in
    let h : HistoryRecord = command_of c.args.view.now.texts c.args.walked.id c.requires.row.creation in
    let shown = row_shown c.args.view.now c.args.walked c.requires.row in
    let text : c.text-command.result.now ≡ h.command = same_command c.args.view.now c.args.walked c.requires.row c.text-command.result.now c.text-command.ensures h shown in
    let is = c.matches.ensures.matches seen rem1 in
    let same = ap (λ (w : Wanted). matches_by w.mode w.text c.text-command.result.now && not (seen c.text-command.result.now)) c.requires.matching in
    no_match c.args.query.now c.args.view.now c.args.walked seen h shown (ap (λ (t : List ℕ). test_of c.args.query.now t && not (seen t)) (sym text) ∙ sym same ∙ sym is ∙ c.if-not-matches.true)

pub returns-then-not-matches-clause-memo : goal.returns-then-not-matches-clause-memo
returns-then-not-matches-clause-memo c = λ seen rem.
    let rem1 = by_wanted c.args.view.now.texts c.args.matching.now _ seen c.args.memo.now.items c.requires.matching rem in
    subst (λ (w : Wanted). Remembers c.args.view.now.texts (matches_by w.mode w.text) seen c.matches.new.memo.items) c.requires.matching (c.matches.ensures.memo seen rem1)

pub see-requires-clause-named : goal.see-requires-clause-named
see-requires-clause-named c = row_within c.args.view.now c.args.walked c.requires.row

pub returns-clause-hit : goal.returns-clause-hit
returns-clause-hit c = λ seen rem.
    let rem1 = by_wanted c.args.view.now.texts c.args.matching.now _ seen c.args.memo.now.items c.requires.matching rem in
    let shown = sym c.get.ensures ∙ ap (option_map command_seen) c.in-Some.is in
    let text : c.text-command.result.now ≡ c.in-Some.h.command.now = same_command c.args.view.now c.args.walked c.requires.row c.text-command.result.now c.text-command.ensures (command_seen c.in-Some.h) shown in
    let is = c.matches.ensures.matches seen rem1 in
    let same = ap (λ (w : Wanted). matches_by w.mode w.text c.text-command.result.now && not (seen c.text-command.result.now)) c.requires.matching in
    is_hit c.args.query.now c.args.view.now c.args.walked seen (command_seen c.in-Some.h) shown (sym (scope_of c.args.query.now c.args.view.now c.args.walked c.args.scope.now c.requires.row c.requires.scope (command_seen c.in-Some.h) shown) ∙ sym c.has.ensures ∙ c.if-not-has.false)
    (ap (λ (t : List ℕ). test_of c.args.query.now t && not (seen t)) (sym text) ∙ sym same ∙ sym is ∙ c.if-not-matches.false)

pub returns-clause-memo : goal.returns-clause-memo
returns-clause-memo c = λ seen rem.
    let rem1 = by_wanted c.args.view.now.texts c.args.matching.now _ seen c.args.memo.now.items c.requires.matching rem in
    let rem2 = subst (λ (w : Wanted). Remembers c.args.view.now.texts (matches_by w.mode w.text) seen c.matches.new.memo.items) c.requires.matching (c.matches.ensures.memo seen rem1) in
    let named = row_named c.args.view.now c.args.walked c.requires.row (command_seen c.in-Some.h) (sym c.get.ensures ∙ ap (option_map command_seen) c.in-Some.is) in
    c.see.ensures.memo seen (test_of c.args.query.now) c.in-Some.h.command.now named rem2

-- one command passes the filter where its text is tested
one_passes : (query : Query) (s : ViewState) (w : Walked) (scope : ScopeNumber) (row : IsRow s w) → Selects s.texts (scope_seen query.filter) scope → has_scope scope w.numbers ≡ true → passing query s (w ∷ []) ≡ 1
one_passes query s w scope row selects has =
    let h : HistoryRecord = command_of s.texts w.id row.creation in
    passing_one query s w h (row_shown s w row) (sym (scope_of query s w scope row selects h (row_shown s w row)) ∙ has)

pub returns-clause-steps : goal.returns-clause-steps
returns-clause-steps c =
    let one = one_passes c.args.query.now c.args.view.now c.args.walked c.args.scope.now c.requires.row c.requires.scope (sym c.has.ensures ∙ c.if-not-has.false) in
    let few = c.matches.ensures.steps in
    omega (arith, one, few)

pub returns-then-not-matches-clause-steps : goal.returns-then-not-matches-clause-steps
returns-then-not-matches-clause-steps c =
    let one = one_passes c.args.query.now c.args.view.now c.args.walked c.args.scope.now c.requires.row c.requires.scope (sym c.has.ensures ∙ c.if-not-has.false) in
    let few = c.matches.ensures.steps in
    omega (arith, one, few)
