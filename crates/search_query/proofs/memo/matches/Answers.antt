use Rattle.std.proofs.Common.{Some, None, ◌∙◌, ap, arith}
use Rattle.std.proofs.lemmas.Option.{slice_get_within}
use Rattle.search_query.proofs.Memos.{read_at, not_known, remembers_more, and_unseen}
use Rattle.search_query.proofs.memo.matches.Goals as goal

pub returns-in-Some-clause-matches : goal.returns-in-Some-clause-matches
returns-in-Some-clause-matches c = λ seen rem.
    rem c.args.number (Some c.in-Some.known) c.args.command.now (read_at c.args.memo.now.items c.args.view.now.texts c.args.number c.args.command.now c.index.result.now c.requires.named c.requires.long c.index.ensures ∙ ap Some c.in-Some.is) c.requires.named

pub returns-in-None-clause-matches : goal.returns-in-None-clause-matches
returns-in-None-clause-matches c = λ seen rem.
    let none = rem c.args.number None c.args.command.now (read_at c.args.memo.now.items c.args.view.now.texts c.args.number c.args.command.now c.index.result.now c.requires.named c.requires.long c.index.ensures ∙ ap Some c.in-None.is) c.requires.named in
    c.matches-known.ensures ∙ and_unseen _ _ none

pub returns-in-None-clause-memo : goal.returns-in-None-clause-memo
returns-in-None-clause-memo c = λ seen rem.
    let none = rem c.args.number None c.args.command.now (read_at c.args.memo.now.items c.args.view.now.texts c.args.number c.args.command.now c.index.result.now c.requires.named c.requires.long c.index.ensures ∙ ap Some c.in-None.is) c.requires.named in
    remembers_more c.args.view.now.texts _ seen c.args.memo.now.items c.args.number c.args.command.now c.matches-known.result c.requires.named (c.matches-known.ensures ∙ and_unseen _ _ none) rem

pub returns-in-None-clause-known : goal.returns-in-None-clause-known
returns-in-None-clause-known c =
    not_known c.args.memo.now.items c.args.number (read_at c.args.memo.now.items c.args.view.now.texts c.args.number c.args.command.now c.index.result.now c.requires.named c.requires.long c.index.ensures ∙ ap Some c.in-None.is)

pub index_mut-requires : goal.index_mut-requires
index_mut-requires c =
    let within = slice_get_within c.args.view.now.texts c.args.number c.args.command.now c.requires.named in
    let long = c.requires.long in
    omega (arith, within, long)

pub matches-known-requires : goal.matches-known-requires
matches-known-requires c = c.folded_text.ensures c.args.command.now c.requires.named
