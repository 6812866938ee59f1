use Rattle.std.proofs.Common.{List, ℕ, Some, refl, ap, ◌∙◌}
use Rattle.std.proofs.lemmas.Result.{err_from_is_err_and}
use Rattle.at_edge.specs.Coming.{padded}
use Rattle.at_edge.specs.Drawing.{EntropySeen}
use Rattle.model_words.specs.Seen.{call_seen, reply_seen, result_seen}
use Rattle.world_nodes.specs.Random.{state_after}
use Rattle.world_nodes.proofs.Called.{answers_so, fails_so}
use Rattle.world_nodes.proofs.node.Node.append.Goals as goal

pub returns-in_err-answer : goal.returns-in_err-answer
returns-in_err-answer c =
    let p = err_from_is_err_and c.from_residual.result c.from_residual.ensures.1 in
    rw (p.1, p.2)
    (fails_so c.args.self.now c.self.inside.store c.ask-reply.new.self c.self.inside.key c.self.inside.random c.args.readings _ _ (call_seen c.args.call.now) (reply_seen c.ask-reply.result) c.self.view_is c.self.invariant c.requires.ready c.ask-reply.ensures.told c.ask-reply.ensures.host
    (ap (λ (e : EntropySeen). e.coming) c.new-random.ensures ∙ ap (λ (bs : List ℕ). Some (padded bs)) c.in-Ok.ensures) refl c.ask-reply.result.result c.in_err-answer.field-0.0 refl c.in_err-answer.ensures)

pub returns : goal.returns
returns c =
    answers_so c.args.self.now c.self.inside.store c.ask-reply.new.self c.self.inside.key c.self.inside.random c.args.readings _ _ (call_seen c.args.call.now) (reply_seen c.ask-reply.result) c.self.view_is c.self.invariant c.requires.ready c.ask-reply.ensures.told c.ask-reply.ensures.host
    (ap (λ (e : EntropySeen). e.coming) c.new-random.ensures ∙ ap (λ (bs : List ℕ). Some (padded bs)) c.in-Ok.ensures) refl c.in_ok-answer.answer c.state_after-self-inside.result (ap result_seen c.in_ok-answer.ensures) (c.state_after-self-inside.ensures ∙ ap (λ (n : ℕ). state_after c.self.inside.random n) c.words_of.ensures)
