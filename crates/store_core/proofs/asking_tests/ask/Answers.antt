use Rattle.std.proofs.Common.{List}
use Rattle.std.specs.Prelude.{◌≢◌, None}
use Rattle.definitions.specs.Uses.{Used}
use Rattle.record_rules.specs.Records.{Caller, Entry}
use Rattle.step_rules.specs.Calls.{Call}
use Rattle.step_rules.specs.Answers.{Reply}
use Rattle.record_model.specs.Seen.{caller_seen}
use Rattle.model_words.specs.Seen.{call_seen, reply_seen}
use Rattle.store_core.specs.Store.{StoreSeen, IsStoreOf}
use Rattle.store_core.specs.Calls.{Asks}
use Rattle.store_core.proofs.Turning.{some_key}
use Rattle.store_core.proofs.asking_tests.ask.Goals as goal

means_after : (old new : StoreSeen) (caller : Caller) (call : Call) (used : Used) (reply : Reply) → old.key ≢ None → (journal doubt : List Entry) → IsStoreOf old journal doubt → Asks old new caller call used reply
    → (journal : List Entry) × (doubt : List Entry) × IsStoreOf new journal doubt
means_after old new caller call used reply some journal doubt is asks =
    let key = some_key old.key some in
    let turn = asks key.0 journal doubt key.1 is in
    (turn.0, turn.1, turn.2)

pub returns-clause-means : goal.returns-clause-means
returns-clause-means c =
    means_after c.args.asked.now.store c.ask.new.self (caller_seen (record { number = 1; call = 1; settled_for = 0 })) (call_seen c.args.call.now) c.ask.ensures.asks.0 (reply_seen c.ask.result) c.requires.key c.requires.means.0
    c.requires.means.1 c.requires.means.2 c.ask.ensures.asks.2
