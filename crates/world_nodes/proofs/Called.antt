-- What a call that was told of a node's store is of the node.
use Rattle.std.proofs.Common.{◌≡◌, ℕ, ◌<◌, ◌^◌, ◌+◌, ◌*◌, List, [], Option, Result, Err, Some, refl, sym, ap, ◌∙◌, subst}
use Rattle.record_rules.specs.Records.{Entry}
use Rattle.record_rules.specs.Journal.{events_of}
use Rattle.log_rules.specs.Opened.{opened_journal}
use Rattle.std.specs.Option.{unwrap_or}
use Rattle.definitions.specs.Uses.{Used}
use Rattle.step_rules.specs.Calls.{Call}
use Rattle.step_rules.specs.Answers.{Refusal, Answer, refused, Reply}
use Rattle.step_rules.specs.Store.{KeyedStore}
use Rattle.step_rules.specs.Sealing.{keyed_store}
use Rattle.step_rules.specs.Step.{Step}
use Rattle.record_seal.proofs.StoreSealing.{record_sealing}
use Rattle.at_edge.specs.Coming.{padded}
use Rattle.at_edge.specs.MemoryForms.{readings_from}
use Rattle.call_supplies.specs.Supplies.{Supplies}
use Rattle.told_store.specs.Told.{ToldSeen, CallTold, keyed_by}
use Rattle.rehearsal_rules.specs.Words.{words_for}
use Rattle.rehearsal_rules.specs.Moments.{reading_at}
use Rattle.world_nodes.specs.Random.{state_after, word_bytes, readings_of, bytes_of, used_from}
use Rattle.world_nodes.specs.Nodes.{NodeSeen, node_of, LeavesJournal, IsReady, store_at}
use Rattle.world_nodes.specs.Events.{AnswersCall, RefusesCall, Grants, Appends}
use Rattle.world_nodes.proofs.WordBytes.{below_modulus}
use Rattle.world_nodes.proofs.Left.{turn_leaves_journal}
use Rattle.store_core.specs.Opening.{nobody}
use Rattle.record_model.specs.declared.replying.Answer as model
use Rattle.record_model.specs.declared.replying.Refusal as model_refusal
use Rattle.model_words.specs.Seen.{answer_seen, refusal_seen, result_seen}
use Rattle.world_nodes.specs.declared.fails.CallFail.{CallFail}
use Rattle.world_nodes.specs.declared.fails.CallFail.TheVariants as calls
use Rattle.world_nodes.specs.Faults.{IsOfStep}
use Rattle.world_nodes.proofs.Steps.{Stepped, answers_step, UsedAsAnswered, step_uses, refused_stays, entry_is_nobodys, refusal_of_step, given_is_granted, granted_of_step}

-- what its host and key seal and open
keyed_at : (was : ToldSeen) (key : List ℕ) (random : ℕ) → was.store.key ≡ Some key → keyed_by was.store ≡ store_at (node_of was key random)
keyed_at was key random is = ap (λ (seen : Option (List ℕ)). keyed_store record_sealing was.store.log.host (unwrap_or seen [])) is

module _ (was new : ToldSeen) (key : List ℕ) (random first : ℕ) (before after : Supplies) (call : Call) (reply : Reply) (keyed : was.store.key ≡ Some key) (ready : IsReady (node_of was key random))
    (told : CallTold was.store was.note new.store new.note before after nobody call reply) (host : new.store.log.host ≡ was.store.log.host) (rand_is : before.rand.coming ≡ Some (padded (word_bytes random 14)))
    (clock_is : before.clock.coming ≡ Some (readings_from 1000000 (reading_at first))) (of_step : IsOfStep reply.answer) where
  here : Stepped (store_at (node_of was key random)) was.note.state.entries nobody call told.used new.note.state.entries new.note.state.doubt reply.answer
  here =
      subst (λ (s : KeyedStore). Stepped s was.note.state.entries nobody call told.used new.note.state.entries new.note.state.doubt reply.answer) (keyed_at was key random keyed)
      (answers_step (keyed_by was.store) was.note.state.entries was.note.state.doubt nobody call told.used new.note.state.entries new.note.state.doubt reply.answer ready.settled of_step told.turn.answers)

  used_here : UsedAsAnswered first random told.used reply.answer
  used_here = step_uses first random before after rand_is clock_is (store_at (node_of was key random)) was.note.state.entries nobody call told.used new.note.state.entries reply.answer here.stepped told.uses

  stepped_with : (readings bytes : ℕ) → readings ≡ used_here.readings → bytes ≡ used_here.bytes → Step (store_at (node_of was key random)) was.note.state.entries nobody call (used_from first random readings bytes) new.note.state.entries reply.answer
  stepped_with readings bytes same_readings same_bytes =
      subst (λ (u : Used). Step (store_at (node_of was key random)) was.note.state.entries nobody call u new.note.state.entries reply.answer) (used_here.used_is ∙ (λ i. used_from first random (sym same_readings i) (sym same_bytes i))) here.stepped

  leaves_now : LeavesJournal new.store.log.host new.note.state.entries new.store.log.disk.history
  leaves_now =
      subst (λ (h : ℕ). LeavesJournal h new.note.state.entries new.store.log.disk.history) (sym host)
      (turn_leaves_journal was.store.log.host was.note.state new.note.state was.note.state.entries was.store.log.disk.history new.store.log.disk.history ready.leaves here.none told.leaves)

  pub call_refused : (refusal : Refusal) → reply.answer ≡ refused refusal → RefusesCall (node_of was key random) (node_of new key random) call first refusal
  call_refused refusal is =
      let step = subst (Step (store_at (node_of was key random)) was.note.state.entries nobody call (used_from first random used_here.readings used_here.bytes) new.note.state.entries) is (stepped_with used_here.readings used_here.bytes refl refl) in
      let stays : new.note.state.entries ≡ was.note.state.entries = refused_stays (store_at (node_of was key random)) was.note.state.entries nobody call (used_from first random used_here.readings used_here.bytes) new.note.state.entries refusal step in
      record {
        readings = used_here.readings;
        bytes = used_here.bytes;
        stepped = subst (λ (j : List Entry). Step (store_at (node_of was key random)) was.note.state.entries nobody call (used_from first random used_here.readings used_here.bytes) j (refused refusal)) stays step;
        stays = record {
          ready = record {
            settled = here.none;
            nobodys = subst (λ (j : List Entry). opened_journal (events_of j) ≡ j) (sym stays) ready.nobodys;
            leaves = leaves_now;
            random_fits = ready.random_fits;
          };
          host_is = host;
          key_is = refl;
          journal_is = stays;
          random_is = refl;
        };
      }

  pub call_answered : (now : ℕ) → ((refusal : Refusal) → reply.answer ≡ refused refusal → ⊥) → now ≡ state_after random (words_for (bytes_of reply.answer)) → AnswersCall (node_of was key random) (node_of new key now) call first reply.answer
  call_answered now granted random_is = record {
    stepped = stepped_with (readings_of reply.answer) (bytes_of reply.answer) (sym (used_here.by_answer granted).0) (sym (used_here.by_answer granted).1);
    becomes = record {
      ready = record {
        settled = here.none;
        nobodys = entry_is_nobodys (store_at (node_of was key random)) was.note.state.entries call told.used new.note.state.entries reply.answer here.stepped ready.nobodys;
        leaves = leaves_now;
        random_fits = subst (λ (n : ℕ). n < 2 ^ 64) (sym random_is) (below_modulus (random + words_for (bytes_of reply.answer) * 0x9e3779b97f4a7c15));
      };
      host_is = host;
      key_is = refl;
      journal_is = refl;
      random_is = random_is;
    };
    granted = granted;
  }

-- ---- what the call of a node answers

module _ (old : NodeSeen) (was new : ToldSeen) (key : List ℕ) (random first : ℕ) (before after : Supplies) (call : Call) (reply : Reply) (view : node_of was key random ≡ old) (keyed : was.store.key ≡ Some key) (ready : IsReady old)
    (told : CallTold was.store was.note new.store new.note before after nobody call reply) (host : new.store.log.host ≡ was.store.log.host) (rand_is : before.rand.coming ≡ Some (padded (word_bytes random 14)))
    (clock_is : before.clock.coming ≡ Some (readings_from 1000000 (reading_at first))) where
  pub answers_so : (answer : model.Answer) (now : ℕ) → reply.answer ≡ answer_seen answer → now ≡ state_after random (words_for (bytes_of (answer_seen answer))) → AnswersCall old (node_of new key now) call first (answer_seen answer)
  answers_so answer now is random_is =
      let granted : (refusal : Refusal) → reply.answer ≡ refused refusal → ⊥ = λ refusal e. given_is_granted answer refusal (sym is ∙ e) in
      subst (λ (a : Answer). AnswersCall old (node_of new key now) call first a) is (subst (λ (n : NodeSeen). AnswersCall n (node_of new key now) call first reply.answer) view
      (call_answered was new key random first before after call reply keyed (subst IsReady (sym view) ready) told host rand_is clock_is (granted_of_step reply.answer granted) now granted (random_is ∙ ap (λ (a : Answer). state_after random (words_for (bytes_of a))) (sym is))))

  pub fails_so : (asked : Result model.Answer model_refusal.Refusal) (fail : CallFail) → reply.answer ≡ result_seen asked → Grants asked (Err fail) → Appends old (node_of new key random) call first (Err fail)
  fails_so asked (calls.Refused refusal) is (asked_is, none) =
      let refuses : reply.answer ≡ refused (refusal_seen refusal) = is ∙ ap result_seen asked_is in
      subst (λ (n : NodeSeen). RefusesCall n (node_of new key random) call first (refusal_seen refusal)) view
      (call_refused was new key random first before after call reply keyed (subst IsReady (sym view) ready) told host rand_is clock_is (subst IsOfStep (sym refuses) (refusal_of_step (refusal_seen refusal) none)) (refusal_seen refusal) refuses)
  fails_so asked calls.NoMemory is grants = tt
