-- What one entry more makes of what is kept.
use Rattle.std.proofs.Common.{◌≡◌, ◌≢◌, ℕ, Bool, true, false, not, cond, List, [], ◌∷◌, ◌++◌, filter, Option, Some, None, refl, sym, ap, ◌∙◌}
use Rattle.std.specs.Prelude.{◌||◌, ◌==◌, nat_eq, find}
use Rattle.std.proofs.lemmas.Bool.{eqb-true, eq-eqb, true≢false}
use Rattle.std.specs.Option.{option_or}
use Rattle.std.proofs.lemmas.List.Folds.{list_any-append, find-append}
use Rattle.record_rules.proofs.Options.{option_or-None}
use Rattle.definitions.specs.Journal.{StartedRecord}
use Rattle.record_rules.specs.Records.{SealedRecord, Entry, Event, Taken, Local}
use Rattle.record_rules.specs.Records as kept
use Rattle.record_rules.specs.Journal.{events_of, running}
use Rattle.record_rules.specs.OneMore.{running_with}
use Rattle.record_rules.proofs.OneMore.{running_with_one}
use Rattle.record_rules.proofs.Soundness.{events_more}
use Rattle.step_rules.specs.Step.{starts_id, running_under}
use Rattle.record_model.specs.declared.begun.Started.{Started}
use Rattle.record_model.specs.Seen.{started_seen}
use Rattle.started_commands.specs.declared.commands.Standing.{Standing}
use Rattle.started_commands.specs.declared.commands.Standing.TheVariants.{Expected, Running, Ended}
use Rattle.started_commands.specs.Kept.{Kept, standing_in, is_command, is_known, command_of, running_in, was_started, IsOf, TakenChangesNothing}

-- ---- the words of one entry more

known_one : (journal : List Entry) (entry : Entry) (event : Event) (q : ℕ) → entry.event ≡ event → was_started q (events_of (journal ++ entry ∷ [])) ≡ (was_started q (events_of journal) || (starts_id q event || false))
known_one journal entry event q says = ap (was_started q) (events_more journal entry) ∙ list_any-append (starts_id q) (events_of journal) (entry.event ∷ []) ∙ ap (λ (e : Event). was_started q (events_of journal) || (starts_id q e || false)) says

running_one : (journal : List Entry) (entry : Entry) (event : Event) (q : ℕ) → entry.event ≡ event → running_under q (journal ++ entry ∷ []) ≡ find (λ (s : StartedRecord). s.id == q) (running_with (running journal) event)
running_one journal entry event q says = ap (find (λ (s : StartedRecord). s.id == q)) (running_with_one journal entry ∙ ap (running_with (running journal)) says)

or_nothing : (b : Bool) → b ≡ (b || (false || false))
or_nothing true = refl
or_nothing false = refl

pub same_entry : (keeps : Kept) (journal : List Entry) (entry : Entry) (event : Event) → entry.event ≡ event → ((q : ℕ) → starts_id q event ≡ false) → running_with (running journal) event ≡ running journal → IsOf keeps journal → IsOf keeps (journal ++ entry ∷ [])
same_entry keeps journal entry event says starts runs is = record {
  known = λ q. is.known q ∙ or_nothing (was_started q (events_of journal)) ∙ ap (λ (b : Bool). was_started q (events_of journal) || (b || false)) (sym (starts q)) ∙ sym (known_one journal entry event q says);
  running = λ q. is.running q ∙ ap (find (λ (s : StartedRecord). s.id == q)) (sym runs) ∙ sym (running_one journal entry event q says);
}

pub taken_changes_nothing : TakenChangesNothing
taken_changes_nothing keeps journal entry owner r is says = same_entry keeps journal entry (Taken owner r) says (λ q. refl) refl is

-- ---- a start

known_started : (same : Bool) (s : Started) (o : Option Standing) → is_command (cond same (Some (Running s)) o) ≡ (is_command o || (same || false))
known_started true s o = by (is_command o)
  where
    by : (b : Bool) → true ≡ (b || true)
    by true = refl
    by false = refl
known_started false s o = or_nothing (is_command o)

unknown_rests : (o : Option Standing) → is_command o ≡ false → command_of o ≡ None
unknown_rests None e = refl
unknown_rests (Some Expected) e = refl
unknown_rests (Some (Running s)) e = absurd (true≢false e)
unknown_rests (Some Ended) e = refl

find_last : (p : StartedRecord → Bool) (ss : List StartedRecord) (s : StartedRecord) (o : Option StartedRecord) → find p ss ≡ o → (p s ≡ true → o ≡ None) → find p (ss ++ s ∷ []) ≡ cond (p s) (Some s) o
find_last p ss s o is none = find-append p ss (s ∷ []) ∙ ap (λ (x : Option StartedRecord). option_or x (cond (p s) (Some s) None)) is ∙ by (p s) none
  where
    by : (b : Bool) → (b ≡ true → o ≡ None) → option_or o (cond b (Some s) None) ≡ cond b (Some s) o
    by true none = ap (λ (x : Option StartedRecord). option_or x (Some s)) (none refl)
    by false none = option_or-None o

command_put : (same : Bool) (s : Started) (o : Option Standing) → command_of (cond same (Some (Running s)) o) ≡ cond same (Some (started_seen s)) (command_of o)
command_put true s o = refl
command_put false s o = refl

pub start_entry : (old new : Kept) (journal : List Entry) (entry : Entry) (s : Started) → IsOf old journal → entry.event ≡ kept.Started (started_seen s) → is_known old s.id ≡ false
    → ((q : ℕ) → standing_in new q ≡ cond (nat_eq s.id q) (Some (Running s)) (standing_in old q)) → IsOf new (journal ++ entry ∷ [])
start_entry old new journal entry s is says unknown stands = record {
  known = λ q. ap is_command (stands q) ∙ known_started (nat_eq s.id q) s (standing_in old q) ∙ ap (λ (b : Bool). b || (nat_eq s.id q || false)) (is.known q) ∙ sym (known_one journal entry (kept.Started (started_seen s)) q says);
  running = λ q. ap command_of (stands q) ∙ command_put (nat_eq s.id q) s (standing_in old q)
      ∙ sym (running_one journal entry (kept.Started (started_seen s)) q says
      ∙ find_last (λ (x : StartedRecord). x.id == q) (running journal) (started_seen s) (running_in old q) (sym (is.running q)) (λ e. unknown_rests (standing_in old q) (ap (is_known old) (sym (eqb-true s.id q e)) ∙ unknown)));
}

-- ---- an end

find_others : (id q : ℕ) (ss : List StartedRecord) → cond (nat_eq id q) None (find (λ (s : StartedRecord). s.id == q) ss) ≡ find (λ (s : StartedRecord). s.id == q) (filter (λ (s : StartedRecord). not (id == s.id)) ss)
find_others id q [] = by (nat_eq id q) None
  where
    by : (b : Bool) (o : Option StartedRecord) → cond b o o ≡ o
    by true o = refl
    by false o = refl
find_others id q (s ∷ ss) = by (id == s.id) (s.id == q) (nat_eq id q) refl refl refl (find_others id q ss)
  where
    by : (a b c : Bool) → (id == s.id) ≡ a → (s.id == q) ≡ b → nat_eq id q ≡ c → cond (nat_eq id q) None (find (λ (s : StartedRecord). s.id == q) ss) ≡ find (λ (s : StartedRecord). s.id == q) (filter (λ (s : StartedRecord). not (id == s.id)) ss)
        → cond (nat_eq id q) None (cond (s.id == q) (Some s) (find (λ (s : StartedRecord). s.id == q) ss))
        ≡ find (λ (s : StartedRecord). s.id == q) (cond (not a) (s ∷ filter (λ (s : StartedRecord). not (id == s.id)) ss) (filter (λ (s : StartedRecord). not (id == s.id)) ss))
    by true true true p r t more = ap (λ (x : Bool). cond x None (cond (s.id == q) (Some s) (find (λ (s : StartedRecord). s.id == q) ss))) t ∙ ap (λ (x : Bool). cond x None (find (λ (s : StartedRecord). s.id == q) ss)) (sym t) ∙ more
    by true true false p r t more = absurd (true≢false (sym (eq-eqb id q (eqb-true id s.id p ∙ eqb-true s.id q r)) ∙ t))
    by true false c p r t more = ap (λ (x : Bool). cond (nat_eq id q) None (cond x (Some s) (find (λ (s : StartedRecord). s.id == q) ss))) r ∙ more
    by false true true p r t more = absurd (true≢false (sym (eq-eqb id s.id (eqb-true id q t ∙ sym (eqb-true s.id q r))) ∙ p))
    by false true false p r t more =
        ap (λ (x : Bool). cond x None (cond (s.id == q) (Some s) (find (λ (s : StartedRecord). s.id == q) ss))) t
        ∙ ap (λ (x : Bool). cond x (Some s) (find (λ (s : StartedRecord). s.id == q) ss)) r
        ∙ sym (ap (λ (x : Bool). cond x (Some s) (find (λ (s : StartedRecord). s.id == q) (filter (λ (s : StartedRecord). not (id == s.id)) ss))) r)
    by false false c p r t more =
        ap (λ (x : Bool). cond (nat_eq id q) None (cond x (Some s) (find (λ (s : StartedRecord). s.id == q) ss))) r ∙ more
        ∙ sym (ap (λ (x : Bool). cond x (Some s) (find (λ (s : StartedRecord). s.id == q) (filter (λ (s : StartedRecord). not (id == s.id)) ss))) r)

pub end_entry : (old new : Kept) (journal : List Entry) (entry : Entry) (id : ℕ) (r : SealedRecord) → IsOf old journal → entry.event ≡ Local (Some id) r
    → ((q : ℕ) → is_known new q ≡ is_known old q) → ((q : ℕ) → running_in new q ≡ cond (nat_eq id q) None (running_in old q)) → IsOf new (journal ++ entry ∷ [])
end_entry old new journal entry id r is says known runs = record {
  known = λ q. known q ∙ is.known q ∙ or_nothing (was_started q (events_of journal)) ∙ sym (known_one journal entry (Local (Some id) r) q says);
  running = λ q. runs q ∙ ap (cond (nat_eq id q) None) (is.running q) ∙ find_others id q (running journal) ∙ sym (running_one journal entry (Local (Some id) r) q says);
}

-- ---- one id that ends

pub known_ended : (id q : ℕ) (o : ℕ → Option Standing) (new : Option Standing) → command_of (o id) ≢ None → new ≡ cond (nat_eq id q) (Some Ended) (o q) → is_command new ≡ is_command (o q)
known_ended id q o new some is = ap is_command is ∙ by (nat_eq id q) refl
  where
    by : (t : Bool) → nat_eq id q ≡ t → is_command (cond t (Some Ended) (o q)) ≡ is_command (o q)
    by true t = sym (runs (o q) (λ e. some (ap (λ (n : ℕ). command_of (o n)) (eqb-true id q t) ∙ e)))
      where
        runs : (x : Option Standing) → command_of x ≢ None → is_command x ≡ true
        runs None e = absurd (e refl)
        runs (Some Expected) e = absurd (e refl)
        runs (Some (Running s)) e = refl
        runs (Some Ended) e = absurd (e refl)
    by false t = refl

pub running_ended : (id q : ℕ) (o : Option Standing) (new : Option Standing) → new ≡ cond (nat_eq id q) (Some Ended) o → command_of new ≡ cond (nat_eq id q) None (command_of o)
running_ended id q o new is = ap command_of is ∙ by (nat_eq id q)
  where
    by : (t : Bool) → command_of (cond t (Some Ended) o) ≡ cond t None (command_of o)
    by true = refl
    by false = refl

pub not_running : (id q : ℕ) (o : ℕ → Option Standing) → command_of (o id) ≡ None → command_of (o q) ≡ cond (nat_eq id q) None (command_of (o q))
not_running id q o none = by (nat_eq id q) refl
  where
    by : (t : Bool) → nat_eq id q ≡ t → command_of (o q) ≡ cond t None (command_of (o q))
    by true t = ap (λ (n : ℕ). command_of (o n)) (sym (eqb-true id q t)) ∙ none
    by false t = refl
