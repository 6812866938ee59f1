-- What each image of an append stands for.
use Rattle.std.proofs.Common.{◌≡◌, ℕ, inl, inr, List, [], ◌∷◌, ◌++◌, length, refl, sym, ◌∙◌, ap, subst, arith, append_assoc}
use Rattle.std.specs.List.{AllByRecursion}
use Rattle.record_rules.specs.Records.{Entry}
use Rattle.record_rules.specs.Journal.{events_of, Sound}
use Rattle.record_rules.proofs.Prefixes.{Sound-prefix}
use Rattle.log_rules.specs.Body.{IsBatch}
use Rattle.log_rules.specs.Log.{Form, payload_bytes, IsLogPrefix, StandsFor}
use Rattle.log_rules.proofs.Logs.{open_gate_is_prefix, open_gate_adds}
use Rattle.disk_rules.specs.Disk.{Disk, Leaves, IsDisk, Since}
use Rattle.disk_rules.specs.Calls.{Reaches, AllDone}
use Rattle.disk_rules.specs.Append.{append_calls, settle_calls, stage_calls, FailsAtGate, IsAsBefore, IsWithBatch}
use Rattle.disk_rules.proofs.Moments.{since_now, since_parts}
use Rattle.disk_rules.proofs.Calls.{shows_is_left}
use Rattle.disk_rules.proofs.Append.{append_is_kept}
use Rattle.disk_rules.proofs.Settle.{doubt_stays, settle_is_all_or_nothing, settle_is_kept}
use Rattle.disk_rules.proofs.Settled.{rest_is_settled, staging_stays_settled, staged_doubt, append_is_all_or_nothing, append_ends_settled, settle_ends_settled}
use Rattle.crash_rules.specs.Laws.{HoldsLog, MayAppend, MaySettle, IsBeforeOrAfter}

pub stands_before : (form : Form) (prefix left : List ℕ) (host : ℕ) (journal : List Entry) → IsLogPrefix form prefix host (events_of journal) → Sound journal host → IsAsBefore prefix left → StandsFor form left host journal
stands_before form prefix left host journal opened sound begins = record { prefix = prefix; behind = begins.0; opened = opened; bytes_are = begins.1 ∙ append_assoc prefix (0 ∷ []) begins.0; sound = sound }

pub stands_after : (form : Form) (prefix left : List ℕ) (host : ℕ) (journal more : List Entry) → IsLogPrefix form prefix host (events_of journal) → IsBatch (events_of more) → Sound (journal ++ more) host → IsWithBatch prefix (payload_bytes form (length prefix) (events_of more)) left → StandsFor form left host (journal ++ more)
stands_after form prefix left host journal more opened batch sound with_batch =
    let gate = with_batch.0 in
    let behind = with_batch.2.0 in
    let payload = payload_bytes form (length prefix) (events_of more) in
    let one : left ≡ prefix ++ (gate ∷ (payload ++ 0 ∷ behind)) = with_batch.2.1 ∙ append_assoc prefix (gate ∷ (payload ++ 0 ∷ [])) behind ∙ ap (λ (l : List ℕ). prefix ++ gate ∷ l) (append_assoc payload (0 ∷ []) behind) in
    let two : (prefix ++ gate ∷ payload) ++ 0 ∷ behind ≡ prefix ++ (gate ∷ (payload ++ 0 ∷ behind)) = append_assoc prefix (gate ∷ payload) (0 ∷ behind) in
    subst (λ (l : List ℕ). StandsFor form l host (journal ++ more)) (two ∙ sym one) (open_gate_adds form prefix behind host gate journal more opened batch sound with_batch.1)

-- ---- a log that isn't in doubt

pub held_log_stands : (form : Form) (prefix : List ℕ) (host : ℕ) (journal : List Entry) (disk : Disk) (left : List ℕ) → HoldsLog form prefix host journal disk → Leaves disk left → StandsFor form left host journal
held_log_stands form prefix host journal disk left log is_left = stands_before form prefix left host journal log.opened log.sound (log.settled.images left is_left)

all_held : (form : Form) (prefix : List ℕ) (host : ℕ) (journal : List Entry) (moments : List Disk) (left : List ℕ) → AllByRecursion (HoldsLog form prefix host journal) moments → Since 0 moments left → StandsFor form left host journal
all_held form prefix host journal [] left held since = absurd since
all_held form prefix host journal (now ∷ before) left held (inl here) = held_log_stands form prefix host journal now left held.0 here.1
all_held form prefix host journal (now ∷ before) left held (inr earlier) = all_held form prefix host journal before left held.1 earlier

pub since_held_log_stands : (form : Form) (prefix : List ℕ) (host : ℕ) (journal : List Entry) (old : Disk) (moments before : List Disk) (left : List ℕ) → HoldsLog form prefix host journal old → AllByRecursion (HoldsLog form prefix host journal) moments
    → Since (length before) (moments ++ old ∷ before) left → StandsFor form left host journal
since_held_log_stands form prefix host journal old moments before left log held since =
    elim (since_parts (length before) moments (old ∷ before) left since) [
      | inl later ↦ all_held form prefix host journal moments left held later
      | inr at_start ↦ held_log_stands form prefix host journal old left log ((since_now old before left).0 at_start.1)
    ]

pub rest_holds_log : (form : Form) (host : ℕ) (journal : List Entry) (disk : Disk) → IsDisk disk → disk.written ≡ [] → (stands : StandsFor form disk.shows host journal) → HoldsLog form stands.prefix host journal disk
rest_holds_log form host journal disk is none stands = record { settled = rest_is_settled stands.prefix stands.behind disk is none stands.bytes_are; opened = stands.opened; sound = stands.sound }

-- ---- an append

pub one_of_two : (form : Form) (prefix : List ℕ) (host : ℕ) (journal more : List Entry) (old now : Disk) (left : List ℕ) → MayAppend form prefix host journal more old
    → Reaches (append_calls (length prefix) (payload_bytes form (length prefix) (events_of more))) old now → Leaves now left → IsBeforeOrAfter form host journal more left
one_of_two form prefix host journal more old now left may reaches is_left =
    elim (append_is_all_or_nothing prefix (payload_bytes form (length prefix) (events_of more)) old now left may.log.settled reaches is_left) [
      | inl before ↦ inl (stands_before form prefix left host journal may.log.opened may.log.sound before)
      | inr after ↦ inr (stands_after form prefix left host journal more may.log.opened may.batch may.sound after)
    ]

moments_one_of_two : (form : Form) (prefix : List ℕ) (host : ℕ) (journal more : List Entry) (old : Disk) (moments : List Disk) (left : List ℕ) → MayAppend form prefix host journal more old
    → AllByRecursion (Reaches (append_calls (length prefix) (payload_bytes form (length prefix) (events_of more))) old) moments → Since 0 moments left → IsBeforeOrAfter form host journal more left
moments_one_of_two form prefix host journal more old [] left may reached since = absurd since
moments_one_of_two form prefix host journal more old (now ∷ before) left may reached (inl here) = one_of_two form prefix host journal more old now left may reached.0 here.1
moments_one_of_two form prefix host journal more old (now ∷ before) left may reached (inr earlier) = moments_one_of_two form prefix host journal more old before left may reached.1 earlier

pub since_one_of_two : (form : Form) (prefix : List ℕ) (host : ℕ) (journal more : List Entry) (old : Disk) (moments before : List Disk) (left : List ℕ) → MayAppend form prefix host journal more old
    → AllByRecursion (Reaches (append_calls (length prefix) (payload_bytes form (length prefix) (events_of more))) old) moments → Since (length before) (moments ++ old ∷ before) left → IsBeforeOrAfter form host journal more left
since_one_of_two form prefix host journal more old moments before left may reached since =
    elim (since_parts (length before) moments (old ∷ before) left since) [
      | inl later ↦ moments_one_of_two form prefix host journal more old moments left may reached later
      | inr at_start ↦ inl (held_log_stands form prefix host journal old left may.log ((since_now old before left).0 at_start.1))
    ]

pub since_failures_one_of_two : (form : Form) (prefix : List ℕ) (host : ℕ) (journal more : List Entry) (first old : Disk) (moments failures before : List Disk) (left : List ℕ) → HoldsLog form prefix host journal first → AllByRecursion (HoldsLog form prefix host journal) failures
    → MayAppend form prefix host journal more old → AllByRecursion (Reaches (append_calls (length prefix) (payload_bytes form (length prefix) (events_of more))) old) moments
    → Since (length before) (moments ++ (failures ++ first ∷ before)) left → IsBeforeOrAfter form host journal more left
since_failures_one_of_two form prefix host journal more first old moments failures before left log held may reached since =
    elim (since_parts (length before) moments (failures ++ first ∷ before) left since) [
      | inl later ↦ moments_one_of_two form prefix host journal more old moments left may reached later
      | inr earlier ↦ inl (since_held_log_stands form prefix host journal first failures before left log held earlier.1)
    ]

pub staging_holds_log : (form : Form) (prefix : List ℕ) (host : ℕ) (journal : List Entry) (payload : List ℕ) (old now : Disk) → HoldsLog form prefix host journal old → Reaches (stage_calls (length prefix) payload) old now → HoldsLog form prefix host journal now
staging_holds_log form prefix host journal payload old now log reaches = record { settled = staging_stays_settled prefix payload old now log.settled reaches; opened = log.opened; sound = log.sound }

pub append_stands : (form : Form) (prefix : List ℕ) (host : ℕ) (journal more : List Entry) (old new : Disk) (left : List ℕ) → MayAppend form prefix host journal more old
    → AllDone (append_calls (length prefix) (payload_bytes form (length prefix) (events_of more))) old new → Leaves new left → StandsFor form left host (journal ++ more)
append_stands form prefix host journal more old new left may done is_left =
    let settled = may.log.settled in
    let shown = settled.images old.shows (shows_is_left old settled.is_disk) in
    let kept = append_is_kept prefix shown.0 (payload_bytes form (length prefix) (events_of more)) old new left (shown.1 ∙ append_assoc prefix (0 ∷ []) shown.0) done is_left in
    stands_after form prefix left host journal more may.log.opened may.batch may.sound kept

pub append_holds_log : (form : Form) (prefix : List ℕ) (host : ℕ) (journal more : List Entry) (old new : Disk) → MayAppend form prefix host journal more old
    → AllDone (append_calls (length prefix) (payload_bytes form (length prefix) (events_of more))) old new → (new.written ≡ []) × HoldsLog form (prefix ++ 1 ∷ payload_bytes form (length prefix) (events_of more)) host (journal ++ more) new
append_holds_log form prefix host journal more old new may done =
    let ended = append_ends_settled prefix (payload_bytes form (length prefix) (events_of more)) old new may.log.settled done in
    (ended.0, record { settled = ended.1; opened = open_gate_is_prefix form prefix host 1 journal more may.log.opened may.batch (λ e. absurd (omega arith)); sound = may.sound })

-- ---- a batch in doubt

pub stopped_may_settle : (form : Form) (prefix : List ℕ) (host : ℕ) (journal more : List Entry) (old staged now : Disk) → MayAppend form prefix host journal more old
    → AllDone (stage_calls (length prefix) (payload_bytes form (length prefix) (events_of more))) old staged → FailsAtGate (length prefix) staged now → MaySettle form prefix host journal more now
stopped_may_settle form prefix host journal more old staged now may done stops =
    let doubt = staged_doubt prefix (payload_bytes form (length prefix) (events_of more)) old staged may.log.settled done in
    record { doubt = doubt_stays prefix (payload_bytes form (length prefix) (events_of more)) staged now doubt stops; opened = may.log.opened; batch = may.batch; sound = may.sound }

pub may_settle_again : (form : Form) (prefix : List ℕ) (host : ℕ) (journal more : List Entry) (old now : Disk) → MaySettle form prefix host journal more old → FailsAtGate (length prefix) old now → MaySettle form prefix host journal more now
may_settle_again form prefix host journal more old now may stops = record { doubt = doubt_stays prefix (payload_bytes form (length prefix) (events_of more)) old now may.doubt stops; opened = may.opened; batch = may.batch; sound = may.sound }

pub settling_one_of_two : (form : Form) (prefix : List ℕ) (host : ℕ) (journal more : List Entry) (old now : Disk) (left : List ℕ) → MaySettle form prefix host journal more old
    → Reaches (settle_calls (length prefix)) old now → Leaves now left → IsBeforeOrAfter form host journal more left
settling_one_of_two form prefix host journal more old now left may reaches is_left =
    elim (settle_is_all_or_nothing prefix (payload_bytes form (length prefix) (events_of more)) old now left may.doubt reaches is_left) [
      | inl before ↦ inl (stands_before form prefix left host journal may.opened (Sound-prefix journal more host may.sound) before)
      | inr after ↦ inr (stands_after form prefix left host journal more may.opened may.batch may.sound after)
    ]

settling_moments : (form : Form) (prefix : List ℕ) (host : ℕ) (journal more : List Entry) (old : Disk) (moments : List Disk) (left : List ℕ) → MaySettle form prefix host journal more old
    → AllByRecursion (Reaches (settle_calls (length prefix)) old) moments → Since 0 moments left → IsBeforeOrAfter form host journal more left
settling_moments form prefix host journal more old [] left may reached since = absurd since
settling_moments form prefix host journal more old (now ∷ before) left may reached (inl here) = settling_one_of_two form prefix host journal more old now left may reached.0 here.1
settling_moments form prefix host journal more old (now ∷ before) left may reached (inr earlier) = settling_moments form prefix host journal more old before left may reached.1 earlier

pub since_settling_one_of_two : (form : Form) (prefix : List ℕ) (host : ℕ) (journal more : List Entry) (old : Disk) (moments before : List Disk) (left : List ℕ) → MaySettle form prefix host journal more old
    → AllByRecursion (Reaches (settle_calls (length prefix)) old) moments → Since (length before) (moments ++ old ∷ before) left → IsBeforeOrAfter form host journal more left
since_settling_one_of_two form prefix host journal more old moments before left may reached since =
    elim (since_parts (length before) moments (old ∷ before) left since) [
      | inl later ↦ settling_moments form prefix host journal more old moments left may reached later
      | inr at_start ↦ settling_one_of_two form prefix host journal more old old left may (inl refl) ((since_now old before left).0 at_start.1)
    ]

pub settled_stands : (form : Form) (prefix : List ℕ) (host : ℕ) (journal more : List Entry) (old new : Disk) (left : List ℕ) → MaySettle form prefix host journal more old
    → AllDone (settle_calls (length prefix)) old new → Leaves new left → StandsFor form left host (journal ++ more)
settled_stands form prefix host journal more old new left may done is_left = stands_after form prefix left host journal more may.opened may.batch may.sound (settle_is_kept prefix (payload_bytes form (length prefix) (events_of more)) old new left may.doubt done is_left)

pub settled_holds_log : (form : Form) (prefix : List ℕ) (host : ℕ) (journal more : List Entry) (old new : Disk) → MaySettle form prefix host journal more old
    → AllDone (settle_calls (length prefix)) old new → (new.written ≡ []) × HoldsLog form (prefix ++ 1 ∷ payload_bytes form (length prefix) (events_of more)) host (journal ++ more) new
settled_holds_log form prefix host journal more old new may done =
    let ended = settle_ends_settled prefix (payload_bytes form (length prefix) (events_of more)) old new may.doubt done in
    (ended.0, record { settled = ended.1; opened = open_gate_is_prefix form prefix host 1 journal more may.opened may.batch (λ e. absurd (omega arith)); sound = may.sound })
