-- What stands at a spot is one batch, and stays there.
use Rattle.std.proofs.Common.{◌≡◌, ◌≢◌, ℕ, ◌+◌, List, ◌∷◌, ◌++◌, length, drop, Some, refl, sym, ◌∙◌, ap, subst, append_assoc}
use Rattle.std.specs.Prelude.{slice_get}
use Rattle.std.proofs.lemmas.List.{drop_at, drop-drop}
use Rattle.record_rules.specs.Records.{Event}
use Rattle.record_rules.specs.Journal.{Sound}
use Rattle.log_rules.specs.Body.{body_bytes, IsBatch}
use Rattle.log_rules.specs.Opened.{opened_journal}
use Rattle.log_rules.specs.Log.{Form, batch_bytes, payload_bytes, IsLogPrefix, HoldsGoodBatch, DamagedAt}
use Rattle.log_rules.specs.Spots.{Spot, BatchAt, EventAt}
use Rattle.log_rules.proofs.Fields.{body_apart}

-- the bytes behind the gate's length
body_on : (form : Form) (bytes : List ℕ) (spot : Spot) (events : List Event) (at : BatchAt form bytes spot events) → drop (spot.offset + 5) bytes ≡ body_bytes events ++ (form.digest spot.offset (body_bytes events) ++ at.behind)
body_on form bytes spot events at =
    let payload = payload_bytes form spot.offset events in
    let digest = form.digest spot.offset (body_bytes events) in
    let whole : bytes ≡ at.before ++ (at.gate ∷ (payload ++ at.behind)) = at.bytes_are ∙ append_assoc at.before (at.gate ∷ payload) at.behind in
    let there : drop (length at.before) bytes ≡ at.gate ∷ (payload ++ at.behind) = ap (drop (length at.before)) whole ∙ drop_at at.before (at.gate ∷ (payload ++ at.behind)) (length at.before) refl in
    ap (λ (n : ℕ). drop (n + 5) bytes) at.offset_is ∙ drop_more (length at.before) bytes ∙ ap (drop 5) there ∙ append_assoc (body_bytes events) digest at.behind
  where
    drop_more : (n : ℕ) (l : List ℕ) → drop (n + 5) l ≡ drop 5 (drop n l)
    drop_more n l = sym (drop-drop 5 n l)

pub one_batch_at : (form : Form) (bytes : List ℕ) (spot : Spot) (events others : List Event) → BatchAt form bytes spot events → BatchAt form bytes spot others → events ≡ others
one_batch_at form bytes spot events others at also =
    (body_apart events others (form.digest spot.offset (body_bytes events) ++ at.behind) (form.digest spot.offset (body_bytes others) ++ also.behind) at.batch also.batch (sym (body_on form bytes spot events at) ∙ body_on form bytes spot others also)).0

some_is : (event other : Event) → Some event ≡ Some other → event ≡ other
some_is event other e = cc

pub one_event_at : (form : Form) (bytes : List ℕ) (spot : Spot) (at : ℕ) (event other : Event) → EventAt form bytes spot at event → EventAt form bytes spot at other → event ≡ other
one_event_at form bytes spot at event other one two =
    some_is event other (sym one.event_is ∙ ap (λ (events : List Event). slice_get events at) (one_batch_at form bytes spot one.events two.events one.batch two.batch) ∙ two.event_is)

pub longer_keeps_batch : (form : Form) (bytes more : List ℕ) (spot : Spot) (events : List Event) → BatchAt form bytes spot events → BatchAt form (bytes ++ more) spot events
longer_keeps_batch form bytes more spot events at = record {
  before = at.before;
  gate = at.gate;
  behind = at.behind ++ more;
  batch = at.batch;
  gate_open = at.gate_open;
  offset_is = at.offset_is;
  count_is = at.count_is;
  bytes_are = ap (λ (l : List ℕ). l ++ more) at.bytes_are ∙ append_assoc (at.before ++ batch_bytes form spot.offset (record { gate = at.gate; events = events })) at.behind more;
}

pub unsound_is_damaged : (form : Form) (prefix rest behind : List ℕ) (host gate : ℕ) (before events : List Event) → IsLogPrefix form prefix host before → Sound (opened_journal before) host → gate ≢ 0 → IsBatch events
    → rest ≡ payload_bytes form (length prefix) events ++ behind → (Sound (opened_journal (before ++ events)) host → ⊥) → DamagedAt form (prefix ++ gate ∷ rest) (length prefix)
unsound_is_damaged form prefix rest behind host gate before events opened sound gate_open batch are unsound = record {
  host = host;
  before = before;
  prefix = prefix;
  gate = gate;
  rest = rest;
  opened = opened;
  sound = sound;
  bytes_are = refl;
  offset_is = refl;
  gate_open = gate_open;
  bad = λ good. unsound (subst (λ (l : List Event). Sound (opened_journal (before ++ l)) host) (same good) good.sound);
}
  where
    body_in : (others : List Event) (more : List ℕ) → drop 4 (payload_bytes form (length prefix) others ++ more) ≡ body_bytes others ++ (form.digest (length prefix) (body_bytes others) ++ more)
    body_in others more = append_assoc (body_bytes others) (form.digest (length prefix) (body_bytes others)) more

    same : (good : HoldsGoodBatch form (length prefix) rest host before) → good.events ≡ events
    same good =
        (body_apart good.events events (form.digest (length prefix) (body_bytes good.events) ++ good.gate ∷ good.behind) (form.digest (length prefix) (body_bytes events) ++ behind) good.batch batch
        (sym (body_in good.events (good.gate ∷ good.behind)) ∙ ap (drop 4) (sym good.bytes_are ∙ are) ∙ body_in events behind)).0
