-- What computing finds in bytes is what they hold.
use Rattle.std.proofs.Common.{◌≡◌, ◌≢◌, ℕ, zero, suc, ◌+◌, ◌-◌, ◌<◌, ◌≤◌, ◌^◌, ◌&&◌, ◌==◌, Bool, true, false, cond, inl, inr, List, [], ◌∷◌, ◌++◌, length, take, drop, Option, Some, None, Result, Ok, Err, refl, sym, ◌∙◌, ap, subst, arith, append_assoc, append-nil, length-append}
use Rattle.std.specs.Prelude.{nat_lt, bytes_eq, ◌↔◌}
use Rattle.std.specs.Int.{w32, to_be_bytes}
use Rattle.std.proofs.lemmas.Bool.{true≢false, cases_Bool, eqb-true, eqb-false, ltb-false, le-ltb}
use Rattle.std.proofs.lemmas.Option.{none-some, same_Some}
use Rattle.std.proofs.lemmas.List.{take_at, drop_at, take-append-drop, length-take, length-drop}
use Rattle.std.proofs.lemmas.Slice.Eq.{bytes_eq-Decides}
use Rattle.byteorder.specs.Endian.{big_number}
use Rattle.byteorder.specs.Numbers.{big_number-reads_back}
use Rattle.definitions.specs.Spelling.{IsBytes}
use Rattle.definitions.proofs.Bytes.{IsBytes-take, IsBytes-drop, IsBytes-rest, when_true, when_false}
use Rattle.record_rules.specs.Records.{Entry, Event}
use Rattle.record_rules.specs.Journal.{events_of, SoundEvents, Sound}
use Rattle.record_rules.specs.Deciding.{may_all_come}
use Rattle.record_rules.proofs.Deciding.{may_all_come_told}
use Rattle.record_rules.proofs.Soundness.{empty_sound}
use Rattle.log_rules.specs.Body.{body_bytes, IsBatch}
use Rattle.log_rules.specs.Reading.{body_at, at_start}
use Rattle.log_rules.specs.Opened.{opened_journal}
use Rattle.log_rules.specs.Log.{Form, payload_bytes, batch_bytes, header_bytes, header_fault, IsLogPrefix, StandsFor, HoldsGoodBatch}
use Rattle.log_rules.specs.Contents.{behind_digest, with_body, batch_in, Contents, LogOf, HeaderWrong, BatchWrong, has_gate, if_good, or_wrong, contents_from, contents_behind, log_at, HoldContents, shown_events, kept_entries, store_journal, callers_of}
use Rattle.log_rules.proofs.Readers.{number_field, number_there}
use Rattle.log_rules.proofs.Bodies.{read_body, body_is_read}
use Rattle.log_rules.proofs.Callers.{opened_events, opened_sound}
use Rattle.log_rules.proofs.Headers.{faulty_header, standing_header, read_header}
use Rattle.log_rules.proofs.Logs.{prefix_more, one_journal, standing_is_whole, damaged_is_a_log, damaged_at_one}

-- ---- one batch

digest_found : (digest behind : List ℕ) (read : Result (List Event) ℕ) (events : List Event) (left : List ℕ) → behind_digest digest behind read ≡ Some (events, left) → (read ≡ Ok events) × (behind ≡ digest ++ left)
digest_found digest behind (Err place) events left e = absurd (none-some (events, left) e)
digest_found digest behind (Ok found) events left e =
    let test = when_true (bytes_eq (take (length digest) behind) digest) (events, left) (Some (found, drop (length digest) behind)) e in
    let same : take (length digest) behind ≡ digest = (bytes_eq-Decides (take (length digest) behind) digest).0 test.0 in
    let both : ◌≡◌ {A = List Event × List ℕ} (found, drop (length digest) behind) (events, left) = same_Some _ _ test.1 in
    let whole : behind ≡ digest ++ drop (length digest) behind = sym (take-append-drop (length digest) behind) ∙ ap (λ (l : List ℕ). l ++ drop (length digest) behind) same in
    (ap (λ (p : List Event × List ℕ). Ok p.0) both, whole ∙ ap (λ (p : List Event × List ℕ). digest ++ p.1) both)

digest_again : (digest behind : List ℕ) (events : List Event) → behind_digest digest (digest ++ behind) (Ok events) ≡ Some (events, behind)
digest_again digest behind events =
    let there : bytes_eq (take (length digest) (digest ++ behind)) digest ≡ true = (bytes_eq-Decides (take (length digest) (digest ++ behind)) digest).1 (take_at digest behind (length digest) refl) in
    ap (λ (b : Bool). cond b (Some (events, drop (length digest) (digest ++ behind))) None) there ∙ ap (λ (l : List ℕ). Some (events, l)) (drop_at digest behind (length digest) refl)

-- the first four bytes are a number's
number_first : (rest : List ℕ) → IsBytes rest → 4 ≤ length rest → (big_number 4 rest < 2 ^ 32) × (rest ≡ to_be_bytes w32 (big_number 4 rest) ++ drop 4 rest)
number_first rest are long =
    let took = (number_field 4).takes (at_start 0 rest) (big_number 4 rest) _ are (number_there (at_start 0 rest) 4 long) in
    (took.has, took.parts)

module _ (form : Form) (at : ℕ) where
  batch_found : (rest behind : List ℕ) (events : List Event) → IsBytes rest → batch_in form at rest ≡ Some (events, behind) → IsBatch events × (rest ≡ payload_bytes form at events ++ behind)
  batch_found rest behind events are e =
      let n = big_number 4 rest in
      let tail = drop 4 rest in
      let one = when_false (nat_lt (length rest) 4) (events, behind) (cond (nat_lt (length tail) n) None (with_body form at n tail)) e in
      let two = when_false (nat_lt (length tail) n) (events, behind) (with_body form at n tail) one.1 in
      let long : 4 ≤ length rest = ltb-false (length rest) 4 one.0 in
      let there : n ≤ length tail = ltb-false (length tail) n two.0 in
      let head = number_first rest are long in
      let body = take n tail in
      let count : length body ≡ n = omega (arith, length-take n tail, there) in
      let found = digest_found (form.digest at body) (drop n tail) (body_at body) events behind two.1 in
      let small : length body < 2 ^ 32 = omega (arith, count, head.0) in
      let is = read_body body events (IsBytes-take n tail (IsBytes-drop 4 rest are)) small found.0 in
      let parts : tail ≡ body ++ (form.digest at body ++ behind) = sym (take-append-drop n tail) ∙ ap (λ (l : List ℕ). body ++ l) found.1 in
      let spelled : to_be_bytes w32 n ++ (body ++ (form.digest at body ++ behind)) ≡ (to_be_bytes w32 (length body) ++ (body ++ form.digest at body)) ++ behind =
      ap (λ (k : ℕ). to_be_bytes w32 k ++ (body ++ (form.digest at body ++ behind))) (sym count) ∙ ap (λ (l : List ℕ). to_be_bytes w32 (length body) ++ l) (sym (append_assoc body (form.digest at body) behind))
      ∙ sym (append_assoc (to_be_bytes w32 (length body)) (body ++ form.digest at body) behind) in
      (is.0, head.1 ∙ ap (λ (l : List ℕ). to_be_bytes w32 n ++ l) parts ∙ spelled ∙ ap (λ (b : List ℕ). (to_be_bytes w32 (length b) ++ (b ++ form.digest at b)) ++ behind) is.1)

  batch_again : (events : List Event) (behind : List ℕ) → IsBatch events → batch_in form at (payload_bytes form at events ++ behind) ≡ Some (events, behind)
  batch_again events behind is =
      let body = body_bytes events in
      let digest = form.digest at body in
      let tail = body ++ (digest ++ behind) in
      let rest = to_be_bytes w32 (length body) ++ tail in
      let whole : payload_bytes form at events ++ behind ≡ rest = append_assoc (to_be_bytes w32 (length body)) (body ++ digest) behind ∙ ap (λ (l : List ℕ). to_be_bytes w32 (length body) ++ l) (append_assoc body digest behind) in
      let one : nat_lt (length rest) 4 ≡ false = le-ltb (length rest) 4 (omega arith) in
      let number : big_number 4 rest ≡ length body = big_number-reads_back 4 (length body) tail is.body in
      let two : nat_lt (length tail) (length body) ≡ false = le-ltb (length tail) (length body) (omega (arith, length-append body (digest ++ behind))) in
      let taken : take (length body) tail ≡ body = take_at body (digest ++ behind) (length body) refl in
      let left : drop (length body) tail ≡ digest ++ behind = drop_at body (digest ++ behind) (length body) refl in
      ap (batch_in form at) whole ∙ ap (λ (b : Bool). cond b None (cond (nat_lt (length tail) (big_number 4 rest)) None (with_body form at (big_number 4 rest) tail))) one
      ∙ ap (λ (n : ℕ). cond (nat_lt (length tail) n) None (with_body form at n tail)) number ∙ ap (λ (b : Bool). cond b None (with_body form at (length body) tail)) two
      ∙ (λ i. behind_digest (form.digest at (taken i)) (left i) (body_at (taken i))) ∙ ap (λ (read : Result (List Event) ℕ). behind_digest digest (digest ++ behind) read) (body_is_read events is)
      ∙ digest_again digest behind events

-- ---- batches one behind the other

both_true : (a b : Bool) → (a && b) ≡ true → (a ≡ true) × (b ≡ true)
both_true true b e = (refl, e)
both_true false b e = absurd (true≢false (sym e))

good_found : (host : ℕ) (before : List Event) (found : Option (List Event × List ℕ)) (read : List Event × List ℕ) → if_good host before found ≡ Some read → (found ≡ Some read) × ((has_gate read.1 ≡ true) × (may_all_come before host read.0 ≡ true))
good_found host before None read e = absurd (none-some read e)
good_found host before (Some got) read e =
    let test = when_true (has_gate got.1 && may_all_come before host got.0) read (Some got) e in
    let same : got ≡ read = same_Some got read test.1 in
    let both = both_true (has_gate got.1) (may_all_come before host got.0) test.0 in
    (test.1, (subst (λ (p : List Event × List ℕ). has_gate p.1 ≡ true) same both.0, subst (λ (p : List Event × List ℕ). may_all_come before host p.0 ≡ true) same both.1))

some_behind : (behind : List ℕ) → has_gate behind ≡ true → 1 ≤ length behind
some_behind [] e = absurd (true≢false (sym e))
some_behind (gate ∷ behind) e = omega arith

-- soundness of events, as they are or as those of a journal
as_events : (events : List Event) (host : ℕ) → Sound (opened_journal events) host → SoundEvents events host
as_events events host sound = subst (λ (said : List Event). SoundEvents said host) (opened_events events) sound

as_journal : (events : List Event) (host : ℕ) → SoundEvents events host → Sound (opened_journal events) host
as_journal events host sound = subst (λ (said : List Event). SoundEvents said host) (sym (opened_events events)) sound

module _ (form : Form) (host : ℕ) where
  -- a batch that isn't found good is bad
  none_good : (at : ℕ) (before : List Event) (rest : List ℕ) → Sound (opened_journal before) host → if_good host before (batch_in form at rest) ≡ None → HoldsGoodBatch form at rest host before → ⊥
  none_good at before rest sound none good =
      let read : List Event × List ℕ = (good.events, good.gate ∷ good.behind) in
      let found : batch_in form at rest ≡ Some read = ap (batch_in form at) good.bytes_are ∙ batch_again form at good.events (good.gate ∷ good.behind) good.batch in
      let come : may_all_come before host good.events ≡ true = (may_all_come_told before host good.events (as_events before host sound)).1 (as_events (before ++ good.events) host good.sound) in
      let kept : if_good host before (Some read) ≡ Some read = ap (λ (b : Bool). cond b (Some read) None) come in
      none-some read (sym none ∙ ap (if_good host before) found ∙ kept)

  closed_gate : (before : List Event) (rest prefix : List ℕ) (gate : ℕ) → IsLogPrefix form prefix host before → Sound (opened_journal before) host → gate ≡ 0 → StandsFor form (prefix ++ gate ∷ rest) host (opened_journal before)
  closed_gate before rest prefix gate is sound closed = record {
    prefix = prefix;
    behind = rest;
    opened = subst (λ (events : List Event). IsLogPrefix form prefix host events) (sym (opened_events before)) is;
    bytes_are = ap (λ (n : ℕ). prefix ++ n ∷ rest) closed;
    sound = sound;
  }

  -- what is found with so many gates is what stands there
  abbrev FindsWithin : ℕ → Type 0
  FindsWithin most = (before : List Event) (rest prefix : List ℕ) → IsBytes rest → IsLogPrefix form prefix host before → Sound (opened_journal before) host → length rest ≤ most → 1 ≤ length rest
      → HoldContents form (prefix ++ rest) (contents_from most form host (length prefix) before rest)

  holds_from : (most : ℕ) → FindsWithin most
  holds_from zero before rest prefix are is sound fits some = absurd (omega (arith, fits, some))
  holds_from (suc most) before [] prefix are is sound fits some = absurd (omega (arith, some))
  holds_from (suc most) before (gate ∷ rest) prefix are is sound fits some =
      elim (cases_Bool (gate == 0)) [
        | inl closed ↦ subst (HoldContents form (prefix ++ gate ∷ rest)) (ap (λ (b : Bool). cond b (LogOf host before) further) (sym closed)) (closed_gate before rest prefix gate is sound (eqb-true gate 0 closed))
        | inr opens ↦ subst (HoldContents form (prefix ++ gate ∷ rest)) (ap (λ (b : Bool). cond b (LogOf host before) further) (sym opens)) (by (holds_from most) (if_good host before (batch_in form (length prefix) rest)) refl (eqb-false gate 0 opens))
      ]
    where
      next_of : List Event × List ℕ → Contents
      next_of read = contents_from most form host (length prefix + 1 + (length rest - length read.1)) (before ++ read.0) read.1

      further : Contents
      further = or_wrong (length prefix) (if_good host before (batch_in form (length prefix) rest)) next_of

      by : FindsWithin most → (good : Option (List Event × List ℕ)) → if_good host before (batch_in form (length prefix) rest) ≡ good → gate ≢ 0 → HoldContents form (prefix ++ gate ∷ rest) (or_wrong (length prefix) good next_of)
      by later None e opens = record {
        host = host;
        before = before;
        prefix = prefix;
        gate = gate;
        rest = rest;
        opened = is;
        sound = sound;
        bytes_are = refl;
        offset_is = refl;
        gate_open = opens;
        bad = none_good (length prefix) before rest sound e;
      }
      by later (Some read) e opens =
          let good = good_found host before (batch_in form (length prefix) rest) read e in
          let rest_are : IsBytes rest = IsBytes-drop 1 (gate ∷ rest) are in
          let batch = batch_found form (length prefix) rest read.1 read.0 rest_are good.0 in
          let payload = payload_bytes form (length prefix) read.0 in
          let longer = prefix ++ batch_bytes form (length prefix) (record { gate = gate; events = read.0 }) in
          let behind_are : IsBytes read.1 = IsBytes-rest payload read.1 (subst IsBytes batch.1 rest_are) in
          let parts : length rest ≡ length payload + length read.1 = ap (λ (l : List ℕ). length l) batch.1 ∙ length-append payload read.1 in
          let all : length longer ≡ length prefix + (1 + length payload) = length-append prefix (gate ∷ payload) ∙ omega arith in
          let place : length longer ≡ length prefix + 1 + (length rest - length read.1) = omega (arith, all, parts) in
          let come : SoundEvents (before ++ read.0) host = (may_all_come_told before host read.0 (as_events before host sound)).0 good.1.1 in
          let next = later (before ++ read.0) read.1 longer behind_are (prefix_more form prefix host before (record { gate = gate; events = read.0 }) is (record { gate = opens; batch_events = batch.0 }))
          (as_journal (before ++ read.0) host come) (omega (arith, fits, parts)) (some_behind read.1 good.1.0) in
          let bytes : longer ++ read.1 ≡ prefix ++ gate ∷ rest = append_assoc prefix (gate ∷ payload) read.1 ∙ ap (λ (l : List ℕ). prefix ++ gate ∷ l) (sym batch.1) in
          subst (λ (b : List ℕ). HoldContents form b (next_of read)) bytes (subst (λ (n : ℕ). HoldContents form (longer ++ read.1) (contents_from most form host n (before ++ read.0) read.1)) place next)

-- ---- a log

pub log_holds : (form : Form) (bytes : List ℕ) → IsBytes bytes → HoldContents form bytes (log_at form bytes)
log_holds form bytes are = by (header_fault form bytes) refl
  where
    by : (fault : Option ℕ) → header_fault form bytes ≡ fault → HoldContents form bytes (contents_behind form bytes fault)
    by (Some place) e = e
    by None e =
        let has = read_header form bytes are e in
        let host = big_number 16 (take 16 (drop 8 bytes)) in
        let rest = drop 32 bytes in
        let long = has.long in
        let left = length-drop 32 bytes in
        let none : IsLogPrefix form (header_bytes form host) host [] = record { host_fits = has.host_fits; batches = []; opened = tt; events_are = refl; bytes_are = sym (append-nil (header_bytes form host)) } in
        let all = holds_from form host (length bytes) [] rest (header_bytes form host) (IsBytes-drop 32 bytes are) none (empty_sound host) (omega (arith, left)) (omega (arith, left, long)) in
        subst (λ (b : List ℕ). HoldContents form b (contents_from (length bytes) form host 32 [] rest)) (ap (λ (l : List ℕ). l ++ rest) (sym has.header) ∙ take-append-drop 32 bytes) all

one_fault : (form : Form) (bytes : List ℕ) (place other : ℕ) → header_fault form bytes ≡ Some place → header_fault form bytes ≡ Some other → place ≡ other
one_fault form bytes place other one two = same_Some place other (sym one ∙ two)

one_holds : (form : Form) (bytes : List ℕ) (one two : Contents) → HoldContents form bytes one → HoldContents form bytes two → one ≡ two
one_holds form bytes (LogOf host events) (LogOf other others) one two =
    let same = one_journal form bytes host other (opened_journal events) (opened_journal others) one two in
    let said : events ≡ others = sym (opened_events events) ∙ same.1 ∙ opened_events others in
    λ i. LogOf (same.0 i) (said i)
one_holds form bytes (LogOf host events) (HeaderWrong place) one two = absurd (none-some place (sym (standing_header form bytes host (opened_journal events) one) ∙ two))
one_holds form bytes (LogOf host events) (BatchWrong offset) one two = absurd (standing_is_whole form bytes host offset (opened_journal events) one two)
one_holds form bytes (HeaderWrong place) (LogOf host events) one two = absurd (none-some place (sym (standing_header form bytes host (opened_journal events) two) ∙ one))
one_holds form bytes (HeaderWrong place) (HeaderWrong other) one two = ap HeaderWrong (one_fault form bytes place other one two)
one_holds form bytes (HeaderWrong place) (BatchWrong offset) one two = absurd (damaged_is_a_log form bytes offset two (faulty_header form bytes place one))
one_holds form bytes (BatchWrong offset) (LogOf host events) one two = absurd (standing_is_whole form bytes host offset (opened_journal events) two one)
one_holds form bytes (BatchWrong offset) (HeaderWrong place) one two = absurd (damaged_is_a_log form bytes offset one (faulty_header form bytes place two))
one_holds form bytes (BatchWrong offset) (BatchWrong other) one two = ap BatchWrong (damaged_at_one form bytes offset other one two)

pub log_is_found : (form : Form) (bytes : List ℕ) (contents : Contents) → IsBytes bytes → (log_at form bytes ≡ contents) ↔ HoldContents form bytes contents
log_is_found form bytes contents are = (
  λ e. subst (HoldContents form bytes) e (log_holds form bytes are),
  λ holds. one_holds form bytes (log_at form bytes) contents (log_holds form bytes are) holds,
)

pub journal_is_found : (form : Form) (bytes : List ℕ) (host : ℕ) (journal : List Entry) → IsBytes bytes → StandsFor form bytes host journal → log_at form bytes ≡ LogOf host (events_of journal)
journal_is_found form bytes host journal are stands =
    (log_is_found form bytes (LogOf host (events_of journal)) are).1 (record {
      prefix = stands.prefix;
      behind = stands.behind;
      opened = subst (λ (events : List Event). IsLogPrefix form stands.prefix host events) (sym (opened_events (events_of journal))) stands.opened;
      bytes_are = stands.bytes_are;
      sound = opened_sound journal (events_of journal) host refl stands.sound;
    })

-- ---- a store over a log

kept_all : (journal more : List Entry) → kept_entries (callers_of journal) (events_of (journal ++ more)) ≡ journal
kept_all [] more = refl
kept_all (entry ∷ journal) more = ap (λ (entries : List Entry). entry ∷ entries) (kept_all journal more)

pub store_is_shown : (form : Form) (bytes : List ℕ) (host : ℕ) (journal more : List Entry) → IsBytes bytes → StandsFor form bytes host (journal ++ more) → store_journal form (callers_of journal) bytes ≡ journal
store_is_shown form bytes host journal more are stands =
    ap (λ (contents : Contents). kept_entries (callers_of journal) (shown_events contents)) (journal_is_found form bytes host (journal ++ more) are stands) ∙ kept_all journal more
