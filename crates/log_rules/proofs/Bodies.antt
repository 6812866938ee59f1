-- The fields of an event, and what a body reads as.
use Rattle.std.proofs.Common.{◌≡◌, ℕ, zero, suc, ◌+◌, ◌<◌, ◌≤◌, ◌^◌, ◌%◌, ◌⊎◌, Bool, true, false, cond, inl, inr, List, [], ◌∷◌, ◌++◌, length, take, Option, Some, None, Result, Ok, Err, refl, sym, ◌∙◌, ap, subst, arith, append_assoc, length-append}
use Rattle.std.specs.Prelude.{nat_le, ◌&&◌, ◌==◌, IfSome}
use Rattle.std.specs.List.{flat_map, AllByRecursion}
use Rattle.std.specs.Int.{w32, w64, w128, to_be_bytes}
use Rattle.std.proofs.lemmas.Bool.{eqb-true, leb-true, le-leb}
use Rattle.std.proofs.lemmas.List.{append-nil}
use Rattle.definitions.specs.Spelling.{IsBytes}
use Rattle.definitions.specs.Journal.{StartedRecord}
use Rattle.definitions.proofs.Items.{both_true}
use Rattle.record_rules.specs.Records.{SealedRecord, Event, Started, Local, Taken}
use Rattle.log_rules.specs.Body.{HasRecordBytes, HasStartedBytes, HasEventBytes, record_bytes, started_bytes, closes_bytes, event_bytes, body_bytes, IsBatch}
use Rattle.log_rules.specs.Reading.{Reading, Stop, Cut, Wrong, Field, ◌>>=◌, ◌&◌, field_as, with_more, number_at, text_at, made_record, record_at, made_started, started_at, closes_of, closes_at, event_of, event_at, events_at, count_at, at_start, body_events_at, whole_body, body_at}
use Rattle.definitions.specs.Examples.{ls}
use Rattle.std.specs.Str.{is_utf8}
use Rattle.std.proofs.lemmas.Str.{IsUtf8-from_ascii, is_utf8-from_IsUtf8}
use Rattle.std.proofs.lemmas.Str.Ascii.{IsAscii-nil}
use Rattle.log_rules.specs.Reading.{BodyWrongAt}
use Rattle.log_rules.specs.Examples.{ls_body, WorkedBodyFaults}
use Rattle.log_rules.proofs.Examples.{ascii_cons, ls_batch}
use Rattle.log_rules.proofs.Readers.{Took, IsField, bind_ok, bind_err, ok_is, both_fields, made_field, number_field, text_field}

abbrev done : {A : Type 0} → A → Result A Stop
done x = Ok x

no_stop : {A : Type 0} (x : A) (stop : Stop) → done x ≡ Err stop → ⊥
no_stop x stop e = cc

no_value : {A : Type 0} (stop : Stop) (x : A) → Err stop ≡ done x → ⊥
no_value stop x e = cc

-- ---- a record, a started command

abbrev Below : ℕ → ℕ → Type 0
Below bits n = n < 2 ^ bits

number_4 : IsField ℕ (Below 32) (to_be_bytes w32) (number_at 4)
number_4 = number_field 4

number_8 : IsField ℕ (Below 64) (to_be_bytes w64) (number_at 8)
number_8 = number_field 8

number_16 : IsField ℕ (Below 128) (to_be_bytes w128) (number_at 16)
number_16 = number_field 16

pub record_field : IsField SealedRecord HasRecordBytes record_bytes record_at
unfolding record_at
record_field =
    made_field _ SealedRecord _ HasRecordBytes _ record_bytes _ made_record
    (λ r. ((((((((r.id, r.idx), r.host), r.host_name), r.timestamp), r.version), r.tag), r.sealed), r.wrapped))
    (both_fields _ _ _ _ _ _ _ _ (both_fields _ _ _ _ _ _ _ _ (both_fields _ _ _ _ _ _ _ _ (both_fields _ _ _ _ _ _ _ _ (both_fields _ _ _ _ _ _ _ _ (both_fields _ _ _ _ _ _ _ _ (both_fields _ _ _ _ _ _ _ _ (both_fields _ _ _ _ _ _ _ _ number_16 number_8) number_16) text_field) number_8) text_field) text_field) text_field) text_field)
    (λ p has. record { id = has.0.0.0.0.0.0.0.0; idx = has.0.0.0.0.0.0.0.1; host = has.0.0.0.0.0.0.1; host_name = has.0.0.0.0.0.1; timestamp = has.0.0.0.0.1; version = has.0.0.0.1; tag = has.0.0.1; sealed = has.0.1; wrapped = has.1 })
    (λ p. refl)
    (λ r has. ((((((((has.id, has.idx), has.host), has.host_name), has.timestamp), has.version), has.tag), has.sealed), has.wrapped))
    (λ r. refl)

pub started_field : IsField StartedRecord HasStartedBytes started_bytes started_at
unfolding started_at
started_field =
    made_field _ StartedRecord _ HasStartedBytes _ started_bytes _ made_started
    (λ s. (((((s.id, s.timestamp), s.command), s.cwd), s.session), s.hostname))
    (both_fields _ _ _ _ _ _ _ _ (both_fields _ _ _ _ _ _ _ _ (both_fields _ _ _ _ _ _ _ _ (both_fields _ _ _ _ _ _ _ _ (both_fields _ _ _ _ _ _ _ _ number_16 number_8) text_field) text_field) text_field) text_field)
    (λ p has. record { id = has.0.0.0.0.0; timestamp = has.0.0.0.0.1; command = has.0.0.0.1; cwd = has.0.0.1; session = has.0.1; hostname = has.1 })
    (λ p. refl)
    (λ s has. (((((has.id, has.timestamp), has.command), has.cwd), has.session), has.hostname))
    (λ s. refl)

-- ---- what stands behind a byte that chooses

-- which of two was chosen
pub chosen : {A : Type 0} (b : Bool) (x y z : Result A Stop) → cond b x y ≡ z → ((b ≡ true) × (x ≡ z)) ⊎ ((b ≡ false) × (y ≡ z))
chosen true x y z e = inl (refl, e)
chosen false x y z e = inr (refl, e)

-- a byte, and a field behind it
tag_took : (A : Type 0) (P : A → Type 0) (spell : A → List ℕ) (read : Field A) (is : IsField A P spell read) (tag : ℕ) (r mid : Reading) (x : A) (next : Reading) → tag < 256 → IsBytes r.rest → number_at 1 r ≡ Ok (tag, mid) → read mid ≡ Ok (x, next) → Took A P (λ x. tag ∷ spell x) r x next
tag_took A P spell read is tag r mid x next fits are one two =
    let first = (number_field 1).takes r tag mid are one in
    let second = is.takes mid x next first.are_bytes two in
    let byte : tag % 256 ≡ tag = omega (arith, fits) in
    record {
      has = second.has;
      parts = first.parts ∙ (λ i. byte i ∷ second.parts i);
      at_is = omega (arith, first.at_is, second.at_is);
      limit_is = second.limit_is ∙ first.limit_is;
      are_bytes = second.are_bytes;
    }

-- what is made of a field's value, without the way back
as_judged : (A B : Type 0) (P : A → Type 0) (spell : A → List ℕ) (f : Field A) (make : A → B) → IsField A P spell f → (r : Reading) (more : List ℕ) (place : ℕ) → field_as make f r ≡ Err (Wrong place) → field_as make f (with_more r more) ≡ Err (Wrong place)
as_judged A B P spell f make is r more place e = elim (bind_err (f r) (λ a. Ok (make a.0, a.1)) (Wrong place) e) [
  | inl stops ↦ ap (λ (s : Result (A × Reading) Stop). s >>= λ a. Ok (make a.0, a.1)) (is.judged r more place stops)
  | inr on ↦ absurd (no_stop (make on.0.0, on.0.1) (Wrong place) on.2)
]

as_longer : (A B : Type 0) (P : A → Type 0) (spell : A → List ℕ) (f : Field A) (make : A → B) → IsField A P spell f → (r : Reading) (more : List ℕ) (y : B) (next : Reading) → field_as make f r ≡ Ok (y, next) → field_as make f (with_more r more) ≡ Ok (y, with_more next more)
as_longer A B P spell f make is r more y next e =
    let a = bind_ok (f r) (λ a. Ok (make a.0, a.1)) (y, next) e in
    ap (λ (s : Result (A × Reading) Stop). s >>= λ a. Ok (make a.0, a.1)) (is.longer r more a.0.0 a.0.1 a.1)
    ∙ ap (λ (p : B × Reading). done (p.0, with_more p.1 more)) (ok_is (make a.0.0, a.0.1) (y, next) a.2)

-- ---- the id that is closed

abbrev ClosesFits : Option ℕ → Type 0
ClosesFits closes = IfSome closes (λ id. id < 2 ^ 128)

closes_took : (r mid : Reading) (mark : ℕ) (x : Option ℕ) (next : Reading) → IsBytes r.rest → number_at 1 r ≡ Ok (mark, mid) → closes_of mark r.at mid ≡ Ok (x, next) → Took (Option ℕ) ClosesFits closes_bytes r x next
closes_took r mid mark x next are one e =
    let first = (number_field 1).takes r mark mid are one in
    elim (chosen (mark == 0) (Ok (None, mid)) (cond (mark == 1) (field_as Some (number_at 16) mid) (Err (Wrong r.at))) (Ok (x, next)) e) [
      | inl none ↦
          let zero_is : mark ≡ 0 = eqb-true mark 0 none.0 in
          subst (λ (p : Option ℕ × Reading). Took (Option ℕ) ClosesFits closes_bytes r p.0 p.1) (ok_is (None, mid) (x, next) none.1) (record {
            has = tt;
            parts = first.parts ∙ ap (λ (n : ℕ). n % 256 ∷ mid.rest) zero_is;
            at_is = first.at_is;
            limit_is = first.limit_is;
            are_bytes = first.are_bytes;
          })
      | inr other ↦ elim (chosen (mark == 1) (field_as Some (number_at 16) mid) (Err (Wrong r.at)) (Ok (x, next)) other.1) [
        | inl some ↦
            let a = bind_ok (number_at 16 mid) (λ a. Ok (Some a.0, a.1)) (x, next) some.1 in
            let one_is : mark ≡ 1 = eqb-true mark 1 some.0 in
            let at_one : number_at 1 r ≡ Ok (1, mid) = one ∙ ap (λ (n : ℕ). done (n, mid)) one_is in
            let took = tag_took ℕ (Below 128) (to_be_bytes w128) (number_at 16) number_16 1 r mid a.0.0 a.0.1 (omega arith) are at_one a.1 in
            subst (λ (p : Option ℕ × Reading). Took (Option ℕ) ClosesFits closes_bytes r p.0 p.1) (ok_is (Some a.0.0, a.0.1) (x, next) a.2) (record { has = took.has; parts = took.parts; at_is = took.at_is; limit_is = took.limit_is; are_bytes = took.are_bytes })
        | inr wrong ↦ absurd (no_value (Wrong r.at) (x, next) wrong.1)
      ]
    ]

closes_again : (limit at : ℕ) (x : Option ℕ) (rest : List ℕ) → ClosesFits x → at + length (closes_bytes x) ≤ limit → closes_at (record { limit = limit; at = at; rest = closes_bytes x ++ rest }) ≡ Ok (x, record { limit = limit; at = at + length (closes_bytes x); rest = rest })
unfolding closes_at
closes_again limit at None rest has fits = ap (λ (s : Result (ℕ × Reading) Stop). s >>= λ mark. closes_of mark.0 at mark.1) ((number_field 1).again limit at 0 rest (omega arith) fits)
closes_again limit at (Some id) rest has fits =
    let first = (number_field 1).again limit at 1 (to_be_bytes w128 id ++ rest) (omega arith) (omega (arith, fits)) in
    let second = number_16.again limit (at + 1) id rest has (omega (arith, fits)) in
    let place : (at + 1) + length (to_be_bytes w128 id) ≡ at + length (closes_bytes (Some id)) = omega arith in
    ap (λ (s : Result (ℕ × Reading) Stop). s >>= λ mark. closes_of mark.0 at mark.1) first
    ∙ ap (λ (s : Result (ℕ × Reading) Stop). s >>= λ a. Ok (Some a.0, a.1)) second
    ∙ ap (λ (n : ℕ). done (Some id, record { limit = limit; at = n; rest = rest })) place

closes_of_judged : (mark at : ℕ) (r : Reading) (more : List ℕ) (place : ℕ) → closes_of mark at r ≡ Err (Wrong place) → closes_of mark at (with_more r more) ≡ Err (Wrong place)
closes_of_judged mark at r more place e = elim (chosen (mark == 0) (Ok (None, r)) (cond (mark == 1) (field_as Some (number_at 16) r) (Err (Wrong at))) (Err (Wrong place)) e) [
  | inl none ↦ absurd (no_stop (None, r) (Wrong place) none.1)
  | inr other ↦ elim (chosen (mark == 1) (field_as Some (number_at 16) r) (Err (Wrong at)) (Err (Wrong place)) other.1) [
    | inl some ↦ (λ i. cond (other.0 i) (Ok (None, with_more r more)) (cond (some.0 i) (field_as Some (number_at 16) (with_more r more)) (Err (Wrong at)))) ∙ as_judged ℕ (Option ℕ) (Below 128) (to_be_bytes w128) (number_at 16) Some number_16 r more place some.1
    | inr wrong ↦ (λ i. cond (other.0 i) (Ok (None, with_more r more)) (cond (wrong.0 i) (field_as Some (number_at 16) (with_more r more)) (Err (Wrong at)))) ∙ wrong.1
  ]
]

closes_of_longer : (mark at : ℕ) (r : Reading) (more : List ℕ) (x : Option ℕ) (next : Reading) → closes_of mark at r ≡ Ok (x, next) → closes_of mark at (with_more r more) ≡ Ok (x, with_more next more)
closes_of_longer mark at r more x next e = elim (chosen (mark == 0) (Ok (None, r)) (cond (mark == 1) (field_as Some (number_at 16) r) (Err (Wrong at))) (Ok (x, next)) e) [
  | inl none ↦ (λ i. cond (none.0 i) (Ok (None, with_more r more)) (cond (mark == 1) (field_as Some (number_at 16) (with_more r more)) (Err (Wrong at)))) ∙ ap (λ (p : Option ℕ × Reading). done (p.0, with_more p.1 more)) (ok_is (None, r) (x, next) none.1)
  | inr other ↦ elim (chosen (mark == 1) (field_as Some (number_at 16) r) (Err (Wrong at)) (Ok (x, next)) other.1) [
    | inl some ↦ (λ i. cond (other.0 i) (Ok (None, with_more r more)) (cond (some.0 i) (field_as Some (number_at 16) (with_more r more)) (Err (Wrong at)))) ∙ as_longer ℕ (Option ℕ) (Below 128) (to_be_bytes w128) (number_at 16) Some number_16 r more x next some.1
    | inr wrong ↦ absurd (no_value (Wrong at) (x, next) wrong.1)
  ]
]

-- what is chosen by a first byte is a field where what is chosen is
tagged_field : (A : Type 0) (P : A → Type 0) (spell : A → List ℕ) (behind : (tag at : ℕ) → Field A)
    → ((r mid : Reading) (tag : ℕ) (x : A) (next : Reading) → IsBytes r.rest → number_at 1 r ≡ Ok (tag, mid) → behind tag r.at mid ≡ Ok (x, next) → Took A P spell r x next)
    → ((limit at : ℕ) (x : A) (rest : List ℕ) → P x → at + length (spell x) ≤ limit → (number_at 1 (record { limit = limit; at = at; rest = spell x ++ rest }) >>= λ tag. behind tag.0 at tag.1) ≡ Ok (x, record { limit = limit; at = at + length (spell x); rest = rest }))
    → ((tag at : ℕ) (r : Reading) (more : List ℕ) (place : ℕ) → behind tag at r ≡ Err (Wrong place) → behind tag at (with_more r more) ≡ Err (Wrong place))
    → ((tag at : ℕ) (r : Reading) (more : List ℕ) (x : A) (next : Reading) → behind tag at r ≡ Ok (x, next) → behind tag at (with_more r more) ≡ Ok (x, with_more next more))
    → IsField A P spell (λ r. number_at 1 r >>= λ tag. behind tag.0 r.at tag.1)
tagged_field A P spell behind took again judged longer = record {
  takes = λ r x next are e. let a = bind_ok (number_at 1 r) (λ tag. behind tag.0 r.at tag.1) (x, next) e in took r a.0.1 a.0.0 x next are a.1 a.2;
  again = again;
  judged = λ r more place e. elim (bind_err (number_at 1 r) (λ tag. behind tag.0 r.at tag.1) (Wrong place) e) [
    | inl stops ↦ ap (λ (s : Result (ℕ × Reading) Stop). s >>= λ tag. behind tag.0 r.at tag.1) ((number_field 1).judged r more place stops)
    | inr on ↦ ap (λ (s : Result (ℕ × Reading) Stop). s >>= λ tag. behind tag.0 r.at tag.1) ((number_field 1).longer r more on.0.0 on.0.1 on.1) ∙ judged on.0.0 r.at on.0.1 more place on.2
  ];
  longer = λ r more x next e.
      let a = bind_ok (number_at 1 r) (λ tag. behind tag.0 r.at tag.1) (x, next) e in
      ap (λ (s : Result (ℕ × Reading) Stop). s >>= λ tag. behind tag.0 r.at tag.1) ((number_field 1).longer r more a.0.0 a.0.1 a.1) ∙ longer a.0.0 r.at a.0.1 more x next a.2;
}

closes_field : IsField (Option ℕ) ClosesFits closes_bytes closes_at
unfolding closes_at
closes_field = tagged_field (Option ℕ) ClosesFits closes_bytes closes_of closes_took closes_again closes_of_judged closes_of_longer

-- ---- an event

local_field : IsField (Option ℕ × SealedRecord) (λ x. ClosesFits x.0 × HasRecordBytes x.1) (λ x. closes_bytes x.0 ++ record_bytes x.1) (closes_at & record_at)
local_field = both_fields (Option ℕ) SealedRecord ClosesFits HasRecordBytes closes_bytes record_bytes closes_at record_at closes_field record_field

taken_field : IsField (ℕ × SealedRecord) (λ x. Below 32 x.0 × HasRecordBytes x.1) (λ x. to_be_bytes w32 x.0 ++ record_bytes x.1) (number_at 4 & record_at)
taken_field = both_fields ℕ SealedRecord (Below 32) HasRecordBytes (to_be_bytes w32) record_bytes (number_at 4) record_at number_4 record_field

abbrev pub made_local : Option ℕ × SealedRecord → Event
made_local x = Local x.0 x.1

abbrev pub made_taken : ℕ × SealedRecord → Event
made_taken x = Taken x.0 x.1

-- the three kinds, by which is chosen
kinds : (kind at : ℕ) (r : Reading) (z : Result (Event × Reading) Stop) → event_of kind at r ≡ z
    → ((kind ≡ 1) × (field_as Started started_at r ≡ z)) ⊎ (((kind ≡ 2) × (field_as made_local (closes_at & record_at) r ≡ z)) ⊎ (((kind ≡ 3) × (field_as made_taken (number_at 4 & record_at) r ≡ z)) ⊎ (((other : Reading) → event_of kind at other ≡ Err (Wrong at)) × (Err (Wrong at) ≡ z))))
kinds kind at r z e = elim (chosen (kind == 1) (field_as Started started_at r) _ z e) [
  | inl one ↦ inl (eqb-true kind 1 one.0, one.1)
  | inr not_one ↦ elim (chosen (kind == 2) (field_as made_local (closes_at & record_at) r) _ z not_one.1) [
    | inl two ↦ inr (inl (eqb-true kind 2 two.0, two.1))
    | inr not_two ↦ elim (chosen (kind == 3) (field_as made_taken (number_at 4 & record_at) r) (Err (Wrong at)) z not_two.1) [
      | inl three ↦ inr (inr (inl (eqb-true kind 3 three.0, three.1)))
      | inr none ↦ inr (inr (inr (λ other. (λ i. cond (not_one.0 i) (field_as Started started_at other) (cond (not_two.0 i) (field_as made_local (closes_at & record_at) other) (cond (none.0 i) (field_as made_taken (number_at 4 & record_at) other) (Err (Wrong at))))), none.1)))
    ]
  ]
]

event_took : (r mid : Reading) (kind : ℕ) (x : Event) (next : Reading) → IsBytes r.rest → number_at 1 r ≡ Ok (kind, mid) → event_of kind r.at mid ≡ Ok (x, next) → Took Event HasEventBytes event_bytes r x next
event_took r mid kind x next are one e = elim (kinds kind r.at mid (Ok (x, next)) e) [
  | inl started ↦
      let a = bind_ok (started_at mid) (λ a. Ok (Started a.0, a.1)) (x, next) started.1 in
      let took = tag_took StartedRecord HasStartedBytes started_bytes started_at started_field 1 r mid a.0.0 a.0.1 (omega arith) are (one ∙ ap (λ (n : ℕ). done (n, mid)) started.0) a.1 in
      subst (λ (p : Event × Reading). Took Event HasEventBytes event_bytes r p.0 p.1) (ok_is (Started a.0.0, a.0.1) (x, next) a.2) (record { has = took.has; parts = took.parts; at_is = took.at_is; limit_is = took.limit_is; are_bytes = took.are_bytes })
  | inr (inl local) ↦
      let a = bind_ok ((closes_at & record_at) mid) (λ a. Ok (made_local a.0, a.1)) (x, next) local.1 in
      let took = tag_took (Option ℕ × SealedRecord) (λ x. ClosesFits x.0 × HasRecordBytes x.1) (λ x. closes_bytes x.0 ++ record_bytes x.1) (closes_at & record_at) local_field 2 r mid a.0.0 a.0.1 (omega arith) are (one ∙ ap (λ (n : ℕ). done (n, mid)) local.0) a.1 in
      subst (λ (p : Event × Reading). Took Event HasEventBytes event_bytes r p.0 p.1) (ok_is (made_local a.0.0, a.0.1) (x, next) a.2) (record { has = record { closed_id = took.has.0; sealed_record = took.has.1 }; parts = took.parts; at_is = took.at_is; limit_is = took.limit_is; are_bytes = took.are_bytes })
  | inr (inr (inl taken)) ↦
      let a = bind_ok ((number_at 4 & record_at) mid) (λ a. Ok (made_taken a.0, a.1)) (x, next) taken.1 in
      let took = tag_took (ℕ × SealedRecord) (λ x. Below 32 x.0 × HasRecordBytes x.1) (λ x. to_be_bytes w32 x.0 ++ record_bytes x.1) (number_at 4 & record_at) taken_field 3 r mid a.0.0 a.0.1 (omega arith) are (one ∙ ap (λ (n : ℕ). done (n, mid)) taken.0) a.1 in
      subst (λ (p : Event × Reading). Took Event HasEventBytes event_bytes r p.0 p.1) (ok_is (made_taken a.0.0, a.0.1) (x, next) a.2) (record { has = record { owner_number = took.has.0; sealed_record = took.has.1 }; parts = took.parts; at_is = took.at_is; limit_is = took.limit_is; are_bytes = took.are_bytes })
  | inr (inr (inr wrong)) ↦ absurd (no_value (Wrong r.at) (x, next) wrong.1)
]

-- a first byte, and the field behind it
tag_again : (A : Type 0) (P : A → Type 0) (spell : A → List ℕ) (f : Field A) (is : IsField A P spell f) (make : A → Event) (tag limit at : ℕ) (x : A) (rest : List ℕ) → tag < 256 → P x → at + (1 + length (spell x)) ≤ limit → ((r : Reading) → event_of tag at r ≡ field_as make f r)
    → (number_at 1 (record { limit = limit; at = at; rest = tag ∷ (spell x ++ rest) }) >>= λ kind. event_of kind.0 at kind.1) ≡ Ok (make x, record { limit = limit; at = at + (1 + length (spell x)); rest = rest })
tag_again A P spell f is make tag limit at x rest small has fits of_tag =
    let first = (number_field 1).again limit at tag (spell x ++ rest) (omega (arith, small)) (omega (arith, fits)) in
    let byte : tag % 256 ≡ tag = omega (arith, small) in
    let second = is.again limit (at + 1) x rest has (omega (arith, fits)) in
    let place : (at + 1) + length (spell x) ≡ at + (1 + length (spell x)) = omega arith in
    ap (λ (b : ℕ). number_at 1 (record { limit = limit; at = at; rest = b ∷ (spell x ++ rest) }) >>= λ kind. event_of kind.0 at kind.1) (sym byte)
    ∙ ap (λ (s : Result (ℕ × Reading) Stop). s >>= λ kind. event_of kind.0 at kind.1) first
    ∙ of_tag (record { limit = limit; at = at + 1; rest = spell x ++ rest })
    ∙ ap (λ (s : Result (A × Reading) Stop). s >>= λ a. Ok (make a.0, a.1)) second
    ∙ ap (λ (n : ℕ). done (make x, record { limit = limit; at = n; rest = rest })) place

event_again : (limit at : ℕ) (x : Event) (rest : List ℕ) → HasEventBytes x → at + length (event_bytes x) ≤ limit → (number_at 1 (record { limit = limit; at = at; rest = event_bytes x ++ rest }) >>= λ kind. event_of kind.0 at kind.1) ≡ Ok (x, record { limit = limit; at = at + length (event_bytes x); rest = rest })
event_again limit at (Started s) rest has fits =
    tag_again StartedRecord HasStartedBytes started_bytes started_at started_field Started 1 limit at s rest (omega arith) has (omega (arith, fits)) (λ r. refl) ∙ ap (λ (n : ℕ). done (Started s, record { limit = limit; at = n; rest = rest })) (omega arith)
event_again limit at (Local closes s) rest has fits =
    tag_again (Option ℕ × SealedRecord) (λ x. ClosesFits x.0 × HasRecordBytes x.1) (λ x. closes_bytes x.0 ++ record_bytes x.1) (closes_at & record_at) local_field made_local 2 limit at (closes, s) rest (omega arith) (has.closed_id, has.sealed_record) (omega (arith, fits)) (λ r. refl) ∙ ap (λ (n : ℕ). done (Local closes s, record { limit = limit; at = n; rest = rest })) (omega arith)
event_again limit at (Taken owner s) rest has fits =
    tag_again (ℕ × SealedRecord) (λ x. Below 32 x.0 × HasRecordBytes x.1) (λ x. to_be_bytes w32 x.0 ++ record_bytes x.1) (number_at 4 & record_at) taken_field made_taken 3 limit at (owner, s) rest (omega arith) (has.owner_number, has.sealed_record) (omega (arith, fits)) (λ r. refl) ∙ ap (λ (n : ℕ). done (Taken owner s, record { limit = limit; at = n; rest = rest })) (omega arith)

of_kind : (kind tag at : ℕ) (r : Reading) → kind ≡ tag → event_of kind at r ≡ event_of tag at r
of_kind kind tag at r same = ap (λ (n : ℕ). event_of n at r) same

event_of_judged : (kind at : ℕ) (r : Reading) (more : List ℕ) (place : ℕ) → event_of kind at r ≡ Err (Wrong place) → event_of kind at (with_more r more) ≡ Err (Wrong place)
event_of_judged kind at r more place e = elim (kinds kind at r (Err (Wrong place)) e) [
  | inl started ↦ of_kind kind 1 at (with_more r more) started.0 ∙ as_judged StartedRecord Event HasStartedBytes started_bytes started_at Started started_field r more place started.1
  | inr (inl local) ↦ of_kind kind 2 at (with_more r more) local.0 ∙ as_judged (Option ℕ × SealedRecord) Event (λ x. ClosesFits x.0 × HasRecordBytes x.1) (λ x. closes_bytes x.0 ++ record_bytes x.1) (closes_at & record_at) made_local local_field r more place local.1
  | inr (inr (inl taken)) ↦ of_kind kind 3 at (with_more r more) taken.0 ∙ as_judged (ℕ × SealedRecord) Event (λ x. Below 32 x.0 × HasRecordBytes x.1) (λ x. to_be_bytes w32 x.0 ++ record_bytes x.1) (number_at 4 & record_at) made_taken taken_field r more place taken.1
  | inr (inr (inr wrong)) ↦ wrong.0 (with_more r more) ∙ wrong.1
]

event_of_longer : (kind at : ℕ) (r : Reading) (more : List ℕ) (x : Event) (next : Reading) → event_of kind at r ≡ Ok (x, next) → event_of kind at (with_more r more) ≡ Ok (x, with_more next more)
event_of_longer kind at r more x next e = elim (kinds kind at r (Ok (x, next)) e) [
  | inl started ↦ of_kind kind 1 at (with_more r more) started.0 ∙ as_longer StartedRecord Event HasStartedBytes started_bytes started_at Started started_field r more x next started.1
  | inr (inl local) ↦ of_kind kind 2 at (with_more r more) local.0 ∙ as_longer (Option ℕ × SealedRecord) Event (λ x. ClosesFits x.0 × HasRecordBytes x.1) (λ x. closes_bytes x.0 ++ record_bytes x.1) (closes_at & record_at) made_local local_field r more x next local.1
  | inr (inr (inl taken)) ↦ of_kind kind 3 at (with_more r more) taken.0 ∙ as_longer (ℕ × SealedRecord) Event (λ x. Below 32 x.0 × HasRecordBytes x.1) (λ x. to_be_bytes w32 x.0 ++ record_bytes x.1) (number_at 4 & record_at) made_taken taken_field r more x next taken.1
  | inr (inr (inr wrong)) ↦ absurd (no_value (Wrong at) (x, next) wrong.1)
]

pub event_field : IsField Event HasEventBytes event_bytes event_at
unfolding event_at
event_field = tagged_field Event HasEventBytes event_bytes event_of event_took event_again event_of_judged event_of_longer

-- ---- events, and a body

-- so many events with bytes
abbrev HasEvents : ℕ → List Event → Type 0
HasEvents n events = (length events ≡ n) × AllByRecursion HasEventBytes events

no_events : IsField (List Event) (HasEvents 0) (λ events. flat_map event_bytes events) (events_at 0)
unfolding events_at
no_events = record {
  takes = λ r x next are e. subst (λ (p : List Event × Reading). Took (List Event) (HasEvents 0) (λ events. flat_map event_bytes events) r p.0 p.1) (ok_is ([], r) (x, next) e) (record { has = (refl, tt); parts = refl; at_is = omega arith; limit_is = refl; are_bytes = are });
  again = nothing;
  judged = λ r more place e. absurd (no_stop ([], r) (Wrong place) e);
  longer = λ r more x next e. ap (λ (p : List Event × Reading). done (p.0, with_more p.1 more)) (ok_is ([], r) (x, next) e);
}
  where
    nothing : (limit at : ℕ) (x : List Event) (rest : List ℕ) → HasEvents 0 x → at + length (flat_map event_bytes x) ≤ limit → done {A = List Event × Reading} ([], record { limit = limit; at = at; rest = flat_map event_bytes x ++ rest }) ≡ Ok (x, record { limit = limit; at = at + length (flat_map event_bytes x); rest = rest })
    nothing limit at [] rest has fits = ap (λ (n : ℕ). done {A = List Event × Reading} ([], record { limit = limit; at = n; rest = rest })) (omega arith)
    nothing limit at (event ∷ events) rest has fits = absurd (omega (arith, has.0))

one_more : (n : ℕ) → IsField (List Event) (HasEvents n) (λ events. flat_map event_bytes events) (events_at n) → IsField (List Event) (HasEvents (suc n)) (λ events. flat_map event_bytes events) (events_at (suc n))
unfolding events_at
one_more n later = record {
  takes = λ r x next are e.
      let a = bind_ok (event_at r) (λ event. events_at n event.1 >>= λ later. Ok (event.0 ∷ later.0, later.1)) (x, next) e in
      let b = bind_ok (events_at n a.0.1) (λ later. Ok (a.0.0 ∷ later.0, later.1)) (x, next) a.2 in
      let one = event_field.takes r a.0.0 a.0.1 are a.1 in
      let two = later.takes a.0.1 b.0.0 b.0.1 one.are_bytes b.1 in
      subst (λ (p : List Event × Reading). Took (List Event) (HasEvents (suc n)) (λ events. flat_map event_bytes events) r p.0 p.1) (ok_is (a.0.0 ∷ b.0.0, b.0.1) (x, next) b.2) (record {
        has = (omega (arith, two.has.0), (one.has, two.has.1));
        parts = one.parts ∙ ap (λ (l : List ℕ). event_bytes a.0.0 ++ l) two.parts ∙ sym (append_assoc (event_bytes a.0.0) (flat_map event_bytes b.0.0) b.0.1.rest);
        at_is = omega (arith, one.at_is, two.at_is, length-append (event_bytes a.0.0) (flat_map event_bytes b.0.0));
        limit_is = two.limit_is ∙ one.limit_is;
        are_bytes = two.are_bytes;
      });
  again = λ limit at x rest has fits. first_of_many limit at x rest has fits;
  judged = λ r more place e. elim (bind_err (event_at r) (λ event. events_at n event.1 >>= λ later. Ok (event.0 ∷ later.0, later.1)) (Wrong place) e) [
    | inl stops ↦ ap (λ (s : Result (Event × Reading) Stop). s >>= λ event. events_at n event.1 >>= λ later. Ok (event.0 ∷ later.0, later.1)) (event_field.judged r more place stops)
    | inr on ↦ elim (bind_err (events_at n on.0.1) (λ later. Ok (on.0.0 ∷ later.0, later.1)) (Wrong place) on.2) [
      | inl stops ↦
          ap (λ (s : Result (Event × Reading) Stop). s >>= λ event. events_at n event.1 >>= λ later. Ok (event.0 ∷ later.0, later.1)) (event_field.longer r more on.0.0 on.0.1 on.1)
          ∙ ap (λ (s : Result (List Event × Reading) Stop). s >>= λ later. Ok (on.0.0 ∷ later.0, later.1)) (later.judged on.0.1 more place stops)
      | inr made ↦ absurd (no_stop (on.0.0 ∷ made.0.0, made.0.1) (Wrong place) made.2)
    ]
  ];
  longer = λ r more x next e.
      let a = bind_ok (event_at r) (λ event. events_at n event.1 >>= λ later. Ok (event.0 ∷ later.0, later.1)) (x, next) e in
      let b = bind_ok (events_at n a.0.1) (λ later. Ok (a.0.0 ∷ later.0, later.1)) (x, next) a.2 in
      ap (λ (s : Result (Event × Reading) Stop). s >>= λ event. events_at n event.1 >>= λ later. Ok (event.0 ∷ later.0, later.1)) (event_field.longer r more a.0.0 a.0.1 a.1)
      ∙ ap (λ (s : Result (List Event × Reading) Stop). s >>= λ later. Ok (a.0.0 ∷ later.0, later.1)) (later.longer a.0.1 more b.0.0 b.0.1 b.1)
      ∙ ap (λ (p : List Event × Reading). done (p.0, with_more p.1 more)) (ok_is (a.0.0 ∷ b.0.0, b.0.1) (x, next) b.2);
}
  where
    first_of_many : (limit at : ℕ) (x : List Event) (rest : List ℕ) → HasEvents (suc n) x → at + length (flat_map event_bytes x) ≤ limit → events_at (suc n) (record { limit = limit; at = at; rest = flat_map event_bytes x ++ rest }) ≡ Ok (x, record { limit = limit; at = at + length (flat_map event_bytes x); rest = rest })
    first_of_many limit at [] rest has fits = absurd (omega (arith, has.0))
    first_of_many limit at (event ∷ events) rest has fits =
        let all = length-append (event_bytes event) (flat_map event_bytes events) in
        let one = event_field.again limit at event (flat_map event_bytes events ++ rest) has.1.0 (omega (arith, fits, all)) in
        let two = later.again limit (at + length (event_bytes event)) events rest (omega (arith, has.0), has.1.1) (omega (arith, fits, all)) in
        let place : (at + length (event_bytes event)) + length (flat_map event_bytes events) ≡ at + length (event_bytes event ++ flat_map event_bytes events) = omega (arith, all) in
        ap (λ (l : List ℕ). events_at (suc n) (record { limit = limit; at = at; rest = l })) (append_assoc (event_bytes event) (flat_map event_bytes events) rest)
        ∙ ap (λ (s : Result (Event × Reading) Stop). s >>= λ event. events_at n event.1 >>= λ later. Ok (event.0 ∷ later.0, later.1)) one
        ∙ ap (λ (s : Result (List Event × Reading) Stop). s >>= λ later. Ok (event ∷ later.0, later.1)) two
        ∙ ap (λ (n : ℕ). done (event ∷ events, record { limit = limit; at = n; rest = rest })) place

pub events_field : (n : ℕ) → IsField (List Event) (HasEvents n) (λ events. flat_map event_bytes events) (events_at n)
events_field zero = no_events
events_field (suc n) = one_more n (events_field n)

-- a number of events
abbrev IsCount : ℕ → Type 0
IsCount n = (1 ≤ n) × (n ≤ 100)

counts : (n : ℕ) → IsCount n → (nat_le 1 n && nat_le n 100) ≡ true
counts n is = rw (le-leb 1 n is.0, le-leb n 100 is.1) refl

pub count_field : IsField ℕ IsCount (to_be_bytes w32) count_at
unfolding count_at
count_field = record {
  takes = λ r x next are e.
      let a = bind_ok (number_at 4 r) (λ n. cond (nat_le 1 n.0 && nat_le n.0 100) (Ok n) (Err (Wrong r.at))) (x, next) e in
      let one = number_4.takes r a.0.0 a.0.1 are a.1 in
      elim (chosen (nat_le 1 a.0.0 && nat_le a.0.0 100) (Ok a.0) (Err (Wrong r.at)) (Ok (x, next)) a.2) [
        | inl good ↦
            let both = both_true (nat_le 1 a.0.0) (nat_le a.0.0 100) good.0 in
            subst (λ (p : ℕ × Reading). Took ℕ IsCount (to_be_bytes w32) r p.0 p.1) (ok_is a.0 (x, next) good.1) (record { has = (leb-true 1 a.0.0 both.0, leb-true a.0.0 100 both.1); parts = one.parts; at_is = one.at_is; limit_is = one.limit_is; are_bytes = one.are_bytes })
        | inr bad ↦ absurd (no_value (Wrong r.at) (x, next) bad.1)
      ];
  again = λ limit at x rest has fits.
      let place : ℕ = at + length (to_be_bytes w32 x) in
      ap (λ (s : Result (ℕ × Reading) Stop). s >>= λ n. cond (nat_le 1 n.0 && nat_le n.0 100) (Ok n) (Err (Wrong at))) (number_4.again limit at x rest (omega (arith, has.1)) fits)
      ∙ ap (λ (b : Bool). cond b (done (x, record { limit = limit; at = at + length (to_be_bytes w32 x); rest = rest })) (Err (Wrong at))) (counts x has);
  judged = λ r more place e. elim (bind_err (number_at 4 r) (λ n. cond (nat_le 1 n.0 && nat_le n.0 100) (Ok n) (Err (Wrong r.at))) (Wrong place) e) [
    | inl stops ↦ ap (λ (s : Result (ℕ × Reading) Stop). s >>= λ n. cond (nat_le 1 n.0 && nat_le n.0 100) (Ok n) (Err (Wrong r.at))) (number_4.judged r more place stops)
    | inr on ↦ ap (λ (s : Result (ℕ × Reading) Stop). s >>= λ n. cond (nat_le 1 n.0 && nat_le n.0 100) (Ok n) (Err (Wrong r.at))) (number_4.longer r more on.0.0 on.0.1 on.1)
        ∙ elim (chosen (nat_le 1 on.0.0 && nat_le on.0.0 100) (Ok on.0) (Err (Wrong r.at)) (Err (Wrong place)) on.2) [
          | inl good ↦ absurd (no_stop on.0 (Wrong place) good.1)
          | inr bad ↦ ap (λ (b : Bool). cond b (Ok (on.0.0, with_more on.0.1 more)) (Err (Wrong r.at))) bad.0 ∙ bad.1
        ]
  ];
  longer = λ r more x next e.
      let a = bind_ok (number_at 4 r) (λ n. cond (nat_le 1 n.0 && nat_le n.0 100) (Ok n) (Err (Wrong r.at))) (x, next) e in
      ap (λ (s : Result (ℕ × Reading) Stop). s >>= λ n. cond (nat_le 1 n.0 && nat_le n.0 100) (Ok n) (Err (Wrong r.at))) (number_4.longer r more a.0.0 a.0.1 a.1)
      ∙ elim (chosen (nat_le 1 a.0.0 && nat_le a.0.0 100) (Ok a.0) (Err (Wrong r.at)) (Ok (x, next)) a.2) [
        | inl good ↦ ap (λ (b : Bool). cond b (done (a.0.0, with_more a.0.1 more)) (Err (Wrong r.at))) good.0 ∙ ap (λ (p : ℕ × Reading). done (p.0, with_more p.1 more)) (ok_is a.0 (x, next) good.1)
        | inr bad ↦ absurd (no_value (Wrong r.at) (x, next) bad.1)
      ];
}

-- the events of a batch, however long its body
abbrev HasCounted : List Event → Type 0
HasCounted events = IsCount (length events) × AllByRecursion HasEventBytes events

pub body_field : IsField (List Event) HasCounted body_bytes body_events_at
unfolding body_events_at
body_field = record {
  takes = λ r x next are e.
      let n = bind_ok (count_at r) (λ n. events_at n.0 n.1) (x, next) e in
      let one = count_field.takes r n.0.0 n.0.1 are n.1 in
      let two = (events_field n.0.0).takes n.0.1 x next one.are_bytes n.2 in
      record {
        has = (subst IsCount (sym two.has.0) one.has, two.has.1);
        parts = one.parts ∙ (λ i. to_be_bytes w32 (sym two.has.0 i) ++ two.parts i) ∙ sym (append_assoc (to_be_bytes w32 (length x)) (flat_map event_bytes x) next.rest);
        at_is = omega (arith, one.at_is, two.at_is, length-append (to_be_bytes w32 (length x)) (flat_map event_bytes x));
        limit_is = two.limit_is ∙ one.limit_is;
        are_bytes = two.are_bytes;
      };
  again = λ limit at x rest has fits.
      let count = to_be_bytes w32 (length x) in
      let all = length-append count (flat_map event_bytes x) in
      let one = count_field.again limit at (length x) (flat_map event_bytes x ++ rest) has.0 (omega (arith, fits, all)) in
      let two = (events_field (length x)).again limit (at + length count) x rest (refl, has.1) (omega (arith, fits, all)) in
      let place : (at + length count) + length (flat_map event_bytes x) ≡ at + length (body_bytes x) = omega (arith, all) in
      ap (λ (l : List ℕ). body_events_at (record { limit = limit; at = at; rest = l })) (append_assoc count (flat_map event_bytes x) rest)
      ∙ ap (λ (s : Result (ℕ × Reading) Stop). s >>= λ n. events_at n.0 n.1) one ∙ two
      ∙ ap (λ (n : ℕ). done (x, record { limit = limit; at = n; rest = rest })) place;
  judged = λ r more place e. elim (bind_err (count_at r) (λ n. events_at n.0 n.1) (Wrong place) e) [
    | inl stops ↦ ap (λ (s : Result (ℕ × Reading) Stop). s >>= λ n. events_at n.0 n.1) (count_field.judged r more place stops)
    | inr on ↦ ap (λ (s : Result (ℕ × Reading) Stop). s >>= λ n. events_at n.0 n.1) (count_field.longer r more on.0.0 on.0.1 on.1) ∙ (events_field on.0.0).judged on.0.1 more place on.2
  ];
  longer = λ r more x next e.
      let n = bind_ok (count_at r) (λ n. events_at n.0 n.1) (x, next) e in
      ap (λ (s : Result (ℕ × Reading) Stop). s >>= λ n. events_at n.0 n.1) (count_field.longer r more n.0.0 n.0.1 n.1) ∙ (events_field n.0.0).longer n.0.1 more x next n.2;
}

-- ---- whole bodies

no_events_read : (place : ℕ) (events : List Event) → ◌≡◌ {A = Result (List Event) ℕ} (Err place) (Ok events) → ⊥
no_events_read place events e = cc

-- what was read, to the end
read_whole : (read : Result (List Event × Reading) Stop) (events : List Event) → whole_body read ≡ Ok events → (next : Reading) × (read ≡ Ok (events, next)) × (next.rest ≡ [])
read_whole (Err (Cut place)) events e = absurd (no_events_read place events e)
read_whole (Err (Wrong place)) events e = absurd (no_events_read place events e)
read_whole (Ok read) events e =
    let both = chosen_whole (length read.1.rest == 0) read.0 read.1.at events e in
    (read.1, ap (λ (l : List Event). done (l, read.1)) both.1, no_rest read.1.rest (eqb-true (length read.1.rest) 0 both.0))
  where
    no_rest : (rest : List ℕ) → length rest ≡ 0 → rest ≡ []
    no_rest [] e = refl
    no_rest (b ∷ rest) e = absurd (omega arith)

    chosen_whole : (b : Bool) (x : List Event) (place : ℕ) (y : List Event) → ◌≡◌ {A = Result (List Event) ℕ} (cond b (Ok x) (Err place)) (Ok y) → (b ≡ true) × (x ≡ y)
    chosen_whole true x place y e = (refl, cc)
    chosen_whole false x place y e = absurd cc

pub read_body : (bytes : List ℕ) (events : List Event) → IsBytes bytes → length bytes < 2 ^ 32 → body_at bytes ≡ Ok events → IsBatch events × (bytes ≡ body_bytes events)
read_body bytes events are short e =
    let whole = read_whole (body_events_at (at_start (length bytes) bytes)) events e in
    let took = body_field.takes (at_start (length bytes) bytes) events whole.0 are whole.1 in
    let same : bytes ≡ body_bytes events = took.parts ∙ ap (λ (l : List ℕ). body_bytes events ++ l) whole.2 ∙ append-nil (body_bytes events) in
    (record { some = took.has.0.0; few = took.has.0.1; each = took.has.1; body = subst (λ (n : ℕ). n < 2 ^ 32) (ap (λ (l : List ℕ). length l) same) short }, same)

pub body_is_read : (events : List Event) → IsBatch events → body_at (body_bytes events) ≡ Ok events
body_is_read events is =
    let body = body_bytes events in
    let again = body_field.again (length body) 0 events [] ((is.some, is.few), is.each) (omega arith) in
    ap (λ (l : List ℕ). whole_body (body_events_at (record { limit = length body; at = 0; rest = l }))) (sym (append-nil body)) ∙ ap whole_body again

pub event_stays_read : (r next : Reading) (more : List ℕ) (event : Event) → event_at r ≡ Ok (event, next) → event_at (with_more r more) ≡ Ok (event, with_more next more)
event_stays_read r next more event e = event_field.longer r more event next e

pub event_stays_wrong : (r : Reading) (more : List ℕ) (place : ℕ) → event_at r ≡ Err (Wrong place) → event_at (with_more r more) ≡ Err (Wrong place)
event_stays_wrong r more place e = event_field.judged r more place e

pub wrong_is_no_body : (bytes : List ℕ) (place : ℕ) (events : List Event) → body_at bytes ≡ Err place → IsBatch events → bytes ≡ body_bytes events → ⊥
wrong_is_no_body bytes place events wrong is same = no_events_read place events (sym wrong ∙ ap body_at same ∙ body_is_read events is)

-- ---- worked out

ls_utf8 : is_utf8 (0x6c ∷ 0x73 ∷ []) ≡ true
ls_utf8 = is_utf8-from_IsUtf8 (0x6c ∷ 0x73 ∷ []) (IsUtf8-from_ascii (0x6c ∷ 0x73 ∷ []) (ascii_cons 0x6c (0x73 ∷ []) (omega arith) (ascii_cons 0x73 [] (omega arith) IsAscii-nil)))

root_utf8 : is_utf8 (0x2f ∷ []) ≡ true
root_utf8 = is_utf8-from_IsUtf8 (0x2f ∷ []) (IsUtf8-from_ascii (0x2f ∷ []) (ascii_cons 0x2f [] (omega arith) IsAscii-nil))

s1_utf8 : is_utf8 (0x73 ∷ 0x31 ∷ []) ≡ true
s1_utf8 = is_utf8-from_IsUtf8 (0x73 ∷ 0x31 ∷ []) (IsUtf8-from_ascii (0x73 ∷ 0x31 ∷ []) (ascii_cons 0x73 (0x31 ∷ []) (omega arith) (ascii_cons 0x31 [] (omega arith) IsAscii-nil)))

cut_at_46 : BodyWrongAt (take 52 ls_body) 46
unfolding number_at text_at started_at event_at events_at count_at body_events_at
cut_at_46 = rw (ls_utf8, root_utf8, s1_utf8) refl

pub body_faults : WorkedBodyFaults
unfolding number_at text_at started_at event_at events_at count_at body_events_at
body_faults = record {
  whole = body_is_read (Started ls ∷ []) ls_batch;
  cut = cut_at_46;
  nothing = refl;
  no_events = refl;
  too_many = refl;
  kind = refl;
  long_text = refl;
}
