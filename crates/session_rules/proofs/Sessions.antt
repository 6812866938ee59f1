-- What a session's replies are told, and where.
use Rattle.std.proofs.Common.{◌≡◌, ℕ, zero, suc, ◌+◌, ◌≤◌, false, cond, ◌⊎◌, inl, inr, List, [], ◌∷◌, ◌++◌, length, take, filter, Some, refl, sym, ◌∙◌, ap, subst, arith, append_assoc, length-append}
use Rattle.std.specs.Prelude.{slice_get, All}
use Rattle.std.specs.List.{Contains}
use Rattle.std.proofs.lemmas.Bool.{cases_Bool, eqb-true}
use Rattle.std.proofs.lemmas.Option.{none-some, same_Some}
use Rattle.std.proofs.lemmas.List.{append-nil, take-append-le, length-map, map-append}
use Rattle.std.proofs.lemmas.List.Elements.{filter-append}
use Rattle.std.proofs.lemmas.Grind.{flat_map-append}
use Rattle.definitions.specs.Uses.{Used, used_nothing, then_used}
use Rattle.definitions.proofs.Uses.{then_used-assoc, nothing-then_used}
use Rattle.record_rules.specs.Records.{Caller, Entry}
use Rattle.record_rules.specs.Growth.{grow}
use Rattle.record_rules.proofs.Members.{Has}
use Rattle.view_rules.proofs.Records.{Has-from_Contains}
use Rattle.step_rules.specs.Store.{KeyedStore}
use Rattle.step_rules.specs.Step.{Ready, Step}
use Rattle.step_rules.specs.Turn.{UsedBeforeFailing}
use Rattle.step_rules.specs.ReadTurns.{ReadTurn}
use Rattle.session_rules.specs.Sessions.{Asked, SessionAnswer, SessionReply, caller_of, Told, told_step, told_disk_fault, told_random_fault, told_no_memory, told_no_memory_at_once, told_bad, told_no_memory_for_bad, told_page, told_page_refused, told_page_disk_fault, told_page_no_memory, told_read, told_unrouted, told_no_memory_for_unrouted, SessionRequest, ServedRequest, requests_of, replies_of, commits_of, used_by, Serves, is_of, Session}

-- the front of the last reply
abbrev pub last_front : ℕ → List ServedRequest → ℕ
last_front from [] = from
last_front from (one ∷ more) = last_front one.reply.front more

pub used_by-append : (one two : List ServedRequest) → used_by (one ++ two) ≡ then_used (used_by one) (used_by two)
used_by-append [] two = sym (nothing-then_used (used_by two))
used_by-append (x ∷ one) two = ap (then_used x.used) (used_by-append one two) ∙ sym (then_used-assoc x.used (used_by one) (used_by two))

module _ (store : KeyedStore) (journal : List Entry) (number : ℕ) where
  -- ---- what is told

  pub record ToldAt (request : SessionRequest) (reply : SessionReply) : Type 0 where
    pub used : Used
    pub commit : List Entry
    pub told : Told store journal (caller_of number request.call) request.asked reply.front used reply.answer commit

  pub told_at : (from : ℕ) (served : List ServedRequest) (k : ℕ) (request : SessionRequest) (reply : SessionReply) → Serves store journal number from served → slice_get (requests_of served) k ≡ Some request → slice_get (replies_of served) k ≡ Some reply → ToldAt request reply
  told_at from [] k request reply serves at_k told_k = absurd (none-some request at_k)
  told_at from (one ∷ more) zero request reply serves at_k told_k =
      let here : ToldAt one.request one.reply = record { used = one.used; commit = one.commit; told = serves.0.told } in
      subst (λ (x : SessionRequest). ToldAt x reply) (same_Some one.request request at_k) (subst (λ (x : SessionReply). ToldAt one.request x) (same_Some one.reply reply told_k) here)
  told_at from (one ∷ more) (suc k) request reply serves at_k told_k = told_at one.reply.front more k request reply serves.1 at_k told_k

  -- ---- where

  pub fronts_behind : (from : ℕ) (served : List ServedRequest) (k : ℕ) (s : SessionReply) → Serves store journal number from served → slice_get (replies_of served) k ≡ Some s → (from ≤ s.front) × (s.front ≤ length journal)
  fronts_behind from [] k s serves at = absurd (none-some s at)
  fronts_behind from (one ∷ more) zero s serves at =
      let behind : from + length one.commit ≤ one.reply.front = serves.0.behind in
      subst (λ (x : SessionReply). (from ≤ x.front) × (x.front ≤ length journal)) (same_Some one.reply s at) (omega arith, serves.0.within)
  fronts_behind from (one ∷ more) (suc k) s serves at =
      let later = fronts_behind one.reply.front more k s serves.1 at in
      let behind : from + length one.commit ≤ one.reply.front = serves.0.behind in
      let low : one.reply.front ≤ s.front = later.0 in
      (omega arith, later.1)

  pub fronts_rise : (from : ℕ) (served : List ServedRequest) (i k : ℕ) (r s : SessionReply) → Serves store journal number from served → i ≤ k → slice_get (replies_of served) i ≡ Some r → slice_get (replies_of served) k ≡ Some s → r.front ≤ s.front
  fronts_rise from [] i k r s serves below at_i at_k = absurd (none-some s at_k)
  fronts_rise from (one ∷ more) zero zero r s serves below at_i at_k = let same : r ≡ s = sym (same_Some one.reply r at_i) ∙ same_Some one.reply s at_k in subst (λ (y : SessionReply). r.front ≤ y.front) same (omega arith)
  fronts_rise from (one ∷ more) zero (suc k) r s serves below at_i at_k = subst (λ (y : SessionReply). y.front ≤ s.front) (same_Some one.reply r at_i) (fronts_behind one.reply.front more k s serves.1 at_k).0
  fronts_rise from (one ∷ more) (suc i) zero r s serves below at_i at_k = absurd (omega arith)
  fronts_rise from (one ∷ more) (suc i) (suc k) r s serves below at_i at_k = fronts_rise one.reply.front more i k r s serves.1 (omega arith) at_i at_k

  pub last_within : (from : ℕ) (served : List ServedRequest) → Serves store journal number from served → from ≤ length journal → last_front from served ≤ length journal
  last_within from [] serves within = within
  last_within from (one ∷ more) serves within = last_within one.reply.front more serves.1 serves.0.within

  -- ---- one list behind another one

  -- it may begin earlier
  pub serves_from : (from earlier : ℕ) (served : List ServedRequest) → earlier ≤ from → Serves store journal number from served → Serves store journal number earlier served
  serves_from from earlier [] before serves = serves
  serves_from from earlier (one ∷ more) before serves =
      let behind : from + length one.commit ≤ one.reply.front = serves.0.behind in
      (record { behind = omega arith; within = serves.0.within; told = serves.0.told }, serves.1)

  pub serves_then : (from : ℕ) (one two : List ServedRequest) → Serves store journal number from one → Serves store journal number (last_front from one) two → Serves store journal number from (one ++ two)
  serves_then from [] two first second = second
  serves_then from (x ∷ one) two first second = (first.0, serves_then x.reply.front one two first.1 second)

  -- ---- entries behind

  module _ (added : List Entry) where
    -- what stands before a front stands there still
    front_still : (front : ℕ) → front ≤ length journal → take front (journal ++ added) ≡ take front journal
    front_still front within = take-append-le front journal added within

    told_still : (caller : Caller) (asked : Asked) (front : ℕ) (used : Used) (answer : SessionAnswer) (commit : List Entry) → front ≤ length journal → Told store journal caller asked front used answer commit → Told store (journal ++ added) caller asked front used answer commit
    told_still caller asked front used answer commit within (told_step c before given is parts step a) =
        told_step c before given is (front_still front within ∙ parts) (subst (λ j. Step store before caller c used j given) (sym (front_still front within)) step) a
    told_still caller asked front used answer commit within (told_bad place is u a c) = told_bad place is u a c
    told_still caller asked front used answer commit within (told_disk_fault c is w u a n) = told_disk_fault c is w (subst (λ j. UsedBeforeFailing store j c used) (sym (front_still front within)) u) a n
    told_still caller asked front used answer commit within (told_random_fault c draft now is ready u a n) = told_random_fault c draft now is (subst (λ j. Ready store j c draft) (sym (front_still front within)) ready) u a n
    told_still caller asked front used answer commit within (told_no_memory c is w u a n) = told_no_memory c is w (subst (λ j. UsedBeforeFailing store j c used) (sym (front_still front within)) u) a n
    told_still caller asked front used answer commit within (told_no_memory_at_once c is u a n) = told_no_memory_at_once c is u a n
    told_still caller asked front used answer commit within (told_no_memory_for_bad place is u a c) = told_no_memory_for_bad place is u a c
    told_still caller asked front used answer commit within (told_page owner records before is parts grows u a) = told_page owner records before is (front_still front within ∙ parts) grows u a
    told_still caller asked front used answer commit within (told_page_refused owner records refusal is grows u a n) = told_page_refused owner records refusal is (ap (λ j. grow j caller owner records) (front_still front within) ∙ grows) u a n
    told_still caller asked front used answer commit within (told_page_disk_fault owner records is u a n) = told_page_disk_fault owner records is u a n
    told_still caller asked front used answer commit within (told_page_no_memory owner records is u a n) = told_page_no_memory owner records is u a n
    told_still caller asked front used answer commit within (told_read read given is turn u a n) = told_read read given is (subst (λ j. ReadTurn j [] read j [] given) (sym (front_still front within)) turn) u a n
    told_still caller asked front used answer commit within (told_unrouted code is u a n) = told_unrouted code is u a n
    told_still caller asked front used answer commit within (told_no_memory_for_unrouted code is u a n) = told_no_memory_for_unrouted code is u a n

    pub serves_still : (from : ℕ) (served : List ServedRequest) → Serves store journal number from served → Serves store (journal ++ added) number from served
    serves_still from [] serves = serves
    serves_still from (one ∷ more) serves =
        let within : one.reply.front ≤ length journal = serves.0.within in
        let longer = length-append journal added in (
          record {
            behind = serves.0.behind;
            within = omega (arith, within, longer);
            told = told_still (caller_of number one.request.call) one.request.asked one.reply.front one.used one.reply.answer one.commit serves.0.within serves.0.told;
          },
          serves_still one.reply.front more serves.1,
        )

pub none_kept : (number : ℕ) (more : List Entry) → All (λ entry. is_of number entry ≡ false) more → filter (is_of number) more ≡ []
none_kept number [] others = refl
none_kept number (entry ∷ more) others =
    ap (λ b. cond b (entry ∷ filter (is_of number) more) (filter (is_of number) more)) (others 0 entry (omega arith)) ∙ none_kept number more (λ k d below. others (suc k) d (omega arith))

pub session_still : (store : KeyedStore) (seen : List Entry) (number : ℕ) (requests : List SessionRequest) (used : Used) (replies : List SessionReply) (journal more : List Entry) → Session store seen number requests used replies journal → All (λ entry. is_of number entry ≡ false) more → Session store seen number requests used replies (journal ++ more)
session_still store seen number requests used replies journal more session others = record {
  since = session.since ++ more;
  begins = ap (λ j. j ++ more) session.begins ∙ append_assoc seen session.since more;
  served = session.served;
  requests_are = session.requests_are;
  used_is = session.used_is;
  replies_are = session.replies_are;
  serves = serves_still store journal number more (length seen) session.served session.serves;
  own_are = filter-append (is_of number) session.since more ∙ ap (λ rest. filter (is_of number) session.since ++ rest) (none_kept number more others) ∙ append-nil (filter (is_of number) session.since) ∙ session.own_are;
}

pub session_begins : (store : KeyedStore) (seen : List Entry) (number : ℕ) → Session store seen number [] used_nothing [] seen
session_begins store seen number = record { since = []; begins = sym (append-nil seen); served = []; requests_are = refl; used_is = refl; replies_are = refl; serves = tt; own_are = refl }

-- two sessions of one number, the second from where the first ended
pub sessions_follow : (store : KeyedStore) (seen : List Entry) (number : ℕ) (requests : List SessionRequest) (used : Used) (replies : List SessionReply) (between : List Entry) (more : List SessionRequest) (used_more : Used) (replies_more : List SessionReply) (journal : List Entry)
    → Session store seen number requests used replies between → Session store between number more used_more replies_more journal → Session store seen number (requests ++ more) (then_used used used_more) (replies ++ replies_more) journal
sessions_follow store seen number requests used replies between more used_more replies_more journal one two =
    let all : List ServedRequest = one.served ++ two.served in
    let within : length seen ≤ length between = subst (λ j. length seen ≤ length j) (sym one.begins) (let sum = length-append seen one.since in omega arith) in
    let last : last_front (length seen) one.served ≤ length between = last_within store between number (length seen) one.served one.serves within in
    let first : Serves store journal number (length seen) one.served = subst (λ j. Serves store j number (length seen) one.served) (sym two.begins) (serves_still store between number two.since (length seen) one.served one.serves) in
    record {
      since = one.since ++ two.since;
      begins = two.begins ∙ ap (λ j. j ++ two.since) one.begins ∙ append_assoc seen one.since two.since;
      served = all;
      requests_are = map-append (λ (x : ServedRequest). x.request) one.served two.served ∙ ap (λ rs. rs ++ requests_of two.served) one.requests_are ∙ ap (λ rs. requests ++ rs) two.requests_are;
      used_is = used_by-append one.served two.served ∙ ap (λ u. then_used u (used_by two.served)) one.used_is ∙ ap (then_used used) two.used_is;
      replies_are = map-append (λ (x : ServedRequest). x.reply) one.served two.served ∙ ap (λ rs. rs ++ replies_of two.served) one.replies_are ∙ ap (λ rs. replies ++ rs) two.replies_are;
      serves = serves_then store journal number (length seen) one.served two.served first (serves_from store journal number (length between) (last_front (length seen) one.served) two.served last two.serves);
      own_are = filter-append (is_of number) one.since two.since ∙ ap (λ c. c ++ filter (is_of number) two.since) one.own_are ∙ ap (λ c. commits_of one.served ++ c) two.own_are ∙ sym (flat_map-append (λ (x : ServedRequest). x.commit) one.served two.served);
    }

-- what is told of the request at a place
pub session_told_at : (store : KeyedStore) (seen : List Entry) (number : ℕ) (requests : List SessionRequest) (used : Used) (replies : List SessionReply) (journal : List Entry) (k : ℕ) (request : SessionRequest) (reply : SessionReply)
    → Session store seen number requests used replies journal → slice_get requests k ≡ Some request → slice_get replies k ≡ Some reply → ToldAt store journal number request reply
session_told_at store seen number requests used replies journal k request reply session at_k told_k =
    told_at store journal number (length seen) session.served k request reply session.serves (ap (λ rs. slice_get rs k) session.requests_are ∙ at_k) (ap (λ rs. slice_get rs k) session.replies_are ∙ told_k)

pub points_follow : (store : KeyedStore) (seen : List Entry) (number : ℕ) (requests : List SessionRequest) (used : Used) (replies : List SessionReply) (journal : List Entry) (i k : ℕ) (r s : SessionReply) → Session store seen number requests used replies journal → i ≤ k → slice_get replies i ≡ Some r → slice_get replies k ≡ Some s
    → (length seen ≤ r.front) × (r.front ≤ s.front) × (s.front ≤ length journal)
points_follow store seen number requests used replies journal i k r s session below at_i at_k =
    let first : slice_get (replies_of session.served) i ≡ Some r = ap (λ rs. slice_get rs i) session.replies_are ∙ at_i in
    let second : slice_get (replies_of session.served) k ≡ Some s = ap (λ rs. slice_get rs k) session.replies_are ∙ at_k in (
      (fronts_behind store journal number (length seen) session.served i r session.serves first).0,
      fronts_rise store journal number (length seen) session.served i k r s session.serves below first second,
      (fronts_behind store journal number (length seen) session.served k s session.serves second).1,
    )

pub as_many : (store : KeyedStore) (seen : List Entry) (number : ℕ) (requests : List SessionRequest) (used : Used) (replies : List SessionReply) (journal : List Entry) → Session store seen number requests used replies journal → length requests ≡ length replies
as_many store seen number requests used replies journal session =
    sym (ap length session.requests_are) ∙ length-map session.served (λ (x : ServedRequest). x.request) ∙ sym (length-map session.served (λ (x : ServedRequest). x.reply)) ∙ ap length session.replies_are

-- ---- whose commits

first_or_later : (number : ℕ) (e entry : Entry) (Later : Type 0) → e.caller.number ≡ number → (Later → entry.caller.number ≡ number) → (e ≡ entry) ⊎ Later → entry.caller.number ≡ number
first_or_later number e entry Later own rest (inl here) = ap (λ (x : Entry). x.caller.number) (sym here) ∙ own
first_or_later number e entry Later own rest (inr later) = rest later

kept_passes : (number : ℕ) (entries : List Entry) (entry : Entry) → Has (filter (is_of number) entries) entry → entry.caller.number ≡ number
kept_passes number [] entry has = absurd has
kept_passes number (e ∷ entries) entry has =
    let rest = kept_passes number entries entry in
    elim (cases_Bool (is_of number e)) [
      | inl own ↦ first_or_later number e entry (Has (filter (is_of number) entries) entry) (eqb-true e.caller.number number own) rest (subst (λ b. Has (cond b (e ∷ filter (is_of number) entries) (filter (is_of number) entries)) entry) own has)
      | inr other ↦ rest (subst (λ b. Has (cond b (e ∷ filter (is_of number) entries) (filter (is_of number) entries)) entry) other has)
    ]

pub commit_is_own : (store : KeyedStore) (seen : List Entry) (number : ℕ) (requests : List SessionRequest) (used : Used) (replies : List SessionReply) (journal : List Entry) (entry : Entry) (session : Session store seen number requests used replies journal) → Contains (commits_of session.served) entry → entry.caller.number ≡ number
commit_is_own store seen number requests used replies journal entry session among =
    kept_passes number session.since entry (Has-from_Contains (filter (is_of number) session.since) entry (subst (λ entries. Contains entries entry) (sym session.own_are) among))
