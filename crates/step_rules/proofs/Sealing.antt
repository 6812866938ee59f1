-- What holds of the store under a key.
use Rattle.std.proofs.Common.{◌≡◌, ℕ, ◌≤◌, inl, inr, List, [], ◌∷◌, length, Option, Some, sym, ap, subst, ◌∙◌, arith}
use Rattle.std.specs.Prelude.{◌↔◌}
use Rattle.std.proofs.lemmas.Option.{same_Some}
use Rattle.definitions.specs.Spelling.{IsBytes}
use Rattle.definitions.specs.Reading.{◌>>=◌}
use Rattle.definitions.proofs.Bytes.{bind_some}
use Rattle.payload_rules.specs.Payloads.{Payload, tag_of, version_text, payload_version, PayloadOf, written_payload}
use Rattle.payload_rules.specs.Reading.{payload_at}
use Rattle.payload_rules.proofs.Payloads.{payloads_one}
use Rattle.payload_rules.proofs.Reading.{payload_found, payload_again}
use Rattle.payload_rules.proofs.Written.{written_spelled}
use Rattle.definitions.specs.Limits.{most_page_weight, most_call_bytes}
use Rattle.record_rules.specs.Records.{SealedRecord, record_weight}
use Rattle.view_rules.specs.Changes.{Change, Opens, OpensOnce, ChangesOf, OpensByTag, gives, changes_of}
use Rattle.view_rules.proofs.Records.{computed_list}
use Rattle.step_rules.specs.Store.{Head, sealed_record, KeyedStore, payload_text_bytes}
use Rattle.step_rules.specs.Sealing.{Sealing, OpensTo, keyed_store, OpensItsSeals, TextsWithinRecords, KeyedStoreHolds}
use Rattle.step_rules.proofs.Following.{tag_fits, version_length}
use Rattle.step_rules.proofs.Texts.{payload_within, written_short}

-- two relations that say the same of each record have the same lists
changes_alike : (one other : Opens) → ((r : SealedRecord) (payload : Payload) → one r payload ↔ other r payload) → (records : List SealedRecord) (changes : List Change) → ChangesOf one records changes → ChangesOf other records changes
changes_alike one other same [] changes of = of
changes_alike one other same (r ∷ records) changes (inl (payload, rest, opened, of_rest, are)) = inl (payload, rest, (same r payload).0 opened, changes_alike one other same records rest of_rest, are)
changes_alike one other same (r ∷ records) changes (inr (unread, of_rest)) = inr (λ payload opened. unread payload ((same r payload).1 opened), changes_alike one other same records changes of_rest)

module _ (sealing : Sealing) (host : ℕ) (key : List ℕ) where
  abbrev store : KeyedStore
  store = keyed_store sealing host key

  opens_where : (r : SealedRecord) (payload : Payload) → store.opens r ≡ Some payload → OpensTo sealing key r payload
  opens_where r payload e =
      let read = bind_some (sealing.opens key r) (payload_at r.tag r.version) payload e in
      (read.0, read.1, payload_found r.tag r.version read.0 payload (sealing.opened_bytes key r read.0 read.1) read.2)

  opens_there : (r : SealedRecord) (payload : Payload) → OpensTo sealing key r payload → store.opens r ≡ Some payload
  opens_there r payload o =
      ap (λ (found : Option (List ℕ)). found >>= payload_at r.tag r.version) o.1 ∙ payload_again r.tag r.version o.0 payload (sealing.opened_bytes key r o.0 o.1) o.2

  opens_so : (r : SealedRecord) (payload : Payload) → (store.opens r ≡ Some payload) ↔ OpensTo sealing key r payload
  opens_so r payload = (opens_where r payload, opens_there r payload)

  opens_one : OpensOnce (OpensTo sealing key)
  opens_one r p q one other =
      let same : one.0 ≡ other.0 = same_Some one.0 other.0 (sym one.1 ∙ other.1) in
      payloads_one r.tag r.version other.0 p q (subst (λ (bytes : List ℕ). PayloadOf r.tag r.version bytes p) same one.2) other.2

  opens_tagged : OpensByTag store.opens
  opens_tagged r payload e = (opens_where r payload e).2.tag_is

  weighs : (head : Head) (payload : Payload) (now : ℕ) (random : List ℕ) → head.tag ≡ tag_of payload → head.version ≡ version_text (payload_version payload) → length random ≡ 96 → record_weight (sealed_record head now (store.seal head payload random)) ≡ store.weight_of payload
  weighs head payload now random tag_is version_is many =
      let tag : length head.tag ≡ length (tag_of payload) = ap (λ (text : List ℕ). length text) tag_is in
      let version : length head.version ≡ 2 = ap (λ (text : List ℕ). length text) version_is ∙ version_length (payload_version payload) in
      let sealed = sealing.sealed_has key head (written_payload payload) random many in
      let wrapped = sealing.wrapped_has key head (written_payload payload) random many in
      omega (arith, tag, version, sealed, wrapped)

  light : (payload : Payload) → payload_text_bytes payload ≤ most_call_bytes → store.weight_of payload ≤ most_page_weight
  light payload few =
      let tag = tag_fits payload in
      let written = written_short payload in
      let sealed = sealing.sealed_short (length (written_payload payload)) in
      let wrapped = sealing.wrapped_short in
      omega (arith, few, tag, written, sealed, wrapped)

  reopened : length key ≡ 32 → IsBytes key → OpensItsSeals store
  reopened key_long key_bytes head payload now random tag_is version_is fits texts written many random_bytes =
      let spelled : PayloadOf head.tag head.version (written_payload payload) payload =
      subst (λ (tag : List ℕ). PayloadOf tag head.version (written_payload payload) payload) (sym tag_is) (subst (λ (version : List ℕ). PayloadOf (tag_of payload) version (written_payload payload) payload) (sym version_is) (written_spelled payload fits texts)) in
      opens_there (sealed_record head now (store.seal head payload random)) payload (written_payload payload, sealing.reopens key head (written_payload payload) random now key_long key_bytes written many random_bytes, spelled)

  within_record : TextsWithinRecords store
  within_record r payload e =
      let o = opens_where r payload e in
      let texts = payload_within payload o.2.written_in o.0 o.2.spelled in
      let short = sealing.opened_short key r o.0 o.1 in
      omega (arith, texts, short)

  pub keyed_store_holds : KeyedStoreHolds sealing host key
  keyed_store_holds = record {
    seals_well = record { weighs = weighs; light = light };
    opens_its_seals = reopened;
    opens = opens_so;
    opens_once = opens_one;
    opens_by_tag = opens_tagged;
    changes = λ records. changes_alike (gives store.opens) (OpensTo sealing key) opens_so records (changes_of store.opens records) (computed_list store.opens records);
    texts = within_record;
  }
