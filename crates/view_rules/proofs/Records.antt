-- From records to changes: what is in a list of changes is held by a record of the journal.
use Rattle.std.proofs.Common.{◌≡◌, ℕ, zero, suc, List, [], ◌∷◌, ◌++◌, Option, Some, None, true, refl, sym, ap, subst, ◌∙◌, arith, inl, inr, ◌⊎◌}
use Rattle.std.specs.Prelude.{slice_get}
use Rattle.std.specs.Option.{option_map}
use Rattle.std.specs.List.{Contains, cons_option}
use Rattle.std.proofs.lemmas.Option.{same_Some}
use Rattle.definitions.proofs.Among.{Among, Among-from_place}
use Rattle.payload_rules.specs.Payloads.{Payload}
use Rattle.record_rules.specs.Records.{SealedRecord, Entry}
use Rattle.record_rules.specs.Journal.{in_place, chain, Sound}
use Rattle.record_rules.proofs.Members.{Has, place_of_Has, Has-filter, Has-kept}
use Rattle.record_rules.proofs.Spots.{in_place-from, in_place_itself}
use Rattle.view_rules.specs.Changes.{Change, HaveDistinctPlaces, viewed, change_of, Opens, OpensOnce, OpensOrNot, ChangesOf, Opening, gives, OpensByTag, changes_of}
use Rattle.view_rules.specs.Laws.{HaveOneList, ChangesGoOn, ChainsMakeChanges}

-- ---- members

Has-from_Among : {X : Type 0} (xs : List X) (x : X) → Among x xs → Has xs x
Has-from_Among [] x m = absurd m
Has-from_Among (y ∷ xs) x (inl e) = inl (sym e)
Has-from_Among (y ∷ xs) x (inr m) = inr (Has-from_Among xs x m)

pub Has-from_Contains : {X : Type 0} (xs : List X) (x : X) → Contains xs x → Has xs x
Has-from_Contains {X = X} xs x c = Has-from_Among xs x (Among-from_place X xs x c.0 c.1 c.2)

pub Contains-from_Has : {X : Type 0} (xs : List X) (x : X) → Has xs x → Contains xs x
Contains-from_Has [] x m = absurd m
Contains-from_Has (y ∷ xs) x (inl e) = (zero, omega arith, e)
Contains-from_Has (y ∷ xs) x (inr m) = let c = Contains-from_Has xs x m in (suc c.0, let lt = c.1 in omega arith, c.2)

pub Has-joined : {X : Type 0} (xs ys : List X) (x : X) → Has xs x ⊎ Has ys x → Has (xs ++ ys) x
Has-joined [] ys x (inl none) = absurd none
Has-joined [] ys x (inr there) = there
Has-joined (y ∷ xs) ys x (inl (inl e)) = inl e
Has-joined (y ∷ xs) ys x (inl (inr m)) = inr (Has-joined xs ys x (inl m))
Has-joined (y ∷ xs) ys x (inr there) = inr (Has-joined xs ys x (inr there))

-- ---- one list of changes

module _ (opens : Opens) where
  one_list : OpensOnce opens → (records : List SealedRecord) (changes others : List Change) → ChangesOf opens records changes → ChangesOf opens records others → changes ≡ others
  one_list once [] changes others p q = p ∙ sym q
  one_list once (r ∷ records) changes others (inl (payload, rest, opened, of_rest, are)) (inl (payload2, rest2, opened2, of_rest2, are2)) =
      let same_payload : payload ≡ payload2 = once r payload payload2 opened opened2 in
      let same_rest : rest ≡ rest2 = one_list once records rest rest2 of_rest of_rest2 in
      are ∙ ap (λ (p : Payload). change_of r p ∷ rest) same_payload ∙ ap (λ (changes : List Change). change_of r payload2 ∷ changes) same_rest ∙ sym are2
  one_list once (r ∷ records) changes others (inl (payload, rest, opened, of_rest, are)) (inr (unread, of_rest2)) = absurd (unread payload opened)
  one_list once (r ∷ records) changes others (inr (unread, of_rest)) (inl (payload, rest, opened, of_rest2, are)) = absurd (unread payload opened)
  one_list once (r ∷ records) changes others (inr (unread, of_rest)) (inr (unread2, of_rest2)) = one_list once records changes others of_rest of_rest2

  some_list : OpensOrNot opens → (records : List SealedRecord) → (changes : List Change) × ChangesOf opens records changes
  some_list known [] = ([], refl)
  some_list known (r ∷ records) = by (known r) (some_list known records)
    where
      by : ((payload : Payload) × opens r payload) ⊎ ((payload : Payload) → opens r payload → ⊥) → (changes : List Change) × ChangesOf opens records changes → (changes : List Change) × ChangesOf opens (r ∷ records) changes
      by (inl (payload, opened)) (rest, of_rest) = (change_of r payload ∷ rest, inl (payload, rest, opened, of_rest, refl))
      by (inr unread) (rest, of_rest) = (rest, inr (unread, of_rest))

  pub have_one_list : HaveOneList opens
  have_one_list = record { some = some_list; one = one_list }

  goes_on_opened : (records : List SealedRecord) (changes : List Change) (r : SealedRecord) (payload : Payload) → ChangesOf opens records changes → opens r payload → ChangesOf opens (records ++ r ∷ []) (changes ++ change_of r payload ∷ [])
  goes_on_opened [] changes r payload none opened = inl (payload, [], opened, refl, ap (λ (changes : List Change). changes ++ change_of r payload ∷ []) none)
  goes_on_opened (s ∷ records) changes r payload (inl (other, rest, opened_s, of_rest, are)) opened =
      inl (other, rest ++ change_of r payload ∷ [], opened_s, goes_on_opened records rest r payload of_rest opened, ap (λ (changes : List Change). changes ++ change_of r payload ∷ []) are)
  goes_on_opened (s ∷ records) changes r payload (inr (unread, of_rest)) opened = inr (unread, goes_on_opened records changes r payload of_rest opened)

  goes_on_unread : (records : List SealedRecord) (changes : List Change) (r : SealedRecord) → ChangesOf opens records changes → ((payload : Payload) → opens r payload → ⊥) → ChangesOf opens (records ++ r ∷ []) changes
  goes_on_unread [] changes r none unread = inr (unread, none)
  goes_on_unread (s ∷ records) changes r (inl (other, rest, opened_s, of_rest, are)) unread = inl (other, rest, opened_s, goes_on_unread records rest r of_rest unread, are)
  goes_on_unread (s ∷ records) changes r (inr (unread_s, of_rest)) unread = inr (unread_s, goes_on_unread records changes r of_rest unread)

  pub go_on : ChangesGoOn opens
  go_on = record { opened = goes_on_opened; unread = goes_on_unread }

  -- ---- what is held

  -- the record that holds a change
  pub record HeldBy (records : List SealedRecord) (c : Change) : Type 0 where
    pub from : SealedRecord
    pub among : Has records from
    pub opened : opens from c.payload
    pub is : c ≡ change_of from c.payload

  held_later : (r : SealedRecord) (records : List SealedRecord) (c : Change) → HeldBy records c → HeldBy (r ∷ records) c
  held_later r records c h = record { from = h.from; among = inr h.among; opened = h.opened; is = h.is }

  pub held_by : (records : List SealedRecord) (changes : List Change) (c : Change) → ChangesOf opens records changes → Has changes c → HeldBy records c
  held_by [] changes c none has = absurd (subst (λ (changes : List Change). Has changes c) none has)
  held_by (r ∷ records) changes c (inl (payload, rest, opened, of_rest, are)) has = by (subst (λ (changes : List Change). Has changes c) are has) (held_by records rest c of_rest)
    where
      by : Has (change_of r payload ∷ rest) c → (Has rest c → HeldBy records c) → HeldBy (r ∷ records) c
      by (inl e) of_later = subst (HeldBy (r ∷ records)) e (record { from = r; among = inl refl; opened = opened; is = refl })
      by (inr m) of_later = held_later r records c (of_later m)
  held_by (r ∷ records) changes c (inr (unread, of_rest)) has = held_later r records c (held_by records changes c of_rest has)

  pub holds : OpensOnce opens → (records : List SealedRecord) (changes : List Change) (r : SealedRecord) (payload : Payload) → ChangesOf opens records changes → Has records r → opens r payload → Has changes (change_of r payload)
  holds once [] changes r payload none has opened = absurd has
  holds once (s ∷ records) changes r payload (inl (other, rest, opened_s, of_rest, are)) (inl e) opened =
      let opened_r : opens r other = subst (λ (x : SealedRecord). opens x other) e opened_s in
      let same_payload : other ≡ payload = once r other payload opened_r opened in
      subst (λ (changes : List Change). Has changes (change_of r payload)) (sym are) (inl (ap (λ (x : SealedRecord). change_of x other) e ∙ ap (change_of r) same_payload))
  holds once (s ∷ records) changes r payload (inl (other, rest, opened_s, of_rest, are)) (inr m) opened =
      subst (λ (changes : List Change). Has changes (change_of r payload)) (sym are) (inr (holds once records rest r payload of_rest m opened))
  holds once (s ∷ records) changes r payload (inr (unread, of_rest)) (inl e) opened = absurd (unread payload (subst (λ (x : SealedRecord). opens x payload) (sym e) opened))
  holds once (s ∷ records) changes r payload (inr (unread, of_rest)) (inr m) opened = holds once records changes r payload of_rest m opened

-- ---- equal chains

goes_over : (journal other : List Entry) → ((host : ℕ) (tag : List ℕ) → chain journal 0 host tag ≡ chain other 0 host tag) → (r : SealedRecord) → Has (viewed journal) r → Has (viewed other) r
goes_over journal other same r has =
    let here : Has (chain journal 0 r.host r.tag) r = Has-kept (in_place r.host r.tag) (viewed journal) r has (in_place_itself r) in
    let there : Has (chain other 0 r.host r.tag) r = subst (λ (records : List SealedRecord). Has records r) (same r.host r.tag) here in
    Has-filter (in_place r.host r.tag) (viewed other) r there

changes_over : (opens : Opens) (journal other : List Entry) (changes others : List Change) → OpensOnce opens → ((host : ℕ) (tag : List ℕ) → chain journal 0 host tag ≡ chain other 0 host tag)
    → ChangesOf opens (viewed journal) changes → ChangesOf opens (viewed other) others → (c : Change) → Contains changes c → Contains others c
changes_over opens journal other changes others once same of_journal of_other c in_c =
    let held = held_by opens (viewed journal) changes c of_journal (Has-from_Contains changes c in_c) in
    let there = holds opens once (viewed other) others held.from c.payload of_other (goes_over journal other same held.from held.among) held.opened in
    Contains-from_Has others c (subst (Has others) (sym held.is) there)

pub chains_make_changes : (opens : Opens) → ChainsMakeChanges opens
chains_make_changes opens journal other changes others once same of_journal of_other c = (
  changes_over opens journal other changes others once same of_journal of_other c,
  changes_over opens other journal others changes once (λ host tag. sym (same host tag)) of_other of_journal c,
)

-- ---- openings that are computed

pub gives_once : (opening : Opening) → OpensOnce (gives opening)
gives_once opening r p q opened other = same_Some p q (sym opened ∙ other)

pub computed_list : (opening : Opening) (records : List SealedRecord) → ChangesOf (gives opening) records (changes_of opening records)
computed_list opening [] = refl
computed_list opening (r ∷ records) = by (opening r) refl (computed_list opening records)
  where
    by : (o : Option Payload) → opening r ≡ o → ChangesOf (gives opening) records (changes_of opening records) → ChangesOf (gives opening) (r ∷ records) (cons_option (option_map (change_of r) o) (changes_of opening records))
    by None e later = inr (λ payload opened. let both : None ≡ Some payload = sym e ∙ opened in cc, later)
    by (Some payload) e later = inl (payload, changes_of opening records, e, later, refl)

pub own_places : (opening : Opening) (journal : List Entry) (host : ℕ) → OpensByTag opening → Sound journal host → HaveDistinctPlaces (changes_of opening (viewed journal))
own_places opening journal host by_tag sound c d in_c in_d hosts tags idxs =
    let changes = changes_of opening (viewed journal) in
    let of_journal = computed_list opening (viewed journal) in
    let p = held_by (gives opening) (viewed journal) changes c of_journal (Has-from_Contains changes c in_c) in
    let q = held_by (gives opening) (viewed journal) changes d of_journal (Has-from_Contains changes d in_d) in
    let r = p.from in
    let s = q.from in
    let hosts_are : r.host ≡ s.host = sym (ap (λ (c : Change). c.host) p.is) ∙ hosts ∙ ap (λ (c : Change). c.host) q.is in
    let idxs_are : r.idx ≡ s.idx = sym (ap (λ (c : Change). c.idx) p.is) ∙ idxs ∙ ap (λ (c : Change). c.idx) q.is in
    let tags_are : r.tag ≡ s.tag = by_tag r c.payload p.opened ∙ tags ∙ sym (by_tag s d.payload q.opened) in
    let one : r ≡ s = own_record journal host sound r s p.among q.among hosts_are tags_are idxs_are in
    let payloads : c.payload ≡ d.payload = same_Some c.payload d.payload (sym p.opened ∙ ap opening one ∙ q.opened) in
    p.is ∙ ap (λ (x : SealedRecord). change_of x c.payload) one ∙ ap (change_of s) payloads ∙ sym q.is
  where
    -- in a sound journal a record stands alone at its host, tag and idx
    own_record : (journal : List Entry) (host : ℕ) → Sound journal host → (r s : SealedRecord) → Has (viewed journal) r → Has (viewed journal) s → r.host ≡ s.host → r.tag ≡ s.tag → r.idx ≡ s.idx → r ≡ s
    own_record journal host sound r s in_r in_s hosts tags idxs =
        let records = chain journal 0 r.host r.tag in
        let has_r : Has records r = Has-kept (in_place r.host r.tag) (viewed journal) r in_r (in_place_itself r) in
        let inside : in_place r.host r.tag s ≡ true = in_place-from r.host r.tag s (record { host_is = sym hosts; tag_is = sym tags }) in
        let has_s : Has records s = Has-kept (in_place r.host r.tag) (viewed journal) s in_s inside in
        let at_r = place_of_Has records r has_r in
        let at_s = place_of_Has records s has_s in
        let idx_r : r.idx ≡ at_r.0 = sound.numbered 0 r.host r.tag at_r.0 r at_r.1 in
        let idx_s : s.idx ≡ at_s.0 = sound.numbered 0 r.host r.tag at_s.0 s at_s.1 in
        let same : at_r.0 ≡ at_s.0 = sym idx_r ∙ idxs ∙ idx_s in
        same_Some r s (sym at_r.1 ∙ ap (λ (k : ℕ). slice_get records k) same ∙ at_s.1)
