-- A payload is read exactly where its bytes spell it under a tag and a version.
use Rattle.std.proofs.Common.{◌≡◌, ℕ, Bool, true, false, cond, eqb, List, [], ◌∷◌, ◌++◌, length, Option, Some, None, refl, sym, ap, subst, ◌∙◌}
use Rattle.std.specs.Str.{bytes_eq}
use Rattle.std.proofs.lemmas.Bool.{eqb-true}
use Rattle.std.proofs.lemmas.Option.{same_Some}
use Rattle.std.proofs.lemmas.Slice.Eq.{bytes_eq-Decides}
use Rattle.definitions.specs.Ids.{id_text}
use Rattle.definitions.specs.Journal.{HistoryRecord}
use Rattle.definitions.specs.Reading.{◌>>=◌, text_at}
use Rattle.definitions.specs.Spelling.{SpellsText, SpellsArray}
use Rattle.definitions.proofs.Bytes.{IsBytes, IsBytes-rest, bind_some, ReadsSpellings}
use Rattle.definitions.proofs.Spelling.{texts_read}
use Rattle.msgpack_fields.specs.Reading.{SpellsNumber, number_at}
use Rattle.msgpack_fields.proofs.Nils.{numbers_read}
use Rattle.payload_rules.specs.Items.{Item, a_text, an_array, a_bin, bin_head, SpellsBin, SpellsItem, SpellsItems}
use Rattle.payload_rules.specs.Payloads.{Payload, HistoryCreate, HistoryDelete, KvSet, KvDelete, AliasSet, AliasDelete, history_tag, kv_tag, alias_tag, tag_of, Version, version_0, version_1, version_text, PayloadFits, SpellsPayload, PayloadOf}
use Rattle.payload_rules.specs.Reading.{bin_at}
use Rattle.payload_rules.proofs.Items.{bins_read}
use Rattle.payload_forms.specs.Reading.{both_at, whole, this_array_at, id_at, history_at, command_at, key_value_at, no_value_at, key_at, alias_value_at, no_alias_at, alias_at, form_at, version_called}
use Rattle.payload_forms.proofs.ItemLaws.{SpellsBoth, both_read, this_array_read, SpellsId, id_read, whole_takes, whole_again}
use Rattle.payload_forms.proofs.HistoryLaws.{last_item, last_spelled, history_takes, history_again, itself}

by_test : {P : Type 0} (t : Bool) → (t ≡ true → P) → (t ≡ false → P) → P
by_test true f g = f refl
by_test false f g = g refl

-- the payload fits, and the bytes spell it in the version
pub record Spelled (version : Version) (tag bytes : List ℕ) (p : Payload) : Type 0 where
  pub tag_is : tag ≡ tag_of p
  pub fits : PayloadFits p
  pub spelled : SpellsPayload p version bytes

-- ---- arrays of texts

abbrev SpellsArrayOf : ℕ → ℕ → List ℕ → Type 0
SpellsArrayOf k n bytes = (eqb n k ≡ true) × SpellsArray n bytes

array_spelled : (k n : ℕ) (bytes : List ℕ) → SpellsArrayOf k n bytes → SpellsItem (an_array k) bytes
array_spelled k n bytes s = subst (λ (m : ℕ). SpellsArray m bytes) (eqb-true n k s.0) s.1

module _ (k : ℕ) where
  abbrev one_text_at : List ℕ → Option ((ℕ × List ℕ) × List ℕ)
  one_text_at = both_at (this_array_at k) text_at

  abbrev SpellsOne : ℕ × List ℕ → List ℕ → Type 0
  SpellsOne = SpellsBoth (SpellsArrayOf k) SpellsText

  one_text_read : ReadsSpellings one_text_at SpellsOne
  one_text_read = both_read ℕ (List ℕ) (this_array_at k) text_at (SpellsArrayOf k) SpellsText (this_array_read k) texts_read

  one_spelled : (v : ℕ × List ℕ) (bytes : List ℕ) → SpellsOne v bytes → SpellsItems (an_array k ∷ a_text v.1 ∷ []) bytes
  one_spelled v bytes (a, b, s, t, are) = (a, b, array_spelled k v.0 a s, last_item (a_text v.1) b t, are)

  one_from : (x : List ℕ) (bytes : List ℕ) → SpellsItems (an_array k ∷ a_text x ∷ []) bytes → SpellsOne (k, x) bytes
  one_from x bytes (a, b, s, t, are) = (a, b, (itself k, s), last_spelled (a_text x) b t, are)

  abbrev two_texts_at : List ℕ → Option ((ℕ × (List ℕ × List ℕ)) × List ℕ)
  two_texts_at = both_at (this_array_at k) (both_at text_at text_at)

  abbrev SpellsTwo : ℕ × (List ℕ × List ℕ) → List ℕ → Type 0
  SpellsTwo = SpellsBoth (SpellsArrayOf k) (SpellsBoth SpellsText SpellsText)

  two_texts_read : ReadsSpellings two_texts_at SpellsTwo
  two_texts_read =
      both_read ℕ (List ℕ × List ℕ) (this_array_at k) (both_at text_at text_at) (SpellsArrayOf k) (SpellsBoth SpellsText SpellsText) (this_array_read k)
      (both_read (List ℕ) (List ℕ) text_at text_at SpellsText SpellsText texts_read texts_read)

  two_spelled : (v : ℕ × (List ℕ × List ℕ)) (bytes : List ℕ) → SpellsTwo v bytes → SpellsItems (an_array k ∷ a_text v.1.0 ∷ a_text v.1.1 ∷ []) bytes
  two_spelled v bytes (a, b, s, (c, d, t, u, cds), are) = (a, b, array_spelled k v.0 a s, (c, d, t, last_item (a_text v.1.1) d u, cds), are)

  two_from : (x y : List ℕ) (bytes : List ℕ) → SpellsItems (an_array k ∷ a_text x ∷ a_text y ∷ []) bytes → SpellsTwo (k, (x, y)) bytes
  two_from x y bytes (a, b, s, (c, d, t, u, cds), are) = (a, b, (itself k, s), (c, d, t, last_spelled (a_text y) d u, cds), are)

  abbrev three_texts_at : List ℕ → Option ((ℕ × (List ℕ × (List ℕ × List ℕ))) × List ℕ)
  three_texts_at = both_at (this_array_at k) (both_at text_at (both_at text_at text_at))

  abbrev SpellsThree : ℕ × (List ℕ × (List ℕ × List ℕ)) → List ℕ → Type 0
  SpellsThree = SpellsBoth (SpellsArrayOf k) (SpellsBoth SpellsText (SpellsBoth SpellsText SpellsText))

  three_texts_read : ReadsSpellings three_texts_at SpellsThree
  three_texts_read =
      both_read ℕ (List ℕ × (List ℕ × List ℕ)) (this_array_at k) (both_at text_at (both_at text_at text_at)) (SpellsArrayOf k) (SpellsBoth SpellsText (SpellsBoth SpellsText SpellsText)) (this_array_read k)
      (both_read (List ℕ) (List ℕ × List ℕ) text_at (both_at text_at text_at) SpellsText (SpellsBoth SpellsText SpellsText) texts_read (both_read (List ℕ) (List ℕ) text_at text_at SpellsText SpellsText texts_read texts_read))

  three_spelled : (v : ℕ × (List ℕ × (List ℕ × List ℕ))) (bytes : List ℕ) → SpellsThree v bytes → SpellsItems (an_array k ∷ a_text v.1.0 ∷ a_text v.1.1.0 ∷ a_text v.1.1.1 ∷ []) bytes
  three_spelled v bytes (a, b, s, (c, d, t, (e, f, u, w, efs), cds), are) = (a, b, array_spelled k v.0 a s, (c, d, t, (e, f, u, last_item (a_text v.1.1.1) f w, efs), cds), are)

  three_from : (x y z : List ℕ) (bytes : List ℕ) → SpellsItems (an_array k ∷ a_text x ∷ a_text y ∷ a_text z ∷ []) bytes → SpellsThree (k, (x, (y, z))) bytes
  three_from x y z bytes (a, b, s, (c, d, t, (e, f, u, w, efs), cds), are) = (a, b, (itself k, s), (c, d, t, (e, f, u, last_spelled (a_text z) f w, efs), cds), are)

-- ---- values, and ends of them

abbrev KeyItems : (n k v : List ℕ) → List Item
KeyItems n k v = an_array 3 ∷ a_text n ∷ a_text k ∷ a_text v ∷ []

record IsKeyValue (bytes : List ℕ) (p : Payload) : Type 0 where
  namespace : List ℕ
  key : List ℕ
  value : List ℕ
  items : SpellsItems (KeyItems namespace key value) bytes
  is : KvSet namespace key value ≡ p

key_value_takes : (bytes : List ℕ) (p : Payload) → IsBytes bytes → key_value_at bytes ≡ Some p → IsKeyValue bytes p
unfolding key_value_at
key_value_takes bytes p are e =
    let one = bind_some (whole (three_texts_at 3 bytes)) (λ (x : ℕ × (List ℕ × (List ℕ × List ℕ))). Some (KvSet x.1.0 x.1.1.0 x.1.1.1)) p e in
    let s = whole_takes (ℕ × (List ℕ × (List ℕ × List ℕ))) (three_texts_at 3) (SpellsThree 3) (three_texts_read 3) bytes one.0 are one.1 in
    record { namespace = one.0.1.0; key = one.0.1.1.0; value = one.0.1.1.1; items = three_spelled 3 one.0 bytes s; is = same_Some (KvSet one.0.1.0 one.0.1.1.0 one.0.1.1.1) p one.2 }

key_value_again : (n k v bytes : List ℕ) → SpellsItems (KeyItems n k v) bytes → key_value_at bytes ≡ Some (KvSet n k v)
unfolding key_value_at
key_value_again n k v bytes s = rw (whole_again (ℕ × (List ℕ × (List ℕ × List ℕ))) (three_texts_at 3) (SpellsThree 3) (three_texts_read 3) (3, (n, (k, v))) bytes (three_from 3 n k v bytes s)) refl

record IsNoValue (bytes : List ℕ) (p : Payload) : Type 0 where
  namespace : List ℕ
  key : List ℕ
  items : SpellsItems (an_array 2 ∷ a_text namespace ∷ a_text key ∷ []) bytes
  is : KvDelete namespace key ≡ p

no_value_takes : (bytes : List ℕ) (p : Payload) → IsBytes bytes → no_value_at bytes ≡ Some p → IsNoValue bytes p
unfolding no_value_at
no_value_takes bytes p are e =
    let one = bind_some (whole (two_texts_at 2 bytes)) (λ (x : ℕ × (List ℕ × List ℕ)). Some (KvDelete x.1.0 x.1.1)) p e in
    let s = whole_takes (ℕ × (List ℕ × List ℕ)) (two_texts_at 2) (SpellsTwo 2) (two_texts_read 2) bytes one.0 are one.1 in
    record { namespace = one.0.1.0; key = one.0.1.1; items = two_spelled 2 one.0 bytes s; is = same_Some (KvDelete one.0.1.0 one.0.1.1) p one.2 }

no_value_again : (n k bytes : List ℕ) → SpellsItems (an_array 2 ∷ a_text n ∷ a_text k ∷ []) bytes → no_value_at bytes ≡ Some (KvDelete n k)
unfolding no_value_at
no_value_again n k bytes s = rw (whole_again (ℕ × (List ℕ × List ℕ)) (two_texts_at 2) (SpellsTwo 2) (two_texts_read 2) (2, (n, k)) bytes (two_from 2 n k bytes s)) refl

record IsAliasValue (bytes : List ℕ) (p : Payload) : Type 0 where
  name : List ℕ
  value : List ℕ
  items : SpellsItems (an_array 2 ∷ a_text name ∷ a_text value ∷ []) bytes
  is : AliasSet name value ≡ p

alias_value_takes : (bytes : List ℕ) (p : Payload) → IsBytes bytes → alias_value_at bytes ≡ Some p → IsAliasValue bytes p
unfolding alias_value_at
alias_value_takes bytes p are e =
    let one = bind_some (whole (two_texts_at 2 bytes)) (λ (x : ℕ × (List ℕ × List ℕ)). Some (AliasSet x.1.0 x.1.1)) p e in
    let s = whole_takes (ℕ × (List ℕ × List ℕ)) (two_texts_at 2) (SpellsTwo 2) (two_texts_read 2) bytes one.0 are one.1 in
    record { name = one.0.1.0; value = one.0.1.1; items = two_spelled 2 one.0 bytes s; is = same_Some (AliasSet one.0.1.0 one.0.1.1) p one.2 }

alias_value_again : (n v bytes : List ℕ) → SpellsItems (an_array 2 ∷ a_text n ∷ a_text v ∷ []) bytes → alias_value_at bytes ≡ Some (AliasSet n v)
unfolding alias_value_at
alias_value_again n v bytes s = rw (whole_again (ℕ × (List ℕ × List ℕ)) (two_texts_at 2) (SpellsTwo 2) (two_texts_read 2) (2, (n, v)) bytes (two_from 2 n v bytes s)) refl

record IsNoAlias (bytes : List ℕ) (p : Payload) : Type 0 where
  name : List ℕ
  items : SpellsItems (an_array 1 ∷ a_text name ∷ []) bytes
  is : AliasDelete name ≡ p

no_alias_takes : (bytes : List ℕ) (p : Payload) → IsBytes bytes → no_alias_at bytes ≡ Some p → IsNoAlias bytes p
unfolding no_alias_at
no_alias_takes bytes p are e =
    let one = bind_some (whole (one_text_at 1 bytes)) (λ (x : ℕ × List ℕ). Some (AliasDelete x.1)) p e in
    let s = whole_takes (ℕ × List ℕ) (one_text_at 1) (SpellsOne 1) (one_text_read 1) bytes one.0 are one.1 in
    record { name = one.0.1; items = one_spelled 1 one.0 bytes s; is = same_Some (AliasDelete one.0.1) p one.2 }

no_alias_again : (n bytes : List ℕ) → SpellsItems (an_array 1 ∷ a_text n ∷ []) bytes → no_alias_at bytes ≡ Some (AliasDelete n)
unfolding no_alias_at
no_alias_again n bytes s = rw (whole_again (ℕ × List ℕ) (one_text_at 1) (SpellsOne 1) (one_text_read 1) (1, n) bytes (one_from 1 n bytes s)) refl

-- ---- one of two kinds, behind its number

record IsKind (bytes : List ℕ) (p : Payload) (zero one : List ℕ → Option Payload) : Type 0 where
  number : ℕ
  first : List ℕ
  rest : List ℕ
  spelled : SpellsNumber number first
  parts : bytes ≡ first ++ rest
  rest_is_bytes : IsBytes rest
  is : cond (eqb number 0) (zero rest) (cond (eqb number 1) (one rest) None) ≡ Some p

kind_takes : (bytes : List ℕ) (p : Payload) (zero one : List ℕ → Option Payload) → IsBytes bytes
    → (number_at bytes >>= λ (kind : ℕ × List ℕ). cond (eqb kind.0 0) (zero kind.1) (cond (eqb kind.0 1) (one kind.1) None)) ≡ Some p → IsKind bytes p zero one
kind_takes bytes p zero one are e =
    let found = bind_some (number_at bytes) (λ (kind : ℕ × List ℕ). cond (eqb kind.0 0) (zero kind.1) (cond (eqb kind.0 1) (one kind.1) None)) p e in
    let t = numbers_read.takes bytes found.0.0 found.0.1 are found.1 in
    record { number = found.0.0; first = t.0; rest = found.0.1; spelled = t.1; parts = t.2.parts; rest_is_bytes = t.2.rest_is_bytes; is = found.2 }

-- which of the two it is
kind_cases : {P : Type 0} (bytes : List ℕ) (p : Payload) (zero one : List ℕ → Option Payload) → IsKind bytes p zero one
    → ((first rest : List ℕ) → SpellsNumber 0 first → bytes ≡ first ++ rest → IsBytes rest → zero rest ≡ Some p → P)
    → ((first rest : List ℕ) → SpellsNumber 1 first → bytes ≡ first ++ rest → IsBytes rest → one rest ≡ Some p → P) → P
kind_cases bytes p zero one k f g =
    by_test (eqb k.number 0) (λ t. f k.first k.rest (subst (λ (n : ℕ). SpellsNumber n k.first) (eqb-true k.number 0 t) k.spelled) k.parts k.rest_is_bytes (let e : cond (eqb k.number 0) (zero k.rest) (cond (eqb k.number 1) (one k.rest) None) ≡ Some p = k.is in rw t at e)) (λ u.
    by_test (eqb k.number 1) (λ t. g k.first k.rest (subst (λ (n : ℕ). SpellsNumber n k.first) (eqb-true k.number 1 t) k.spelled) k.parts k.rest_is_bytes (let e : cond (eqb k.number 0) (zero k.rest) (cond (eqb k.number 1) (one k.rest) None) ≡ Some p = k.is in rw t at (rw u at e))) (λ v.
    absurd (let e : cond (eqb k.number 0) (zero k.rest) (cond (eqb k.number 1) (one k.rest) None) ≡ Some p = k.is in let none : None ≡ Some p = rw v at (rw u at e) in cc)))

-- ---- commands

abbrev created : Version → List ℕ → Option Payload
created version held = history_at version held >>= λ (h : HistoryRecord). Some (HistoryCreate h)

abbrev creation_at : Version → List ℕ → Option Payload
creation_at version rest = whole (bin_at rest) >>= created version

abbrev deletion_at : List ℕ → Option Payload
deletion_at rest = whole (id_at rest) >>= λ (id : ℕ). Some (HistoryDelete id)

held_is_bytes : (held bytes : List ℕ) → IsBytes bytes → SpellsBin held bytes → IsBytes held
held_is_bytes held bytes are s = IsBytes-rest (bin_head s.form (length held)) held (subst IsBytes s.are are)

creation_spelled : (version : Version) (bytes first rest : List ℕ) (p : Payload) → SpellsNumber 0 first → bytes ≡ first ++ rest → IsBytes rest → creation_at version rest ≡ Some p → Spelled version history_tag bytes p
creation_spelled version bytes first rest p number parts are e =
    let one = bind_some (whole (bin_at rest)) (created version) p e in
    let two = bind_some (history_at version one.0) (λ (h : HistoryRecord). Some (HistoryCreate h)) p one.2 in
    let bin : SpellsBin one.0 rest = whole_takes (List ℕ) bin_at SpellsBin bins_read rest one.0 are one.1 in
    let h = history_takes version one.0 two.0 (held_is_bytes one.0 rest are bin) two.1 in
    subst (Spelled version history_tag bytes) (same_Some (HistoryCreate two.0) p two.2) (record {
      tag_is = refl;
      fits = h.fits;
      spelled = record { author = h.author; held = one.0; items = h.items; bin = (first, rest, number, last_item (a_bin one.0) rest bin, parts) };
    })

deletion_spelled : (version : Version) (bytes first rest : List ℕ) (p : Payload) → SpellsNumber 1 first → bytes ≡ first ++ rest → IsBytes rest → deletion_at rest ≡ Some p → Spelled version history_tag bytes p
deletion_spelled version bytes first rest p number parts are e =
    let one = bind_some (whole (id_at rest)) (λ (id : ℕ). Some (HistoryDelete id)) p e in
    let id = whole_takes ℕ id_at SpellsId id_read rest one.0 are one.1 in
    subst (Spelled version history_tag bytes) (same_Some (HistoryDelete one.0) p one.2) (record {
      tag_is = refl;
      fits = id.0;
      spelled = (first, rest, number, last_item (a_text (id_text one.0)) rest id.1, parts);
    })

command_takes : (version : Version) (bytes : List ℕ) (p : Payload) → IsBytes bytes → command_at version bytes ≡ Some p → Spelled version history_tag bytes p
unfolding command_at
command_takes version bytes p are e =
    kind_cases bytes p (creation_at version) deletion_at (kind_takes bytes p (creation_at version) deletion_at are e) (λ first rest n parts rest_are r. creation_spelled version bytes first rest p n parts rest_are r)
    (λ first rest n parts rest_are r. deletion_spelled version bytes first rest p n parts rest_are r)

-- ---- keys

key_value_spelled : (bytes : List ℕ) (p : Payload) → IsKeyValue bytes p → Spelled version_0 kv_tag bytes p
key_value_spelled bytes p v = subst (Spelled version_0 kv_tag bytes) v.is (record { tag_is = refl; fits = tt; spelled = v.items })

later_key_value : (bytes first rest : List ℕ) (p : Payload) → SpellsNumber 0 first → bytes ≡ first ++ rest → IsKeyValue rest p → Spelled version_1 kv_tag bytes p
later_key_value bytes first rest p n parts v = subst (Spelled version_1 kv_tag bytes) v.is (record { tag_is = refl; fits = tt; spelled = (first, rest, n, v.items, parts) })

later_no_value : (bytes first rest : List ℕ) (p : Payload) → SpellsNumber 1 first → bytes ≡ first ++ rest → IsNoValue rest p → Spelled version_1 kv_tag bytes p
later_no_value bytes first rest p n parts v = subst (Spelled version_1 kv_tag bytes) v.is (record { tag_is = refl; fits = tt; spelled = (first, rest, n, v.items, parts) })

key_takes : (version : Version) (bytes : List ℕ) (p : Payload) → IsBytes bytes → key_at version bytes ≡ Some p → Spelled version kv_tag bytes p
unfolding key_at
key_takes version_0 bytes p are e = key_value_spelled bytes p (key_value_takes bytes p are e)
key_takes version_1 bytes p are e =
    kind_cases bytes p key_value_at no_value_at (kind_takes bytes p key_value_at no_value_at are e) (λ first rest n parts rest_are r. later_key_value bytes first rest p n parts (key_value_takes rest p rest_are r))
    (λ first rest n parts rest_are r. later_no_value bytes first rest p n parts (no_value_takes rest p rest_are r))

-- ---- aliases

alias_value_spelled : (bytes first rest : List ℕ) (p : Payload) → SpellsNumber 0 first → bytes ≡ first ++ rest → IsAliasValue rest p → Spelled version_0 alias_tag bytes p
alias_value_spelled bytes first rest p n parts v = subst (Spelled version_0 alias_tag bytes) v.is (record { tag_is = refl; fits = tt; spelled = (first, rest, n, v.items, parts) })

no_alias_spelled : (bytes first rest : List ℕ) (p : Payload) → SpellsNumber 1 first → bytes ≡ first ++ rest → IsNoAlias rest p → Spelled version_0 alias_tag bytes p
no_alias_spelled bytes first rest p n parts v = subst (Spelled version_0 alias_tag bytes) v.is (record { tag_is = refl; fits = tt; spelled = (first, rest, n, v.items, parts) })

alias_takes : (version : Version) (bytes : List ℕ) (p : Payload) → IsBytes bytes → alias_at version bytes ≡ Some p → Spelled version alias_tag bytes p
unfolding alias_at
alias_takes version_0 bytes p are e =
    kind_cases bytes p alias_value_at no_alias_at (kind_takes bytes p alias_value_at no_alias_at are e) (λ first rest n parts rest_are r. alias_value_spelled bytes first rest p n parts (alias_value_takes rest p rest_are r))
    (λ first rest n parts rest_are r. no_alias_spelled bytes first rest p n parts (no_alias_takes rest p rest_are r))
alias_takes version_1 bytes p are e = absurd cc

-- ---- all

same_text : (a b : List ℕ) → bytes_eq a b ≡ true → a ≡ b
same_text a b e = (bytes_eq-Decides a b).0 e

pub form_takes : (version : Version) (tag bytes : List ℕ) (p : Payload) → IsBytes bytes → form_at version tag bytes ≡ Some p → Spelled version tag bytes p
unfolding form_at
form_takes version tag bytes p are e =
    by_test (bytes_eq tag history_tag) (λ t. subst (λ (name : List ℕ). Spelled version name bytes p) (sym (same_text tag history_tag t)) (command_takes version bytes p are (rw t at e))) (λ f. let e1 = rw f at e in
    by_test (bytes_eq tag kv_tag) (λ t. subst (λ (name : List ℕ). Spelled version name bytes p) (sym (same_text tag kv_tag t)) (key_takes version bytes p are (rw t at e1))) (λ f. let e2 = rw f at e1 in
    by_test (bytes_eq tag alias_tag) (λ t. subst (λ (name : List ℕ). Spelled version name bytes p) (sym (same_text tag alias_tag t)) (alias_takes version bytes p are (rw t at e2))) (λ f. absurd (let none = rw f at e2 in cc))))

-- what is spelled is read again, under the payload's tag
behind_number : (n : ℕ) (bytes first rest : List ℕ) → SpellsNumber n first → bytes ≡ first ++ rest → number_at bytes ≡ Some (n, rest)
behind_number n bytes first rest s parts = ap number_at parts ∙ numbers_read.again n first rest s

pub spelled_again : (version : Version) (bytes : List ℕ) (p : Payload) → PayloadFits p → SpellsPayload p version bytes → form_at version (tag_of p) bytes ≡ Some p
unfolding form_at command_at key_at alias_at
spelled_again version bytes (HistoryCreate h) fits s =
    let (first, rest, number, bin, parts) = s.bin in
    rw (behind_number 0 bytes first rest number parts, whole_again (List ℕ) bin_at SpellsBin bins_read s.held rest (last_spelled (a_bin s.held) rest bin), history_again version s.held h (record { fits = fits; author = s.author; items = s.items })) refl
spelled_again version bytes (HistoryDelete id) fits (first, rest, number, text, parts) =
    rw (behind_number 1 bytes first rest number parts, whole_again ℕ id_at SpellsId id_read id rest (fits, last_spelled (a_text (id_text id)) rest text)) refl
spelled_again version_0 bytes (KvSet n k v) fits s = key_value_again n k v bytes s
spelled_again version_1 bytes (KvSet n k v) fits (first, rest, number, items, parts) = rw (behind_number 0 bytes first rest number parts) (key_value_again n k v rest items)
spelled_again version_0 bytes (KvDelete n k) fits s = absurd s
spelled_again version_1 bytes (KvDelete n k) fits (first, rest, number, items, parts) = rw (behind_number 1 bytes first rest number parts) (no_value_again n k rest items)
spelled_again version_0 bytes (AliasSet n v) fits (first, rest, number, items, parts) = rw (behind_number 0 bytes first rest number parts) (alias_value_again n v rest items)
spelled_again version_1 bytes (AliasSet n v) fits s = absurd s
spelled_again version_0 bytes (AliasDelete n) fits (first, rest, number, items, parts) = rw (behind_number 1 bytes first rest number parts) (no_alias_again n rest items)
spelled_again version_1 bytes (AliasDelete n) fits s = absurd s

-- ---- versions

pub version_takes : (name : List ℕ) (v : Version) → version_called name ≡ Some v → name ≡ version_text v
unfolding version_called
version_takes name v e =
    by_test (bytes_eq name (version_text version_0)) (λ t. same_text name (version_text version_0) t ∙ ap version_text (same_Some version_0 v (rw t at e))) (λ f. let e1 = rw f at e in
    by_test (bytes_eq name (version_text version_1)) (λ t. same_text name (version_text version_1) t ∙ ap version_text (same_Some version_1 v (rw t at e1))) (λ f. absurd (let none = rw f at e1 in cc)))

pub version_again : (v : Version) → version_called (version_text v) ≡ Some v
unfolding version_called
version_again version_0 = refl
version_again version_1 = refl

-- ---- payloads

pub payload_takes : (v : Version) (tag name bytes : List ℕ) (p : Payload) → IsBytes bytes → version_called name ≡ Some v → form_at v tag bytes ≡ Some p → PayloadOf tag name bytes p
payload_takes v tag name bytes p are named e =
    let s = form_takes v tag bytes p are e in
    record { tag_is = s.tag_is; written_in = v; version_is = version_takes name v named; fits = s.fits; spelled = s.spelled }

pub record IsRead (tag name bytes : List ℕ) (p : Payload) : Type 0 where
  pub version : Version
  pub named : version_called name ≡ Some version
  pub read : form_at version tag bytes ≡ Some p

pub payload_again : (tag name bytes : List ℕ) (p : Payload) → PayloadOf tag name bytes p → IsRead tag name bytes p
payload_again tag name bytes p s = record {
  version = s.written_in;
  named = ap version_called s.version_is ∙ version_again s.written_in;
  read = ap (λ (t : List ℕ). form_at s.written_in t bytes) s.tag_is ∙ spelled_again s.written_in bytes p s.fits s.spelled;
}
