-- A payload is read exactly where it is spelled: items from left to right, and then what they say.
use Rattle.std.proofs.Common.{◌≡◌, ℕ, zero, suc, ◌<◌, ◌≤◌, ◌^◌, ◌⊎◌, inl, inr, ℤ, pos, negsuc, Bool, true, false, ◌&&◌, cond, eqb, ltb, List, [], ◌∷◌, ◌++◌, length, Option, Some, None, refl, sym, ap, subst, ◌∙◌, arith}
use Rattle.std.specs.Prelude.{FitsSigned, bytes_eq}
use Rattle.std.specs.Int.{w64}
use Rattle.std.specs.Option.{option_or}
use Rattle.std.proofs.lemmas.Bool.{eqb-true, ltb-true, lt-ltb}
use Rattle.std.proofs.lemmas.List.{append_cancel_left}
use Rattle.std.proofs.lemmas.Option.{some_pair_parts, same_Some, none-some}
use Rattle.std.proofs.lemmas.Slice.Eq.{bytes_eq-Decides}
use Rattle.definitions.specs.Journal.{HistoryRecord}
use Rattle.definitions.specs.Ids.{id_text}
use Rattle.definitions.specs.Reading.{◌>>=◌, integer_at, text_at, array_at, is_id_text, id_value, fits_64}
use Rattle.definitions.proofs.Bytes.{IsBytes, IsBytes-first, IsBytes-rest, IsBytes-tail, Takes, bind_some, when_true, ReadsSpellings}
use Rattle.definitions.proofs.Items.{both_true}
use Rattle.definitions.proofs.Ids.{id_value-id_text, is_id_text-found, is_id_text-id_text}
use Rattle.definitions.proofs.Numbered.{by_test}
use Rattle.definitions.proofs.Spelling.{integers_read, texts_read, arrays_read}
use Rattle.payload_rules.specs.Items.{Item, an_integer, a_text, an_array, a_bin, a_nil, bin_head, SpellsItem, SpellsItems}
use Rattle.payload_rules.specs.Payloads.{Payload, HistoryCreate, HistoryDelete, KvSet, KvDelete, AliasSet, AliasDelete, history_tag, kv_tag, alias_tag, Version, version_0, version_1, version_text, tag_of, TimeFits, HistoryFits, PayloadFits, time_item, author_item, told_items, history_items, MayHaveAuthor, SpellsCreation, SpellsPayload, PayloadOf}
use Rattle.payload_rules.specs.Reading.{bin_at, nil_at, item_of, nil_of, any_item_at, items_at, most_items, time_in, author_in, told_fits, told_in, alone, authored, history_in, command_in, key_in, alias_in, version_named, payload_in, payload_at}
use Rattle.payload_rules.proofs.Items.{bins_read, Begins, item_begins, one_item}

-- ---- the item at the front

-- what a reader of one kind says where this item stands in front: that item, or nothing
abbrev Tells : Option (Item × List ℕ) → Item → List ℕ → Type 0
Tells read item rest = (read ≡ None) ⊎ (read ≡ Some (item, rest))

or_first : {A : Type 0} (o more : Option A) (x : A) → o ≡ Some x → option_or o more ≡ Some x
or_first None more x e = absurd (none-some x e)
or_first (Some y) more x e = e

or_later : (o more : Option (Item × List ℕ)) (item : Item) (rest : List ℕ) → Tells o item rest → more ≡ Some (item, rest) → option_or o more ≡ Some (item, rest)
or_later None more item rest tells e = e
or_later (Some x) more item rest (inl none) e = absurd cc
or_later (Some x) more item rest (inr some) e = some

or_some : {A : Type 0} (o more : Option A) (x : A) → option_or o more ≡ Some x → (o ≡ Some x) ⊎ (more ≡ Some x)
or_some None more x e = inr e
or_some (Some y) more x e = inl e

module _ (A : Type 0) (kind : A → Item) (read : List ℕ → Option (A × List ℕ)) (reads : ReadsSpellings read (λ v bytes. SpellsItem (kind v) bytes)) where
  kind_told : (item : Item) (spelled rest : List ℕ) → IsBytes (spelled ++ rest) → SpellsItem item spelled → (found : Option (A × List ℕ)) → read (spelled ++ rest) ≡ found → Tells (item_of kind found) item rest
  kind_told item spelled rest are s None e = inl refl
  kind_told item spelled rest are s (Some x) e =
      let t = reads.takes (spelled ++ rest) x.0 x.1 are e in
      let one = one_item spelled t.0 rest x.1 item (kind x.0) s t.1 t.2.parts in
      let behind : rest ≡ x.1 = append_cancel_left spelled rest x.1 (t.2.parts ∙ ap (λ (l : List ℕ). l ++ x.1) (sym one.0)) in
      inr (λ i. Some (sym one.1 i, sym behind i))

  kind_tells : (item : Item) (spelled rest : List ℕ) → IsBytes (spelled ++ rest) → SpellsItem item spelled → Tells (item_of kind (read (spelled ++ rest))) item rest
  kind_tells item spelled rest are s = kind_told item spelled rest are s (read (spelled ++ rest)) refl

  kind_again : (v : A) (spelled rest : List ℕ) → SpellsItem (kind v) spelled → item_of kind (read (spelled ++ rest)) ≡ Some (kind v, rest)
  kind_again v spelled rest s = ap (item_of kind) (reads.again v spelled rest s)

  kind_found : (found : Option (A × List ℕ)) (bytes : List ℕ) (item : Item) (rest : List ℕ) → IsBytes bytes → read bytes ≡ found → item_of kind found ≡ Some (item, rest) → (spelled : List ℕ) × SpellsItem item spelled × Takes bytes spelled rest
  kind_found None bytes item rest are read_is e = absurd (none-some (item, rest) e)
  kind_found (Some x) bytes item rest are read_is e =
      let parts = some_pair_parts (kind x.0) item x.1 rest e in
      let t = reads.takes bytes x.0 x.1 are read_is in
      (t.0, subst (λ (i : Item). SpellsItem i t.0) parts.0 t.1, subst (λ (l : List ℕ). Takes bytes t.0 l) parts.1 t.2)

  kind_takes : (bytes : List ℕ) (item : Item) (rest : List ℕ) → IsBytes bytes → item_of kind (read bytes) ≡ Some (item, rest) → (spelled : List ℕ) × SpellsItem item spelled × Takes bytes spelled rest
  kind_takes bytes item rest are e = kind_found (read bytes) bytes item rest are refl e

nil_again : (spelled rest : List ℕ) → SpellsItem a_nil spelled → nil_of (nil_at (spelled ++ rest)) ≡ Some (a_nil, rest)
nil_again spelled rest s = ap (λ (l : List ℕ). nil_of (nil_at (l ++ rest))) s

nil_takes : (bytes : List ℕ) (item : Item) (rest : List ℕ) → IsBytes bytes → nil_of (nil_at bytes) ≡ Some (item, rest) → (spelled : List ℕ) × SpellsItem item spelled × Takes bytes spelled rest
nil_takes [] item rest are e = absurd (none-some (item, rest) e)
nil_takes (b ∷ bytes) item rest are e = by_test (eqb b 0xc0)
    (λ t.
    let parts = some_pair_parts a_nil item bytes rest (rw t at e) in
    let first : b ≡ 0xc0 = eqb-true b 0xc0 t in
    (0xc0 ∷ [], subst (λ (i : Item). SpellsItem i (0xc0 ∷ [])) parts.0 refl, record { parts = λ i. first i ∷ parts.1 i; rest_is_bytes = subst IsBytes parts.1 (IsBytes-tail b bytes are) }))
    (λ f. absurd (none-some (item, rest) (rw f at e)))

any_again : (item : Item) (spelled rest : List ℕ) → IsBytes (spelled ++ rest) → SpellsItem item spelled → any_item_at (spelled ++ rest) ≡ Some (item, rest)
unfolding any_item_at
any_again (an_integer z) spelled rest are s = or_first _ _ _ (kind_again ℤ an_integer integer_at integers_read z spelled rest s)
any_again (a_text text) spelled rest are s =
    or_later _ _ _ _ (kind_tells ℤ an_integer integer_at integers_read (a_text text) spelled rest are s)
    (or_first _ _ _ (kind_again (List ℕ) a_text text_at texts_read text spelled rest s))
any_again (an_array n) spelled rest are s =
    or_later _ _ _ _ (kind_tells ℤ an_integer integer_at integers_read (an_array n) spelled rest are s)
    (or_later _ _ _ _ (kind_tells (List ℕ) a_text text_at texts_read (an_array n) spelled rest are s)
    (or_first _ _ _ (kind_again ℕ an_array array_at arrays_read n spelled rest s)))
any_again (a_bin held) spelled rest are s =
    or_later _ _ _ _ (kind_tells ℤ an_integer integer_at integers_read (a_bin held) spelled rest are s)
    (or_later _ _ _ _ (kind_tells (List ℕ) a_text text_at texts_read (a_bin held) spelled rest are s)
    (or_later _ _ _ _ (kind_tells ℕ an_array array_at arrays_read (a_bin held) spelled rest are s)
    (or_first _ _ _ (kind_again (List ℕ) a_bin bin_at bins_read held spelled rest s))))
any_again a_nil spelled rest are s =
    or_later _ _ _ _ (kind_tells ℤ an_integer integer_at integers_read a_nil spelled rest are s)
    (or_later _ _ _ _ (kind_tells (List ℕ) a_text text_at texts_read a_nil spelled rest are s)
    (or_later _ _ _ _ (kind_tells ℕ an_array array_at arrays_read a_nil spelled rest are s)
    (or_later _ _ _ _ (kind_tells (List ℕ) a_bin bin_at bins_read a_nil spelled rest are s)
    (nil_again spelled rest s))))

any_takes : (bytes : List ℕ) (item : Item) (rest : List ℕ) → IsBytes bytes → any_item_at bytes ≡ Some (item, rest) → (spelled : List ℕ) × SpellsItem item spelled × Takes bytes spelled rest
unfolding any_item_at
any_takes bytes item rest are e = elim (or_some (item_of an_integer (integer_at bytes)) _ (item, rest) e) [
  | inl one ↦ kind_takes ℤ an_integer integer_at integers_read bytes item rest are one
  | inr more ↦ elim (or_some (item_of a_text (text_at bytes)) _ (item, rest) more) [
    | inl one ↦ kind_takes (List ℕ) a_text text_at texts_read bytes item rest are one
    | inr more ↦ elim (or_some (item_of an_array (array_at bytes)) _ (item, rest) more) [
      | inl one ↦ kind_takes ℕ an_array array_at arrays_read bytes item rest are one
      | inr more ↦ elim (or_some (item_of a_bin (bin_at bytes)) _ (item, rest) more) [
        | inl one ↦ kind_takes (List ℕ) a_bin bin_at bins_read bytes item rest are one
        | inr one ↦ nil_takes bytes item rest are one
      ]
    ]
  ]
]

-- ---- items, to the last one

no_bytes : (bytes : List ℕ) → eqb (length bytes) 0 ≡ true → bytes ≡ []
no_bytes [] e = refl
no_bytes (b ∷ bytes) e = absurd (let n = eqb-true (length (b ∷ bytes)) 0 e in omega arith)

begun_bytes : (item : Item) (bytes spelled rest : List ℕ) → bytes ≡ spelled ++ rest → Begins item spelled → eqb (length bytes) 0 ≡ false
begun_bytes item bytes spelled rest parts begins =
    let long : length bytes ≡ suc (length (begins.rest ++ rest)) = ap (λ (l : List ℕ). length l) (parts ∙ ap (λ (l : List ℕ). l ++ rest) begins.parts) in
    by_test (eqb (length bytes) 0) (λ t. absurd (let none = eqb-true (length bytes) 0 t in omega (arith, none, long))) (λ f. f)

items_again : (items : List Item) (most : ℕ) (bytes : List ℕ) → IsBytes bytes → length items ≤ most → SpellsItems items bytes → items_at most bytes ≡ Some items
unfolding items_at
items_again [] zero bytes are few s = ap (items_at zero) s
items_again [] (suc most) bytes are few s = ap (items_at (suc most)) s
items_again (item ∷ items) zero bytes are few s = absurd (omega arith)
items_again (item ∷ items) (suc most) bytes are few s =
    let begun = begun_bytes item bytes s.0 s.1 s.4 (item_begins item s.0 s.2) in
    let both : IsBytes (s.0 ++ s.1) = subst IsBytes s.4 are in
    let first : any_item_at bytes ≡ Some (item, s.1) = ap any_item_at s.4 ∙ any_again item s.0 s.1 both s.2 in
    let more : items_at most s.1 ≡ Some items = items_again items most s.1 (IsBytes-rest s.0 s.1 both) (omega arith) s.3 in
    rw (begun, first, more) refl

items_taken : (most : ℕ) (bytes : List ℕ) (items : List Item) → IsBytes bytes → items_at most bytes ≡ Some items → SpellsItems items bytes
unfolding items_at
items_taken zero bytes items are e = by_test (eqb (length bytes) 0)
    (λ t. let none : [] ≡ items = same_Some {A = List Item} [] items (rw t at e) in subst (λ (is : List Item). SpellsItems is bytes) none (no_bytes bytes t))
    (λ f. absurd (none-some items (rw f at e)))
items_taken (suc most) bytes items are e = by_test (eqb (length bytes) 0)
    (λ t. let none : [] ≡ items = same_Some {A = List Item} [] items (rw t at e) in subst (λ (is : List Item). SpellsItems is bytes) none (no_bytes bytes t))
    (λ f.
    let first = bind_some (any_item_at bytes) _ items (rw f at e) in
    let more = bind_some (items_at most first.0.1) _ items first.2 in
    let same : first.0.0 ∷ more.0 ≡ items = same_Some (first.0.0 ∷ more.0) items more.2 in
    let t = any_takes bytes first.0.0 first.0.1 are first.1 in
    let behind = items_taken most first.0.1 more.0 t.2.rest_is_bytes more.1 in
    subst (λ (is : List Item). SpellsItems is bytes) same (t.0, first.0.1, t.1, behind, t.2.parts))

-- ---- what is told of a command

signed_found : (z : ℤ) → fits_64 z ≡ true → FitsSigned w64 z
signed_found (pos n) e = record { sfits = ltb-true n (2 ^ 63) e }
signed_found (negsuc n) e = record { sfits = ltb-true n (2 ^ 63) e }

signed_again : (z : ℤ) → FitsSigned w64 z → fits_64 z ≡ true
signed_again (pos n) f = lt-ltb n (2 ^ 63) f.sfits
signed_again (negsuc n) f = lt-ltb n (2 ^ 63) f.sfits

time_found : (item : Item) (time : Option ℕ) → time_in item ≡ Some time → (item ≡ time_item time) × TimeFits time
time_found a_nil time e = let one = same_Some None time e in subst (λ (t : Option ℕ). (a_nil ≡ time_item t) × TimeFits t) one (refl, tt)
time_found (an_integer (pos n)) time e =
    let w = when_true (ltb n (2 ^ 64)) time (Some (Some n)) e in
    let one = same_Some (Some n) time w.1 in
    subst (λ (t : Option ℕ). (an_integer (pos n) ≡ time_item t) × TimeFits t) one (refl, ltb-true n (2 ^ 64) w.0)
time_found (an_integer (negsuc n)) time e = absurd (none-some time e)
time_found (a_text text) time e = absurd (none-some time e)
time_found (an_array n) time e = absurd (none-some time e)
time_found (a_bin held) time e = absurd (none-some time e)

time_again : (time : Option ℕ) → TimeFits time → time_in (time_item time) ≡ Some time
time_again None fits = refl
time_again (Some n) fits = ap (λ (b : Bool). cond b (Some (Some n)) None) (lt-ltb n (2 ^ 64) fits)

author_found : (item : Item) (author : Option (List ℕ)) → author_in item ≡ Some author → item ≡ author_item author
author_found a_nil author e = subst (λ (a : Option (List ℕ)). a_nil ≡ author_item a) (same_Some None author e) refl
author_found (a_text text) author e = subst (λ (a : Option (List ℕ)). a_text text ≡ author_item a) (same_Some (Some text) author e) refl
author_found (an_integer z) author e = absurd (none-some author e)
author_found (an_array n) author e = absurd (none-some author e)
author_found (a_bin held) author e = absurd (none-some author e)

author_again : (author : Option (List ℕ)) → author_in (author_item author) ≡ Some author
author_again None = refl
author_again (Some text) = refl

-- what was told, and what stands behind it
record Told (items behind : List Item) (h : HistoryRecord) : Type 0 where
  are : items ≡ told_items h ++ behind
  fits : HistoryFits h
  unauthored : h.author ≡ None

told_found : (items : List Item) (h : HistoryRecord) (behind : List Item) → told_in items ≡ Some (h, behind) → Told items behind h
unfolding told_in
told_found (a_text id ∷ an_integer (pos timestamp) ∷ an_integer duration ∷ an_integer exit ∷ a_text command ∷ a_text cwd ∷ a_text session ∷ a_text hostname ∷ deleted ∷ more) h behind e =
    let time = bind_some (time_in deleted) _ (h, behind) e in
    let of_time = time_found deleted time.0 time.1 in
    let made : HistoryRecord = record { id = id_value id; timestamp = timestamp; duration = duration; exit = exit; command = command; cwd = cwd; session = session; hostname = hostname; deleted_at = time.0; author = None } in
    let w = when_true {A = HistoryRecord × List Item} (told_fits id timestamp (fits_64 duration && fits_64 exit)) (h, behind) (Some (made, more)) time.2 in
    let same = some_pair_parts made h more behind w.1 in
    let ids = both_true (is_id_text id) (ltb timestamp (2 ^ 64) && (fits_64 duration && fits_64 exit)) w.0 in
    let times = both_true (ltb timestamp (2 ^ 64)) (fits_64 duration && fits_64 exit) ids.1 in
    let signed = both_true (fits_64 duration) (fits_64 exit) times.1 in
    let digits = is_id_text-found id ids.0 in
    let told : Told (a_text id ∷ an_integer (pos timestamp) ∷ an_integer duration ∷ an_integer exit ∷ a_text command ∷ a_text cwd ∷ a_text session ∷ a_text hostname ∷ deleted ∷ more) more made = record {
      are = λ i. a_text (digits.1 i) ∷ an_integer (pos timestamp) ∷ an_integer duration ∷ an_integer exit ∷ a_text command ∷ a_text cwd ∷ a_text session ∷ a_text hostname ∷ of_time.0 i ∷ more;
      fits = record { id = digits.0; timestamp = ltb-true timestamp (2 ^ 64) times.0; duration = signed_found duration signed.0; exit = signed_found exit signed.1; deleted_at = of_time.1 };
      unauthored = refl;
    } in
    subst (λ (p : HistoryRecord × List Item). Told (a_text id ∷ an_integer (pos timestamp) ∷ an_integer duration ∷ an_integer exit ∷ a_text command ∷ a_text cwd ∷ a_text session ∷ a_text hostname ∷ deleted ∷ more) p.1 p.0) (λ i. (same.0 i, same.1 i)) told
told_found _ h behind e = absurd (none-some (h, behind) e)

told_again : (h : HistoryRecord) (behind : List Item) → HistoryFits h → told_in (told_items h ++ behind) ≡ Some (record h { author = None }, behind)
unfolding told_in
told_again h behind fits =
    rw (time_again h.deleted_at fits.deleted_at, is_id_text-id_text h.id, lt-ltb h.timestamp (2 ^ 64) fits.timestamp, signed_again h.duration fits.duration, signed_again h.exit fits.exit, id_value-id_text h.id fits.id) refl

alone_found : (h : HistoryRecord) (behind : List Item) (k : HistoryRecord) → alone (h, behind) ≡ Some k → (behind ≡ []) × (h ≡ k)
alone_found h [] k e = (refl, same_Some h k e)
alone_found h (item ∷ behind) k e = absurd (none-some k e)

-- the author that stands behind, alone
record Authored (h k : HistoryRecord) (behind : List Item) : Type 0 where
  author : Option (List ℕ)
  behind_is : behind ≡ author_item author ∷ []
  is : record h { author = author } ≡ k

authored_found : (h : HistoryRecord) (behind : List Item) (k : HistoryRecord) → authored (h, behind) ≡ Some k → Authored h k behind
authored_found h [] k e = absurd (none-some k e)
authored_found h (item ∷ []) k e =
    let found = bind_some (author_in item) _ k e in
    let of_author = author_found item found.0 found.1 in
    record { author = found.0; behind_is = ap (λ (i : Item). i ∷ []) of_author; is = same_Some (record h { author = found.0 }) k found.2 }
authored_found h (item ∷ other ∷ behind) k e = absurd (none-some k e)

-- the numbers of a command are in range, whoever its author is
whoever : (h : HistoryRecord) (author : Option (List ℕ)) → HistoryFits h → HistoryFits (record h { author = author })
whoever h author fits = record { id = fits.id; timestamp = fits.timestamp; duration = fits.duration; exit = fits.exit; deleted_at = fits.deleted_at }

record InHistory (version : Version) (items : List Item) (h : HistoryRecord) : Type 0 where
  are : items ≡ history_items version h
  fits : HistoryFits h
  may_have : MayHaveAuthor version h.author

history_found : (version : Version) (items : List Item) (h : HistoryRecord) → history_in version items ≡ Some h → InHistory version items h
unfolding history_in
history_found version_0 (an_integer (pos zero) ∷ an_array n ∷ items) h e =
    let w = when_true (eqb n 9) h (told_in items >>= alone) e in
    let told = bind_some (told_in items) alone h w.1 in
    let found = told_found items told.0.0 told.0.1 told.1 in
    let only = alone_found told.0.0 told.0.1 h told.2 in
    let nine : n ≡ 9 = eqb-true n 9 w.0 in
    let inside : InHistory version_0 (an_integer (pos zero) ∷ an_array n ∷ items) told.0.0 = record {
      are = λ i. an_integer (pos zero) ∷ an_array (nine i) ∷ (found.are ∙ ap (λ (l : List Item). told_items told.0.0 ++ l) only.0) i;
      fits = found.fits;
      may_have = found.unauthored;
    } in
    subst (λ (k : HistoryRecord). InHistory version_0 (an_integer (pos zero) ∷ an_array n ∷ items) k) only.1 inside
history_found version_1 (an_integer (pos (suc zero)) ∷ an_array n ∷ items) h e =
    let w = when_true (eqb n 10) h (told_in items >>= authored) e in
    let told = bind_some (told_in items) authored h w.1 in
    let found = told_found items told.0.0 told.0.1 told.1 in
    let by = authored_found told.0.0 told.0.1 h told.2 in
    let ten : n ≡ 10 = eqb-true n 10 w.0 in
    let inside : InHistory version_1 (an_integer (pos (suc zero)) ∷ an_array n ∷ items) (record told.0.0 { author = by.author }) = record {
      are = λ i. an_integer (pos (suc zero)) ∷ an_array (ten i) ∷ (found.are ∙ ap (λ (l : List Item). told_items told.0.0 ++ l) by.behind_is) i;
      fits = whoever told.0.0 by.author found.fits;
      may_have = tt;
    } in
    subst (λ (k : HistoryRecord). InHistory version_1 (an_integer (pos (suc zero)) ∷ an_array n ∷ items) k) by.is inside
history_found _ _ h e = absurd (none-some h e)

history_again : (version : Version) (h : HistoryRecord) → HistoryFits h → MayHaveAuthor version h.author → history_in version (history_items version h) ≡ Some h
unfolding history_in
history_again version_0 h fits may =
    ap (λ (o : Option (HistoryRecord × List Item)). o >>= alone) (told_again h [] fits) ∙ ap (λ (author : Option (List ℕ)). Some (record h { author = author })) (sym may)
history_again version_1 h fits may =
    ap (λ (o : Option (HistoryRecord × List Item)). o >>= authored) (told_again h (author_item h.author ∷ []) fits)
    ∙ ap (λ (o : Option (Option (List ℕ))). o >>= λ author. Some (record h { author = author })) (author_again h.author)

few_items : (version : Version) (h : HistoryRecord) → length (history_items version h) ≤ most_items
few_items version_0 h = omega arith
few_items version_1 h = omega arith

-- ---- payloads

-- what is found of these bytes, under this tag
record Found (tag : List ℕ) (version : Version) (bytes : List ℕ) (payload : Payload) : Type 0 where
  tag_is : tag ≡ tag_of payload
  fits : PayloadFits payload
  spelled : SpellsPayload payload version bytes

held_bytes : (held bytes : List ℕ) (before : Item) → IsBytes bytes → SpellsItems (before ∷ a_bin held ∷ []) bytes → IsBytes held
held_bytes held bytes before are s =
    let behind : IsBytes s.1 = IsBytes-rest s.0 s.1 (subst IsBytes s.4 are) in
    let bin : IsBytes s.3.0 = IsBytes-first s.3.0 s.3.1 (subst IsBytes s.3.4 behind) in
    IsBytes-rest (bin_head s.3.2.form (length held)) held (subst IsBytes s.3.2.are bin)

command_found : (version : Version) (items : List Item) (bytes : List ℕ) (payload : Payload) → IsBytes bytes → SpellsItems items bytes → command_in version items ≡ Some payload → Found history_tag version bytes payload
unfolding command_in
command_found version (an_integer (pos zero) ∷ a_bin held ∷ []) bytes payload are s e =
    let inner = bind_some (items_at most_items held) _ payload e in
    let told = bind_some (history_in version inner.0) _ payload inner.2 in
    let found = history_found version inner.0 told.0 told.1 in
    let spelled : SpellsItems inner.0 held = items_taken most_items held inner.0 (held_bytes held bytes (an_integer (pos zero)) are s) inner.1 in
    let creation : SpellsCreation version told.0 bytes = record { author = found.may_have; held = held; items = subst (λ (is : List Item). SpellsItems is held) found.are spelled; bin = s } in
    subst (λ (p : Payload). Found history_tag version bytes p) (same_Some (HistoryCreate told.0) payload told.2) (record { tag_is = refl; fits = found.fits; spelled = creation })
command_found version (an_integer (pos (suc zero)) ∷ a_text id ∷ []) bytes payload are s e =
    let w = when_true (is_id_text id) payload (Some (HistoryDelete (id_value id))) e in
    let digits = is_id_text-found id w.0 in
    subst (λ (p : Payload). Found history_tag version bytes p) (same_Some (HistoryDelete (id_value id)) payload w.1)
    (record { tag_is = refl; fits = digits.0; spelled = subst (λ (text : List ℕ). SpellsItems (an_integer (pos 1) ∷ a_text text ∷ []) bytes) digits.1 s })
command_found version _ bytes payload are s e = absurd (none-some payload e)

-- a payload whose array has this length
counted : (tag : List ℕ) (version : Version) (bytes : List ℕ) (n wanted : ℕ) (made payload : Payload) → cond (eqb n wanted) (Some made) None ≡ Some payload → (n ≡ wanted → Found tag version bytes made) → Found tag version bytes payload
counted tag version bytes n wanted made payload e found =
    let w = when_true (eqb n wanted) payload (Some made) e in
    subst (λ (p : Payload). Found tag version bytes p) (same_Some made payload w.1) (found (eqb-true n wanted w.0))

key_found : (version : Version) (items : List Item) (bytes : List ℕ) (payload : Payload) → SpellsItems items bytes → key_in version items ≡ Some payload → Found kv_tag version bytes payload
unfolding key_in
key_found version_0 (an_array n ∷ a_text namespace ∷ a_text key ∷ a_text value ∷ []) bytes payload s e = counted kv_tag version_0 bytes n 3 (KvSet namespace key value) payload e (λ is.
    record { tag_is = refl; fits = tt; spelled = subst (λ (m : ℕ). SpellsItems (an_array m ∷ a_text namespace ∷ a_text key ∷ a_text value ∷ []) bytes) is s })
key_found version_1 (an_integer (pos zero) ∷ an_array n ∷ a_text namespace ∷ a_text key ∷ a_text value ∷ []) bytes payload s e = counted kv_tag version_1 bytes n 3 (KvSet namespace key value) payload e (λ is.
    record { tag_is = refl; fits = tt; spelled = subst (λ (m : ℕ). SpellsItems (an_integer (pos 0) ∷ an_array m ∷ a_text namespace ∷ a_text key ∷ a_text value ∷ []) bytes) is s })
key_found version_1 (an_integer (pos (suc zero)) ∷ an_array n ∷ a_text namespace ∷ a_text key ∷ []) bytes payload s e = counted kv_tag version_1 bytes n 2 (KvDelete namespace key) payload e (λ is.
    record { tag_is = refl; fits = tt; spelled = subst (λ (m : ℕ). SpellsItems (an_integer (pos 1) ∷ an_array m ∷ a_text namespace ∷ a_text key ∷ []) bytes) is s })
key_found _ _ bytes payload s e = absurd (none-some payload e)

alias_found : (version : Version) (items : List Item) (bytes : List ℕ) (payload : Payload) → SpellsItems items bytes → alias_in version items ≡ Some payload → Found alias_tag version bytes payload
unfolding alias_in
alias_found version_0 (an_integer (pos zero) ∷ an_array n ∷ a_text name ∷ a_text value ∷ []) bytes payload s e = counted alias_tag version_0 bytes n 2 (AliasSet name value) payload e (λ is.
    record { tag_is = refl; fits = tt; spelled = subst (λ (m : ℕ). SpellsItems (an_integer (pos 0) ∷ an_array m ∷ a_text name ∷ a_text value ∷ []) bytes) is s })
alias_found version_0 (an_integer (pos (suc zero)) ∷ an_array n ∷ a_text name ∷ []) bytes payload s e = counted alias_tag version_0 bytes n 1 (AliasDelete name) payload e (λ is.
    record { tag_is = refl; fits = tt; spelled = subst (λ (m : ℕ). SpellsItems (an_integer (pos 1) ∷ an_array m ∷ a_text name ∷ []) bytes) is s })
alias_found _ _ bytes payload s e = absurd (none-some payload e)

found_in : (tag : List ℕ) (version : Version) (items : List Item) (bytes : List ℕ) (payload : Payload) → IsBytes bytes → SpellsItems items bytes → payload_in tag version items ≡ Some payload → Found tag version bytes payload
found_in tag version items bytes payload are s e = by_test (bytes_eq tag history_tag)
    (λ t. subst (λ (l : List ℕ). Found l version bytes payload) (sym ((bytes_eq-Decides tag history_tag).0 t)) (command_found version items bytes payload are s (rw t at e)))
    (λ f. let e1 = rw f at e in by_test (bytes_eq tag kv_tag)
    (λ t. subst (λ (l : List ℕ). Found l version bytes payload) (sym ((bytes_eq-Decides tag kv_tag).0 t)) (key_found version items bytes payload s (rw t at e1)))
    (λ f. let e2 = rw f at e1 in by_test (bytes_eq tag alias_tag)
    (λ t. subst (λ (l : List ℕ). Found l version bytes payload) (sym ((bytes_eq-Decides tag alias_tag).0 t)) (alias_found version items bytes payload s (rw t at e2)))
    (λ f. absurd (none-some payload (rw f at e2)))))

version_found : (text : List ℕ) (version : Version) → version_named text ≡ Some version → text ≡ version_text version
version_found text version e = by_test (bytes_eq text (version_text version_0))
    (λ t. (bytes_eq-Decides text (version_text version_0)).0 t ∙ ap version_text (same_Some version_0 version (rw t at e)))
    (λ f. let e1 = rw f at e in by_test (bytes_eq text (version_text version_1))
    (λ t. (bytes_eq-Decides text (version_text version_1)).0 t ∙ ap version_text (same_Some version_1 version (rw t at e1)))
    (λ f. absurd (none-some version (rw f at e1))))

version_again : (version : Version) → version_named (version_text version) ≡ Some version
version_again version_0 = refl
version_again version_1 = refl

pub payload_found : (tag version bytes : List ℕ) (payload : Payload) → IsBytes bytes → payload_at tag version bytes ≡ Some payload → PayloadOf tag version bytes payload
unfolding payload_at
payload_found tag version bytes payload are e =
    let named = bind_some (version_named version) _ payload e in
    let read = bind_some (items_at most_items bytes) _ payload named.2 in
    let found = found_in tag named.0 read.0 bytes payload are (items_taken most_items bytes read.0 are read.1) read.2 in
    record { tag_is = found.tag_is; written_in = named.0; version_is = version_found version named.0 named.1; fits = found.fits; spelled = found.spelled }

-- ---- a payload that is spelled is read

-- the bytes are these items, which are the payload's
read_as : (version : Version) (bytes : List ℕ) (payload : Payload) (items : List Item) → IsBytes bytes → length items ≤ most_items → SpellsItems items bytes → payload_in (tag_of payload) version items ≡ Some payload
    → (items_at most_items bytes >>= λ found. payload_in (tag_of payload) version found) ≡ Some payload
read_as version bytes payload items are few s e = ap (λ (o : Option (List Item)). o >>= λ found. payload_in (tag_of payload) version found) (items_again items most_items bytes are few s) ∙ e

creation_read : (version : Version) (h : HistoryRecord) (bytes : List ℕ) → IsBytes bytes → HistoryFits h → (s : SpellsCreation version h bytes) → command_in version (an_integer (pos 0) ∷ a_bin s.held ∷ []) ≡ Some (HistoryCreate h)
unfolding command_in
creation_read version h bytes are fits s =
    rw (items_again (history_items version h) most_items s.held (held_bytes s.held bytes (an_integer (pos 0)) are s.bin) (few_items version h) s.items, history_again version h fits s.author) refl

deletion_read : (version : Version) (id : ℕ) → id < 2 ^ 128 → command_in version (an_integer (pos 1) ∷ a_text (id_text id) ∷ []) ≡ Some (HistoryDelete id)
unfolding command_in
deletion_read version id fits = rw (is_id_text-id_text id, id_value-id_text id fits) refl

spelled_read : (payload : Payload) (version : Version) (bytes : List ℕ) → IsBytes bytes → PayloadFits payload → SpellsPayload payload version bytes → (items_at most_items bytes >>= λ found. payload_in (tag_of payload) version found) ≡ Some payload
unfolding key_in alias_in
spelled_read (HistoryCreate h) version bytes are fits s = read_as version bytes (HistoryCreate h) (an_integer (pos 0) ∷ a_bin s.held ∷ []) are (omega arith) s.bin (creation_read version h bytes are fits s)
spelled_read (HistoryDelete id) version bytes are fits s = read_as version bytes (HistoryDelete id) (an_integer (pos 1) ∷ a_text (id_text id) ∷ []) are (omega arith) s (deletion_read version id fits)
spelled_read (KvSet n k v) version_0 bytes are fits s = read_as version_0 bytes (KvSet n k v) (an_array 3 ∷ a_text n ∷ a_text k ∷ a_text v ∷ []) are (omega arith) s refl
spelled_read (KvSet n k v) version_1 bytes are fits s = read_as version_1 bytes (KvSet n k v) (an_integer (pos 0) ∷ an_array 3 ∷ a_text n ∷ a_text k ∷ a_text v ∷ []) are (omega arith) s refl
spelled_read (KvDelete n k) version_0 bytes are fits s = absurd s
spelled_read (KvDelete n k) version_1 bytes are fits s = read_as version_1 bytes (KvDelete n k) (an_integer (pos 1) ∷ an_array 2 ∷ a_text n ∷ a_text k ∷ []) are (omega arith) s refl
spelled_read (AliasSet n v) version_0 bytes are fits s = read_as version_0 bytes (AliasSet n v) (an_integer (pos 0) ∷ an_array 2 ∷ a_text n ∷ a_text v ∷ []) are (omega arith) s refl
spelled_read (AliasSet n v) version_1 bytes are fits s = absurd s
spelled_read (AliasDelete n) version_0 bytes are fits s = read_as version_0 bytes (AliasDelete n) (an_integer (pos 1) ∷ an_array 1 ∷ a_text n ∷ []) are (omega arith) s refl
spelled_read (AliasDelete n) version_1 bytes are fits s = absurd s

pub payload_again : (tag version bytes : List ℕ) (payload : Payload) → IsBytes bytes → PayloadOf tag version bytes payload → payload_at tag version bytes ≡ Some payload
unfolding payload_at
payload_again tag version bytes payload are p =
    let there : payload_at (tag_of payload) (version_text p.written_in) bytes ≡ Some payload = rw (version_again p.written_in) (spelled_read payload p.written_in bytes are p.fits p.spelled) in
    ap (λ (text : List ℕ). payload_at tag text bytes) p.version_is ∙ ap (λ (text : List ℕ). payload_at text (version_text p.written_in) bytes) p.tag_is ∙ there
