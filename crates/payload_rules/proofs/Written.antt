-- What is written for a payload spells it.
use Rattle.std.proofs.Common.{◌≡◌, ℕ, ◌<◌, ◌^◌, ℤ, pos, negsuc, List, [], ◌∷◌, ◌++◌, length, Option, Some, None, refl, sym, ap, subst, ◌∙◌, append_assoc, append-nil, arith, inl, inr}
use Rattle.std.proofs.lemmas.Bool.{cases_lt, lt-ltb, le-ltb}
use Rattle.std.specs.Int.{w64}
use Rattle.std.specs.Prelude.{FitsSigned}
use Rattle.definitions.specs.Journal.{HistoryRecord}
use Rattle.definitions.specs.Ids.{id_text}
use Rattle.definitions.specs.Spelling.{uint_8, uint_16, uint_64, IsSpellable, TextFits, written_integer, written_text, written_array}
use Rattle.definitions.proofs.Ids.{id_text-length, id_text-utf8}
use Rattle.definitions.proofs.Spelling.{written_integer_spells, written_text_spells, written_array_spells}
use Rattle.payload_rules.specs.Items.{bin_limit, shortest_bin, written_bin, Item, an_integer, a_text, an_array, a_bin, SpellsItem, SpellsItems}
use Rattle.payload_rules.specs.Payloads.{Payload, HistoryCreate, HistoryDelete, KvSet, KvDelete, AliasSet, AliasDelete, version_1, version_text, tag_of, author_version, payload_version, TimeFits, HistoryFits, PayloadFits, time_item, told_items, history_items, author_item, MayHaveAuthor, SpellsPayload, PayloadOf, written_u8, written_u16, written_u64, written_time, written_told, written_with, written_history, written_payload, AuthorFits, HistoryTextsFit, TextsFit}

-- ---- items

wide_zero : SpellsItem (an_integer (pos 0)) (written_u8 0)
wide_zero = (uint_8, omega arith, refl)

wide_one : SpellsItem (an_integer (pos 1)) (written_u8 1)
wide_one = (uint_8, omega arith, refl)

wider_zero : SpellsItem (an_integer (pos 0)) (written_u16 0)
wider_zero = (uint_16, omega arith, refl)

wider_one : SpellsItem (an_integer (pos 1)) (written_u16 1)
wider_one = (uint_16, omega arith, refl)

time_spelled : (time : ℕ) → time < 2 ^ 64 → SpellsItem (an_integer (pos time)) (written_u64 time)
time_spelled time lt = (uint_64, lt, refl)

some_time_spelled : (time : Option ℕ) → TimeFits time → SpellsItem (time_item time) (written_time time)
some_time_spelled None fits = refl
some_time_spelled (Some time) fits = time_spelled time fits

signed_is_spellable : (z : ℤ) → FitsSigned w64 z → IsSpellable z
signed_is_spellable (pos n) fits = omega (arith, fits.sfits)
signed_is_spellable (negsuc n) fits = fits.sfits

signed_spelled : (z : ℤ) → FitsSigned w64 z → SpellsItem (an_integer z) (written_integer z)
signed_spelled z fits = written_integer_spells z (signed_is_spellable z fits)

text_spelled : (text : List ℕ) → TextFits text → SpellsItem (a_text text) (written_text text)
text_spelled text fits = written_text_spells text fits.utf8 fits.short

id_spelled : (id : ℕ) → SpellsItem (a_text (id_text id)) (written_text (id_text id))
id_spelled id = written_text_spells (id_text id) (id_text-utf8 id) (omega (arith, id_text-length id))

shortest_bin_fits : (n : ℕ) → n < 2 ^ 32 → n < bin_limit (shortest_bin n)
shortest_bin_fits n lt = elim (cases_lt n (2 ^ 8)) [
  | inl low ↦ rw (lt-ltb n (2 ^ 8) low) low
  | inr high ↦ rw (le-ltb n (2 ^ 8) high) (elim (cases_lt n (2 ^ 16)) [
    | inl low ↦ rw (lt-ltb n (2 ^ 16) low) low
    | inr higher ↦ rw (le-ltb n (2 ^ 16) higher) lt
  ])
]

bin_spelled : (held : List ℕ) → length held < 2 ^ 32 → SpellsItem (a_bin held) (written_bin held)
bin_spelled held lt = record { form = shortest_bin (length held); fits = shortest_bin_fits (length held) lt; are = refl }

-- ---- items one behind the other

record Spelled (items : List Item) (bytes : List ℕ) : Type 0 where
  as_items : SpellsItems items bytes

record SpelledOne (item : Item) (bytes : List ℕ) : Type 0 where
  as_item : SpellsItem item bytes

one : (item : Item) (bytes : List ℕ) → SpellsItem item bytes → SpelledOne item bytes
one item bytes s = record { as_item = s }

-- the last one
last : {item : Item} {bytes : List ℕ} → SpelledOne item bytes → Spelled (item ∷ []) bytes
last {item = item} {bytes = bytes} s = record { as_items = (bytes, [], s.as_item, refl, sym (append-nil bytes)) }

-- one before others
before : {item : Item} {items : List Item} {bytes rest : List ℕ} → SpelledOne item bytes → Spelled items rest → Spelled (item ∷ items) (bytes ++ rest)
before {item = item} {items = items} {bytes = bytes} {rest = rest} s more = record { as_items = (bytes, rest, s.as_item, more.as_items, refl) }

-- several before others
all_before : (items more : List Item) (bytes rest : List ℕ) → SpellsItems items bytes → SpellsItems more rest → SpellsItems (items ++ more) (bytes ++ rest)
all_before [] more bytes rest s t = subst (λ (l : List ℕ). SpellsItems more (l ++ rest)) (sym s) t
all_before (item ∷ items) more bytes rest s t = (s.0, s.1 ++ rest, s.2, all_before items more s.1 rest s.3 t, ap (λ (l : List ℕ). l ++ rest) s.4 ∙ append_assoc s.0 s.1 rest)

an_array_of : (n : ℕ) → n < 2 ^ 32 → SpelledOne (an_array n) (written_array n)
an_array_of n lt = one (an_array n) (written_array n) (written_array_spells n lt)

text : (t : List ℕ) → TextFits t → SpelledOne (a_text t) (written_text t)
text t fits = one (a_text t) (written_text t) (text_spelled t fits)

signed : (z : ℤ) → FitsSigned w64 z → SpelledOne (an_integer z) (written_integer z)
signed z fits = one (an_integer z) (written_integer z) (signed_spelled z fits)

digits : (id : ℕ) → SpelledOne (a_text (id_text id)) (written_text (id_text id))
digits id = one (a_text (id_text id)) (written_text (id_text id)) (id_spelled id)

zero_form : SpelledOne (an_integer (pos 0)) (written_u8 0)
zero_form = record { as_item = wide_zero }

one_form : SpelledOne (an_integer (pos 1)) (written_u8 1)
one_form = record { as_item = wide_one }

-- ---- payloads

told_spelled : (h : HistoryRecord) → HistoryFits h → HistoryTextsFit h → Spelled (told_items h) (written_told h)
told_spelled h fits texts =
    let deleted_at = last (one (time_item h.deleted_at) (written_time h.deleted_at) (some_time_spelled h.deleted_at fits.deleted_at)) in
    let texts_and_time = before (text h.command texts.command) (before (text h.cwd texts.cwd) (before (text h.session texts.session) (before (text h.hostname texts.hostname) deleted_at))) in
    let numbers = before (one (an_integer (pos h.timestamp)) (written_u64 h.timestamp) (time_spelled h.timestamp fits.timestamp)) (before (signed h.duration fits.duration) (before (signed h.exit fits.exit) texts_and_time)) in
    before (digits h.id) numbers

authored_spelled : (h : HistoryRecord) (author : List ℕ) → TextFits author → Spelled (told_items h) (written_told h) → Spelled (told_items h ++ a_text author ∷ []) (written_told h ++ written_text author)
authored_spelled h author fits told = record { as_items = all_before (told_items h) (a_text author ∷ []) (written_told h) (written_text author) told.as_items (last (text author fits)).as_items }

-- what the bin holds, where the command's author is this
history_spelled : (h : HistoryRecord) (author : Option (List ℕ)) → h.author ≡ author → HistoryFits h → HistoryTextsFit h → Spelled (history_items (author_version author) h) (written_with h author)
history_spelled h None e fits texts = before (one (an_integer (pos 0)) (written_u16 0) wider_zero) (before (an_array_of 9 (omega arith)) (told_spelled h fits texts))
history_spelled h (Some author) e fits texts =
    let told = authored_spelled h author (subst (λ (a : Option (List ℕ)). AuthorFits a) e texts.author) (told_spelled h fits texts) in
    let all = before (one (an_integer (pos 1)) (written_u16 1) wider_one) (before (an_array_of 10 (omega arith)) told) in
    subst (λ (a : Option (List ℕ)). Spelled (an_integer (pos 1) ∷ an_array 10 ∷ (told_items h ++ author_item a ∷ [])) (written_with h (Some author))) (sym e) all

may_have : (author : Option (List ℕ)) → MayHaveAuthor (author_version author) author
may_have None = refl
may_have (Some author) = tt

creation_spelled : (h : HistoryRecord) → HistoryTextsFit h → Spelled (an_integer (pos 0) ∷ a_bin (written_history h) ∷ []) (written_u8 0 ++ written_bin (written_history h))
creation_spelled h texts = before zero_form (last (one (a_bin (written_history h)) (written_bin (written_history h)) (bin_spelled (written_history h) texts.held)))

pub payload_spelled : (payload : Payload) → PayloadFits payload → TextsFit payload → SpellsPayload payload (payload_version payload) (written_payload payload)
payload_spelled (HistoryCreate h) fits texts =
    record { author = may_have h.author; held = written_history h; items = (history_spelled h h.author refl fits texts).as_items; bin = (creation_spelled h texts).as_items }
payload_spelled (HistoryDelete id) fits texts = (before one_form (last (digits id))).as_items
payload_spelled (KvSet namespace key value) fits texts = (before (an_array_of 3 (omega arith)) (before (text namespace texts.0) (before (text key texts.1) (last (text value texts.2))))).as_items
payload_spelled (KvDelete namespace key) fits texts = (before one_form (before (an_array_of 2 (omega arith)) (before (text namespace texts.0) (last (text key texts.1))))).as_items
payload_spelled (AliasSet name value) fits texts = (before zero_form (before (an_array_of 2 (omega arith)) (before (text name texts.0) (last (text value texts.1))))).as_items
payload_spelled (AliasDelete name) fits texts = (before one_form (before (an_array_of 1 (omega arith)) (last (text name texts)))).as_items

-- a value in the form of version v1, which is read and never written
pub key_in_version_1 : (namespace key value : List ℕ) → TextFits namespace → TextFits key → TextFits value
    → SpellsPayload (KvSet namespace key value) version_1 (written_u8 0 ++ (written_array 3 ++ (written_text namespace ++ (written_text key ++ written_text value))))
key_in_version_1 namespace key value p q r = (before zero_form (before (an_array_of 3 (omega arith)) (before (text namespace p) (before (text key q) (last (text value r)))))).as_items

pub written_spelled : (payload : Payload) → PayloadFits payload → TextsFit payload → PayloadOf (tag_of payload) (version_text (payload_version payload)) (written_payload payload) payload
written_spelled payload fits texts = record { tag_is = refl; written_in = payload_version payload; version_is = refl; fits = fits; spelled = payload_spelled payload fits texts }
