-- The texts of a payload beside the bytes that spell it: the bytes are no fewer, and what is written is little more.
use Rattle.std.proofs.Common.{◌≡◌, ℕ, ◌+◌, ◌≤◌, ℤ, pos, negsuc, List, [], ◌∷◌, ◌++◌, length, Option, Some, None, ap, ◌∙◌, length-append, arith}
use Rattle.definitions.specs.Journal.{HistoryRecord}
use Rattle.definitions.specs.Ids.{id_text}
use Rattle.definitions.specs.Search.{author_length}
use Rattle.definitions.specs.Spelling.{IntegerForm, positive_fixint, negative_fixint, uint_8, uint_16, uint_32, uint_64, int_8, int_16, int_32, int_64, integer_bytes, shortest_unsigned, shortest_negative, TextForm, fixstr, str_8, str_16, str_32, text_head, shortest_text, written_integer, written_text, ArrayForm, fixarray, array_16, array_32, array_head, shortest_array, written_array}
use Rattle.definitions.proofs.Ids.{id_text-length}
use Rattle.payload_rules.specs.Items.{BinForm, bin_8, bin_16, bin_32, bin_head, shortest_bin, written_bin, Item, an_integer, a_text, an_array, a_bin, a_nil, SpellsItem, SpellsItems}
use Rattle.payload_rules.specs.Payloads.{Payload, HistoryCreate, HistoryDelete, KvSet, KvDelete, AliasSet, AliasDelete, Version, version_0, version_1, author_item, history_items, SpellsPayload, written_u8, written_u16, written_u64, written_time, written_told, written_with, written_history, written_payload}
use Rattle.step_rules.specs.Store.{payload_text_bytes}

-- ---- what spells a payload has its texts

abbrev item_text : Item → ℕ
item_text (a_text text) = length text
item_text (an_integer z) = 0
item_text (an_array n) = 0
item_text (a_bin held) = 0
item_text a_nil = 0

abbrev items_text : List Item → ℕ
items_text [] = 0
items_text (item ∷ items) = item_text item + items_text items

item_within : (item : Item) (bytes : List ℕ) → SpellsItem item bytes → item_text item ≤ length bytes
item_within (a_text text) bytes s = let l : length bytes ≡ length (text_head s.form (length text)) + length text = ap (λ (x : List ℕ). length x) s.are ∙ length-append (text_head s.form (length text)) text in omega (arith, l)
item_within (an_integer z) bytes s = omega arith
item_within (an_array n) bytes s = omega arith
item_within (a_bin held) bytes s = omega arith
item_within a_nil bytes s = omega arith

items_within : (items : List Item) (bytes : List ℕ) → SpellsItems items bytes → items_text items ≤ length bytes
items_within [] bytes s = omega arith
items_within (item ∷ items) bytes s =
    let l : length bytes ≡ length s.0 + length s.1 = ap (λ (x : List ℕ). length x) s.4 ∙ length-append s.0 s.1 in
    let first = item_within item s.0 s.2 in
    let more = items_within items s.1 s.3 in
    omega (arith, l, first, more)

bin_within : (held bytes : List ℕ) → SpellsItems (an_integer (pos 0) ∷ a_bin held ∷ []) bytes → length held ≤ length bytes
bin_within held bytes s =
    let all : length bytes ≡ length s.0 + length s.1 = ap (λ (x : List ℕ). length x) s.4 ∙ length-append s.0 s.1 in
    let behind : length s.1 ≡ length s.3.0 + length s.3.1 = ap (λ (x : List ℕ). length x) s.3.4 ∙ length-append s.3.0 s.3.1 in
    let bin : length s.3.0 ≡ length (bin_head s.3.2.form (length held)) + length held = ap (λ (x : List ℕ). length x) s.3.2.are ∙ length-append (bin_head s.3.2.form (length held)) held in
    omega (arith, all, behind, bin)

author_text : (author : Option (List ℕ)) → item_text (author_item author) ≡ author_length author
author_text None = omega arith
author_text (Some text) = omega arith

creation_within : (version : Version) (h : HistoryRecord) (bytes : List ℕ) → SpellsPayload (HistoryCreate h) version bytes → payload_text_bytes (HistoryCreate h) ≤ length bytes
creation_within version_0 h bytes s =
    let inner = items_within (history_items version_0 h) s.held s.items in
    let outer = bin_within s.held bytes s.bin in
    let none : author_length h.author ≡ 0 = ap author_length s.author in
    omega (arith, inner, outer, none)
creation_within version_1 h bytes s =
    let inner = items_within (history_items version_1 h) s.held s.items in
    let outer = bin_within s.held bytes s.bin in
    let author = author_text h.author in
    omega (arith, inner, outer, author)

pub payload_within : (payload : Payload) (version : Version) (bytes : List ℕ) → SpellsPayload payload version bytes → payload_text_bytes payload ≤ length bytes
payload_within (HistoryCreate h) version bytes s = creation_within version h bytes s
payload_within (HistoryDelete id) version bytes s = omega arith
payload_within (KvSet n k v) version_0 bytes s = let inner = items_within (an_array 3 ∷ a_text n ∷ a_text k ∷ a_text v ∷ []) bytes s in omega (arith, inner)
payload_within (KvSet n k v) version_1 bytes s = let inner = items_within (an_integer (pos 0) ∷ an_array 3 ∷ a_text n ∷ a_text k ∷ a_text v ∷ []) bytes s in omega (arith, inner)
payload_within (KvDelete n k) version_0 bytes s = absurd s
payload_within (KvDelete n k) version_1 bytes s = let inner = items_within (an_integer (pos 1) ∷ an_array 2 ∷ a_text n ∷ a_text k ∷ []) bytes s in omega (arith, inner)
payload_within (AliasSet n v) version_0 bytes s = let inner = items_within (an_integer (pos 0) ∷ an_array 2 ∷ a_text n ∷ a_text v ∷ []) bytes s in omega (arith, inner)
payload_within (AliasSet n v) version_1 bytes s = absurd s
payload_within (AliasDelete n) version_0 bytes s = let inner = items_within (an_integer (pos 1) ∷ an_array 1 ∷ a_text n ∷ []) bytes s in omega (arith, inner)
payload_within (AliasDelete n) version_1 bytes s = absurd s

-- ---- what is written

joined : (a b : List ℕ) (m n : ℕ) → length a ≤ m → length b ≤ n → length (a ++ b) ≤ m + n
joined a b m n p q = let l = length-append a b in omega (arith, l, p, q)

text_head_short : (form : TextForm) (n : ℕ) → length (text_head form n) ≤ 5
text_head_short fixstr n = omega arith
text_head_short str_8 n = omega arith
text_head_short str_16 n = omega arith
text_head_short str_32 n = omega arith

array_head_short : (form : ArrayForm) (n : ℕ) → length (array_head form n) ≤ 5
array_head_short fixarray n = omega arith
array_head_short array_16 n = omega arith
array_head_short array_32 n = omega arith

bin_head_short : (form : BinForm) (n : ℕ) → length (bin_head form n) ≤ 5
bin_head_short bin_8 n = omega arith
bin_head_short bin_16 n = omega arith
bin_head_short bin_32 n = omega arith

integer_short : (form : IntegerForm) (z : ℤ) → length (integer_bytes form z) ≤ 9
integer_short positive_fixint (pos n) = omega arith
integer_short positive_fixint (negsuc n) = omega arith
integer_short negative_fixint (pos n) = omega arith
integer_short negative_fixint (negsuc n) = omega arith
integer_short uint_8 z = omega arith
integer_short uint_16 z = omega arith
integer_short uint_32 z = omega arith
integer_short uint_64 z = omega arith
integer_short int_8 z = omega arith
integer_short int_16 z = omega arith
integer_short int_32 z = omega arith
integer_short int_64 z = omega arith

pub written_integer_short : (z : ℤ) → length (written_integer z) ≤ 9
written_integer_short (pos n) = integer_short (shortest_unsigned n) (pos n)
written_integer_short (negsuc n) = integer_short (shortest_negative n) (negsuc n)

pub written_text_short : (text : List ℕ) → length (written_text text) ≤ 5 + length text
written_text_short text = joined (text_head (shortest_text (length text)) (length text)) text 5 (length text) (text_head_short (shortest_text (length text)) (length text)) (omega arith)

pub written_array_short : (n : ℕ) → length (written_array n) ≤ 5
written_array_short n = array_head_short (shortest_array n) n

written_bin_short : (held : List ℕ) → length (written_bin held) ≤ 5 + length held
written_bin_short held = joined (bin_head (shortest_bin (length held)) (length held)) held 5 (length held) (bin_head_short (shortest_bin (length held)) (length held)) (omega arith)

written_id_short : (id : ℕ) → length (written_text (id_text id)) ≤ 37
written_id_short id = let l = written_text_short (id_text id) in let digits = id_text-length id in omega (arith, l, digits)

written_time_short : (time : Option ℕ) → length (written_time time) ≤ 9
written_time_short None = omega arith
written_time_short (Some time) = omega arith

written_told_short : (h : HistoryRecord) → length (written_told h) ≤ 37 + (9 + (9 + (9 + (5 + length h.command + (5 + length h.cwd + (5 + length h.session + (5 + length h.hostname + 9)))))))
written_told_short h =
    joined _ _ _ _ (written_id_short h.id) (joined (written_u64 h.timestamp) _ 9 _ (omega arith) (joined _ _ _ _ (written_integer_short h.duration) (joined _ _ _ _ (written_integer_short h.exit)
    (joined _ _ _ _ (written_text_short h.command) (joined _ _ _ _ (written_text_short h.cwd) (joined _ _ _ _ (written_text_short h.session) (joined _ _ _ _ (written_text_short h.hostname) (written_time_short h.deleted_at))))))))

written_with_short : (h : HistoryRecord) (author : Option (List ℕ)) → length (written_with h author) ≤ 110 + (length h.command + length h.cwd + length h.session + length h.hostname + author_length author)
written_with_short h None =
    let told = joined (written_u16 0) (written_array 9 ++ written_told h) 3 _ (omega arith) (joined (written_array 9) (written_told h) 5 _ (written_array_short 9) (written_told_short h)) in
    omega (arith, told)
written_with_short h (Some author) =
    let told = joined (written_u16 1) (written_array 10 ++ (written_told h ++ written_text author)) 3 _ (omega arith) (joined (written_array 10) (written_told h ++ written_text author) 5 _ (written_array_short 10) (joined (written_told h) (written_text author) _ _ (written_told_short h) (written_text_short author))) in
    omega (arith, told)

pub written_short : (payload : Payload) → length (written_payload payload) ≤ 128 + payload_text_bytes payload
written_short (HistoryCreate h) =
    let all = joined (written_u8 0) (written_bin (written_history h)) 2 _ (omega arith) (written_bin_short (written_history h)) in
    let inner = written_with_short h h.author in
    omega (arith, all, inner)
written_short (HistoryDelete id) = let all = joined (written_u8 1) (written_text (id_text id)) 2 37 (omega arith) (written_id_short id) in omega (arith, all)
written_short (KvSet n k v) = let all = joined (written_array 3) (written_text n ++ (written_text k ++ written_text v)) 5 _ (written_array_short 3) (joined _ _ _ _ (written_text_short n) (joined _ _ _ _ (written_text_short k) (written_text_short v))) in omega (arith, all)
written_short (KvDelete n k) = let all = joined (written_u8 1) (written_array 2 ++ (written_text n ++ written_text k)) 2 _ (omega arith) (joined (written_array 2) (written_text n ++ written_text k) 5 _ (written_array_short 2) (joined _ _ _ _ (written_text_short n) (written_text_short k))) in omega (arith, all)
written_short (AliasSet n v) = let all = joined (written_u8 0) (written_array 2 ++ (written_text n ++ written_text v)) 2 _ (omega arith) (joined (written_array 2) (written_text n ++ written_text v) 5 _ (written_array_short 2) (joined _ _ _ _ (written_text_short n) (written_text_short v))) in omega (arith, all)
written_short (AliasDelete n) = let all = joined (written_u8 1) (written_array 1 ++ written_text n) 2 _ (omega arith) (joined (written_array 1) (written_text n) 5 _ (written_array_short 1) (written_text_short n)) in omega (arith, all)
