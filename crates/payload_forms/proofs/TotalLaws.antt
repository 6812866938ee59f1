-- The texts of a payload have no more bytes than what spells it.
use Rattle.std.proofs.Common.{◌≡◌, ℕ, pos, ◌+◌, ◌≤◌, List, [], ◌∷◌, length, length-append, Option, Some, None, refl, ap, arith}
use Rattle.definitions.specs.Journal.{HistoryRecord}
use Rattle.definitions.specs.Search.{author_length, hit_bytes}
use Rattle.definitions.specs.Spelling.{text_head}
use Rattle.payload_rules.specs.Items.{Item, an_integer, a_text, an_array, a_bin, a_nil, bin_head, SpellsItem, SpellsItems}
use Rattle.payload_rules.specs.Payloads.{Payload, HistoryCreate, HistoryDelete, KvSet, KvDelete, AliasSet, AliasDelete, Version, version_0, version_1, time_item, author_item, history_items, MayHaveAuthor, SpellsPayload, SpellsCreation, PayloadOf}
use Rattle.payload_forms.specs.Writing.{text_total}

abbrev weight : Item → ℕ
weight (an_integer z) = 0
weight (a_text text) = length text
weight (an_array n) = 0
weight (a_bin held) = length held
weight a_nil = 0

abbrev weights : List Item → ℕ
weights [] = 0
weights (item ∷ items) = weight item + weights items

item_holds : (item : Item) (bytes : List ℕ) → SpellsItem item bytes → weight item ≤ length bytes
item_holds (an_integer z) bytes s = omega arith
item_holds (a_text text) bytes s = omega (arith, ap length s.are, length-append (text_head s.form (length text)) text)
item_holds (an_array n) bytes s = omega arith
item_holds (a_bin held) bytes s = omega (arith, ap length s.are, length-append (bin_head s.form (length held)) held)
item_holds a_nil bytes s = omega arith

items_hold : (items : List Item) (bytes : List ℕ) → SpellsItems items bytes → weights items ≤ length bytes
items_hold [] bytes s = omega arith
items_hold (item ∷ items) bytes (first, rest, one, more, are) =
    omega (arith, item_holds item first one, items_hold items rest more, ap length are, length-append first rest)

time_weight : (time : Option ℕ) → weight (time_item time) ≡ 0
time_weight None = refl
time_weight (Some n) = refl

author_weight : (author : Option (List ℕ)) → weight (author_item author) ≡ author_length author
author_weight None = refl
author_weight (Some text) = refl

history_total : (version : Version) (h : HistoryRecord) → MayHaveAuthor version h.author → hit_bytes h ≤ weights (history_items version h)
history_total version_0 h none =
    let nothing : author_length h.author ≡ 0 = ap author_length none in
    omega (arith, nothing)
history_total version_1 h may = omega (arith, author_weight h.author)

creation_total : (version : Version) (h : HistoryRecord) (bytes : List ℕ) → SpellsCreation version h bytes → hit_bytes h ≤ length bytes
creation_total version h bytes s =
    omega (arith, history_total version h s.author, items_hold (history_items version h) s.held s.items, items_hold (an_integer (pos 0) ∷ a_bin s.held ∷ []) bytes s.bin)

spelled_total : (p : Payload) (version : Version) (bytes : List ℕ) → SpellsPayload p version bytes → text_total p ≤ length bytes
spelled_total (HistoryCreate h) version bytes s = creation_total version h bytes s
spelled_total (HistoryDelete id) version bytes s = omega arith
spelled_total (KvSet n k v) version_0 bytes s = omega (arith, items_hold (an_array 3 ∷ a_text n ∷ a_text k ∷ a_text v ∷ []) bytes s)
spelled_total (KvSet n k v) version_1 bytes (first, rest, number, s, are) = omega (arith, items_hold (an_array 3 ∷ a_text n ∷ a_text k ∷ a_text v ∷ []) rest s, ap length are, length-append first rest)
spelled_total (KvDelete n k) version_0 bytes s = absurd s
spelled_total (KvDelete n k) version_1 bytes (first, rest, number, s, are) = omega (arith, items_hold (an_array 2 ∷ a_text n ∷ a_text k ∷ []) rest s, ap length are, length-append first rest)
spelled_total (AliasSet n v) version_0 bytes (first, rest, number, s, are) = omega (arith, items_hold (an_array 2 ∷ a_text n ∷ a_text v ∷ []) rest s, ap length are, length-append first rest)
spelled_total (AliasSet n v) version_1 bytes s = absurd s
spelled_total (AliasDelete n) version_0 bytes (first, rest, number, s, are) = omega (arith, items_hold (an_array 1 ∷ a_text n ∷ []) rest s, ap length are, length-append first rest)
spelled_total (AliasDelete n) version_1 bytes s = absurd s

pub payload_total : (tag name bytes : List ℕ) (p : Payload) → PayloadOf tag name bytes p → text_total p ≤ length bytes
payload_total tag name bytes p s = spelled_total p s.written_in bytes s.spelled
