-- The examples, computed.
use Rattle.std.proofs.Common.{◌≡◌, ℕ, ◌<◌, ◌^◌, ℤ, pos, negsuc, Option, List, [], ◌∷◌, ◌++◌, length, true, refl, sym, ap, subst, append-nil, arith}
use Rattle.std.specs.Prelude.{codes, FitsSigned}
use Rattle.std.specs.Int.{w64}
use Rattle.std.proofs.lemmas.Str.{IsUtf8-from_is_utf8}
use Rattle.std.specs.Str.{is_utf8, chars}
use Rattle.definitions.specs.Ids.{id_text}
use Rattle.definitions.specs.Spelling.{int_64, str_8, array_16, TextFits}
use Rattle.definitions.specs.Journal.{HistoryRecord}
use Rattle.definitions.specs.Examples.{ls_ended, authored_ls}
use Rattle.payload_rules.specs.Items.{bin_8, bin_32, bin_head, shortest_bin, Item, an_integer, a_text, an_array, a_bin, SpellsItems}
use Rattle.payload_rules.specs.Payloads.{Payload, HistoryCreate, HistoryDelete, KvSet, KvDelete, AliasSet, AliasDelete, Version, version_0, version_1, version_text, tag_of, SpellsPayload, PayloadOf, TimeFits, HistoryFits, AuthorFits, HistoryTextsFit, written_history, written_payload, told_items, author_item}
use Rattle.payload_rules.specs.Examples.{ls_payload, authored_payload, WorkedCreation, WorkedItems, WorkedPayloads, WorkedRanges}
use Rattle.payload_rules.proofs.Items.{first_items, all_items}
use Rattle.payload_rules.proofs.Payloads.{digit, versions_differ, payloads_apart}
use Rattle.payload_rules.proofs.Written.{payload_spelled, written_spelled, key_in_version_1}

-- ---- a command that ended

ls_fits : HistoryFits ls_ended
ls_fits = record { id = omega arith; timestamp = omega arith; duration = record { sfits = omega arith }; exit = record { sfits = omega arith }; deleted_at = tt }

text_fits : (text : List ℕ) → is_utf8 text ≡ true → length text < 2 ^ 32 → TextFits text
text_fits text utf8 short = record { utf8 = IsUtf8-from_is_utf8 text utf8; short = short }

ls_texts : HistoryTextsFit ls_ended
unfolding is_utf8 chars lib.Utf8.encode id_text
ls_texts = record {
  command = text_fits (codes "ls") refl (omega arith);
  cwd = text_fits (codes "/") refl (omega arith);
  session = text_fits (codes "s1") refl (omega arith);
  hostname = text_fits (codes "h:u") refl (omega arith);
  author = tt;
  held = let len : length (written_history ls_ended) ≡ 64 = refl in omega arith;
}

ls_written : written_payload (HistoryCreate ls_ended) ≡ ls_payload
unfolding id_text
ls_written = refl

ls_items : SpellsPayload (HistoryCreate ls_ended) version_0 ls_payload
ls_items = subst (λ (bytes : List ℕ). SpellsPayload (HistoryCreate ls_ended) version_0 bytes) ls_written (payload_spelled (HistoryCreate ls_ended) ls_fits ls_texts)

ls_spelled : PayloadOf (codes "history") (codes "v0") ls_payload (HistoryCreate ls_ended)
ls_spelled = record { tag_is = refl; written_in = version_0; version_is = refl; fits = ls_fits; spelled = ls_items }

lengths_differ : ◌≡◌ {A = ℕ} 68 69 → ⊥
lengths_differ e = omega arith

other_version : (version : Version) → codes "v9" ≡ version_text version → ⊥
other_version version_0 e = let digits : ◌≡◌ {A = ℕ} 0x39 0x30 = ap digit e in omega arith
other_version version_1 e = let digits : ◌≡◌ {A = ℕ} 0x39 0x31 = ap digit e in omega arith

nothing_behind : (byte : ℕ) (payload : Payload) → PayloadOf (codes "history") (codes "v0") (ls_payload ++ byte ∷ []) payload → ⊥
nothing_behind byte payload other =
    let same = payloads_apart (codes "history") (codes "v0") ls_payload (ls_payload ++ byte ∷ []) (byte ∷ []) [] (HistoryCreate ls_ended) payload ls_spelled other (sym (append-nil (ls_payload ++ byte ∷ []))) in
    lengths_differ (ap (λ (l : List ℕ). length l) same.0)

-- a key's payload begins with an array, and this one with an integer
no_kv : (version : Version) (payload : Payload) → codes "v0" ≡ version_text version → tag_of payload ≡ codes "kv" → SpellsPayload payload version ls_payload → ⊥
no_kv version_0 (KvSet namespace key value) is tag s =
    let first = first_items (an_integer (pos 0)) (an_array 3) (a_bin ls_items.held ∷ []) (a_text namespace ∷ a_text key ∷ a_text value ∷ []) ls_payload ls_payload [] [] ls_items.bin s refl in
    cc
no_kv version_0 (KvDelete namespace key) is tag s = s
no_kv version_1 payload is tag s = versions_differ is
no_kv version_0 _ is tag s = cc

-- ---- the same with an author

authored_fits : HistoryFits authored_ls
authored_fits = record { id = omega arith; timestamp = omega arith; duration = record { sfits = omega arith }; exit = record { sfits = omega arith }; deleted_at = tt }

authored_texts : HistoryTextsFit authored_ls
unfolding is_utf8 chars lib.Utf8.encode id_text
authored_texts = record {
  command = text_fits (codes "ls") refl (omega arith);
  cwd = text_fits (codes "/") refl (omega arith);
  session = text_fits (codes "s1") refl (omega arith);
  hostname = text_fits (codes "h:u") refl (omega arith);
  author = text_fits (codes "me") refl (omega arith);
  held = let len : length (written_history authored_ls) ≡ 67 = refl in omega arith;
}

authored_is : written_payload (HistoryCreate authored_ls) ≡ authored_payload
unfolding id_text
authored_is = refl

authored_items : SpellsPayload (HistoryCreate authored_ls) version_1 authored_payload
authored_items = subst (λ (bytes : List ℕ). SpellsPayload (HistoryCreate authored_ls) version_1 bytes) authored_is (payload_spelled (HistoryCreate authored_ls) authored_fits authored_texts)

authored_spells : PayloadOf (codes "history") (codes "v1") authored_payload (HistoryCreate authored_ls)
authored_spells = record { tag_is = refl; written_in = version_1; version_is = refl; fits = authored_fits; spelled = authored_items }

-- what the bin of a command holds begins with a 0 in version v0 and with a 1 in version v1
bins_differ : (bytes : List ℕ) (h k : HistoryRecord) → SpellsPayload (HistoryCreate h) version_0 bytes → SpellsPayload (HistoryCreate k) version_1 bytes → ⊥
bins_differ bytes h k s t =
    let outer = all_items (an_integer (pos 0) ∷ a_bin s.held ∷ []) (an_integer (pos 0) ∷ a_bin t.held ∷ []) bytes bytes [] [] refl s.bin t.bin refl in
    let items : an_integer (pos 0) ∷ a_bin s.held ∷ [] ≡ an_integer (pos 0) ∷ a_bin t.held ∷ [] = outer.1 in
    let held : s.held ≡ t.held = cc in
    let first = first_items (an_integer (pos 0)) (an_integer (pos 1)) (behind_0 h) (behind_1 k) s.held t.held [] [] s.items t.items (ap (λ (l : List ℕ). l ++ []) held) in
    cc
  where
    behind_0 : HistoryRecord → List Item
    behind_0 h = an_array 9 ∷ told_items h

    behind_1 : HistoryRecord → List Item
    behind_1 h = an_array 10 ∷ (told_items h ++ author_item h.author ∷ [])

-- a command's first item is 0, and that of a deletion 1
no_deletion : (bytes held : List ℕ) (id : ℕ) → SpellsItems (an_integer (pos 0) ∷ a_bin held ∷ []) bytes → SpellsItems (an_integer (pos 1) ∷ a_text (id_text id) ∷ []) bytes → ⊥
no_deletion bytes held id s t = let first = first_items (an_integer (pos 0)) (an_integer (pos 1)) (a_bin held ∷ []) (a_text (id_text id) ∷ []) bytes bytes [] [] s t refl in cc

later_none : (version : Version) (payload : Payload) → codes "v1" ≡ version_text version → codes "history" ≡ tag_of payload → SpellsPayload payload version ls_payload → ⊥
later_none version_0 payload is tag s = versions_differ (sym is)
later_none version_1 (HistoryCreate h) is tag s = bins_differ ls_payload ls_ended h ls_items s
later_none version_1 (HistoryDelete id) is tag s = no_deletion ls_payload ls_items.held id ls_items.bin s
later_none version_1 _ is tag s = cc

author_none : (version : Version) (payload : Payload) → codes "v0" ≡ version_text version → codes "history" ≡ tag_of payload → SpellsPayload payload version authored_payload → ⊥
author_none version_1 payload is tag s = versions_differ is
author_none version_0 (HistoryCreate h) is tag s = bins_differ authored_payload h authored_ls s authored_items
author_none version_0 (HistoryDelete id) is tag s = no_deletion authored_payload authored_items.held id authored_items.bin s
author_none version_0 _ is tag s = cc

pub creation : WorkedCreation
creation = record {
  bytes = refl;
  written = ls_written;
  spelled = ls_spelled;
  byte_behind = nothing_behind;
  other_version = λ payload other. other_version other.written_in other.version_is;
  other_tag = λ payload other. no_kv other.written_in payload other.version_is (sym other.tag_is) other.spelled;
  later_version = λ payload other. later_none other.written_in payload other.version_is other.tag_is other.spelled;
  authored_bytes = refl;
  authored_version = refl;
  authored_written = authored_is;
  authored_spelled = authored_spells;
  author_unread = λ payload other. author_none other.written_in payload other.version_is other.tag_is other.spelled;
}

-- ---- items

pub items : WorkedItems
unfolding is_utf8 chars lib.Utf8.encode
items = record {
  minus_one = refl;
  duration = refl;
  wide_duration = (int_64, record { sfits = omega arith }, refl);
  empty_bin = record { form = bin_8; fits = omega arith; are = refl };
  wide_bin = record { form = bin_32; fits = omega arith; are = refl };
  wide_text = record { form = str_8; fits = omega arith; utf8 = IsUtf8-from_is_utf8 [] refl; are = refl };
  wide_array = (array_16, omega arith, refl);
  wide_held = record { form = bin_32; fits = omega arith; are = refl };
  most_of_8 = λ held e. ap (λ (n : ℕ). bin_head (shortest_bin n) n ++ held) e;
  least_of_16 = λ held e. ap (λ (n : ℕ). bin_head (shortest_bin n) n ++ held) e;
  most_of_16 = λ held e. ap (λ (n : ℕ). bin_head (shortest_bin n) n ++ held) e;
  least_of_32 = λ held e. ap (λ (n : ℕ). bin_head (shortest_bin n) n ++ held) e;
}

-- ---- the other payloads

n_fits : TextFits (codes "n")
unfolding is_utf8 chars lib.Utf8.encode
n_fits = text_fits (codes "n") refl (omega arith)

k_fits : TextFits (codes "k")
unfolding is_utf8 chars lib.Utf8.encode
k_fits = text_fits (codes "k") refl (omega arith)

v_fits : TextFits (codes "v")
unfolding is_utf8 chars lib.Utf8.encode
v_fits = text_fits (codes "v") refl (omega arith)

no_key_items : SpellsPayload (KvDelete (codes "n") (codes "k")) version_1 (0xcc ∷ 0x01 ∷ 0x92 ∷ 0xa1 ∷ 0x6e ∷ 0xa1 ∷ 0x6b ∷ [])
no_key_items = payload_spelled (KvDelete (codes "n") (codes "k")) tt (n_fits, k_fits)

no_key_spells : PayloadOf (codes "kv") (codes "v1") (0xcc ∷ 0x01 ∷ 0x92 ∷ 0xa1 ∷ 0x6e ∷ 0xa1 ∷ 0x6b ∷ []) (KvDelete (codes "n") (codes "k"))
no_key_spells = written_spelled (KvDelete (codes "n") (codes "k")) tt (n_fits, k_fits)

-- a pair that is set begins with an array in version v0
no_key_none : (version : Version) (payload : Payload) → codes "v0" ≡ version_text version → codes "kv" ≡ tag_of payload → SpellsPayload payload version (0xcc ∷ 0x01 ∷ 0x92 ∷ 0xa1 ∷ 0x6e ∷ 0xa1 ∷ 0x6b ∷ []) → ⊥
no_key_none version_1 payload is tag s = versions_differ is
no_key_none version_0 (KvSet namespace key value) is tag s =
    let bytes : List ℕ = 0xcc ∷ 0x01 ∷ 0x92 ∷ 0xa1 ∷ 0x6e ∷ 0xa1 ∷ 0x6b ∷ [] in
    let first = first_items (an_integer (pos 1)) (an_array 3) (an_array 2 ∷ a_text (codes "n") ∷ a_text (codes "k") ∷ []) (a_text namespace ∷ a_text key ∷ a_text value ∷ []) bytes bytes [] [] no_key_items s refl in
    cc
no_key_none version_0 (KvDelete namespace key) is tag s = s
no_key_none version_0 _ is tag s = cc

later_key_spells : PayloadOf (codes "kv") (codes "v1") (0xcc ∷ 0x00 ∷ 0x93 ∷ 0xa1 ∷ 0x6e ∷ 0xa1 ∷ 0x6b ∷ 0xa1 ∷ 0x76 ∷ []) (KvSet (codes "n") (codes "k") (codes "v"))
later_key_spells = record { tag_is = refl; written_in = version_1; version_is = refl; fits = tt; spelled = key_in_version_1 (codes "n") (codes "k") (codes "v") n_fits k_fits v_fits }

deleted_spells : (version : Version) → PayloadOf (codes "history") (version_text version) (written_payload (HistoryDelete ls_ended.id)) (HistoryDelete ls_ended.id)
deleted_spells version = let fits : ls_ended.id < 2 ^ 128 = omega arith in record { tag_is = refl; written_in = version; version_is = refl; fits = fits; spelled = (written_spelled (HistoryDelete ls_ended.id) fits tt).spelled }

no_later_alias : (version : Version) (bytes : List ℕ) (payload : Payload) → codes "v1" ≡ version_text version → codes "dotfiles-shell-alias" ≡ tag_of payload → SpellsPayload payload version bytes → ⊥
no_later_alias version_0 bytes payload is tag s = versions_differ (sym is)
no_later_alias version_1 bytes (AliasSet name value) is tag s = s
no_later_alias version_1 bytes (AliasDelete name) is tag s = s
no_later_alias version_1 bytes _ is tag s = cc

pub payloads : WorkedPayloads
unfolding id_text
payloads = record {
  deleted = refl;
  key = refl;
  alias = refl;
  no_alias = refl;
  no_key = refl;
  no_key_spelled = no_key_spells;
  no_key_unread = λ payload other. no_key_none other.written_in payload other.version_is other.tag_is other.spelled;
  later_key = later_key_spells;
  deleted_in_both = (deleted_spells version_0, deleted_spells version_1);
  alias_unread = λ bytes payload other. no_later_alias other.written_in bytes payload other.version_is other.tag_is other.spelled;
  wide_times = refl;
  deletion_tag = refl;
  key_tag = refl;
  no_key_tag = refl;
  alias_tags = (refl, refl);
}

-- ---- ranges

pub ranges : WorkedRanges
ranges = record {
  greatest_fits = record { id = omega arith; timestamp = omega arith; duration = record { sfits = omega arith }; exit = record { sfits = omega arith }; deleted_at = omega arith };
  undeleted_fits = ls_fits;
  id_above = λ h e fits. let low = fits.id in omega arith;
  timestamp_above = λ h e fits. let low = fits.timestamp in omega arith;
  duration_above = λ h e fits. let low = fits.duration in signed_above (subst (λ (z : ℤ). FitsSigned w64 z) e low);
  exit_below = λ h e fits. let low = fits.exit in signed_below (subst (λ (z : ℤ). FitsSigned w64 z) e low);
  deleted_above = λ h e fits. let low : 0x10000000000000000 < 2 ^ 64 = subst (λ (time : Option ℕ). TimeFits time) e fits.deleted_at in omega arith;
  deletion_fits = omega arith;
  deletion_above = λ fits. let low : 0x100000000000000000000000000000000 < 2 ^ 128 = fits in omega arith;
  key_fits = λ namespace key value. tt;
  no_key_fits = λ namespace key. tt;
  alias_fits = λ name value. tt;
  no_alias_fits = λ name. tt;
  text_at_most = λ text utf8 e. record { utf8 = utf8; short = omega arith };
  text_above = λ text e fits. let low = fits.short in omega arith;
  no_text = λ text other fits. other fits.utf8;
  of_key = λ text fits. (fits, fits, fits);
  of_no_key = λ text fits. (fits, fits);
  of_alias = λ text fits. ((fits, fits), fits);
  of_deletion = λ id. tt;
  key_above = λ namespace key value other fits. other fits.1;
  no_key_above = λ namespace key other fits. other fits.1;
  alias_above = λ name value other fits. other fits.0;
  no_alias_above = λ name other fits. other fits;
  bin_at_most = λ h command cwd session hostname none e. record { command = command; cwd = cwd; session = session; hostname = hostname; author = subst (λ (a : Option (List ℕ)). AuthorFits a) (sym none) tt; held = omega arith };
  bin_above = λ h e fits. let low = fits.held in omega arith;
  session_above = λ h other fits. other fits.session;
  author_above = λ h author is other fits. other (subst (λ (a : Option (List ℕ)). AuthorFits a) is fits.author);
}
  where
    signed_above : FitsSigned w64 (pos 0x8000000000000000) → ⊥
    signed_above fits = let low = fits.sfits in omega arith

    signed_below : FitsSigned w64 (negsuc 0x8000000000000000) → ⊥
    signed_below fits = let low = fits.sfits in omega arith
