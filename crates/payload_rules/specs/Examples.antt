-- Worked examples: the bytes of one command that ended, without an author and with one, and items in shorter and wider
-- spellings.
use Rattle.std.specs.Prelude.{◌≡◌, ℕ, pos, negsuc, List, [], ◌∷◌, ◌++◌, length, codes, Some, None}
use Rattle.std.specs.Str.{IsUtf8}
use Rattle.definitions.specs.Journal.{HistoryRecord}
use Rattle.definitions.specs.Spelling.{SpellsInteger, TextFits, written_integer}
use Rattle.definitions.specs.Examples.{ls_ended, authored_ls}
use Rattle.payload_rules.specs.Items.{SpellsBin, a_text, an_array, a_bin, SpellsItem, written_bin}
use Rattle.payload_rules.specs.Payloads.{Payload, HistoryCreate, HistoryDelete, KvSet, KvDelete, AliasSet, AliasDelete, version_1, payload_version, tag_of, PayloadFits, PayloadOf, written_history, written_payload, TextsFit}

abbrev pub ls_payload : List ℕ
ls_payload =
    0xcc ∷ 0x00 ∷ 0xc4 ∷ 0x40 ∷ 0xcd ∷ 0x00 ∷ 0x00 ∷ 0x99 ∷ 0xd9 ∷ 0x20 ∷ (codes "018bcfe5680070018203040506070809"
    ++ (0xcf ∷ 0x17 ∷ 0x97 ∷ 0x9c ∷ 0xfe ∷ 0x36 ∷ 0x2a ∷ 0x00 ∷ 0x00 ∷ 0xcd ∷ 0x03 ∷ 0xe8 ∷ 0x00 ∷ 0xa2 ∷ 0x6c ∷ 0x73 ∷ 0xa1 ∷ 0x2f ∷ 0xa2 ∷ 0x73 ∷ 0x31 ∷ 0xa3 ∷ 0x68 ∷ 0x3a ∷ 0x75 ∷ 0xc0 ∷ []))

abbrev pub authored_payload : List ℕ
authored_payload =
    0xcc ∷ 0x00 ∷ 0xc4 ∷ 0x43 ∷ 0xcd ∷ 0x00 ∷ 0x01 ∷ 0x9a ∷ 0xd9 ∷ 0x20 ∷ (codes "018bcfe5680070018203040506070809"
    ++ (0xcf ∷ 0x17 ∷ 0x97 ∷ 0x9c ∷ 0xfe ∷ 0x36 ∷ 0x2a ∷ 0x00 ∷ 0x00 ∷ 0xcd ∷ 0x03 ∷ 0xe8 ∷ 0x00 ∷ 0xa2 ∷ 0x6c ∷ 0x73 ∷ 0xa1 ∷ 0x2f ∷ 0xa2 ∷ 0x73 ∷ 0x31 ∷ 0xa3 ∷ 0x68 ∷ 0x3a ∷ 0x75 ∷ 0xc0 ∷ 0xa2 ∷ 0x6d ∷ 0x65 ∷ []))

pub record WorkedCreation : Type 0 where
  pub bytes : length ls_payload ≡ 68
  pub written : written_payload (HistoryCreate ls_ended) ≡ ls_payload
  pub spelled : PayloadOf (codes "history") (codes "v0") ls_payload (HistoryCreate ls_ended)
  -- with a byte behind, in another version, and with the tag of another kind there is none
  pub byte_behind : (byte : ℕ) (payload : Payload) → PayloadOf (codes "history") (codes "v0") (ls_payload ++ byte ∷ []) payload → ⊥
  pub other_version : (payload : Payload) → PayloadOf (codes "history") (codes "v9") ls_payload payload → ⊥
  pub other_tag : (payload : Payload) → PayloadOf (codes "kv") (codes "v0") ls_payload payload → ⊥
  -- without an author it is nothing in version v1, which has an array of ten
  pub later_version : (payload : Payload) → PayloadOf (codes "history") (codes "v1") ls_payload payload → ⊥
  -- with the author "me" it stands in version v1, in 71 bytes, and is nothing in v0
  pub authored_bytes : length authored_payload ≡ 71
  pub authored_version : payload_version (HistoryCreate authored_ls) ≡ version_1
  pub authored_written : written_payload (HistoryCreate authored_ls) ≡ authored_payload
  pub authored_spelled : PayloadOf (codes "history") (codes "v1") authored_payload (HistoryCreate authored_ls)
  pub author_unread : (payload : Payload) → PayloadOf (codes "history") (codes "v0") authored_payload payload → ⊥

pub record WorkedItems : Type 0 where
  -- -1 and 49,206,000 as they are written, and the latter in eight bytes, which spells it as well
  pub minus_one : written_integer (negsuc 0) ≡ 0xff ∷ []
  pub duration : written_integer (pos 49206000) ≡ 0xce ∷ 0x02 ∷ 0xee ∷ 0xd2 ∷ 0xf0 ∷ []
  pub wide_duration : SpellsInteger (pos 49206000) (0xd3 ∷ 0x00 ∷ 0x00 ∷ 0x00 ∷ 0x00 ∷ 0x02 ∷ 0xee ∷ 0xd2 ∷ 0xf0 ∷ [])
  -- the empty bin, in one byte of length and in four
  pub empty_bin : SpellsBin [] (0xc4 ∷ 0x00 ∷ [])
  pub wide_bin : SpellsBin [] (0xc6 ∷ 0x00 ∷ 0x00 ∷ 0x00 ∷ 0x00 ∷ [])
  -- as items a text, an array and a bin stand in wider spellings too
  pub wide_text : SpellsItem (a_text []) (0xd9 ∷ 0x00 ∷ [])
  pub wide_array : SpellsItem (an_array 3) (0xdc ∷ 0x00 ∷ 0x03 ∷ [])
  pub wide_held : SpellsItem (a_bin []) (0xc6 ∷ 0x00 ∷ 0x00 ∷ 0x00 ∷ 0x00 ∷ [])
  -- the most bytes whose length is written in one byte, and in two, and one more
  pub most_of_8 : (held : List ℕ) → length held ≡ 255 → written_bin held ≡ 0xc4 ∷ 0xff ∷ held
  pub least_of_16 : (held : List ℕ) → length held ≡ 256 → written_bin held ≡ 0xc5 ∷ 0x01 ∷ 0x00 ∷ held
  pub most_of_16 : (held : List ℕ) → length held ≡ 65535 → written_bin held ≡ 0xc5 ∷ 0xff ∷ 0xff ∷ held
  pub least_of_32 : (held : List ℕ) → length held ≡ 65536 → written_bin held ≡ 0xc6 ∷ 0x00 ∷ 0x01 ∷ 0x00 ∷ 0x00 ∷ held

-- a command at time 0 that was deleted at time 1, with the least id, a duration and an exit status of -1, and empty texts
abbrev pub least : HistoryRecord
least = record { id = 0; timestamp = 0; duration = negsuc 0; exit = negsuc 0; command = []; cwd = []; session = []; hostname = []; deleted_at = Some 1; author = None }

pub record WorkedPayloads : Type 0 where
  -- the deletion of that command; a key's value; an alias, and its deletion
  pub deleted : written_payload (HistoryDelete ls_ended.id) ≡ 0xcc ∷ 0x01 ∷ 0xd9 ∷ 0x20 ∷ codes "018bcfe5680070018203040506070809"
  pub key : written_payload (KvSet (codes "n") (codes "k") (codes "v")) ≡ 0x93 ∷ 0xa1 ∷ 0x6e ∷ 0xa1 ∷ 0x6b ∷ 0xa1 ∷ 0x76 ∷ []
  pub alias : written_payload (AliasSet (codes "g") (codes "git")) ≡ 0xcc ∷ 0x00 ∷ 0x92 ∷ 0xa1 ∷ 0x67 ∷ 0xa3 ∷ 0x67 ∷ 0x69 ∷ 0x74 ∷ []
  pub no_alias : written_payload (AliasDelete (codes "g")) ≡ 0xcc ∷ 0x01 ∷ 0x91 ∷ 0xa1 ∷ 0x67 ∷ []
  -- a pair that is deleted, which version v1 alone has, and a value in the form of v1, which is read and never written
  pub no_key : written_payload (KvDelete (codes "n") (codes "k")) ≡ 0xcc ∷ 0x01 ∷ 0x92 ∷ 0xa1 ∷ 0x6e ∷ 0xa1 ∷ 0x6b ∷ []
  pub no_key_spelled : PayloadOf (codes "kv") (codes "v1") (0xcc ∷ 0x01 ∷ 0x92 ∷ 0xa1 ∷ 0x6e ∷ 0xa1 ∷ 0x6b ∷ []) (KvDelete (codes "n") (codes "k"))
  pub no_key_unread : (payload : Payload) → PayloadOf (codes "kv") (codes "v0") (0xcc ∷ 0x01 ∷ 0x92 ∷ 0xa1 ∷ 0x6e ∷ 0xa1 ∷ 0x6b ∷ []) payload → ⊥
  pub later_key : PayloadOf (codes "kv") (codes "v1") (0xcc ∷ 0x00 ∷ 0x93 ∷ 0xa1 ∷ 0x6e ∷ 0xa1 ∷ 0x6b ∷ 0xa1 ∷ 0x76 ∷ []) (KvSet (codes "n") (codes "k") (codes "v"))
  -- a deleted command is read alike in both versions, and an alias in v0 alone
  pub deleted_in_both : PayloadOf (codes "history") (codes "v0") (written_payload (HistoryDelete ls_ended.id)) (HistoryDelete ls_ended.id) × PayloadOf (codes "history") (codes "v1") (written_payload (HistoryDelete ls_ended.id)) (HistoryDelete ls_ended.id)
  pub alias_unread : (bytes : List ℕ) (payload : Payload) → PayloadOf (codes "dotfiles-shell-alias") (codes "v1") bytes payload → ⊥
  -- times stand in eight bytes, whatever they are
  pub wide_times : written_payload (HistoryCreate least) ≡ 0xcc ∷ 0x00 ∷ 0xc4 ∷ 0x3e ∷ 0xcd ∷ 0x00 ∷ 0x00 ∷ 0x99 ∷ 0xd9 ∷ 0x20 ∷ (codes "00000000000000000000000000000000" ++ (0xcf ∷ 0 ∷ 0 ∷ 0 ∷ 0 ∷ 0 ∷ 0 ∷ 0 ∷ 0 ∷ 0xff ∷ 0xff ∷ 0xa0 ∷ 0xa0 ∷ 0xa0 ∷ 0xa0 ∷ 0xcf ∷ 0 ∷ 0 ∷ 0 ∷ 0 ∷ 0 ∷ 0 ∷ 0 ∷ 1 ∷ []))
  -- the tag of each
  pub deletion_tag : tag_of (HistoryDelete ls_ended.id) ≡ codes "history"
  pub key_tag : tag_of (KvSet (codes "n") (codes "k") (codes "v")) ≡ codes "kv"
  pub no_key_tag : tag_of (KvDelete (codes "n") (codes "k")) ≡ codes "kv"
  pub alias_tags : (tag_of (AliasSet (codes "g") (codes "git")) ≡ codes "dotfiles-shell-alias") × (tag_of (AliasDelete (codes "g")) ≡ codes "dotfiles-shell-alias")

-- a command whose id, times and duration are the greatest, and whose exit status is the least
abbrev pub greatest : HistoryRecord
greatest = record { id = 0xffffffffffffffffffffffffffffffff; timestamp = 0xffffffffffffffff; duration = pos 0x7fffffffffffffff; exit = negsuc 0x7fffffffffffffff; command = []; cwd = []; session = []; hostname = []; deleted_at = Some 0xffffffffffffffff; author = None }

-- numbers and texts at their limits, and one above
pub record WorkedRanges : Type 0 where
  pub greatest_fits : PayloadFits (HistoryCreate greatest)
  pub undeleted_fits : PayloadFits (HistoryCreate ls_ended)
  pub id_above : (h : HistoryRecord) → h.id ≡ 0x100000000000000000000000000000000 → PayloadFits (HistoryCreate h) → ⊥
  pub timestamp_above : (h : HistoryRecord) → h.timestamp ≡ 0x10000000000000000 → PayloadFits (HistoryCreate h) → ⊥
  pub duration_above : (h : HistoryRecord) → h.duration ≡ pos 0x8000000000000000 → PayloadFits (HistoryCreate h) → ⊥
  pub exit_below : (h : HistoryRecord) → h.exit ≡ negsuc 0x8000000000000000 → PayloadFits (HistoryCreate h) → ⊥
  pub deleted_above : (h : HistoryRecord) → h.deleted_at ≡ Some 0x10000000000000000 → PayloadFits (HistoryCreate h) → ⊥
  pub deletion_fits : PayloadFits (HistoryDelete 0xffffffffffffffffffffffffffffffff)
  pub deletion_above : PayloadFits (HistoryDelete 0x100000000000000000000000000000000) → ⊥
  -- keys and aliases have no numbers
  pub key_fits : (namespace key value : List ℕ) → PayloadFits (KvSet namespace key value)
  pub no_key_fits : (namespace key : List ℕ) → PayloadFits (KvDelete namespace key)
  pub alias_fits : (name value : List ℕ) → PayloadFits (AliasSet name value)
  pub no_alias_fits : (name : List ℕ) → PayloadFits (AliasDelete name)
  -- a text of 4,294,967,295 bytes can be written wherever one stands, and one that is longer or no UTF-8 nowhere
  pub text_at_most : (text : List ℕ) → IsUtf8 text → length text ≡ 0xffffffff → TextFits text
  pub text_above : (text : List ℕ) → length text ≡ 0x100000000 → TextFits text → ⊥
  pub no_text : (text : List ℕ) → (IsUtf8 text → ⊥) → TextFits text → ⊥
  pub of_key : (text : List ℕ) → TextFits text → TextsFit (KvSet text text text)
  pub of_no_key : (text : List ℕ) → TextFits text → TextsFit (KvDelete text text)
  pub of_alias : (text : List ℕ) → TextFits text → TextsFit (AliasSet text text) × TextsFit (AliasDelete text)
  pub of_deletion : (id : ℕ) → TextsFit (HistoryDelete id)
  pub key_above : (namespace key value : List ℕ) → (TextFits key → ⊥) → TextsFit (KvSet namespace key value) → ⊥
  pub no_key_above : (namespace key : List ℕ) → (TextFits key → ⊥) → TextsFit (KvDelete namespace key) → ⊥
  pub alias_above : (name value : List ℕ) → (TextFits name → ⊥) → TextsFit (AliasSet name value) → ⊥
  pub no_alias_above : (name : List ℕ) → (TextFits name → ⊥) → TextsFit (AliasDelete name) → ⊥
  -- and so it is with what the bin of a command holds
  pub bin_at_most : (h : HistoryRecord) → TextFits h.command → TextFits h.cwd → TextFits h.session → TextFits h.hostname → h.author ≡ None → length (written_history h) ≡ 0xffffffff → TextsFit (HistoryCreate h)
  pub bin_above : (h : HistoryRecord) → length (written_history h) ≡ 0x100000000 → TextsFit (HistoryCreate h) → ⊥
  pub session_above : (h : HistoryRecord) → (TextFits h.session → ⊥) → TextsFit (HistoryCreate h) → ⊥
  pub author_above : (h : HistoryRecord) (author : List ℕ) → h.author ≡ Some author → (TextFits author → ⊥) → TextsFit (HistoryCreate h) → ⊥
