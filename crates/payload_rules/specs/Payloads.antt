-- What a record holds once it is opened, and which bytes spell it in which version. Ids have 128 bits, times are
-- nanoseconds since 1970. Version v0 has what other stores of shell history tell of a command, a key and an
-- alias. Version v1 is this project's own: it has the author of a command, and deletions of pairs; a reader of v0 alone
-- finds its records unread.
use Rattle.std.specs.Prelude.{◌≡◌, ℕ, ◌<◌, ◌^◌, pos, FitsSigned, List, [], ◌∷◌, ◌++◌, length, codes, Option, Some, None}
use Rattle.std.specs.Int.{w8, w16, w64}
use Rattle.definitions.specs.Spelling.{marked, TextFits, written_integer, written_text, written_array}
use Rattle.definitions.specs.Ids.{id_text}
use Rattle.definitions.specs.Journal.{HistoryRecord}
use Rattle.payload_rules.specs.Items.{Item, an_integer, a_text, an_array, a_bin, a_nil, SpellsItems, written_bin, written_nil}

pub data Payload : Type 0 where
  -- a command that ended, with its author where one was told
  HistoryCreate : HistoryRecord → Payload
  -- the command with this id is deleted
  HistoryDelete : (id : ℕ) → Payload
  -- the key of the namespace has this value
  KvSet : (namespace key value : List ℕ) → Payload
  -- the key of the namespace has no value
  KvDelete : (namespace key : List ℕ) → Payload
  -- the name stands for this value
  AliasSet : (name value : List ℕ) → Payload
  -- the name stands for nothing
  AliasDelete : (name : List ℕ) → Payload

-- ---- tags and versions

abbrev pub history_tag : List ℕ
history_tag = codes "history"

abbrev pub kv_tag : List ℕ
kv_tag = codes "kv"

abbrev pub alias_tag : List ℕ
alias_tag = codes "dotfiles-shell-alias"

pub data Version : Type 0 where
  version_0 : Version
  version_1 : Version

-- how a record names its version
abbrev pub version_text : Version → List ℕ
version_text version_0 = codes "v0"
version_text version_1 = codes "v1"

-- the tag of the records that hold such a payload
abbrev pub tag_of : Payload → List ℕ
tag_of (HistoryCreate h) = history_tag
tag_of (HistoryDelete id) = history_tag
tag_of (KvSet namespace key value) = kv_tag
tag_of (KvDelete namespace key) = kv_tag
tag_of (AliasSet name value) = alias_tag
tag_of (AliasDelete name) = alias_tag

abbrev pub author_version : Option (List ℕ) → Version
author_version None = version_0
author_version (Some author) = version_1

-- the version in which a payload is written: v1 where it has an author or deletes a pair, and else v0
abbrev pub payload_version : Payload → Version
payload_version (HistoryCreate h) = author_version h.author
payload_version (HistoryDelete id) = version_0
payload_version (KvSet namespace key value) = version_0
payload_version (KvDelete namespace key) = version_1
payload_version (AliasSet name value) = version_0
payload_version (AliasDelete name) = version_0

-- ---- ranges

-- a time of 64 bits, or none
abbrev pub TimeFits : Option ℕ → Type 0
TimeFits None = Unit {0}
TimeFits (Some time) = time < 2 ^ 64

-- an id of 128 bits, times of 64, and a duration and an exit status of 64 bits with a sign
pub record HistoryFits (h : HistoryRecord) : Type 0 where
  pub id : h.id < 2 ^ 128
  pub timestamp : h.timestamp < 2 ^ 64
  pub duration : FitsSigned w64 h.duration
  pub exit : FitsSigned w64 h.exit
  pub deleted_at : TimeFits h.deleted_at

abbrev pub PayloadFits : Payload → Type 0
PayloadFits (HistoryCreate h) = HistoryFits h
PayloadFits (HistoryDelete id) = id < 2 ^ 128
PayloadFits (KvSet namespace key value) = Unit {0}
PayloadFits (KvDelete namespace key) = Unit {0}
PayloadFits (AliasSet name value) = Unit {0}
PayloadFits (AliasDelete name) = Unit {0}

-- ---- items

-- nil, or the time
abbrev pub time_item : Option ℕ → Item
time_item None = a_nil
time_item (Some time) = an_integer (pos time)

-- nil, or the author
abbrev pub author_item : Option (List ℕ) → Item
author_item None = a_nil
author_item (Some author) = a_text author

-- what is told of a command, in either version
abbrev pub told_items : HistoryRecord → List Item
told_items h =
    a_text (id_text h.id) ∷ an_integer (pos h.timestamp) ∷ an_integer h.duration ∷ an_integer h.exit
    ∷ a_text h.command ∷ a_text h.cwd ∷ a_text h.session ∷ a_text h.hostname ∷ time_item h.deleted_at ∷ []

-- what the bin of a command holds: 0 and an array of nine, or 1 and an array of ten, with the author last
abbrev pub history_items : Version → HistoryRecord → List Item
history_items version_0 h = an_integer (pos 0) ∷ an_array 9 ∷ told_items h
history_items version_1 h = an_integer (pos 1) ∷ an_array 10 ∷ (told_items h ++ author_item h.author ∷ [])

-- version v0 has no place for an author
abbrev pub MayHaveAuthor : Version → Option (List ℕ) → Type 0
MayHaveAuthor version_0 author = author ≡ None
MayHaveAuthor version_1 author = Unit {0}

-- the bin of a command, behind a 0; what it holds is, to the last byte, spellings of the command's items as well
pub record SpellsCreation (version : Version) (h : HistoryRecord) (bytes : List ℕ) : Type 0 where
  pub author : MayHaveAuthor version h.author
  pub held : List ℕ
  pub items : SpellsItems (history_items version h) held
  pub bin : SpellsItems (an_integer (pos 0) ∷ a_bin held ∷ []) bytes

-- The bytes are, to the last one, spellings of the payload's items in this version. A deleted command is spelled alike in
-- both, and what has no line here is spelled in neither.
abbrev pub SpellsPayload : Payload → Version → List ℕ → Type 0
SpellsPayload (HistoryCreate h) version bytes = SpellsCreation version h bytes
SpellsPayload (HistoryDelete id) version bytes = SpellsItems (an_integer (pos 1) ∷ a_text (id_text id) ∷ []) bytes
SpellsPayload (KvSet namespace key value) version_0 bytes = SpellsItems (an_array 3 ∷ a_text namespace ∷ a_text key ∷ a_text value ∷ []) bytes
SpellsPayload (KvSet namespace key value) version_1 bytes = SpellsItems (an_integer (pos 0) ∷ an_array 3 ∷ a_text namespace ∷ a_text key ∷ a_text value ∷ []) bytes
SpellsPayload (KvDelete namespace key) version_1 bytes = SpellsItems (an_integer (pos 1) ∷ an_array 2 ∷ a_text namespace ∷ a_text key ∷ []) bytes
SpellsPayload (AliasSet name value) version_0 bytes = SpellsItems (an_integer (pos 0) ∷ an_array 2 ∷ a_text name ∷ a_text value ∷ []) bytes
SpellsPayload (AliasDelete name) version_0 bytes = SpellsItems (an_integer (pos 1) ∷ an_array 1 ∷ a_text name ∷ []) bytes
SpellsPayload _ _ bytes = ⊥

-- what the bytes of a record with this tag and version hold; what holds none is unread
pub record PayloadOf (tag version bytes : List ℕ) (payload : Payload) : Type 0 where
  pub tag_is : tag ≡ tag_of payload
  pub written_in : Version
  pub version_is : version ≡ version_text written_in
  pub fits : PayloadFits payload
  pub spelled : SpellsPayload payload written_in bytes

-- ---- what is written

-- a number in one, two and eight bytes, whatever its value
abbrev pub written_u8 : ℕ → List ℕ
written_u8 n = marked 0xcc w8 (pos n)

abbrev pub written_u16 : ℕ → List ℕ
written_u16 n = marked 0xcd w16 (pos n)

abbrev pub written_u64 : ℕ → List ℕ
written_u64 n = marked 0xcf w64 (pos n)

abbrev pub written_time : Option ℕ → List ℕ
written_time None = written_nil
written_time (Some time) = written_u64 time

-- what is told of a command, in either version
abbrev pub written_told : HistoryRecord → List ℕ
written_told h =
    written_text (id_text h.id) ++ (written_u64 h.timestamp ++ (written_integer h.duration ++ (written_integer h.exit
    ++ (written_text h.command ++ (written_text h.cwd ++ (written_text h.session ++ (written_text h.hostname ++ written_time h.deleted_at)))))))

abbrev pub written_with : HistoryRecord → Option (List ℕ) → List ℕ
written_with h None = written_u16 0 ++ (written_array 9 ++ written_told h)
written_with h (Some author) = written_u16 1 ++ (written_array 10 ++ (written_told h ++ written_text author))

abbrev pub written_history : HistoryRecord → List ℕ
written_history h = written_with h h.author

-- the bytes that are written for a payload, in the version that it is written in
abbrev pub written_payload : Payload → List ℕ
written_payload (HistoryCreate h) = written_u8 0 ++ written_bin (written_history h)
written_payload (HistoryDelete id) = written_u8 1 ++ written_text (id_text id)
written_payload (KvSet namespace key value) = written_array 3 ++ (written_text namespace ++ (written_text key ++ written_text value))
written_payload (KvDelete namespace key) = written_u8 1 ++ (written_array 2 ++ (written_text namespace ++ written_text key))
written_payload (AliasSet name value) = written_u8 0 ++ (written_array 2 ++ (written_text name ++ written_text value))
written_payload (AliasDelete name) = written_u8 1 ++ (written_array 1 ++ written_text name)

abbrev pub AuthorFits : Option (List ℕ) → Type 0
AuthorFits None = Unit {0}
AuthorFits (Some author) = TextFits author

pub record HistoryTextsFit (h : HistoryRecord) : Type 0 where
  pub command : TextFits h.command
  pub cwd : TextFits h.cwd
  pub session : TextFits h.session
  pub hostname : TextFits h.hostname
  pub author : AuthorFits h.author
  pub held : length (written_history h) < 2 ^ 32

-- the payload's texts, and what its bin holds, can be written
abbrev pub TextsFit : Payload → Type 0
TextsFit (HistoryCreate h) = HistoryTextsFit h
TextsFit (HistoryDelete id) = Unit {0}
TextsFit (KvSet namespace key value) = TextFits namespace × TextFits key × TextFits value
TextsFit (KvDelete namespace key) = TextFits namespace × TextFits key
TextsFit (AliasSet name value) = TextFits name × TextFits value
TextsFit (AliasDelete name) = TextFits name
