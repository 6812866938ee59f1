-- Reading items and payloads from left to right. Nothing rests on these words alone: the laws join them to what `Items`
-- and `Payloads` say. What a record holds can be computed by them.
use Rattle.std.specs.Prelude.{ℕ, zero, suc, ◌^◌, pos, List, [], ◌∷◌, length, take, drop, Option, Some, None, Bool, ◌&&◌, bytes_eq, nat_lt, ◌==◌, if◌then◌else◌}
use Rattle.std.specs.Int.{w8, w16, w32}
use Rattle.std.specs.Option.{option_or}
use Rattle.definitions.specs.Journal.{HistoryRecord}
use Rattle.definitions.specs.Reading.{◌>>=◌, wide_at, integer_at, text_at, array_at, is_id_text, id_value, fits_64}
use Rattle.payload_rules.specs.Items.{Item, an_integer, a_text, an_array, a_bin, a_nil}
use Rattle.payload_rules.specs.Payloads.{Payload, HistoryCreate, HistoryDelete, KvSet, KvDelete, AliasSet, AliasDelete, history_tag, kv_tag, alias_tag, Version, version_0, version_1, version_text}

-- the length in a bin's head, and the bytes behind the head
unfoldable pub bin_head_at : List ℕ → Option (ℕ × List ℕ)
bin_head_at [] = None
bin_head_at (b ∷ rest) = if b == 0xc4 then wide_at w8 rest else (if b == 0xc5 then wide_at w16 rest else (if b == 0xc6 then wide_at w32 rest else None))

-- what the bin at the front of the bytes holds, and the bytes behind it
unfoldable pub bin_at : List ℕ → Option (List ℕ × List ℕ)
bin_at bytes = do
  n ← bin_head_at bytes
  if nat_lt (length n.1) n.0 then None else Some (take n.0 n.1, drop n.0 n.1)

-- ---- items

-- the bytes behind nil at their front
abbrev pub nil_at : List ℕ → Option (List ℕ)
nil_at [] = None
nil_at (b ∷ rest) = if b == 0xc0 then Some rest else None

abbrev pub item_of : {A : Type 0} → (A → Item) → Option (A × List ℕ) → Option (Item × List ℕ)
item_of kind None = None
item_of kind (Some read) = Some (kind read.0, read.1)

abbrev pub nil_of : Option (List ℕ) → Option (Item × List ℕ)
nil_of None = None
nil_of (Some rest) = Some (a_nil, rest)

-- the item at the front of the bytes, of whichever kind
unfoldable pub any_item_at : List ℕ → Option (Item × List ℕ)
any_item_at bytes =
    option_or (item_of an_integer (integer_at bytes)) (option_or (item_of a_text (text_at bytes)) (option_or (item_of an_array (array_at bytes)) (option_or (item_of a_bin (bin_at bytes)) (nil_of (nil_at bytes)))))

-- the items that the bytes are, to the last one, where there are at most so many
unfoldable pub items_at : ℕ → List ℕ → Option (List Item)
items_at zero bytes = if length bytes == 0 then Some [] else None
items_at (suc most) bytes = if length bytes == 0 then Some [] else (any_item_at bytes >>= λ first. items_at most first.1 >>= λ more. Some (first.0 ∷ more))

-- ---- payloads

-- the most items that a payload has, and that the bin of a command holds
abbrev pub most_items : ℕ
most_items = 12

-- a time, or none
abbrev pub time_in : Item → Option (Option ℕ)
time_in a_nil = Some None
time_in (an_integer (pos time)) = if nat_lt time (2 ^ 64) then Some (Some time) else None
time_in _ = None

-- an author, or none
abbrev pub author_in : Item → Option (Option (List ℕ))
author_in a_nil = Some None
author_in (a_text author) = Some (Some author)
author_in _ = None

-- the numbers of a command are in range
abbrev pub told_fits : List ℕ → ℕ → Bool → Bool
told_fits id timestamp signed = is_id_text id && (nat_lt timestamp (2 ^ 64) && signed)

-- what is told of a command, without an author, and the items behind
unfoldable pub told_in : List Item → Option (HistoryRecord × List Item)
told_in (a_text id ∷ an_integer (pos timestamp) ∷ an_integer duration ∷ an_integer exit ∷ a_text command ∷ a_text cwd ∷ a_text session ∷ a_text hostname ∷ deleted ∷ behind) = do
  deleted_at ← time_in deleted
  if told_fits id timestamp (fits_64 duration && fits_64 exit) then Some (record { id = id_value id; timestamp = timestamp; duration = duration; exit = exit; command = command; cwd = cwd; session = session; hostname = hostname; deleted_at = deleted_at; author = None }, behind) else None
told_in _ = None

-- nothing stands behind what version v0 tells
abbrev pub alone : HistoryRecord × List Item → Option HistoryRecord
alone (h, []) = Some h
alone _ = None

-- and in version v1 an author, or none
abbrev pub authored : HistoryRecord × List Item → Option HistoryRecord
authored (h, item ∷ []) = author_in item >>= λ author. Some (record h { author = author })
authored _ = None

unfoldable pub history_in : Version → List Item → Option HistoryRecord
history_in version_0 (an_integer (pos zero) ∷ an_array n ∷ told) = if n == 9 then told_in told >>= alone else None
history_in version_1 (an_integer (pos (suc zero)) ∷ an_array n ∷ told) = if n == 10 then told_in told >>= authored else None
history_in _ _ = None

-- the payload of these items under the tag of commands, of keys, and of aliases
unfoldable pub command_in : Version → List Item → Option Payload
command_in version (an_integer (pos zero) ∷ a_bin held ∷ []) = items_at most_items held >>= λ items. history_in version items >>= λ h. Some (HistoryCreate h)
command_in version (an_integer (pos (suc zero)) ∷ a_text id ∷ []) = if is_id_text id then Some (HistoryDelete (id_value id)) else None
command_in version _ = None

unfoldable pub key_in : Version → List Item → Option Payload
key_in version_0 (an_array n ∷ a_text namespace ∷ a_text key ∷ a_text value ∷ []) = if n == 3 then Some (KvSet namespace key value) else None
key_in version_1 (an_integer (pos zero) ∷ an_array n ∷ a_text namespace ∷ a_text key ∷ a_text value ∷ []) = if n == 3 then Some (KvSet namespace key value) else None
key_in version_1 (an_integer (pos (suc zero)) ∷ an_array n ∷ a_text namespace ∷ a_text key ∷ []) = if n == 2 then Some (KvDelete namespace key) else None
key_in _ _ = None

unfoldable pub alias_in : Version → List Item → Option Payload
alias_in version_0 (an_integer (pos zero) ∷ an_array n ∷ a_text name ∷ a_text value ∷ []) = if n == 2 then Some (AliasSet name value) else None
alias_in version_0 (an_integer (pos (suc zero)) ∷ an_array n ∷ a_text name ∷ []) = if n == 1 then Some (AliasDelete name) else None
alias_in _ _ = None

-- the version of this name
abbrev pub version_named : List ℕ → Option Version
version_named text = if bytes_eq text (version_text version_0) then Some version_0 else (if bytes_eq text (version_text version_1) then Some version_1 else None)

abbrev pub payload_in : List ℕ → Version → List Item → Option Payload
payload_in tag version items =
    if bytes_eq tag history_tag then command_in version items else (if bytes_eq tag kv_tag then key_in version items else (if bytes_eq tag alias_tag then alias_in version items else None))

-- the payload that the bytes of a record with this tag and version hold, if they hold one
unfoldable pub payload_at : (tag version bytes : List ℕ) → Option Payload
payload_at tag version bytes = version_named version >>= λ named. items_at most_items bytes >>= λ items. payload_in tag named items
