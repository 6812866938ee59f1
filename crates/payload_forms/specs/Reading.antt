-- Reading payloads from left to right, as code does: nothing rests on these words alone. The laws of `proofs/` join them
-- to what spells a payload.
use Rattle.std.specs.Prelude.{ℕ, ℤ, List, length, Option, Some, None, Bool, ◌==◌, bytes_eq, if◌then◌else◌}
use Rattle.definitions.specs.Journal.{HistoryRecord}
use Rattle.definitions.specs.Reading.{◌>>=◌, integer_at, text_at, array_at, is_id_text, id_value, fits_64}
use Rattle.msgpack_fields.specs.Reading.{number_at, nil_or_at}
use Rattle.payload_rules.specs.Payloads.{Payload, HistoryCreate, HistoryDelete, KvSet, KvDelete, AliasSet, AliasDelete, history_tag, kv_tag, alias_tag, Version, version_0, version_1, version_text}
use Rattle.payload_rules.specs.Reading.{bin_at}

-- ---- items

-- one thing behind another
abbrev pub both_at : {A B : Type 0} → (List ℕ → Option (A × List ℕ)) → (List ℕ → Option (B × List ℕ)) → List ℕ → Option ((A × B) × List ℕ)
both_at first second bytes = first bytes >>= λ x. second x.1 >>= λ y. Some ((x.0, y.0), y.1)

-- what passes the test
abbrev pub passed : {A : Type 0} → (A → Bool) → Option (A × List ℕ) → Option (A × List ℕ)
passed passes None = None
passed passes (Some x) = if passes x.0 then Some x else None

-- what the bytes are to the last one
abbrev pub whole : {A : Type 0} → Option (A × List ℕ) → Option A
whole None = None
whole (Some x) = if length x.1 == 0 then Some x.0 else None

-- this number, and the header of an array of so many items
unfoldable pub this_number_at : ℕ → List ℕ → Option (ℕ × List ℕ)
this_number_at k bytes = passed (λ n. n == k) (number_at bytes)

unfoldable pub this_array_at : ℕ → List ℕ → Option (ℕ × List ℕ)
this_array_at k bytes = passed (λ n. n == k) (array_at bytes)

-- an integer of 64 bits with a sign
unfoldable pub signed_at : List ℕ → Option (ℤ × List ℕ)
signed_at bytes = passed fits_64 (integer_at bytes)

abbrev pub valued : Option (List ℕ × List ℕ) → Option (ℕ × List ℕ)
valued None = None
valued (Some x) = Some (id_value x.0, x.1)

-- the id of a command, in its digits
unfoldable pub id_at : List ℕ → Option (ℕ × List ℕ)
id_at bytes = valued (passed is_id_text (text_at bytes))

-- ---- commands that ended

-- id, timestamp, duration and exit status
abbrev pub Numbers : Type 0
Numbers = ℕ × (ℕ × (ℤ × ℤ))

unfoldable pub numbers_at : List ℕ → Option (Numbers × List ℕ)
numbers_at bytes = both_at id_at (both_at number_at (both_at signed_at signed_at)) bytes

-- the author, or none; version v0 has no place for one
unfoldable pub author_at : Version → List ℕ → Option (Option (List ℕ) × List ℕ)
author_at version_0 bytes = Some (None, bytes)
author_at version_1 bytes = nil_or_at text_at bytes

-- the number of the version, and of the items that its array has
abbrev pub layout_number : Version → ℕ
layout_number version_0 = 0
layout_number version_1 = 1

abbrev pub layout_items : Version → ℕ
layout_items version_0 = 9
layout_items version_1 = 10

-- command, working directory, session, host name, the time of a deletion, and the author
abbrev pub Texts : Type 0
Texts = List ℕ × (List ℕ × (List ℕ × (List ℕ × (Option ℕ × Option (List ℕ)))))

abbrev pub history_of : Numbers → Texts → HistoryRecord
history_of (id, (timestamp, (duration, exit))) (command, (cwd, (session, (hostname, (deleted_at, author))))) =
    record { id = id; timestamp = timestamp; duration = duration; exit = exit; command = command; cwd = cwd; session = session; hostname = hostname; deleted_at = deleted_at; author = author }

-- what stands behind the numbers of a command
unfoldable pub texts_at : Version → Numbers → List ℕ → Option HistoryRecord
texts_at version numbers bytes = whole (both_at text_at (both_at text_at (both_at text_at (both_at text_at (both_at (nil_or_at number_at) (author_at version))))) bytes) >>= λ texts. Some (history_of numbers texts)

-- what the bin of a command holds
unfoldable pub history_at : Version → List ℕ → Option HistoryRecord
history_at version held =
    this_number_at (layout_number version) held >>= λ layout. this_array_at (layout_items version) layout.1 >>= λ items. numbers_at items.1 >>= λ numbers. texts_at version numbers.0 numbers.1

-- ---- payloads

-- the bin of a command behind a 0, or the id of a deleted one behind a 1
unfoldable pub command_at : Version → List ℕ → Option Payload
command_at version bytes =
    number_at bytes >>= λ kind. if kind.0 == 0 then (whole (bin_at kind.1) >>= λ held. history_at version held >>= λ h. Some (HistoryCreate h)) else (if kind.0 == 1 then (whole (id_at kind.1) >>= λ id. Some (HistoryDelete id)) else None)

unfoldable pub key_value_at : List ℕ → Option Payload
key_value_at bytes = whole (both_at (this_array_at 3) (both_at text_at (both_at text_at text_at)) bytes) >>= λ x. Some (KvSet x.1.0 x.1.1.0 x.1.1.1)

unfoldable pub no_value_at : List ℕ → Option Payload
no_value_at bytes = whole (both_at (this_array_at 2) (both_at text_at text_at) bytes) >>= λ x. Some (KvDelete x.1.0 x.1.1)

-- in version v0 a value alone; in v1 a value behind a 0, or the end of one behind a 1
unfoldable pub key_at : Version → List ℕ → Option Payload
key_at version_0 bytes = key_value_at bytes
key_at version_1 bytes = number_at bytes >>= λ kind. if kind.0 == 0 then key_value_at kind.1 else (if kind.0 == 1 then no_value_at kind.1 else None)

unfoldable pub alias_value_at : List ℕ → Option Payload
alias_value_at bytes = whole (both_at (this_array_at 2) (both_at text_at text_at) bytes) >>= λ x. Some (AliasSet x.1.0 x.1.1)

unfoldable pub no_alias_at : List ℕ → Option Payload
no_alias_at bytes = whole (both_at (this_array_at 1) text_at bytes) >>= λ x. Some (AliasDelete x.1)

-- a value behind a 0, or the end of one behind a 1, in version v0 alone
unfoldable pub alias_at : Version → List ℕ → Option Payload
alias_at version_0 bytes = number_at bytes >>= λ kind. if kind.0 == 0 then alias_value_at kind.1 else (if kind.0 == 1 then no_alias_at kind.1 else None)
alias_at version_1 bytes = None

-- the payload of the tag
unfoldable pub form_at : Version → (tag bytes : List ℕ) → Option Payload
form_at version tag bytes =
    if bytes_eq tag history_tag then command_at version bytes else (if bytes_eq tag kv_tag then key_at version bytes else (if bytes_eq tag alias_tag then alias_at version bytes else None))

-- the version of this name
unfoldable pub version_called : List ℕ → Option Version
version_called name = if bytes_eq name (version_text version_0) then Some version_0 else (if bytes_eq name (version_text version_1) then Some version_1 else None)
