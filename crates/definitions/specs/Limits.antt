-- The limits on what is stored and on what is asked. Each number is the greatest that is still within its limit, and its unit stands beside it.
use Rattle.std.specs.Prelude.{ℕ}

-- ---- what is stored, and the calls that store it

-- bytes of a command, of a value under a key and of an alias's value
abbrev pub most_value_bytes : ℕ
most_value_bytes = 262144

-- bytes of a working directory, a session, a host name, an author, a namespace, a key and an alias's name
abbrev pub most_name_bytes : ℕ
most_name_bytes = 4096

-- bytes of a record's tag, and of its version
abbrev pub most_tag_bytes : ℕ
most_tag_bytes = 256

-- the weight of an entry beside its texts, in bytes
abbrev pub fixed_weight : ℕ
fixed_weight = 128

-- the weight of one record, and of the records of one page together, in bytes
abbrev pub most_page_weight : ℕ
most_page_weight = 4194304

-- records of one page
abbrev pub most_page_records : ℕ
most_page_records = 100

-- entries of one owner
abbrev pub most_entries : ℕ
most_entries = 4000000

-- the weights of one owner's entries together, in bytes
abbrev pub most_held_weight : ℕ
most_held_weight = 4294967296

-- places, host and tag, of one owner
abbrev pub most_places : ℕ
most_places = 4096

-- ---- what is asked, and what a reply shows

-- bytes of the payload of a frame that is read
abbrev pub most_payload_bytes : ℕ
most_payload_bytes = 1048576

-- bytes of all texts of a call together: what such a payload has room for
abbrev pub most_call_bytes : ℕ
most_call_bytes = 1048569

-- hits, keys or aliases that a call may ask for
abbrev pub most_listed : ℕ
most_listed = 1000

-- bytes of the texts of several items in one reply, together
abbrev pub most_shown_bytes : ℕ
most_shown_bytes = 4194304
