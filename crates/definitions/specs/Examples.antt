-- The definitions worked out, with values written out by hand from the rule in words. Texts are ASCII where nothing else
-- is said, and replies stand in bytes.
use Rattle.std.specs.Prelude.{◌≡◌, ℕ, pos, negsuc, List, [], ◌∷◌, ◌++◌, length, map, codes, replicate, true, false, Some, None}
use Rattle.definitions.specs.Spelling.{IsBytes, SpellsInteger, IsInteger, IsSpellable, written_integer, text_head, SpellsText, IsText, shortest_text, written_text, SpellsArray, IsArray, written_array}
use Rattle.definitions.specs.Frames.{frame, frames, named_length, NoWholeFrame, CutFrame, LongFrame, whole_stream, cut_stream, long_stream, StreamEnds, CutAfter}
use Rattle.definitions.specs.Ids.{made_id, id_text}
use Rattle.definitions.specs.Calls.{by_prefix, by_substring}
use Rattle.definitions.specs.Journal.{StartedRecord, HistoryRecord, HaveDistinctIds, finished}
use Rattle.definitions.specs.Search.{compared, matches_by, is_shown_before, hit_bytes, FitsPage, IsPage, IsAnswer}
use Rattle.definitions.specs.Replies.{began_bytes, stored_bytes, hits_bytes, unknown_id_bytes, random_fault_bytes, id_taken_bytes, no_memory_bytes, bad_request_bytes}
use Rattle.definitions.specs.Uses.{then_used, UsedFits}

-- ---- items

pub record WorkedIntegers : Type 0 where
  -- the first and the last number of each unsigned form: 0, 2^7, 2^8, 2^16, 2^32, and one below 2^64
  pub unsigned : map written_integer (pos 0 ∷ pos 127 ∷ pos 128 ∷ pos 255 ∷ pos 256 ∷ pos 65535 ∷ pos 65536 ∷ pos 4294967295 ∷ pos 4294967296 ∷ pos 18446744073709551615 ∷ [])
      ≡ (0x00 ∷ []) ∷ (0x7f ∷ []) ∷ (0xcc ∷ 0x80 ∷ []) ∷ (0xcc ∷ 0xff ∷ []) ∷ (0xcd ∷ 0x01 ∷ 0x00 ∷ []) ∷ (0xcd ∷ 0xff ∷ 0xff ∷ []) ∷ (0xce ∷ 0x00 ∷ 0x01 ∷ 0x00 ∷ 0x00 ∷ []) ∷ (0xce ∷ 0xff ∷ 0xff ∷ 0xff ∷ 0xff ∷ [])
      ∷ (0xcf ∷ 0x00 ∷ 0x00 ∷ 0x00 ∷ 0x01 ∷ 0x00 ∷ 0x00 ∷ 0x00 ∷ 0x00 ∷ []) ∷ (0xcf ∷ 0xff ∷ 0xff ∷ 0xff ∷ 0xff ∷ 0xff ∷ 0xff ∷ 0xff ∷ 0xff ∷ []) ∷ []
  -- the greatest and the least of each negative one: -1, -32, -33, -2^7, -2^7 - 1, -2^15, -2^15 - 1, -2^31, -2^31 - 1,
  -- -2^63
  pub negative : map written_integer (negsuc 0 ∷ negsuc 31 ∷ negsuc 32 ∷ negsuc 127 ∷ negsuc 128 ∷ negsuc 32767 ∷ negsuc 32768 ∷ negsuc 2147483647 ∷ negsuc 2147483648 ∷ negsuc 9223372036854775807 ∷ [])
      ≡ (0xff ∷ []) ∷ (0xe0 ∷ []) ∷ (0xd0 ∷ 0xdf ∷ []) ∷ (0xd0 ∷ 0x80 ∷ []) ∷ (0xd1 ∷ 0xff ∷ 0x7f ∷ []) ∷ (0xd1 ∷ 0x80 ∷ 0x00 ∷ []) ∷ (0xd2 ∷ 0xff ∷ 0xff ∷ 0x7f ∷ 0xff ∷ []) ∷ (0xd2 ∷ 0x80 ∷ 0x00 ∷ 0x00 ∷ 0x00 ∷ [])
      ∷ (0xd3 ∷ 0xff ∷ 0xff ∷ 0xff ∷ 0xff ∷ 0x7f ∷ 0xff ∷ 0xff ∷ 0xff ∷ []) ∷ (0xd3 ∷ 0x80 ∷ 0x00 ∷ 0x00 ∷ 0x00 ∷ 0x00 ∷ 0x00 ∷ 0x00 ∷ 0x00 ∷ []) ∷ []
  -- 49,206,000 in two widths, the first of which is written
  pub in_32_bits : SpellsInteger (pos 49206000) (0xce ∷ 0x02 ∷ 0xee ∷ 0xd2 ∷ 0xf0 ∷ [])
  pub in_64_bits : SpellsInteger (pos 49206000) (0xd3 ∷ 0x00 ∷ 0x00 ∷ 0x00 ∷ 0x00 ∷ 0x02 ∷ 0xee ∷ 0xd2 ∷ 0xf0 ∷ [])
  -- 5 in a fixint, in 16 bits, and in 8 bits with a sign; -5 in a fixint and in 32 bits
  pub five : SpellsInteger (pos 5) (0x05 ∷ [])
  pub five_in_16_bits : SpellsInteger (pos 5) (0xcd ∷ 0x00 ∷ 0x05 ∷ [])
  pub five_signed : SpellsInteger (pos 5) (0xd0 ∷ 0x05 ∷ [])
  pub minus_five : SpellsInteger (negsuc 4) (0xfb ∷ [])
  pub minus_five_in_32_bits : SpellsInteger (negsuc 4) (0xd2 ∷ 0xff ∷ 0xff ∷ 0xff ∷ 0xfb ∷ [])
  -- the greatest and the least number of a form
  pub most_of_fixint : SpellsInteger (pos 127) (0x7f ∷ [])
  pub least_of_fixint : SpellsInteger (negsuc 31) (0xe0 ∷ [])
  pub most_of_8_bits : SpellsInteger (pos 255) (0xcc ∷ 0xff ∷ [])
  pub least_of_64_bits : SpellsInteger (negsuc 9223372036854775807) (0xd3 ∷ 0x80 ∷ 0x00 ∷ 0x00 ∷ 0x00 ∷ 0x00 ∷ 0x00 ∷ 0x00 ∷ 0x00 ∷ [])
  pub least_of_16_bits : SpellsInteger (negsuc 32767) (0xd1 ∷ 0x80 ∷ 0x00 ∷ [])
  pub some_integer : IsInteger (0xd0 ∷ 0x05 ∷ [])
  -- one below 2^64, 2^64, -2^63, and one below that
  pub most : IsSpellable (pos 18446744073709551615)
  pub above : IsSpellable (pos 18446744073709551616) → ⊥
  pub least : IsSpellable (negsuc 9223372036854775807)
  pub below : IsSpellable (negsuc 9223372036854775808) → ⊥
  pub bytes : IsBytes (0 ∷ 255 ∷ [])
  pub no_bytes : IsBytes (0 ∷ 256 ∷ []) → ⊥

pub record WorkedTexts : Type 0 where
  -- the heads of texts of 0, 31, 32, 255, 256, 65,535 and 65,536 bytes, and of one less than 2^32
  pub heads : map (λ n. text_head (shortest_text n) n) (0 ∷ 31 ∷ 32 ∷ 255 ∷ 256 ∷ 65535 ∷ 65536 ∷ 4294967295 ∷ [])
      ≡ (0xa0 ∷ []) ∷ (0xbf ∷ []) ∷ (0xd9 ∷ 0x20 ∷ []) ∷ (0xd9 ∷ 0xff ∷ []) ∷ (0xda ∷ 0x01 ∷ 0x00 ∷ []) ∷ (0xda ∷ 0xff ∷ 0xff ∷ []) ∷ (0xdb ∷ 0x00 ∷ 0x01 ∷ 0x00 ∷ 0x00 ∷ []) ∷ (0xdb ∷ 0xff ∷ 0xff ∷ 0xff ∷ 0xff ∷ []) ∷ []
  pub written : written_text (codes "ls") ≡ 0xa2 ∷ 0x6c ∷ 0x73 ∷ []
  -- the length counts bytes: an e with an acute accent has two
  pub counts_bytes : written_text (0xc3 ∷ 0xa9 ∷ []) ≡ 0xa2 ∷ 0xc3 ∷ 0xa9 ∷ []
  -- "ls" in each width
  pub short : SpellsText (codes "ls") (0xa2 ∷ 0x6c ∷ 0x73 ∷ [])
  pub in_8_bits : SpellsText (codes "ls") (0xd9 ∷ 0x02 ∷ 0x6c ∷ 0x73 ∷ [])
  pub in_16_bits : SpellsText (codes "ls") (0xda ∷ 0x00 ∷ 0x02 ∷ 0x6c ∷ 0x73 ∷ [])
  pub in_32_bits : SpellsText (codes "ls") (0xdb ∷ 0x00 ∷ 0x00 ∷ 0x00 ∷ 0x02 ∷ 0x6c ∷ 0x73 ∷ [])
  pub some_text : IsText (0xa2 ∷ 0x6c ∷ 0x73 ∷ [])

pub record WorkedArrays : Type 0 where
  -- the headers of 0, 15, 16, 65,535 and 65,536 items, and of one less than 2^32
  pub headers : map written_array (0 ∷ 15 ∷ 16 ∷ 65535 ∷ 65536 ∷ 4294967295 ∷ [])
      ≡ (0x90 ∷ []) ∷ (0x9f ∷ []) ∷ (0xdc ∷ 0x00 ∷ 0x10 ∷ []) ∷ (0xdc ∷ 0xff ∷ 0xff ∷ []) ∷ (0xdd ∷ 0x00 ∷ 0x01 ∷ 0x00 ∷ 0x00 ∷ []) ∷ (0xdd ∷ 0xff ∷ 0xff ∷ 0xff ∷ 0xff ∷ []) ∷ []
  -- three items in each width
  pub short : SpellsArray 3 (0x93 ∷ [])
  pub in_16_bits : SpellsArray 3 (0xdc ∷ 0x00 ∷ 0x03 ∷ [])
  pub in_32_bits : SpellsArray 3 (0xdd ∷ 0x00 ∷ 0x00 ∷ 0x00 ∷ 0x03 ∷ [])
  pub some_array : IsArray (0xdc ∷ 0x00 ∷ 0x03 ∷ [])

pub record WorkedNoItems : Type 0 where
  -- these have other bytes: 2^7, -33, 2^8 and 2^16 without a sign, -1 without one, and 2^7 with one
  pub fixint_passed : SpellsInteger (pos 128) (0x80 ∷ []) → ⊥
  pub negative_fixint_passed : SpellsInteger (negsuc 32) (0xdf ∷ []) → ⊥
  pub unsigned_passed : SpellsInteger (pos 256) (0xcc ∷ 0x00 ∷ []) → ⊥
  pub unsigned_16_passed : SpellsInteger (pos 65536) (0xcd ∷ 0x00 ∷ 0x00 ∷ []) → ⊥
  pub below_zero : SpellsInteger (negsuc 0) (0xcc ∷ 0xff ∷ []) → ⊥
  pub signed_passed : SpellsInteger (pos 128) (0xd0 ∷ 0x80 ∷ []) → ⊥
  -- nil, a number that is cut, and one with a byte behind it are no integer
  pub nil : IsInteger (0xc0 ∷ []) → ⊥
  pub cut_integer : IsInteger (0xcd ∷ 0x05 ∷ []) → ⊥
  pub longer_integer : IsInteger (0x05 ∷ 0x00 ∷ []) → ⊥
  -- half a character is no text, nor is a text that is cut, one with a byte behind it, or 32 bytes behind a0 + 32
  pub not_utf8 : IsText (0xa1 ∷ 0xc3 ∷ []) → ⊥
  pub cut_text : IsText (0xa2 ∷ 0x6c ∷ []) → ⊥
  pub longer_text : IsText (0xa1 ∷ 0x6c ∷ 0x73 ∷ []) → ⊥
  pub fixstr_passed : IsText (0xc0 ∷ replicate 32 0x6c) → ⊥
  -- the head of a text, and a header that is cut, are no header
  pub text : IsArray (0xa0 ∷ []) → ⊥
  pub cut_array : IsArray (0xdc ∷ 0x03 ∷ []) → ⊥

-- ---- frames

pub record WorkedFrames : Type 0 where
  pub framed : frame (0x91 ∷ 0x63 ∷ []) ≡ 0 ∷ 0 ∷ 0 ∷ 2 ∷ 0x91 ∷ 0x63 ∷ []
  pub one_behind_the_other : frames ((7 ∷ []) ∷ [] ∷ (8 ∷ 9 ∷ []) ∷ []) ≡ 0 ∷ 0 ∷ 0 ∷ 1 ∷ 7 ∷ 0 ∷ 0 ∷ 0 ∷ 0 ∷ 0 ∷ 0 ∷ 0 ∷ 2 ∷ 8 ∷ 9 ∷ []
  -- the first four bytes alone, the highest first
  pub named : named_length (0 ∷ 0 ∷ 1 ∷ 2 ∷ 9 ∷ []) ≡ 258
  -- an end within the length, within the payload, and none
  pub within_length : NoWholeFrame (0 ∷ 0 ∷ 0 ∷ [])
  pub within_payload : NoWholeFrame (0 ∷ 0 ∷ 0 ∷ 2 ∷ 7 ∷ [])
  pub empty_payload : NoWholeFrame (0 ∷ 0 ∷ 0 ∷ 0 ∷ []) → ⊥
  pub whole : NoWholeFrame (0 ∷ 0 ∷ 0 ∷ 1 ∷ 7 ∷ []) → ⊥
  pub more_than_whole : NoWholeFrame (0 ∷ 0 ∷ 0 ∷ 1 ∷ 7 ∷ 0 ∷ []) → ⊥
  -- a part of a frame: the first byte of a length, and a length of 1,048,576 alone; not nothing, nor a length above
  pub one_byte : CutFrame (0xff ∷ [])
  pub longest : CutFrame (0x00 ∷ 0x10 ∷ 0x00 ∷ 0x00 ∷ [])
  pub no_part : CutFrame [] → ⊥
  pub no_cut_above : CutFrame (0x00 ∷ 0x10 ∷ 0x00 ∷ 0x01 ∷ []) → ⊥
  pub no_cut_of_whole : CutFrame (0 ∷ 0 ∷ 0 ∷ 1 ∷ 7 ∷ []) → ⊥
  -- a length of 1,048,577 is too long, and needs all four bytes to be that
  pub above : LongFrame (0x00 ∷ 0x10 ∷ 0x00 ∷ 0x01 ∷ [])
  pub not_above : LongFrame (0x00 ∷ 0x10 ∷ 0x00 ∷ 0x00 ∷ []) → ⊥
  pub three_bytes : LongFrame (0xff ∷ 0xff ∷ 0xff ∷ []) → ⊥

pub record WorkedStreams : Type 0 where
  pub nothing : StreamEnds [] [] whole_stream
  pub one : StreamEnds (0 ∷ 0 ∷ 0 ∷ 1 ∷ 7 ∷ []) ((7 ∷ []) ∷ []) whole_stream
  pub one_and_part : StreamEnds (0 ∷ 0 ∷ 0 ∷ 1 ∷ 7 ∷ 0 ∷ []) ((7 ∷ []) ∷ []) cut_stream
  pub one_and_long : StreamEnds (0 ∷ 0 ∷ 0 ∷ 1 ∷ 7 ∷ 0x00 ∷ 0x10 ∷ 0x00 ∷ 0x01 ∷ []) ((7 ∷ []) ∷ []) long_stream
  -- bytes behind the last frame, and a frame that is passed over
  pub not_whole : StreamEnds (0 ∷ 0 ∷ 0 ∷ 1 ∷ 7 ∷ 0 ∷ []) ((7 ∷ []) ∷ []) whole_stream → ⊥
  pub not_cut : StreamEnds (0 ∷ 0 ∷ 0 ∷ 1 ∷ 7 ∷ []) [] cut_stream → ⊥
  -- a frame of 1,048,576 bytes is read, and one of 1,048,577 isn't
  pub longest : (payload : List ℕ) → length payload ≡ 1048576 → StreamEnds (frame payload) (payload ∷ []) whole_stream
  pub above : (payload : List ℕ) → length payload ≡ 1048577 → StreamEnds (frame payload) (payload ∷ []) whole_stream → ⊥
  -- one frame at most, whatever stands behind it; two at most, where nothing does, or a part, or too long a frame
  pub as_many : CutAfter 1 ((7 ∷ []) ∷ []) (0 ∷ 0 ∷ 0 ∷ 1 ∷ 8 ∷ [])
  pub fewer : CutAfter 2 ((7 ∷ []) ∷ []) []
  pub fewer_and_part : CutAfter 2 ((7 ∷ []) ∷ []) (0 ∷ [])
  pub fewer_and_long : CutAfter 2 ((7 ∷ []) ∷ []) (0x00 ∷ 0x10 ∷ 0x00 ∷ 0x01 ∷ [])
  -- a second frame that may be read isn't left, and more than the limit aren't read
  pub one_left : CutAfter 2 ((7 ∷ []) ∷ []) (0 ∷ 0 ∷ 0 ∷ 1 ∷ 8 ∷ []) → ⊥
  pub too_many : CutAfter 0 ((7 ∷ []) ∷ []) [] → ⊥
  pub too_long : (payload : List ℕ) → length payload ≡ 1048577 → CutAfter 1 (payload ∷ []) [] → ⊥

-- ---- ids

-- 1,700,000,000 seconds since 1970, and the id that is made then from the random bytes 00 to 09
abbrev pub first_time : ℕ
first_time = 1700000000000000000

abbrev pub first_id : ℕ
first_id = 0x018bcfe5680070018203040506070809

abbrev pub first_digits : List ℕ
first_digits = codes "018bcfe5680070018203040506070809"

abbrev pub ten_bytes : List ℕ
ten_bytes = 0 ∷ 1 ∷ 2 ∷ 3 ∷ 4 ∷ 5 ∷ 6 ∷ 7 ∷ 8 ∷ 9 ∷ []

pub record WorkedIds : Type 0 where
  pub made : made_id first_time ten_bytes ≡ first_id
  -- of random bytes that are all ones the version and the variant take six bits
  pub of_ones : made_id first_time (replicate 10 0xff) ≡ 0x018bcfe568007fffbfffffffffffffff
  -- the time is cut to whole milliseconds: 1,999,999 ns are one
  pub early : made_id 1999999 (replicate 10 0) ≡ 0x00000000000170008000000000000000
  pub printed : id_text first_id ≡ first_digits
  -- small ids have 32 digits too, and the letters are small
  pub ten : id_text 10 ≡ codes "0000000000000000000000000000000a"

-- ---- commands

-- "ls" in "/" of the session "s1" on the host "h:u", begun then
abbrev pub ls : StartedRecord
ls = record { id = first_id; timestamp = first_time; command = codes "ls"; cwd = codes "/"; session = codes "s1"; hostname = codes "h:u" }

-- the same, ended after 1,000 ns with status 0
abbrev pub ls_ended : HistoryRecord
ls_ended = record { id = first_id; timestamp = first_time; duration = pos 1000; exit = pos 0; command = codes "ls"; cwd = codes "/"; session = codes "s1"; hostname = codes "h:u"; deleted_at = None; author = None }

-- the same where an author is told
abbrev pub authored_ls : HistoryRecord
authored_ls = record ls_ended { author = Some (codes "me") }

-- "pwd" with the id 7, begun at 20 ns
abbrev pub pwd : StartedRecord
pwd = record { id = 7; timestamp = 20; command = codes "pwd"; cwd = codes "/"; session = codes "s1"; hostname = codes "h:u" }

abbrev pub pwd_ended : HistoryRecord
pwd_ended = record { id = 7; timestamp = 20; duration = pos 3; exit = pos 0; command = codes "pwd"; cwd = codes "/"; session = codes "s1"; hostname = codes "h:u"; deleted_at = None; author = None }

pub record WorkedCommands : Type 0 where
  pub kept : finished ls (pos 1000) (pos 0) None ≡ ls_ended
  -- an id twice, one behind the other or further on
  pub own_ids : HaveDistinctIds (λ (s : StartedRecord). s.id) (ls ∷ pwd ∷ [])
  pub one_id_twice : HaveDistinctIds (λ (s : StartedRecord). s.id) (ls ∷ pwd ∷ record pwd { id = first_id } ∷ []) → ⊥

-- ---- searches

abbrev pub hit_at : (id timestamp : ℕ) (command : List ℕ) → HistoryRecord
hit_at id timestamp command = record { id = id; timestamp = timestamp; duration = pos 0; exit = pos 0; command = command; cwd = codes "/"; session = codes "s1"; hostname = codes "h:u"; deleted_at = None; author = None }

-- three, in the order in which they ended
abbrev pub three_ended : List HistoryRecord
three_ended = hit_at 4 10 (codes "ls") ∷ hit_at 2 30 (codes "LS -l") ∷ hit_at 1 30 (codes "ls -a") ∷ []

pub record WorkedMatches : Type 0 where
  -- a query without capitals is compared with the command's letters folded, and one with a capital exactly
  pub folded : compared (codes "ls") (codes "LS -L") ≡ codes "ls -l"
  pub exact : compared (codes "Ls") (codes "LS -L") ≡ codes "LS -L"
  pub prefix : matches_by by_prefix (codes "ls") (codes "LS -l") ≡ true
  pub capital : matches_by by_prefix (codes "L") (codes "ls") ≡ false
  pub not_at_front : matches_by by_prefix (codes "s") (codes "ls") ≡ false
  pub at_front : matches_by by_substring (codes "ls") (codes "ls -l") ≡ true
  pub within : matches_by by_substring (codes "s -") (codes "ls -l") ≡ true
  pub at_end : matches_by by_substring (codes "-l") (codes "ls -l") ≡ true
  pub apart : matches_by by_substring (codes "l-") (codes "ls -l") ≡ false
  pub folded_within : matches_by by_substring (codes "s -l") (codes "LS -L") ≡ true
  pub longer : matches_by by_substring (codes "lsl") (codes "ls") ≡ false
  -- every command has the empty text, and the empty one too
  pub nothing_asked : matches_by by_prefix [] (codes "ls") ≡ true
  pub of_nothing : matches_by by_substring [] [] ≡ true
  -- of letters that aren't ASCII none is folded: e with an acute accent, small and capital
  pub accent : matches_by by_prefix (0xc3 ∷ 0xa9 ∷ []) (0xc3 ∷ 0x89 ∷ []) ≡ false
  -- the newer before the older, whatever their ids, and of one time the lesser id; none before itself
  pub newer : is_shown_before (hit_at 9 20 []) (hit_at 1 10 []) ≡ true
  pub older : is_shown_before (hit_at 1 10 []) (hit_at 9 20 []) ≡ false
  pub lesser_id : is_shown_before (hit_at 1 10 []) (hit_at 9 10 []) ≡ true
  pub greater_id : is_shown_before (hit_at 9 10 []) (hit_at 1 10 []) ≡ false
  pub itself : is_shown_before (hit_at 1 10 []) (hit_at 1 10 []) ≡ false
  -- "ls", "/", "s1" and "h:u"
  pub bytes : hit_bytes ls_ended ≡ 8
  -- and where it has an author, "me"
  pub authored_bytes : hit_bytes authored_ls ≡ 10

pub record WorkedSearches : Type 0 where
  -- two of three where the limit is 2: not one, nor three
  pub two : IsPage hit_bytes 2 (pwd_ended ∷ ls_ended ∷ pwd_ended ∷ []) (pwd_ended ∷ ls_ended ∷ [])
  pub not_one : IsPage hit_bytes 2 (pwd_ended ∷ ls_ended ∷ pwd_ended ∷ []) (pwd_ended ∷ []) → ⊥
  pub not_three : IsPage hit_bytes 2 (pwd_ended ∷ ls_ended ∷ pwd_ended ∷ []) (pwd_ended ∷ ls_ended ∷ pwd_ended ∷ []) → ⊥
  pub not_the_last : IsPage hit_bytes 2 (pwd_ended ∷ ls_ended ∷ []) (ls_ended ∷ []) → ⊥
  -- texts of 4,194,304 bytes together, and one more; a single hit of any size
  pub just_fits : (h : HistoryRecord) → hit_bytes h ≡ 4194296 → FitsPage hit_bytes 10 (h ∷ ls_ended ∷ [])
  pub too_heavy : (h : HistoryRecord) → hit_bytes h ≡ 4194297 → FitsPage hit_bytes 10 (h ∷ ls_ended ∷ []) → ⊥
  pub single : (h : HistoryRecord) → hit_bytes h ≡ 9000000 → IsPage hit_bytes 10 (h ∷ ls_ended ∷ []) (h ∷ [])
  pub none_allowed : FitsPage hit_bytes 0 (ls_ended ∷ []) → ⊥
  -- all of them, newest first, and of one time the lesser id first; then without the first one, and then the first one
  -- alone
  pub answer : IsAnswer 0 10 three_ended (hit_at 1 30 (codes "ls -a") ∷ hit_at 2 30 (codes "LS -l") ∷ hit_at 4 10 (codes "ls") ∷ [])
  pub without_first : IsAnswer 1 10 three_ended (hit_at 2 30 (codes "LS -l") ∷ hit_at 4 10 (codes "ls") ∷ [])
  pub first_alone : IsAnswer 0 1 three_ended (hit_at 1 30 (codes "ls -a") ∷ [])
  pub behind_the_last : IsAnswer 4 10 three_ended []

-- ---- replies

pub record WorkedReplies : Type 0 where
  pub of_start : began_bytes 1 first_id ≡ 0x93 ∷ 0x00 ∷ 0x01 ∷ 0xd9 ∷ 0x20 ∷ first_digits
  pub of_end : stored_bytes 2 0 ≡ 0x93 ∷ 0x00 ∷ 0x02 ∷ 0x00 ∷ []
  -- a front and an index that don't fit one byte
  pub of_later_end : stored_bytes 300 128 ≡ 0x93 ∷ 0x00 ∷ 0xcd ∷ 0x01 ∷ 0x2c ∷ 0xcc ∷ 0x80 ∷ []
  pub of_search : hits_bytes 2 (ls_ended ∷ pwd_ended ∷ [])
      ≡ 0x93 ∷ 0x00 ∷ 0x02 ∷ 0x92 ∷ 0x98 ∷ 0xd9 ∷ 0x20 ∷ (first_digits ++ 0xcf ∷ 0x17 ∷ 0x97 ∷ 0x9c ∷ 0xfe ∷ 0x36 ∷ 0x2a ∷ 0x00 ∷ 0x00 ∷ 0xcd ∷ 0x03 ∷ 0xe8 ∷ 0x00 ∷ 0xa2 ∷ 0x6c ∷ 0x73 ∷ 0xa1 ∷ 0x2f ∷ 0xa2 ∷ 0x73 ∷ 0x31 ∷ 0xa3 ∷ 0x68 ∷ 0x3a ∷ 0x75
      ∷ 0x98 ∷ 0xd9 ∷ 0x20 ∷ (codes "00000000000000000000000000000007" ++ 0x14 ∷ 0x03 ∷ 0x00 ∷ 0xa3 ∷ 0x70 ∷ 0x77 ∷ 0x64 ∷ 0xa1 ∷ 0x2f ∷ 0xa2 ∷ 0x73 ∷ 0x31 ∷ 0xa3 ∷ 0x68 ∷ 0x3a ∷ 0x75 ∷ []))
  -- a hit that has an author, who comes last: nine items
  pub of_authored : hits_bytes 2 (authored_ls ∷ [])
      ≡ 0x93 ∷ 0x00 ∷ 0x02 ∷ 0x91 ∷ 0x99 ∷ 0xd9 ∷ 0x20 ∷ (first_digits ++ 0xcf ∷ 0x17 ∷ 0x97 ∷ 0x9c ∷ 0xfe ∷ 0x36 ∷ 0x2a ∷ 0x00 ∷ 0x00 ∷ 0xcd ∷ 0x03 ∷ 0xe8 ∷ 0x00 ∷ 0xa2 ∷ 0x6c ∷ 0x73 ∷ 0xa1 ∷ 0x2f ∷ 0xa2 ∷ 0x73 ∷ 0x31 ∷ 0xa3 ∷ 0x68 ∷ 0x3a ∷ 0x75 ∷ 0xa2 ∷ 0x6d ∷ 0x65 ∷ [])
  pub of_no_hits : hits_bytes 0 [] ≡ 0x93 ∷ 0x00 ∷ 0x00 ∷ 0x90 ∷ []
  pub of_unknown_id : unknown_id_bytes 3 first_id ≡ 0x93 ∷ 0x02 ∷ 0x03 ∷ 0xd9 ∷ 0x20 ∷ first_digits
  pub of_random_fault : random_fault_bytes 3 ≡ 0x92 ∷ 0x05 ∷ 0x03 ∷ []
  pub of_taken_id : id_taken_bytes 3 first_id ≡ 0x93 ∷ 0x06 ∷ 0x03 ∷ 0xd9 ∷ 0x20 ∷ first_digits
  pub of_no_memory : no_memory_bytes 3 ≡ 0x92 ∷ 0x08 ∷ 0x03 ∷ []
  pub of_bad_request : bad_request_bytes 3 1 ≡ 0x93 ∷ 0x09 ∷ 0x03 ∷ 0x01 ∷ []

-- ---- what is used

pub record WorkedUses : Type 0 where
  -- first of the one and then of the other, and faults are added
  pub together : then_used (record { readings = 1 ∷ []; drawn = 2 ∷ []; faults = 3 }) (record { readings = 4 ∷ []; drawn = 5 ∷ []; faults = 6 }) ≡ record { readings = 1 ∷ 4 ∷ []; drawn = 2 ∷ 5 ∷ []; faults = 9 }
  pub fits : UsedFits (record { readings = 18446744073709551615 ∷ []; drawn = 255 ∷ []; faults = 0 })
  pub time_above : UsedFits (record { readings = 18446744073709551616 ∷ []; drawn = []; faults = 0 }) → ⊥
  pub no_byte : UsedFits (record { readings = []; drawn = 256 ∷ []; faults = 0 }) → ⊥
