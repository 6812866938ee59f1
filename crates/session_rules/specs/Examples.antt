-- Worked examples: replies in bytes, with the numbers written out, and two sessions in one journal.
use Rattle.std.specs.Prelude.{◌≡◌, ℕ, ◌-◌, ◌≤◌, ◌^◌, length, pos, negsuc, List, [], ◌∷◌, ◌++◌, codes, map, Some, None, replicate, true, false, ◌⊎◌}
use Rattle.definitions.specs.Counts.{last_count}
use Rattle.definitions.specs.Ids.{made_id}
use Rattle.definitions.specs.Uses.{Used, used_nothing, read_clock, read_and_drew, read_and_failed}
use Rattle.definitions.specs.Examples.{first_time, ten_bytes, ls}
use Rattle.record_rules.specs.Records.{SealedRecord, Caller, Entry, Started}
use Rattle.record_rules.specs.Growth.{PageTooLong, PageForked, PageGap, PageFull, taken_entry}
use Rattle.record_rules.specs.Examples.{kv_record}
use Rattle.step_rules.specs.Calls.{status_call}
use Rattle.step_rules.specs.Answers.{too_long, unknown_id, unknown_name, full, random_fault, id_taken, disk_fault, no_memory, bad_request, began, stored, hits, value_is, keys, aliases, places, refused}
use Rattle.step_rules.specs.Store.{KeyedStore}
use Rattle.step_rules.specs.Sealing.{Sealing, keyed_store}
use Rattle.step_rules.specs.Turn.{settled_entry}
use Rattle.step_rules.specs.PageTurns.{PageAnswer, took, page_refused, page_faulted, page_no_memory}
use Rattle.step_rules.specs.ReadTurns.{status_read, page_read, front_read, told_status, told_page, told_front, read_faulted, read_no_memory}
use Rattle.step_rules.specs.Examples.{second_time, ls_call, two_records}
use Rattle.session_rules.specs.Bytes.{reply_bytes}
use Rattle.session_rules.specs.Within.{most_reply_bytes}
use Rattle.session_rules.specs.Sessions.{Asked, a_call, no_call, a_page, a_read, unrouted, SessionAnswer, to_call, to_page, to_read, to_unrouted, caller_of, numbered_from, Session, told_random_faults, is_stored}
use Rattle.session_rules.specs.Reading.{Reads, ReadsEach}
use Rattle.session_rules.specs.Turns.{TurnAnswers}
use Rattle.session_rules.specs.Passes.{TurnItem, Pass, mine, seen_more, KnowsItself, failures, PassMoves, split_off, SplitsOff, IsSpent, joined, Joins, disk_faults, TurnsOf}
use Rattle.session_rules.specs.Books.{Book, MayGive, Finds, first_pass, turn_between, PassTakes, PassGives, PassTurn}
use Rattle.session_rules.specs.Stores.{StoreState, store_of, StoreTurn, RunTurn, IsRun, last_left, run_replies, AreAlike}
use Rattle.session_rules.specs.Http.{IsHttp, MayFault, response_code, at_fronts, HttpSession}

pub record WorkedReplies : Type 0 where
  pub long_command : reply_bytes (record { front = 0; answer = refused (too_long 1 262145) }) ≡ 0x94 ∷ 0x01 ∷ 0x00 ∷ 0x01 ∷ 0xce ∷ 0x00 ∷ 0x04 ∷ 0x00 ∷ 0x01 ∷ []
  pub never_ran : reply_bytes (record { front = 0; answer = refused (unknown_id (2 ^ 128 - 1)) }) ≡ 0x93 ∷ 0x02 ∷ 0x00 ∷ 0xd9 ∷ 0x20 ∷ replicate 32 0x66
  pub no_alias : reply_bytes (record { front = 0; answer = refused (unknown_name (codes "zz")) }) ≡ 0x93 ∷ 0x03 ∷ 0x00 ∷ 0xa2 ∷ 0x7a ∷ 0x7a ∷ []
  pub is_full : reply_bytes (record { front = 1; answer = refused (full (record { what = 3; held = 4096 })) }) ≡ 0x94 ∷ 0x04 ∷ 0x01 ∷ 0x03 ∷ 0xcd ∷ 0x10 ∷ 0x00 ∷ []
  pub no_bytes : reply_bytes (record { front = 1; answer = refused random_fault }) ≡ 0x92 ∷ 0x05 ∷ 0x01 ∷ []
  pub id_held : reply_bytes (record { front = 1; answer = refused (id_taken 10) }) ≡ 0x93 ∷ 0x06 ∷ 0x01 ∷ 0xd9 ∷ 0x20 ∷ codes "0000000000000000000000000000000a"
  pub no_disk : reply_bytes (record { front = 1; answer = refused disk_fault }) ≡ 0x92 ∷ 0x07 ∷ 0x01 ∷ []
  pub no_memory_left : reply_bytes (record { front = 0; answer = refused no_memory }) ≡ 0x92 ∷ 0x08 ∷ 0x00 ∷ []
  pub byte_behind : reply_bytes (record { front = 0; answer = refused (bad_request 14) }) ≡ 0x93 ∷ 0x09 ∷ 0x00 ∷ 0x0e ∷ []
  pub one_begun : reply_bytes (record { front = 1; answer = began 10 }) ≡ 0x93 ∷ 0x00 ∷ 0x01 ∷ 0xd9 ∷ 0x20 ∷ codes "0000000000000000000000000000000a"
  pub first_stored : reply_bytes (record { front = 2; answer = stored 0 }) ≡ 0x93 ∷ 0x00 ∷ 0x02 ∷ 0x00 ∷ []
  -- a command that began at 1,000, took 7 ns and ended with the status -1
  pub one_hit : reply_bytes (record { front = 2; answer = hits (record { id = 10; timestamp = 1000; duration = pos 7; exit = negsuc 0; command = codes "ls"; cwd = codes "/"; session = codes "s1"; hostname = codes "h:u"; deleted_at = None; author = None } ∷ []) })
      ≡ 0x93 ∷ 0x00 ∷ 0x02 ∷ 0x91 ∷ 0x98 ∷ 0xd9 ∷ 0x20 ∷ (codes "0000000000000000000000000000000a" ++ (0xcd ∷ 0x03 ∷ 0xe8 ∷ 0x07 ∷ 0xff ∷ 0xa2 ∷ 0x6c ∷ 0x73 ∷ 0xa1 ∷ 0x2f ∷ 0xa2 ∷ 0x73 ∷ 0x31 ∷ 0xa3 ∷ 0x68 ∷ 0x3a ∷ 0x75 ∷ []))
  pub a_value : reply_bytes (record { front = 1; answer = value_is (Some (codes "v")) }) ≡ 0x93 ∷ 0x00 ∷ 0x01 ∷ 0xa1 ∷ 0x76 ∷ []
  pub no_value : reply_bytes (record { front = 1; answer = value_is None }) ≡ 0x93 ∷ 0x00 ∷ 0x01 ∷ 0xc0 ∷ []
  pub two_keys : reply_bytes (record { front = 2; answer = keys (codes "a" ∷ codes "b" ∷ []) }) ≡ 0x93 ∷ 0x00 ∷ 0x02 ∷ 0x92 ∷ 0xa1 ∷ 0x61 ∷ 0xa1 ∷ 0x62 ∷ []
  pub one_alias : reply_bytes (record { front = 1; answer = aliases (record { name = codes "g"; value = codes "v" } ∷ []) }) ≡ 0x93 ∷ 0x00 ∷ 0x01 ∷ 0x91 ∷ 0x92 ∷ 0xa1 ∷ 0x67 ∷ 0xa1 ∷ 0x76 ∷ []
  -- the chain `kv` of host 1, of length 2
  pub one_place : reply_bytes (record { front = 2; answer = places (record { host = 1; tag = codes "kv"; count = 2 } ∷ []) }) ≡ 0x93 ∷ 0x00 ∷ 0x02 ∷ 0x91 ∷ 0x93 ∷ 0xd9 ∷ 0x24 ∷ (codes "00000000-0000-0000-0000-000000000001" ++ (0xa2 ∷ 0x6b ∷ 0x76 ∷ 0x02 ∷ []))
  -- a value of 2^31 bytes would have no reply, which no record can hold
  pub too_long_a_value : length (reply_bytes (record { front = 0; answer = value_is (Some (replicate (2 ^ 31) 0x61)) })) ≤ most_reply_bytes → ⊥

-- ---- two sessions, of which the second was served first

-- the random bytes 80 to 89
abbrev pub high_bytes : List ℕ
high_bytes = 0x80 ∷ 0x81 ∷ 0x82 ∷ 0x83 ∷ 0x84 ∷ 0x85 ∷ 0x86 ∷ 0x87 ∷ 0x88 ∷ 0x89 ∷ []

abbrev pub high_id : ℕ
high_id = made_id first_time high_bytes

abbrev pub started_by : (number id timestamp : ℕ) → Entry
started_by number id timestamp = record { caller = caller_of number 1; event = Started (record ls { id = id; timestamp = timestamp }) }

-- the start of session 2, then that of session 1
abbrev pub both : List Entry
both = started_by 2 high_id first_time ∷ started_by 1 (made_id second_time ten_bytes) second_time ∷ []

pub record WorkedSessions : Type 0 where
  pub first : (store : KeyedStore) → Session store [] 1 (numbered_from 1 (a_call ls_call ∷ [])) (read_and_drew second_time ten_bytes) (record { front = 2; answer = to_call (began (made_id second_time ten_bytes)) } ∷ []) both
  pub second : (store : KeyedStore) → Session store [] 2 (numbered_from 1 (a_call ls_call ∷ [])) (read_and_drew first_time high_bytes) (record { front = 1; answer = to_call (began high_id) } ∷ []) both
  -- what is no call is told its place, and leaves the journal
  pub no_call_told : (store : KeyedStore) → Session store [] 1 (numbered_from 1 (no_call 14 ∷ [])) used_nothing (record { front = 0; answer = to_call (refused (bad_request 14)) } ∷ []) []
  -- or that memory was wanting
  pub no_call_unheld : (store : KeyedStore) → Session store [] 1 (numbered_from 1 (no_call 14 ∷ [])) used_nothing (record { front = 0; answer = to_call (refused no_memory) } ∷ []) []
  -- a Start may fail without a commit: the disk before it drew or after, the draw, and memory, also while it was being read, before the clock was
  pub disk_failed : (store : KeyedStore) → Session store [] 1 (numbered_from 1 (a_call ls_call ∷ [])) (read_clock first_time) (record { front = 0; answer = to_call (refused disk_fault) } ∷ []) []
  pub commit_failed : (store : KeyedStore) → Session store [] 1 (numbered_from 1 (a_call ls_call ∷ [])) (read_and_drew first_time ten_bytes) (record { front = 0; answer = to_call (refused disk_fault) } ∷ []) []
  pub draw_failed : (store : KeyedStore) → Session store [] 1 (numbered_from 1 (a_call ls_call ∷ [])) (read_and_failed first_time) (record { front = 0; answer = to_call (refused random_fault) } ∷ []) []
  pub unheld : (store : KeyedStore) → Session store [] 1 (numbered_from 1 (a_call ls_call ∷ [])) (read_and_drew first_time ten_bytes) (record { front = 0; answer = to_call (refused no_memory) } ∷ []) []
  pub unheld_unread : (store : KeyedStore) → Session store [] 1 (numbered_from 1 (a_call ls_call ∷ [])) used_nothing (record { front = 0; answer = to_call (refused no_memory) } ∷ []) []
  pub read_unheld : (store : KeyedStore) → Session store [] 1 (numbered_from 1 (a_call status_call ∷ [])) used_nothing (record { front = 0; answer = to_call (refused no_memory) } ∷ []) []
  -- a worker's second connection numbers its calls from 1 again: both are one session of its pass
  pub two_connections : (store : KeyedStore) → Session store [] 1 (numbered_from 1 (a_call ls_call ∷ []) ++ numbered_from 1 (a_call status_call ∷ [])) (read_and_drew second_time ten_bytes)
      (record { front = 1; answer = to_call (began (made_id second_time ten_bytes)) } ∷ record { front = 1; answer = to_call (places []) } ∷ []) (started_by 1 (made_id second_time ten_bytes) second_time ∷ [])
  -- the turns of the first: it found one entry and left two
  pub first_turns : TurnsOf [] (record { front = 2; answer = to_call (began (made_id second_time ten_bytes)) } ∷ []) (record { found = 1; left = 2; failed = false } ∷ [])
  -- a fault of the disk is told after a turn that failed, and not after another one
  pub failed_turn : TurnsOf [] (record { front = 1; answer = to_call (refused disk_fault) } ∷ []) (record { found = 1; left = 1; failed = true } ∷ [])
  pub no_failed_turn : TurnsOf [] (record { front = 1; answer = to_call (refused disk_fault) } ∷ []) (record { found = 1; left = 1; failed = false } ∷ []) → ⊥
  pub failed_page_turn : TurnsOf [] (record { front = 1; answer = to_page page_faulted } ∷ []) (record { found = 1; left = 1; failed = true } ∷ [])
  pub no_failed_page_turn : TurnsOf [] (record { front = 1; answer = to_page page_faulted } ∷ []) (record { found = 1; left = 1; failed = false } ∷ []) → ⊥

-- ---- a session that takes in pages

-- two records of owner 5, taken in the second call: the first, and both
abbrev pub by_second_call : Entry
by_second_call = taken_entry (caller_of 1 2) 5 (kv_record 0 1000)

abbrev pub worker_batch : List Entry
worker_batch = by_second_call ∷ taken_entry (caller_of 1 2) 5 (kv_record 1 1001) ∷ []

abbrev pub worker_journal : List Entry
worker_journal = started_by 1 (made_id second_time ten_bytes) second_time ∷ worker_batch

pub record WorkedPages : Type 0 where
  -- what tells of something that was stored, and what doesn't
  pub which_are_stored : map is_stored (to_call (began 1) ∷ to_call (stored 0) ∷ to_page (took 0) ∷ to_call (refused disk_fault) ∷ to_call (places []) ∷ to_page page_faulted ∷ to_page (page_refused (PageGap 0 2)) ∷ to_read (told_front 1) ∷ to_unrouted 404 ∷ [])
      ≡ true ∷ true ∷ true ∷ false ∷ false ∷ false ∷ false ∷ false ∷ false ∷ []
  -- A Start and then five pages: one that is taken, the same again, one with a gap before it, and two that the disk and memory fail.
  pub session : (store : KeyedStore) → Session store [] 1 (numbered_from 1 (a_call ls_call ∷ a_page 5 two_records ∷ a_page 5 two_records ∷ a_page 5 (kv_record 3 1003 ∷ []) ∷ a_page 5 two_records ∷ a_page 5 two_records ∷ [])) (read_and_drew second_time ten_bytes)
      (record { front = 1; answer = to_call (began (made_id second_time ten_bytes)) } ∷ record { front = 3; answer = to_page (took 2) } ∷ record { front = 3; answer = to_page (took 0) } ∷ record { front = 3; answer = to_page (page_refused (PageGap 0 2)) } ∷ record { front = 3; answer = to_page page_faulted } ∷ record { front = 3; answer = to_page page_no_memory } ∷ [])
      worker_journal
  -- Whatever is asked first and however it is answered, no entry of the second call is committed for it. And none is for the second one where it
  -- stood at the front of the first.
  pub not_by_first : (store : KeyedStore) (asked : Asked) (used : Used) (answer : SessionAnswer) → Session store [] 1 (numbered_from 1 (asked ∷ [])) used (record { front = 1; answer = answer } ∷ []) (by_second_call ∷ []) → ⊥
  pub not_before : (store : KeyedStore) (asked other : Asked) (used : Used) (answer other_answer : SessionAnswer) → Session store [] 1 (numbered_from 1 (asked ∷ other ∷ [])) used (record { front = 1; answer = answer } ∷ record { front = 1; answer = other_answer } ∷ []) (by_second_call ∷ []) → ⊥

-- ---- what is read of payloads

pub record WorkedReading : Type 0 where
  -- a Status, and one with a byte behind it, which is at place 2
  pub a_status : Reads (0x91 ∷ 0x0b ∷ []) (a_call status_call)
  pub byte_behind : Reads (0x91 ∷ 0x0b ∷ 0x00 ∷ []) (no_call 2)
  pub in_order : ReadsEach ((0x91 ∷ 0x0b ∷ []) ∷ (0x91 ∷ 0x0b ∷ 0x00 ∷ []) ∷ []) (a_call status_call ∷ no_call 2 ∷ [])
  -- none is a page, and each is something
  pub no_page : (owner : ℕ) (records : List SealedRecord) → Reads [] (a_page owner records) → ⊥
  pub one_each : ReadsEach ([] ∷ []) [] → ⊥

-- ---- a pass

-- whose call it was: call 1 of pass 2, call 1 of pass 1, and a call of pass 1 whose commit was settled by no pass
abbrev pub started_in : (caller : Caller) (id : ℕ) → Entry
started_in caller id = record { caller = caller; event = Started (record { id = id; timestamp = first_time; command = codes "ls"; cwd = codes "/"; session = codes "s1"; hostname = codes "h:u" }) }

abbrev pub by_second : Entry
by_second = started_in (record { number = 2; call = 1; settled_for = 0 }) 7

abbrev pub by_first : Entry
by_first = started_in (record { number = 1; call = 1; settled_for = 0 }) 8

abbrev pub once_settled : Entry
once_settled = started_in (record { number = 0; call = 2; settled_for = 1 }) 9

-- the entry of pass 1, had it been in doubt
abbrev pub first_settled : Entry
first_settled = started_in (record { number = 0; call = 1; settled_for = 1 }) 8

abbrev pub a_turn : TurnItem
a_turn = record { found = 1; left = 2; failed = false }

abbrev pub another_turn : TurnItem
another_turn = record { found = 3; left = 3; failed = true }

-- pass 1 of two, with so much seen
abbrev pub pass_at : List Entry → Pass
pass_at seen = record { number = 1; seen = seen; known = 2; turns = a_turn ∷ []; faults = 4; fixed = 0 ∷ 1 ∷ [] }

pub record WorkedPass : Type 0 where
  -- the caller of call 1 of pass 2
  pub caller_is : caller_of 2 1 ≡ record { number = 2; call = 1; settled_for = 0 }
  -- of what it has seen its own number is on one entry, and not on what was settled for it
  pub own_alone : mine (pass_at (by_second ∷ by_first ∷ once_settled ∷ [])) ≡ by_first ∷ []
  -- it sees one entry more behind the others, and is the same otherwise
  pub sees_more : seen_more (pass_at (by_second ∷ [])) (by_first ∷ []) ≡ pass_at (by_second ∷ by_first ∷ [])
  -- as many numbers were given as its own at least
  pub knows : KnowsItself (record (pass_at []) { known = 1 })
  pub knows_not : KnowsItself (record (pass_at []) { known = 0 }) → ⊥
  -- one turn behind those before for each reply, and none without one
  pub one_more_turn : TurnsOf (a_turn ∷ []) (record { front = 3; answer = to_call (stored 0) } ∷ []) (a_turn ∷ another_turn ∷ [])
  pub no_turn : TurnsOf (a_turn ∷ []) (record { front = 3; answer = to_call (stored 0) } ∷ []) (a_turn ∷ []) → ⊥
  pub no_reply : TurnsOf [] [] (a_turn ∷ []) → ⊥
  -- one of its turns failed, and one reply tells of it; another tells of a fault of the random source
  pub one_failed : failures (a_turn ∷ another_turn ∷ []) ≡ 1
  pub one_told : disk_faults (record { front = 3; answer = to_call (refused disk_fault) } ∷ record { front = 3; answer = to_call (refused random_fault) } ∷ record { front = 3; answer = to_page (took 0) } ∷ []) ≡ 1
  pub one_undrawn : told_random_faults (record { front = 3; answer = to_call (refused disk_fault) } ∷ record { front = 3; answer = to_call (refused random_fault) } ∷ record { front = 3; answer = to_page (took 0) } ∷ []) ≡ 1
  -- with one more entry seen, one more number known and a failed turn more, it has counted one fault more at least
  pub moved : PassMoves (pass_at (by_second ∷ [])) (record { number = 1; seen = by_second ∷ by_first ∷ []; known = 3; turns = a_turn ∷ another_turn ∷ []; faults = 5; fixed = 0 ∷ 1 ∷ [] })
  pub uncounted : PassMoves (pass_at []) (record (pass_at []) { turns = a_turn ∷ another_turn ∷ [] }) → ⊥
  pub unseen : PassMoves (pass_at (by_second ∷ [])) (pass_at []) → ⊥
  -- where the count stands at its last value a turn may fail, and it stands there still
  pub at_the_last : PassMoves (record (pass_at []) { faults = last_count }) (record (pass_at []) { turns = a_turn ∷ another_turn ∷ []; faults = last_count })
  -- pass 3 is split off, and joined back when it has seen one entry more and counted a fault more
  pub split_is : split_off (pass_at (by_second ∷ [])) 3 ≡ record { number = 3; seen = by_second ∷ []; known = 3; turns = []; faults = 4; fixed = 0 ∷ 1 ∷ [] }
  -- so numbers 1 and 2 are given to no other, nor is one that an entry has, and the old pass knows of the new number
  pub splits : SplitsOff (pass_at (by_second ∷ [])) (record (pass_at (by_second ∷ [])) { known = 3 }) (split_off (pass_at (by_second ∷ [])) 3)
  pub number_again : (new : Pass) → SplitsOff (pass_at []) new (split_off (pass_at []) 2) → ⊥
  pub number_on_an_entry : (new : Pass) → SplitsOff (record (pass_at (by_second ∷ [])) { known = 1 }) new (split_off (pass_at (by_second ∷ [])) 2) → ⊥
  pub unknown_to_the_old : SplitsOff (pass_at []) (pass_at []) (split_off (pass_at []) 3) → ⊥
  -- where number 65,535 was given there is none left
  pub no_number : (new part : Pass) → SplitsOff (record (pass_at []) { known = 65535 }) new part → ⊥
  pub spent : IsSpent (pass_at []) (record (pass_at []) { known = 65535 }) 65535
  pub not_spent : (new : Pass) → IsSpent (pass_at []) new 65534 → ⊥
  pub joined_is : joined (pass_at (by_second ∷ [])) (record { number = 3; seen = by_second ∷ by_first ∷ []; known = 3; turns = another_turn ∷ []; faults = 5; fixed = 0 ∷ 1 ∷ [] })
      ≡ record { number = 1; seen = by_second ∷ by_first ∷ []; known = 3; turns = a_turn ∷ []; faults = 5; fixed = 0 ∷ 1 ∷ [] }
  pub other_joined : joined (record { number = 3; seen = by_second ∷ by_first ∷ []; known = 3; turns = another_turn ∷ []; faults = 5; fixed = 0 ∷ 1 ∷ [] }) (pass_at (by_second ∷ []))
      ≡ record { number = 3; seen = by_second ∷ by_first ∷ []; known = 3; turns = another_turn ∷ []; faults = 5; fixed = 0 ∷ 1 ∷ [] }
  -- after the join it knows that four numbers were given
  pub joins : Joins (pass_at (by_second ∷ [])) (record { number = 3; seen = by_second ∷ by_first ∷ []; known = 3; turns = another_turn ∷ []; faults = 5; fixed = 0 ∷ 1 ∷ [] })
      (record { number = 1; seen = by_second ∷ by_first ∷ []; known = 4; turns = a_turn ∷ []; faults = 5; fixed = 0 ∷ 1 ∷ [] })

-- ---- a book that two passes share

abbrev pub book_at : List Entry → ℕ → Book
book_at entries faults = record { entries = entries; faults = faults; fixed = 0 ∷ 1 ∷ [] }

pub record WorkedBook : Type 0 where
  pub first_is : first_pass (book_at (by_second ∷ []) 4) ≡ record { number = 1; seen = by_second ∷ []; known = 1; turns = []; faults = 4; fixed = 0 ∷ 1 ∷ [] }
  -- pass 1 finds what it had seen, and behind it what another one put there
  pub found : Finds (pass_at []) (book_at (by_second ∷ once_settled ∷ []) 5)
  -- and neither an entry of its own that it hasn't seen, nor a book without what it had seen, with fewer faults or with another fixed part
  pub own_behind : Finds (pass_at []) (book_at (by_first ∷ []) 4) → ⊥
  pub unseen : Finds (pass_at (by_second ∷ [])) (book_at [] 4) → ⊥
  pub uncounted : Finds (pass_at []) (book_at [] 3) → ⊥
  pub other_book : Finds (pass_at []) (record (book_at [] 4) { fixed = [] }) → ⊥
  -- a turn in which no fault was counted, and one in which one was
  pub went_well : turn_between (book_at (by_second ∷ []) 4) (book_at (by_second ∷ by_first ∷ []) 4) ≡ a_turn
  pub went_wrong : turn_between (book_at (by_second ∷ []) 4) (book_at (by_second ∷ []) 5) ≡ record { found = 1; left = 1; failed = true }
  -- pass 1 takes the book with an entry of pass 2, puts one of its own behind, and gives it back
  pub takes : PassTurn (pass_at []) (book_at (by_second ∷ []) 4) (book_at (by_second ∷ by_first ∷ []) 5) (record { number = 1; seen = by_second ∷ by_first ∷ []; known = 2; turns = a_turn ∷ record { found = 1; left = 2; failed = true } ∷ []; faults = 5; fixed = 0 ∷ 1 ∷ [] })
  -- or it leaves a book without entries as it was
  pub leaves : PassTurn (pass_at []) (book_at [] 4) (book_at [] 4) (record { number = 1; seen = []; known = 2; turns = a_turn ∷ record { found = 0; left = 0; failed = false } ∷ []; faults = 4; fixed = 0 ∷ 1 ∷ [] })
  -- no turn takes an entry or a fault back, or changes the fixed part
  pub no_entry_lost : MayGive 1 (book_at (by_second ∷ []) 4) (book_at [] 4) → ⊥
  pub no_fault_lost : MayGive 1 (book_at [] 4) (book_at [] 3) → ⊥
  pub no_other_part : MayGive 1 (book_at [] 4) (record (book_at [] 4) { fixed = [] }) → ⊥
  -- a turn may leave all as it was, or settled entries, but no entry of another pass
  pub still : MayGive 1 (book_at (by_second ∷ []) 4) (book_at (by_second ∷ []) 4)
  pub settles : MayGive 1 (book_at [] 4) (book_at (once_settled ∷ []) 4)
  pub no_other_entry : MayGive 1 (book_at [] 4) (book_at (by_second ∷ []) 4) → ⊥
  -- nor 2^64 entries
  pub no_room : (found : Book) → MayGive 1 found (book_at (replicate (2 ^ 64) by_first) 4) → ⊥
  -- what it has seen when it took the turn above, and what it has when it gave it
  pub taken_so : PassTakes (pass_at []) (book_at (by_second ∷ []) 4) (pass_at (by_second ∷ []))
  pub given_so : PassGives (pass_at (by_second ∷ [])) (book_at (by_second ∷ []) 4) (book_at (by_second ∷ by_first ∷ []) 5) (record { number = 1; seen = by_second ∷ by_first ∷ []; known = 2; turns = a_turn ∷ record { found = 1; left = 2; failed = true } ∷ []; faults = 5; fixed = 0 ∷ 1 ∷ [] })
  -- a turn at the last count counts as failed
  pub failed_at_the_last : turn_between (book_at [] last_count) (book_at [] last_count) ≡ record { found = 0; left = 0; failed = true }
  -- the turns of a Start and a page, which settle what pass 1 had left in doubt, and of a status of owner 5, which doesn't
  pub start_in_turn : (store : KeyedStore) → TurnAnswers store [] (by_first ∷ []) (caller_of 2 1) (a_call ls_call) (read_and_drew first_time high_bytes) (first_settled ∷ started_by 2 high_id first_time ∷ []) [] (to_call (began high_id))
  pub page_in_turn : (store : KeyedStore) → TurnAnswers store [] (by_first ∷ []) (caller_of 1 2) (a_page 5 two_records) used_nothing (first_settled ∷ worker_batch) [] (to_page (took 2))
  pub status_in_turn : (store : KeyedStore) → TurnAnswers store worker_batch (by_first ∷ []) (caller_of 1 3) (a_read (status_read 5)) used_nothing worker_batch (by_first ∷ []) (to_read (told_status (record { host = 2; tag = codes "kv"; count = 2 } ∷ [])))
  -- a Status that is a call settles nothing either, and a page may be told want of memory before it settles
  pub call_in_turn : (store : KeyedStore) → TurnAnswers store [] (by_first ∷ []) (caller_of 1 2) (a_call status_call) used_nothing [] (by_first ∷ []) (to_call (places []))
  pub page_unheld_in_turn : (store : KeyedStore) → TurnAnswers store [] (by_first ∷ []) (caller_of 1 2) (a_page 5 two_records) used_nothing [] (by_first ∷ []) (to_page page_no_memory)
  -- what asks the store nothing is answered in a turn that leaves all, with a commit in doubt too
  pub bad_in_turn : (store : KeyedStore) → TurnAnswers store [] (by_first ∷ []) (caller_of 1 2) (no_call 14) used_nothing [] (by_first ∷ []) (to_call (refused (bad_request 14)))
  pub bad_unheld_in_turn : (store : KeyedStore) → TurnAnswers store [] (by_first ∷ []) (caller_of 1 2) (no_call 14) used_nothing [] (by_first ∷ []) (to_call (refused no_memory))
  pub nowhere_in_turn : (store : KeyedStore) → TurnAnswers store [] (by_first ∷ []) (caller_of 1 2) (unrouted 404) used_nothing [] (by_first ∷ []) (to_unrouted 404)
  pub unheld_in_turn : (store : KeyedStore) → TurnAnswers store [] (by_first ∷ []) (caller_of 1 2) (unrouted 404) used_nothing [] (by_first ∷ []) (to_unrouted 503)
  pub call_unread_in_turn : (store : KeyedStore) → TurnAnswers store [] (by_first ∷ []) (caller_of 1 2) (a_call ls_call) used_nothing [] (by_first ∷ []) (to_call (refused no_memory))
  -- and whatever it leaves, it neither settles a commit in doubt nor loses it
  pub bad_keeps_doubt : (store : KeyedStore) (after : List Entry) (answer : SessionAnswer) → TurnAnswers store [] (by_first ∷ []) (caller_of 1 2) (no_call 14) used_nothing after [] answer → ⊥
  pub nowhere_keeps_doubt : (store : KeyedStore) (after : List Entry) (answer : SessionAnswer) → TurnAnswers store [] (by_first ∷ []) (caller_of 1 2) (unrouted 404) used_nothing after [] answer → ⊥

-- ---- a run of a store's turns

abbrev pub state_at : (entries doubt : List Entry) (faults : ℕ) → StoreState
state_at entries doubt faults = record { entries = entries; doubt = doubt; faults = faults }

abbrev pub page_turn : (call front : ℕ) → PageAnswer → StoreState → RunTurn
page_turn call front answer left = record { request = record { call = call; asked = a_page 5 two_records }; used = used_nothing; reply = record { front = front; answer = to_page answer }; left = left }

abbrev pub status_turn : (call : ℕ) → StoreState → RunTurn
status_turn call left = record { request = record { call = call; asked = a_read (status_read 5) }; used = used_nothing; reply = record { front = 0; answer = to_read (told_status []) }; left = left }

-- a page whose commit fails and stays in doubt, a status, and the page again, which is settled first
abbrev pub doubtful_run : List RunTurn
doubtful_run = page_turn 2 0 page_faulted (state_at [] worker_batch 1) ∷ status_turn 3 (state_at [] worker_batch 1) ∷ page_turn 4 2 (took 0) (state_at (map settled_entry worker_batch) [] 1) ∷ []

-- the same, but that the commit is lost
abbrev pub lost_run : List RunTurn
lost_run = page_turn 2 0 page_faulted (state_at [] [] 1) ∷ status_turn 3 (state_at [] [] 1) ∷ []

pub record WorkedRuns : Type 0 where
  -- the store of a fixed part has its host and its key
  pub store_is : (sealing : Sealing) → store_of sealing (2 ∷ 7 ∷ 8 ∷ []) ≡ keyed_store sealing 2 (7 ∷ 8 ∷ [])
  pub no_other_host : (sealing : Sealing) → (store_of sealing (2 ∷ 7 ∷ 8 ∷ [])).host ≡ 3 → ⊥
  pub doubtful : (store : KeyedStore) → IsRun store 1 (state_at [] [] 0) doubtful_run
  pub lost : (store : KeyedStore) → IsRun store 1 (state_at [] [] 0) lost_run
  pub ends : last_left (state_at [] [] 0) doubtful_run ≡ state_at (map settled_entry worker_batch) [] 1
  pub one_told : disk_faults (run_replies doubtful_run) ≡ 1
  -- no reply of it says whether the commit was lost, so it isn't alike the other one
  pub not_alike : AreAlike lost_run (page_turn 2 0 page_faulted (state_at [] worker_batch 1) ∷ status_turn 3 (state_at [] worker_batch 1) ∷ []) → ⊥
  -- a turn begins with what the one before left in doubt
  pub doubt_kept : (store : KeyedStore) → IsRun store 1 (state_at [] [] 0) (page_turn 2 0 page_faulted (state_at [] worker_batch 1) ∷ status_turn 3 (state_at [] [] 1) ∷ []) → ⊥
  -- a fault is told where one was counted, or the count stands at its last value
  pub uncounted : (store : KeyedStore) → StoreTurn store (state_at [] [] 4) (caller_of 1 2) (a_page 5 two_records) used_nothing (state_at [] [] 4) (to_page page_faulted) → ⊥
  pub at_last_count : (store : KeyedStore) → StoreTurn store (state_at [] [] last_count) (caller_of 1 2) (a_page 5 two_records) used_nothing (state_at [] [] last_count) (to_page page_faulted)

-- ---- a session over HTTP

-- the two records were posted by pass 2, behind a Start of pass 1
abbrev pub posted : List Entry
posted = started_by 1 (made_id second_time ten_bytes) second_time ∷ taken_entry (caller_of 2 1) 5 (kv_record 0 1000) ∷ taken_entry (caller_of 2 1) 5 (kv_record 1 1001) ∷ []

abbrev pub http_asked : List Asked
http_asked = a_page 5 two_records ∷ a_read (status_read 5) ∷ a_read (page_read 5 2 (codes "kv") 1 100) ∷ unrouted 404 ∷ unrouted 401 ∷ a_read (page_read 5 2 (codes "kv") 0 100) ∷ a_read (status_read 5) ∷ []

abbrev pub http_answers : List SessionAnswer
http_answers = to_page (took 2) ∷ to_read (told_status (record { host = 2; tag = codes "kv"; count = 2 } ∷ [])) ∷ to_read (told_page (kv_record 1 1001 ∷ [])) ∷ to_unrouted 404 ∷ to_unrouted 401 ∷ to_read read_faulted ∷ to_read read_no_memory ∷ []

pub record WorkedHttp : Type 0 where
  -- A page is posted, a status and a page are got, there is no such path, a token is no one's, the disk failed, and memory was wanting, which ends it.
  pub session : (store : KeyedStore) → HttpSession store [] 2 http_asked (3 ∷ 3 ∷ 3 ∷ 3 ∷ 3 ∷ 3 ∷ 3 ∷ []) http_answers posted
  -- what asks the store nothing may be told want of memory, and then nothing more is told
  pub unheld : (store : KeyedStore) → HttpSession store [] 2 (unrouted 401 ∷ []) (0 ∷ []) (to_unrouted 503 ∷ []) []
  pub not_behind_503 : (store : KeyedStore) → HttpSession store [] 2 (unrouted 401 ∷ unrouted 404 ∷ []) (0 ∷ 0 ∷ []) (to_unrouted 503 ∷ to_unrouted 404 ∷ []) [] → ⊥
  -- it begins with no request, at any journal
  pub begins : (store : KeyedStore) → HttpSession store posted 2 [] [] [] posted
  pub codes_are : map response_code http_answers ≡ Some 200 ∷ Some 200 ∷ Some 200 ∷ Some 404 ∷ Some 401 ∷ Some 500 ∷ Some 503 ∷ []
  -- the codes of a page that is refused, or fails
  pub refusals_are : map response_code (to_page (page_refused (PageTooLong 100 0)) ∷ to_page (page_refused (PageForked 0 7)) ∷ to_page (page_refused (PageGap 0 2)) ∷ to_page (page_refused (PageFull (record { what = 3; held = 4096 }))) ∷ to_page page_faulted ∷ to_page page_no_memory ∷ [])
      ≡ Some 413 ∷ Some 409 ∷ Some 409 ∷ Some 507 ∷ Some 500 ∷ Some 503 ∷ []
  -- a front is a read too, which no request asks for; a call has no code
  pub others_are : map response_code (to_read (told_front 3) ∷ to_call (stored 0) ∷ []) ≡ Some 200 ∷ None ∷ []
  pub no_front : IsHttp (a_read front_read) → ⊥
  pub no_call_comes : IsHttp (a_call status_call) → ⊥
  pub no_bytes_come : IsHttp (no_call 0) → ⊥
  pub refused_before : (IsHttp (unrouted 400) × IsHttp (unrouted 401)) × (IsHttp (unrouted 404) × IsHttp (unrouted 405))
  pub no_other_code : (code : ℕ) → IsHttp (unrouted code) → ((code ≡ 400) ⊎ (code ≡ 401)) ⊎ ((code ≡ 404) ⊎ (code ≡ 405))
  -- a page that comes may be empty, and so may one that is got
  pub empty_comes : IsHttp (a_page 5 [])
  pub empty_is_got : IsHttp (a_read (page_read 5 2 (codes "kv") 0 0))
  -- a fault may be told to what writes and to a page that is read, and to nothing else
  pub start_may_fault : MayFault (a_call ls_call)
  pub status_call_may_not : MayFault (a_call status_call) → ⊥
  pub bad_may_not : MayFault (no_call 0) → ⊥
  pub post_may_fault : MayFault (a_page 5 two_records)
  pub page_may_fault : MayFault (a_read (page_read 5 2 (codes "kv") 0 100))
  pub status_may_not : MayFault (a_read (status_read 5)) → ⊥
  pub front_may_not : MayFault (a_read front_read) → ⊥
  pub unrouted_may_not : MayFault (unrouted 404) → ⊥
  -- each front beside its answer
  pub beside : at_fronts (1 ∷ 3 ∷ []) (to_unrouted 404 ∷ to_page (took 2) ∷ []) ≡ record { front = 1; answer = to_unrouted 404 } ∷ record { front = 3; answer = to_page (took 2) } ∷ []
  -- and nothing beside what has none, which no session has
  pub front_alone : at_fronts (1 ∷ []) [] ≡ []
  pub answer_alone : at_fronts [] (to_unrouted 404 ∷ []) ≡ []
  pub no_front_alone : (store : KeyedStore) → HttpSession store [] 2 [] (0 ∷ []) [] [] → ⊥
  pub no_answer_alone : (store : KeyedStore) → HttpSession store [] 2 [] [] (to_unrouted 404 ∷ []) [] → ⊥
  -- and a page that the disk failed, with a turn that failed
  pub failed_read_turn : TurnsOf [] (record { front = 1; answer = to_read read_faulted } ∷ []) (record { found = 1; left = 1; failed = true } ∷ [])
  pub no_failed_read_turn : TurnsOf [] (record { front = 1; answer = to_read read_faulted } ∷ []) (record { found = 1; left = 1; failed = false } ∷ []) → ⊥
