-- A reply to a call that may be asked, at a sound journal, is short.
use Rattle.std.proofs.Common.{◌≡◌, ℕ, ◌+◌, ◌-◌, ◌<◌, ◌≤◌, ◌*◌, ◌^◌, pos, Some, None, List, ◌∷◌, ◌++◌, length, take, drop, arith}
use Rattle.std.specs.Prelude.{All}
use Rattle.std.specs.List.{flat_map, sum_by}
use Rattle.std.proofs.lemmas.List.{length-take, length-drop}
use Rattle.std.proofs.lemmas.List.Sums.{sum_by-le}
use Rattle.definitions.specs.Spelling.{written_text, written_array}
use Rattle.definitions.specs.Ids.{id_text, hyphenated}
use Rattle.definitions.specs.Journal.{HistoryRecord}
use Rattle.definitions.specs.Limits.{most_places, most_tag_bytes}
use Rattle.definitions.specs.Search.{hit_bytes}
use Rattle.definitions.specs.Replies.{written_number, hit_item, ok_bytes}
use Rattle.definitions.proofs.Ids.{id_text-length}
use Rattle.definitions.proofs.Lengths.{integer-short, array-short, text-short, id-short, both-short, hit_item-short, ok_bytes-short, refusal_bytes-short, refusal_of_bytes-short, items-short}
use Rattle.payload_rules.specs.Items.{written_nil}
use Rattle.record_rules.specs.Journal.{ChainCount}
use Rattle.view_rules.specs.Answers.{Named, named_bytes}
use Rattle.step_rules.specs.Answers.{Refusal, too_long, unknown_id, unknown_name, full, random_fault, id_taken, disk_fault, no_memory, bad_request, Answer, began, stored, hits, value_is, keys, aliases, places, refused}
use Rattle.session_rules.specs.Bytes.{written_list, alias_item, place_item, refused_bytes, answer_bytes}
use Rattle.session_rules.specs.Within.{most_reply_bytes, ShowsWithin}

-- ---- from what is shown to bytes

take-short : {A : Type 0} (n : ℕ) (xs : List A) → length (take n xs) ≤ n
take-short n xs = let is = length-take n xs in omega (arith, is)

drop-short : {A : Type 0} (n m : ℕ) (xs : List A) → length xs ≡ n + m → length (drop n xs) ≤ m
drop-short n m xs is = let left = length-drop n xs in omega (arith, is, left)

-- a byte and what stands behind it
then-short : (byte : ℕ) (xs : List ℕ) (n : ℕ) → length xs ≤ n → length (byte ∷ xs) ≤ 1 + n
then-short byte xs n short = omega (arith, short)

hyphenated-short : (id : ℕ) → length (hyphenated id) ≤ 36
hyphenated-short id =
    let last = drop-short 20 12 (id_text id) (id_text-length id) in
    let fourth = both-short (take 4 (drop 16 (id_text id))) (45 ∷ drop 20 (id_text id)) 4 (1 + 12) (take-short 4 (drop 16 (id_text id))) (then-short 45 (drop 20 (id_text id)) 12 last) in
    let third = both-short (take 4 (drop 12 (id_text id))) (45 ∷ (take 4 (drop 16 (id_text id)) ++ 45 ∷ drop 20 (id_text id))) 4 (1 + (4 + (1 + 12))) (take-short 4 (drop 12 (id_text id))) (then-short 45 _ (4 + (1 + 12)) fourth) in
    let second = both-short (take 4 (drop 8 (id_text id))) (45 ∷ (take 4 (drop 12 (id_text id)) ++ 45 ∷ (take 4 (drop 16 (id_text id)) ++ 45 ∷ drop 20 (id_text id)))) 4 (1 + (4 + (1 + (4 + (1 + 12))))) (take-short 4 (drop 8 (id_text id))) (then-short 45 _ (4 + (1 + (4 + (1 + 12)))) third) in
    both-short (take 8 (id_text id)) (45 ∷ (take 4 (drop 8 (id_text id)) ++ 45 ∷ (take 4 (drop 12 (id_text id)) ++ 45 ∷ (take 4 (drop 16 (id_text id)) ++ 45 ∷ drop 20 (id_text id))))) 8 (1 + (4 + (1 + (4 + (1 + (4 + (1 + 12)))))))
    (take-short 8 (id_text id)) (then-short 45 _ (4 + (1 + (4 + (1 + (4 + (1 + 12)))))) second)

alias_item-short : (named : Named) → length (alias_item named) ≤ 512 + named_bytes named
alias_item-short named =
    let behind = both-short (written_text named.name) (written_text named.value) (5 + length named.name) (5 + length named.value) (text-short named.name) (text-short named.value) in
    let all = both-short (written_array 2) (written_text named.name ++ written_text named.value) 5 (5 + length named.name + (5 + length named.value)) (array-short 2) behind in
    omega (arith, all)

place_item-short : (chain : ChainCount) → length (place_item chain) ≤ 512 + length chain.tag
place_item-short chain =
    let text = text-short (hyphenated chain.host) in
    let host = hyphenated-short chain.host in
    let name : length (written_text (hyphenated chain.host)) ≤ 41 = omega (arith, text, host) in
    let last = both-short (written_text chain.tag) (written_number chain.count) (5 + length chain.tag) 9 (text-short chain.tag) (integer-short (pos chain.count)) in
    let behind = both-short (written_text (hyphenated chain.host)) (written_text chain.tag ++ written_number chain.count) 41 (5 + length chain.tag + 9) name last in
    let all = both-short (written_array 3) (written_text (hyphenated chain.host) ++ (written_text chain.tag ++ written_number chain.count)) 5 (41 + (5 + length chain.tag + 9)) (array-short 3) behind in
    omega (arith, all)

hit_item-within : (h : HistoryRecord) → length (hit_item h) ≤ 512 + hit_bytes h
hit_item-within h = let all = hit_item-short h in omega (arith, all)

key-short : (key : List ℕ) → length (written_text key) ≤ 512 + length key
key-short key = let all = text-short key in omega (arith, all)

-- a list whose items are short
list-short : {X : Type 0} (item : X → List ℕ) (bytes_of : X → ℕ) (xs : List X) (many most : ℕ) → ((x : X) → length (item x) ≤ 512 + bytes_of x) → length xs ≤ many → sum_by bytes_of xs ≤ most → length (written_list item xs) ≤ 5 + (512 * many + most)
list-short item bytes_of xs many most short few light =
    let items = items-short item bytes_of short xs in
    both-short (written_array (length xs)) (flat_map item xs) 5 (512 * many + most) (array-short (length xs)) (omega (arith, items, few, light))

ok-short : (front : ℕ) (item : List ℕ) (n : ℕ) → length item ≤ n → n < 2 ^ 31 - 24 → length (ok_bytes front item) ≤ most_reply_bytes
ok-short front item n short below = let all = ok_bytes-short front item n short in omega (arith, all, below)

refused-short : (front : ℕ) (refusal : Refusal) → ShowsWithin (refused refusal) → length (refused_bytes front refusal) ≤ most_reply_bytes
refused-short front (too_long field count) within =
    let last = both-short (written_number field) (written_number count) 9 9 (integer-short (pos field)) (integer-short (pos count)) in
    let third = both-short (written_number front) (written_number field ++ written_number count) 9 (9 + 9) (integer-short (pos front)) last in
    let second = both-short (written_number 1) (written_number front ++ (written_number field ++ written_number count)) 9 (9 + (9 + 9)) (integer-short (pos 1)) third in
    let all = both-short (written_array 4) (written_number 1 ++ (written_number front ++ (written_number field ++ written_number count))) 5 (9 + (9 + (9 + 9))) (array-short 4) second in
    omega (arith, all)
refused-short front (unknown_id id) within = let all = refusal_of_bytes-short 2 front (written_text (id_text id)) 37 (id-short id) in omega (arith, all)
refused-short front (unknown_name name) within = let all = refusal_of_bytes-short 3 front (written_text name) (5 + length name) (text-short name) in omega (arith, all, within)
refused-short front (full passed) within =
    let last = both-short (written_number passed.what) (written_number passed.held) 9 9 (integer-short (pos passed.what)) (integer-short (pos passed.held)) in
    let third = both-short (written_number front) (written_number passed.what ++ written_number passed.held) 9 (9 + 9) (integer-short (pos front)) last in
    let second = both-short (written_number 4) (written_number front ++ (written_number passed.what ++ written_number passed.held)) 9 (9 + (9 + 9)) (integer-short (pos 4)) third in
    let all = both-short (written_array 4) (written_number 4 ++ (written_number front ++ (written_number passed.what ++ written_number passed.held))) 5 (9 + (9 + (9 + 9))) (array-short 4) second in
    omega (arith, all)
refused-short front random_fault within = let all = refusal_bytes-short 5 front in omega (arith, all)
refused-short front (id_taken id) within = let all = refusal_of_bytes-short 6 front (written_text (id_text id)) 37 (id-short id) in omega (arith, all)
refused-short front disk_fault within = let all = refusal_bytes-short 7 front in omega (arith, all)
refused-short front no_memory within = let all = refusal_bytes-short 8 front in omega (arith, all)
refused-short front (bad_request place) within = let all = refusal_of_bytes-short 9 front (written_number place) 9 (integer-short (pos place)) in omega (arith, all)

-- the tags of so many places
tags-light : (found : List ChainCount) → length found ≤ most_places → All (λ (chain : ChainCount). length chain.tag ≤ most_tag_bytes) found → sum_by (λ (chain : ChainCount). length chain.tag) found ≤ 4096 * 256
tags-light found few light = let sum = sum_by-le (λ (chain : ChainCount). length chain.tag) 256 found light in omega (arith, sum, few)

pub answer-short : (front : ℕ) (answer : Answer) → ShowsWithin answer → length (answer_bytes front answer) ≤ most_reply_bytes
answer-short front (began id) within = ok-short front (written_text (id_text id)) 37 (id-short id) (omega arith)
answer-short front (stored idx) within = ok-short front (written_number idx) 9 (integer-short (pos idx)) (omega arith)
answer-short front (hits found) within = ok-short front (written_list hit_item found) (5 + (512 * 1000 + 4194304)) (list-short hit_item hit_bytes found 1000 4194304 hit_item-within within.0 within.1) (omega arith)
answer-short front (value_is None) within = ok-short front written_nil 1 (omega arith) (omega arith)
answer-short front (value_is (Some value)) within = ok-short front (written_text value) (5 + 4194304) (let text = text-short value in omega (arith, text, within)) (omega arith)
answer-short front (keys found) within = ok-short front (written_list written_text found) (5 + (512 * 1000 + 4194304)) (list-short written_text (λ (key : List ℕ). length key) found 1000 4194304 key-short within.0 within.1) (omega arith)
answer-short front (aliases found) within = ok-short front (written_list alias_item found) (5 + (512 * 1000 + 4194304)) (list-short alias_item named_bytes found 1000 4194304 alias_item-short within.0 within.1) (omega arith)
answer-short front (places found) within =
    ok-short front (written_list place_item found) (5 + (512 * 4096 + 4096 * 256)) (list-short place_item (λ (chain : ChainCount). length chain.tag) found 4096 (4096 * 256) place_item-short within.0 (tags-light found within.0 within.1)) (omega arith)
answer-short front (refused refusal) within = refused-short front refusal within
