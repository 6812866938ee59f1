-- How long is what is written.
use Rattle.std.specs.Prelude.{◌≡◌, ℕ, ◌+◌, ◌≤◌, ◌*◌, ℤ, pos, negsuc, List, [], ◌∷◌, ◌++◌, length, Option, Some, None}
use Rattle.std.specs.List.{flat_map, sum_by}
use Rattle.std.proofs.Common.{arith, length-append}
use Rattle.std.proofs.lemmas.List.Sums.{sum_by-cons}
use Rattle.definitions.specs.Spelling.{shortest_unsigned, shortest_negative, shortest_text, shortest_array, text_head, written_integer, written_text, written_array}
use Rattle.definitions.specs.Ids.{id_text}
use Rattle.definitions.specs.Journal.{HistoryRecord}
use Rattle.definitions.specs.Search.{hit_bytes, author_length}
use Rattle.definitions.specs.Replies.{written_number, written_author, hit_length, hit_item, ok_bytes, refusal_bytes, refusal_of_bytes}
use Rattle.definitions.proofs.Spelling.{integer_form_length, text_head_length, array_form_length}
use Rattle.definitions.proofs.Ids.{id_text-length}

pub integer-short : (z : ℤ) → length (written_integer z) ≤ 9
integer-short (pos n) = (integer_form_length (shortest_unsigned n) (pos n)).1
integer-short (negsuc n) = (integer_form_length (shortest_negative n) (negsuc n)).1

pub array-short : (n : ℕ) → length (written_array n) ≤ 5
array-short n = (array_form_length (shortest_array n) n).1

pub text-short : (text : List ℕ) → length (written_text text) ≤ 5 + length text
text-short text =
    let head = (text_head_length (shortest_text (length text)) (length text)).1 in
    let whole = length-append (text_head (shortest_text (length text)) (length text)) text in
    omega (arith, head, whole)

pub id-short : (id : ℕ) → length (written_text (id_text id)) ≤ 37
id-short id = let text = text-short (id_text id) in let many = id_text-length id in omega (arith, text, many)

-- two parts, one behind the other
pub both-short : (xs ys : List ℕ) (m n : ℕ) → length xs ≤ m → length ys ≤ n → length (xs ++ ys) ≤ m + n
both-short xs ys m n first second = let all = length-append xs ys in omega (arith, all, first, second)

author-short : (author : Option (List ℕ)) → length (written_author author) ≤ 5 + author_length author
author-short None = omega arith
author-short (Some author) = text-short author

pub hit_item-short : (h : HistoryRecord) → length (hit_item h) ≤ 100 + hit_bytes h
hit_item-short h =
    let all =
    both-short (written_array (hit_length h.author)) _ 5 _ (array-short (hit_length h.author)) (both-short (written_text (id_text h.id)) _ 37 _ (id-short h.id) (both-short (written_number h.timestamp) _ 9 _ (integer-short (pos h.timestamp))
    (both-short (written_integer h.duration) _ 9 _ (integer-short h.duration) (both-short (written_integer h.exit) _ 9 _ (integer-short h.exit) (both-short (written_text h.command) _ (5 + length h.command) _ (text-short h.command)
    (both-short (written_text h.cwd) _ (5 + length h.cwd) _ (text-short h.cwd) (both-short (written_text h.session) _ (5 + length h.session) _ (text-short h.session)
    (both-short (written_text h.hostname) (written_author h.author) (5 + length h.hostname) (5 + author_length h.author) (text-short h.hostname) (author-short h.author))))))))) in
    omega (arith, all)

-- what is written behind the head of a reply
pub ok_bytes-short : (front : ℕ) (item : List ℕ) (n : ℕ) → length item ≤ n → length (ok_bytes front item) ≤ 23 + n
ok_bytes-short front item n short =
    let behind = both-short (written_number front) item 9 n (integer-short (pos front)) short in
    let all = both-short (written_array 3) (written_number 0 ++ (written_number front ++ item)) 5 (9 + (9 + n)) (array-short 3) (both-short (written_number 0) (written_number front ++ item) 9 (9 + n) (integer-short (pos 0)) behind) in
    omega (arith, all)

pub refusal_bytes-short : (number front : ℕ) → length (refusal_bytes number front) ≤ 23
refusal_bytes-short number front = let all = both-short (written_array 2) _ 5 _ (array-short 2) (both-short (written_number number) (written_number front) 9 9 (integer-short (pos number)) (integer-short (pos front))) in omega (arith, all)

pub refusal_of_bytes-short : (number front : ℕ) (value : List ℕ) (n : ℕ) → length value ≤ n → length (refusal_of_bytes number front value) ≤ 23 + n
refusal_of_bytes-short number front value n short =
    let behind = both-short (written_number front) value 9 n (integer-short (pos front)) short in
    let all = both-short (written_array 3) (written_number number ++ (written_number front ++ value)) 5 (9 + (9 + n)) (array-short 3) (both-short (written_number number) (written_number front ++ value) 9 (9 + n) (integer-short (pos number)) behind) in
    omega (arith, all)

-- items of which each is at most 512 bytes longer than its texts
module _ {X : Type 0} (item : X → List ℕ) (bytes_of : X → ℕ) (short : (x : X) → length (item x) ≤ 512 + bytes_of x) where
  pub items-short : (xs : List X) → length (flat_map item xs) ≤ 512 * length xs + sum_by bytes_of xs
  items-short [] = omega arith
  items-short (x ∷ xs) =
      let all : length (flat_map item (x ∷ xs)) ≡ length (item x) + length (flat_map item xs) = length-append (item x) (flat_map item xs) in
      let sum = sum_by-cons bytes_of x xs in
      let here = short x in
      let rest = items-short xs in
      omega (arith, all, sum, here, rest)
