-- What a contract sees of a hasher that is given its text in pieces.
use Rattle.std.specs.Prelude.{◌≡◌, ℕ, ◌*◌, ◌%◌, ◌^◌, List, length, drop}
use Rattle.blake2b_core.specs.Hash.{initial_state, input_of, last_block, state_after}

-- the output's length, the state after the blocks that can't be the last, how many bytes they have,
-- and the bytes after them
pub record Hashing : Type 0 where
  pub out_len : ℕ
  pub state : List ℕ
  pub count : ℕ
  pub held : List ℕ

-- the state and the count of bytes, modulo 2 ^ 128, after the first n blocks of the input, from this start
pub record IsAfter (start input : List ℕ) (n : ℕ) (state : List ℕ) (count : ℕ) : Type 0 where
  pub state_is : state ≡ state_after start input n
  pub count_is : count ≡ 128 * n % 2 ^ 128

-- the hasher was made with this key, and its pieces so far, one after another, are this text
unfoldable pub Holds : Hashing → List ℕ → List ℕ → Type 0
Holds hashing key text =
    let input = input_of key text in
    let done = last_block input in
    IsAfter (initial_state hashing.out_len (length key)) input done hashing.state hashing.count
    × (hashing.held ≡ drop (128 * done) input)
