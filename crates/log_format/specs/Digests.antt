-- What the digest of a body in pieces was given.
use Rattle.std.specs.Prelude.{ℕ, List, [], ◌++◌}
use Rattle.std.specs.Int.{w32, w64, to_be_bytes}
use Rattle.blake2b_core.specs.Hashing.{Hashing, Holds}

-- the offset of the gate, the body's length, and these bytes of the body
abbrev pub Digests : Hashing → ℕ → ℕ → List ℕ → Type 0
Digests hashing offset count body = Holds hashing [] (to_be_bytes w64 offset ++ to_be_bytes w32 count ++ body)
