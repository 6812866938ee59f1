-- A book for the tests: the numbers of its entries, all alike but for these.
use Rattle.std.specs.Prelude.{◌≡◌, ℕ, ◌≤◌, List, [], ◌∷◌, ◌++◌, length, map, ◌⊎◌}
use Rattle.record_rules.specs.Records.{Entry, Started}
use Rattle.session_rules.specs.Books.{Book}

abbrev pub numbered_entry : ℕ → Entry
numbered_entry number = record {
  caller = record { number = number; call = 0; settled_for = 0 };
  event = Started (record { id = 0; timestamp = 0; command = []; cwd = []; session = []; hostname = [] });
}

abbrev pub number_book : List ℕ → Book
number_book numbers = record { entries = map numbered_entry numbers; faults = 0; fixed = [] }

-- the number was added, or the book is as it was
abbrev pub AddsOne : List ℕ → List ℕ → ℕ → Type 0
AddsOne old new number = (new ≡ old) ⊎ ((new ≡ old ++ number ∷ []) × (length new ≤ 200000))
