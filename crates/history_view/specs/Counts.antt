-- How many of the commands that are shown have a text, by its number, in each of their parts.
use Rattle.std.specs.Prelude.{◌≡◌, ℕ, ◌≤◌, List, length, get_or, Option, None, Some, cond, ◌==◌}
use Rattle.std.specs.List.{sum_by}
use Rattle.std.specs.Map.{values_of}
use Rattle.history_view.specs.declared.rows.TextNumbers.{TextNumbers}
use Rattle.history_view.specs.declared.tallies.Tallies.{Tallies}
use Rattle.history_view.specs.Places.{OrderKey}

-- for each number of a text of how many commands it is the command, the working directory, the session, the host name
pub record Counts : Type 0 where
  pub commands : List ℕ
  pub cwds : List ℕ
  pub sessions : List ℕ
  pub hostnames : List ℕ

abbrev pub counts_of : Tallies → Counts
counts_of t = record { commands = t.commands.items; cwds = t.cwds.items; sessions = t.sessions.items; hostnames = t.hostnames.items }

-- the part of a command that a text is
pub data Part : Type 0 where
  the_command : Part
  the_cwd : Part
  the_session : Part
  the_hostname : Part

-- it holds of each part
pub record EachPart (P : Part → Type 0) : Type 0 where
  pub command : P the_command
  pub cwd : P the_cwd
  pub session : P the_session
  pub hostname : P the_hostname

abbrev pub tally_of : Counts → Part → List ℕ
tally_of counts the_command = counts.commands
tally_of counts the_cwd = counts.cwds
tally_of counts the_session = counts.sessions
tally_of counts the_hostname = counts.hostnames

abbrev pub number_of : Part → TextNumbers → ℕ
number_of the_command numbers = numbers.command
number_of the_cwd numbers = numbers.cwd
number_of the_session numbers = numbers.session
number_of the_hostname numbers = numbers.hostname

abbrev pub count_of : Counts → Part → ℕ → ℕ
count_of counts part n = get_or (tally_of counts part) n 0

-- 1 where the command that stands at a key has this text there
abbrev pub has_number : Part → ℕ → Option TextNumbers → ℕ
has_number part n None = 0
has_number part n (Some numbers) = cond (number_of part numbers == n) 1 0

-- 1 where a command stands at a key
abbrev pub is_shown : Option TextNumbers → ℕ
is_shown None = 0
is_shown (Some numbers) = 1

-- each count is that of the commands that stand in the order
abbrev pub AreCounted : Counts → List (OrderKey × Option TextNumbers) → Type 0
AreCounted counts order = EachPart (λ (part : Part). (n : ℕ) → count_of counts part n ≡ sum_by (has_number part n) (values_of order))

abbrev pub SameCounts : (old new : Counts) → Type 0
SameCounts old new = EachPart (λ (part : Part). (n : ℕ) → count_of new part n ≡ count_of old part n)

-- there is a count for each of so many texts
abbrev pub CountsReach : Counts → ℕ → Type 0
CountsReach counts most = EachPart (λ (part : Part). most ≤ length (tally_of counts part))
