-- Statuses in JSON: {"hosts":{"HOST":{"TAG":last}}}. `last` is the last idx of a chain, so its count less 1.
use Rattle.std.specs.Prelude.{ℕ, ◌+◌, ◌-◌, ◌^◌, min, List, [], ◌∷◌, ◌++◌, codes, decimal, Option, Some, None, option_and_then, is_some, if◌then◌else◌, ◌==◌}
use Rattle.std.specs.BTreeMap.{insert_entry, is_at}
use Rattle.std.specs.Map.{lookup}
use Rattle.std.specs.Ordering.{nat_cmp}
use Rattle.json.specs.Token.{Token, begin_object, end_object, key, number}
use Rattle.json.specs.Print.{print}
use Rattle.definitions.specs.Ids.{hyphenated}
use Rattle.definitions.specs.Reading.{◌>>=◌}
use Rattle.record_rules.specs.Journal.{ChainCount}
use Rattle.serde_json.specs.Data.{Data, Members, no_members, member}
use Rattle.serde_json.specs.Find.{get, as_object}
use Rattle.record_json.specs.Json.{id_of, number_of}

-- ---- read

-- a chain with this last idx; a chain of 2^64 records counts as one of 2^64-1
abbrev pub counted : (host : ℕ) (tag : List ℕ) (last : ℕ) → ChainCount
counted host tag last = record { host = host; tag = tag; count = min (last + 1) (2 ^ 64 - 1) }

-- the hosts so far, by number, with one more; none where it is there already
abbrev pub one_more_host : (host : ℕ) → Members → List (ℕ × Members) → Option (List (ℕ × Members))
one_more_host host tags found = if is_some (lookup (is_at (nat_cmp host)) found) then None else Some (insert_entry nat_cmp found host tags)

-- so the hosts with what a member says
abbrev pub host_added : (name : List ℕ) → Data → List (ℕ × Members) → Option (List (ℕ × Members))
host_added name value found = do
  host ← id_of name
  tags ← as_object value
  one_more_host host tags found

-- each host once, in order, with the members of its object
abbrev pub hosts_in : Members → List (ℕ × Members) → Option (List (ℕ × Members))
hosts_in no_members found = Some found
hosts_in (member name value later) found = do
  more ← host_added name value found
  hosts_in later more

-- the chains of a host
abbrev pub chains_under : (host : ℕ) → Members → Option (List ChainCount)
chains_under host no_members = Some []
chains_under host (member tag value later) = do
  last ← number_of value
  more ← chains_under host later
  Some (counted host tag last ∷ more)

-- the chains of each host, one after another
abbrev pub chains_of_all : List (ℕ × Members) → Option (List ChainCount)
chains_of_all [] = Some []
chains_of_all (host ∷ later) = do
  chains ← chains_under host.0 host.1
  more ← chains_of_all later
  Some (chains ++ more)

-- the status that a value stands for, if it stands for one: other members beside the hosts are ignored
abbrev pub status_in : Data → Option (List ChainCount)
status_in value = do
  hosts ← option_and_then as_object (get (codes "hosts") value)
  found ← hosts_in hosts []
  chains_of_all found

-- ---- written

-- what comes before a chain: nothing where its host's object is open, else the end of the one that is, and its host's beginning
abbrev pub host_begins : (host : ℕ) → List Token
host_begins host = key (hyphenated host) ∷ begin_object ∷ []

abbrev pub host_opens : (open_host : Option ℕ) (host : ℕ) → List Token
host_opens None host = host_begins host
host_opens (Some other) host = if other == host then [] else end_object ∷ host_begins host

abbrev pub host_ends : Option ℕ → List Token
host_ends None = []
host_ends (Some host) = end_object ∷ []

-- "TAG":last
abbrev pub chain_tokens : ChainCount → List Token
chain_tokens chain = key chain.tag ∷ number (decimal (chain.count - 1)) ∷ []

-- the members of `hosts`, from where the object of a host may be open: chains of one host that follow one another share it
abbrev pub hosts_tokens : Option ℕ → List ChainCount → List Token
hosts_tokens open_host [] = host_ends open_host
hosts_tokens open_host (chain ∷ chains) = (host_opens open_host chain.host ++ chain_tokens chain) ++ hosts_tokens (Some chain.host) chains

-- without spaces, with the shortest escapes
abbrev pub status_text : List ChainCount → List ℕ
status_text chains = print (begin_object ∷ key (codes "hosts") ∷ begin_object ∷ hosts_tokens None chains ++ end_object ∷ end_object ∷ [])
