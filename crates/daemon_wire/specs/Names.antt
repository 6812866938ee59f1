-- The numbers and the arguments of the calls that a payload names.
use Rattle.std.specs.Prelude.{ℕ, pos, List}
use Rattle.definitions.specs.Calls.{Kind}
use Rattle.definitions.specs.Reading.{kinds_of}
use Rattle.request_rules.specs.Requests.{call_kinds}
use Rattle.daemon_wire.specs.declared.names.CallName.{CallName}
use Rattle.daemon_wire.specs.declared.names.CallName.TheVariants as names

abbrev pub number_of : CallName → ℕ
number_of names.Start = 1
number_of names.End = 2
number_of names.Delete = 3
number_of names.Search = 4
number_of names.KvSet = 5
number_of names.KvGet = 6
number_of names.KvList = 7
number_of names.AliasSet = 8
number_of names.AliasDelete = 9
number_of names.AliasList = 10
number_of names.Status = 11
number_of names.AuthoredEnd = 12
number_of names.KvDelete = 13

-- what the arguments of the call are, by the table
abbrev pub kinds_named : CallName → List Kind
kinds_named name = kinds_of call_kinds (pos (number_of name))
