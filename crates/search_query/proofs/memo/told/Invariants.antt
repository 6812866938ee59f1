use Rattle.std.proofs.Common.{◌≡◌, ◌≢◌, ◌/◌, ◌%◌, length, true}
use Rattle.definitions.specs.Search.{matches_by}
use Rattle.search_query.specs.Answers.{IsTold, PassesBy}
use Rattle.search_query.proofs.memo.told.Given as goal

abbrev pub invariant-loop-number : goal.invariant-loop-number
invariant-loop-number l =
    IsTold l.view.texts (matches_by l.matching.mode l.matching.text) l.memo.items
    × (length l.memo.items ≡ l.number)
    × (l.number % 64 ≢ 0 → l.is_passed ≡ true → PassesBy l.view.texts (matches_by l.matching.mode l.matching.text) (l.number / 64))
