-- A body that is read in pieces from the disk: when it is a batch's, and when it is none's.
use Rattle.std.proofs.Common.{◌≡◌, ℕ, ◌+◌, ◌<◌, ◌≤◌, ◌^◌, ◌⊎◌, List, [], ◌++◌, length, take, drop, None, Some, Err, refl, sym, ◌∙◌, ap, subst, arith, take-take, take-add, drop-drop, take-append-drop}
use Rattle.std.proofs.lemmas.List.{length-take, length-drop}
use Rattle.definitions.specs.Spelling.{IsBytes}
use Rattle.record_rules.specs.Records.{Event}
use Rattle.log_rules.specs.Log.{batch_digest}
use Rattle.log_rules.specs.Pieces.{Pieces, Awaits, Over, next_in, end_fault}
use Rattle.log_format.specs.Answers.{Ends}
use Rattle.log_format.specs.declared.fails.FormatFail.{FormatFail}
use Rattle.log_format.specs.declared.fails.FormatFail.TheVariants as fails
use Rattle.at_edge.specs.Storing.{DiskSeen, Tells, Rests}
use Rattle.journal_check.specs.Tallies.{Tallies}
use Rattle.log_check.specs.Checking.{IsChecked, HasChecked, BadBody, TakesEvents, ReadsPiece, ReadsBody, BodyFound, NoBody}
use Rattle.log_check.specs.declared.checking.BatchFail.{BatchFail}
use Rattle.log_check.specs.declared.checking.BatchFail.TheVariants.{Bad, DiskFault, NoMemory}
use Rattle.log_check.proofs.Bodies.{finished, unfinished}
use Rattle.log_check.proofs.Telling.{tells_so, tells_both, tells_before}

-- the bytes so far and one more piece
pub one_more : (shows bytes piece : List ℕ) (from done count : ℕ) → bytes ≡ take done (drop from shows) → piece ≡ take count (drop (from + done) shows) → bytes ++ piece ≡ take (done + count) (drop from shows)
one_more shows bytes piece from done count bytes_are piece_is =
    (λ i. bytes_are i ++ (piece_is ∙ ap (take count) (sym (drop-drop done from shows))) i) ∙ sym (take-add done count (drop from shows))

-- where no batch has a body that begins so, none has the body that is shown
pub begun_badly : (shows bytes : List ℕ) (gate limit host count : ℕ) (before : List Event) → BadBody limit host before bytes → bytes ≡ take count (drop (gate + 5) shows) → count ≤ limit → gate + 5 + limit ≤ length shows → NoBody host gate limit before shows
begun_badly shows bytes gate limit host count before bad bytes_are few there events is same sound =
    let body = take limit (drop (gate + 5) shows) in
    let long : length body ≡ limit = (let t = length-take limit (drop (gate + 5) shows) in let d = length-drop (gate + 5) shows in omega (arith, t, d, there)) in
    let first : bytes ≡ take count body = bytes_are ∙ sym (take-take count limit (drop (gate + 5) shows) few) in
    let split : body ≡ bytes ++ drop count body = sym (take-append-drop count body) ∙ ap (λ (l : List ℕ). l ++ drop count body) (sym first) in
    bad events (drop count body) is (same ∙ split) (ap (λ (l : List ℕ). length l) (sym split) ∙ long) sound

-- the whole body
pub body_found : (seen : DiskSeen) (gate limit : ℕ) (digest bytes : List ℕ) (before : List Event) (pieces : Pieces) (check : Tallies) → HasChecked limit before bytes pieces check → IsBytes bytes → limit < 2 ^ 32 → length bytes ≡ limit → end_fault pieces ≡ None
    → digest ≡ batch_digest gate bytes → Tells seen (λ d. bytes ≡ take limit (drop (gate + 5) d.shows)) → BodyFound seen gate limit digest before check
body_found seen gate limit digest bytes before pieces check has are short long ends digest_is shown =
    let whole = finished limit before bytes pieces check has are short long ends in
    record { body = bytes; long = long; shown = shown; digest_is = digest_is; events = has.given; batch = whole.0; body_is = whole.1; checked = has.checked }

pub ends_badly : (shows bytes : List ℕ) (gate limit host place : ℕ) (before : List Event) (pieces : Pieces) (check : Tallies) → HasChecked limit before bytes pieces check → (next_in pieces ≡ Awaits) ⊎ (next_in pieces ≡ Over) → pieces.reading.limit ≡ limit → end_fault pieces ≡ Some place
    → length bytes ≡ limit → bytes ≡ take limit (drop (gate + 5) shows) → NoBody host gate limit before shows
ends_badly shows bytes gate limit host place before pieces check has awaits limit_is ends long bytes_are events is same sound =
    unfinished limit place before bytes pieces check has awaits limit_is ends events is (same ∙ sym bytes_are) long

-- ---- on a disk that may tell

-- one piece more of what is shown
pub shows_more : (seen now : DiskSeen) (gate at done count : ℕ) (bytes piece : List ℕ) → Rests seen now → Tells seen (λ d. bytes ≡ take done (drop (gate + 5) d.shows)) → Tells now (λ d. piece ≡ take (length piece) (drop at d.shows)) → at ≡ gate + 5 + done → length piece ≡ count
    → Tells seen (λ d. bytes ++ piece ≡ take (done + count) (drop (gate + 5) d.shows))
shows_more seen now gate at done count bytes piece rests shown piece_shown at_is counted =
    tells_so seen (λ d. (bytes ≡ take done (drop (gate + 5) d.shows)) × (piece ≡ take (length piece) (drop at d.shows))) (λ d. bytes ++ piece ≡ take (done + count) (drop (gate + 5) d.shows))
    (λ d told. one_more d.shows bytes piece (gate + 5) done count told.0 (told.1 ∙ (λ i. take (counted i) (drop (at_is i) d.shows))))
    (tells_both seen (λ d. bytes ≡ take done (drop (gate + 5) d.shows)) (λ d. piece ≡ take (length piece) (drop at d.shows)) shown (tells_before seen now (λ d. piece ≡ take (length piece) (drop at d.shows)) rests piece_shown))

-- bytes that no batch's body begins with
pub bad_there : (seen : DiskSeen) (gate limit host count : ℕ) (before : List Event) (bytes : List ℕ) → BadBody limit host before bytes → Tells seen (λ d. gate + 5 + limit ≤ length d.shows) → Tells seen (λ d. bytes ≡ take count (drop (gate + 5) d.shows)) → count ≤ limit
    → Tells seen (λ d. NoBody host gate limit before d.shows)
bad_there seen gate limit host count before bytes bad there shown few =
    tells_so seen (λ d. (gate + 5 + limit ≤ length d.shows) × (bytes ≡ take count (drop (gate + 5) d.shows))) (λ d. NoBody host gate limit before d.shows)
    (λ d told. begun_badly d.shows bytes gate limit host count before bad told.1 few told.0)
    (tells_both seen (λ d. gate + 5 + limit ≤ length d.shows) (λ d. bytes ≡ take count (drop (gate + 5) d.shows)) there shown)

-- before the first piece
pub bad_at_once : (seen : DiskSeen) (gate limit host : ℕ) (before : List Event) → BadBody limit host before [] → Tells seen (λ d. gate + 5 + limit ≤ length d.shows) → Tells seen (λ d. NoBody host gate limit before d.shows)
bad_at_once seen gate limit host before bad there = bad_there seen gate limit host 0 before [] bad there (tells_so seen (λ d. gate + 5 + limit ≤ length d.shows) (λ d. [] ≡ take 0 (drop (gate + 5) d.shows)) (λ d told. refl) there) (omega arith)

-- a piece that isn't taken
pub piece_fails : (fail : BatchFail) (seen now : DiskSeen) (gate limit at done count : ℕ) (old was new : Tallies) (reader next : Pieces) (bytes piece : List ℕ) → Rests seen now → Tells seen (λ d. gate + 5 + limit ≤ length d.shows)
    → ((before : List Event) → IsChecked old before → HasChecked limit before bytes reader was) → was.host ≡ old.host → Tells seen (λ d. bytes ≡ take done (drop (gate + 5) d.shows)) → ReadsPiece {T = Unit {0}} (Err fail) now at piece → at ≡ gate + 5 + done → length piece ≡ count → done + count ≤ limit
    → ((before : List Event) → HasChecked limit before bytes reader was → TakesEvents {T = Unit {0}} (Err fail) limit was.host before (bytes ++ piece) next new) → ReadsBody (Err fail) seen gate limit old new
piece_fails Bad seen now gate limit at done count old was new reader next bytes piece rests there checked host shown piece_shown at_is counted few takes = λ before is.
    let bad : BadBody limit old.host before (bytes ++ piece) = subst (λ (h : ℕ). BadBody limit h before (bytes ++ piece)) host (takes before (checked before is)) in
    bad_there seen gate limit old.host (done + count) before (bytes ++ piece) bad there (shows_more seen now gate at done count bytes piece rests shown piece_shown at_is counted) few
piece_fails DiskFault seen now gate limit at done count old was new reader next bytes piece rests there checked host shown piece_shown at_is counted few takes = tt
piece_fails NoMemory seen now gate limit at done count old was new reader next bytes piece rests there checked host shown piece_shown at_is counted few takes = tt

-- a body whose end is wrong
pub end_fails : (fail : FormatFail) (seen : DiskSeen) (gate limit host : ℕ) (before : List Event) (bytes : List ℕ) (pieces : Pieces) (check : Tallies) → Ends {T = Unit {0}} pieces (Err fail) → HasChecked limit before bytes pieces check → (next_in pieces ≡ Awaits) ⊎ (next_in pieces ≡ Over)
    → pieces.reading.limit ≡ limit → length bytes ≡ limit → Tells seen (λ d. bytes ≡ take limit (drop (gate + 5) d.shows)) → Tells seen (λ d. NoBody host gate limit before d.shows)
end_fails (fails.Wrong place) seen gate limit host before bytes pieces check ends has awaits limit_is long shown =
    tells_so seen (λ d. bytes ≡ take limit (drop (gate + 5) d.shows)) (λ d. NoBody host gate limit before d.shows) (λ d told. ends_badly d.shows bytes gate limit host place before pieces check has awaits limit_is ends long told) shown
end_fails fails.NoMemory seen gate limit host before bytes pieces check never has awaits limit_is long shown = absurd never
