use Rattle.std.proofs.Common.{◌≡◌, ◌≤◌, length, take, drop}
use Rattle.definitions.specs.Limits.{most_page_weight}
use Rattle.record_rules.specs.Records.{page_weight}
use Rattle.record_rules.specs.Journal.{chain}
use Rattle.record_model.specs.Seen.{records_seen}
use Rattle.chain_index.specs.Meaning.{journal_of}
use Rattle.page_reading.specs.Reading.{OfLog, LogRests}
use Rattle.page_reading.proofs.reading.read_page.Given as goal

abbrev pub invariant-loop-step : goal.invariant-loop-step
invariant-loop-step g l = record {
  read : OfLog l.initial.log l.index (λ filed. records_seen l.records.items ≡ take l.step (drop l.start (chain (journal_of filed) l.owner l.host l.tag)));
  weight : l.weight ≡ page_weight (records_seen l.records.items);
  light : l.weight ≤ most_page_weight;
  count : length l.records.items ≡ l.step;
  rests : LogRests l.initial.log l.log;
}
