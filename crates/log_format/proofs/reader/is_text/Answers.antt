use Rattle.std.proofs.Common.{◌≡◌, ◌∙◌}
use Rattle.std.specs.Str.{IsValidUpTo, valid_up_to}
use Rattle.log_format.proofs.Texts.{succeeds_at_utf8, valid_where_true}
use Rattle.log_format.proofs.reader.is_text.Goals as goal

pub returns-clause-tested : goal.returns-clause-tested
returns-clause-tested c =
    c.is_ok.ensures.value ∙ succeeds_at_utf8 c.from_utf8.result c.args.bytes.now (λ s. s.now ≡ c.args.bytes.now) (λ e. IsValidUpTo c.args.bytes.now (valid_up_to e)) c.from_utf8.ensures.cases

pub returns-clause-valid : goal.returns-clause-valid
returns-clause-valid c =
    valid_where_true c.is_ok.result c.args.bytes.now
    (c.is_ok.ensures.value ∙ succeeds_at_utf8 c.from_utf8.result c.args.bytes.now (λ s. s.now ≡ c.args.bytes.now) (λ e. IsValidUpTo c.args.bytes.now (valid_up_to e)) c.from_utf8.ensures.cases)
