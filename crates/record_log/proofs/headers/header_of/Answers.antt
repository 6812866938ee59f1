use Rattle.log_rules.specs.Log.{current_form, old_form}
use Rattle.record_log.proofs.Heads.{has_header, none_read}
use Rattle.record_log.proofs.headers.header_of.Goals as goal

pub returns-in-Ok : goal.returns-in-Ok
returns-in-Ok c = λ shows long is. has_header current_form c.args.bytes.now shows long is c.in-Ok.host c.in-Ok.ensures

pub returns-in-Ok-read_old_header : goal.returns-in-Ok-read_old_header
returns-in-Ok-read_old_header c = λ shows long is. has_header old_form c.args.bytes.now shows long is c.in-Ok-read_old_header.host c.in-Ok-read_old_header.ensures

pub returns-in-Err-read_old_header : goal.returns-in-Err-read_old_header
returns-in-Err-read_old_header c = λ shows long is.
    (none_read current_form c.args.bytes.now shows long is c.in-Err.field-0 c.in-Err.ensures, none_read old_form c.args.bytes.now shows long is c.in-Err-read_old_header.field-0 c.in-Err-read_old_header.ensures)
