use Rattle.std.proofs.Common.{◌++◌}
use Rattle.std.specs.Int.{w64, w128, to_be_bytes}
use Rattle.log_rules.specs.Body.{text_bytes}
use Rattle.log_format.proofs.Joins.{join}
use Rattle.log_format.proofs.batches.put_record.Goals as goal

pub returns-clause-bytes : goal.returns-clause-bytes
returns-clause-bytes c =
    let step1 = join c.args.into.now.items (to_be_bytes w128 c.args.rec.now.id) (to_be_bytes w64 c.args.rec.now.idx) c.put_number_16.new.into.items c.put_number_8.new.into.items c.in_ok-put_number_16.ensures c.in_ok-put_number_8.ensures in
    let step2 = join c.args.into.now.items (to_be_bytes w128 c.args.rec.now.id ++ to_be_bytes w64 c.args.rec.now.idx) (to_be_bytes w128 c.args.rec.now.host) c.put_number_8.new.into.items c.put_number_16-2.new.into.items step1 c.in_ok-put_number_16-2.ensures in
    let step3 = join c.args.into.now.items (to_be_bytes w128 c.args.rec.now.id ++ to_be_bytes w64 c.args.rec.now.idx ++ to_be_bytes w128 c.args.rec.now.host) (text_bytes c.args.rec.now.host_name) c.put_number_16-2.new.into.items c.put_text.new.into.items step2 c.in_ok-put_text.ensures.bytes in
    let step4 = join c.args.into.now.items (to_be_bytes w128 c.args.rec.now.id ++ to_be_bytes w64 c.args.rec.now.idx ++ to_be_bytes w128 c.args.rec.now.host ++ text_bytes c.args.rec.now.host_name) (to_be_bytes w64 c.args.rec.now.timestamp) c.put_text.new.into.items c.put_number_8-2.new.into.items step3 c.in_ok-put_number_8-2.ensures in
    let step5 = join c.args.into.now.items (to_be_bytes w128 c.args.rec.now.id ++ to_be_bytes w64 c.args.rec.now.idx ++ to_be_bytes w128 c.args.rec.now.host ++ text_bytes c.args.rec.now.host_name ++ to_be_bytes w64 c.args.rec.now.timestamp) (text_bytes c.args.rec.now.version) c.put_number_8-2.new.into.items c.put_text-2.new.into.items step4 c.in_ok-put_text-2.ensures.bytes in
    let step6 = join c.args.into.now.items (to_be_bytes w128 c.args.rec.now.id ++ to_be_bytes w64 c.args.rec.now.idx ++ to_be_bytes w128 c.args.rec.now.host ++ text_bytes c.args.rec.now.host_name ++ to_be_bytes w64 c.args.rec.now.timestamp ++ text_bytes c.args.rec.now.version) (text_bytes c.args.rec.now.tag) c.put_text-2.new.into.items c.put_text-3.new.into.items step5 c.in_ok-put_text-3.ensures.bytes in
    let step7 = join c.args.into.now.items (to_be_bytes w128 c.args.rec.now.id ++ to_be_bytes w64 c.args.rec.now.idx ++ to_be_bytes w128 c.args.rec.now.host ++ text_bytes c.args.rec.now.host_name ++ to_be_bytes w64 c.args.rec.now.timestamp ++ text_bytes c.args.rec.now.version ++ text_bytes c.args.rec.now.tag) (text_bytes c.args.rec.now.sealed) c.put_text-3.new.into.items c.put_text-4.new.into.items step6 c.in_ok-put_text-4.ensures.bytes in
    let step8 = join c.args.into.now.items (to_be_bytes w128 c.args.rec.now.id ++ to_be_bytes w64 c.args.rec.now.idx ++ to_be_bytes w128 c.args.rec.now.host ++ text_bytes c.args.rec.now.host_name ++ to_be_bytes w64 c.args.rec.now.timestamp ++ text_bytes c.args.rec.now.version ++ text_bytes c.args.rec.now.tag ++ text_bytes c.args.rec.now.sealed) (text_bytes c.args.rec.now.wrapped) c.put_text-4.new.into.items c.put_text-5.new.into.items step7 c.in_ok-put_text-5.ensures.bytes in
    step8
