use Rattle.std.proofs.lemmas.Result.{on_ok_weaker}
use Rattle.record_model.specs.Seen.{history_seen}
use Rattle.daemon_wire.proofs.HitLaws.{hit_in_parts}
use Rattle.daemon_wire.proofs.hits.put_hit.Goals as goal

pub returns-clause-ok : goal.returns-clause-ok
returns-clause-ok c =
    on_ok_weaker c.put_hit_texts.result
    (λ texts. hit_in_parts (history_seen c.args.hit.now) c.args.writer.now.items c.put_hit_head.new.writer.items c.put_hit_numbers.new.writer.items c.put_hit_texts.new.writer.items c.in_ok-put_hit_head.ensures.ok c.in_ok-put_hit_numbers.ensures.ok texts)
    c.put_hit_texts.ensures.ok
