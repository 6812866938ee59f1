use Rattle.std.proofs.Common.{rules, ap, ◌∙◌, ◌++◌, SFits, ℤ}
use Rattle.std.specs.Int.{w64, w128}
use Rattle.std.proofs.lemmas.Int.{to_z-of_z}
use Rattle.std.proofs.lemmas.Result.{on_ok_weaker}
use Rattle.definitions.specs.Spelling.{written_integer}
use Rattle.record_model.specs.Seen.{history_seen}
use Rattle.payload_forms.proofs.WrittenLaws.{numbers_put}
use Rattle.payload_forms.proofs.writing.put_numbers.Goals as goal

pub returns : goal.returns
returns c =
    let duration_fits : SFits w64 c.args.history.now.duration = search rules in
    let exit_fits : SFits w64 c.args.history.now.exit = search rules in
    let wide_duration : SFits w128 c.from.result = search rules in
    let wide_exit : SFits w128 c.from-2.result = search rules in
    let duration = to_z-of_z w128 c.from.result wide_duration ∙ c.from.ensures ∙ to_z-of_z w64 c.args.history.now.duration duration_fits in
    let exit = to_z-of_z w128 c.from-2.result wide_exit ∙ c.from-2.ensures ∙ to_z-of_z w64 c.args.history.now.exit exit_fits in
    on_ok_weaker c.int-2.result
    (λ last. numbers_put (history_seen c.args.history.now) c.args.writer.now.items c.put_id.new.writer.items c.u64_form.new.self.items c.int.new.self.items c.int-2.new.self.items c.in_ok-put_id.ensures c.in_ok-u64_form.ensures.ok
    (c.in_ok-int.ensures.ok ∙ ap (λ (z : ℤ). c.u64_form.new.self.items ++ written_integer z) duration) (last ∙ ap (λ (z : ℤ). c.int.new.self.items ++ written_integer z) exit))
    c.int-2.ensures.ok
