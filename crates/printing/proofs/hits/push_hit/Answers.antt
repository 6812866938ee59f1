use Rattle.std.proofs.Common.{rules, refl, ap, ◌∙◌, ◌++◌, ℤ, ℕ, List, SFits}
use Rattle.std.specs.Fmt.{signed_decimal}
use Rattle.std.specs.Int.{w64}
use Rattle.std.proofs.lemmas.Int.{to_z-of_z}
use Rattle.std.proofs.lemmas.Result.{on_ok_weaker}
use Rattle.record_model.specs.Seen.{history_seen}
use Rattle.printing.specs.Lines.{escaped}
use Rattle.printing.proofs.Lines.{put_in_parts}
use Rattle.printing.proofs.hits.push_hit.Goals as goal

pub returns : goal.returns
returns c =
    let exit_fits : SFits w64 c.args.hit.now.exit = search rules in
    let time = c.in_ok-extend.ensures.ok ∙ ap (λ (t : List ℕ). c.args.out.now.items ++ t) (c.as_bytes.ensures.value ∙ c.deref.ensures.0) in
    let exit = c.in_ok-push_signed.ensures ∙ ap (λ (z : ℤ). c.push.new.self.items ++ signed_decimal z) (to_z-of_z w64 c.args.hit.now.exit exit_fits) in
    let command = c.in_ok-push_escaped.ensures ∙ ap (λ (t : List ℕ). c.push-2.new.self.items ++ escaped t) c.as_bytes-2.ensures.value in
    on_ok_weaker c.push-3.result
    (λ put. put_in_parts (history_seen c.args.hit.now) c.args.out.now.items c.time_text.result.bytes (signed_decimal c.args.hit.now.exit) (escaped c.args.hit.now.command) c.extend.new.self.items c.push.new.self.items c.push_signed.new.out.items c.push-2.new.self.items c.push_escaped.new.out.items c.push-3.new.self.items
    c.time_text.ensures refl refl time c.in_ok-push.ensures.ok exit c.in_ok-push-2.ensures.ok command put)
    c.push-3.ensures.ok
