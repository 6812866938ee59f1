use Rattle.std.proofs.Common.{length, refl, sym, ap, ◌∙◌}
use Rattle.std.specs.List.{filter}
use Rattle.history_view.specs.declared.bucket.ScopeNumber.{ScopeNumber}
use Rattle.history_view.specs.declared.bucket.ScopeNumber.TheVariants.{All, Hostname, Session, Cwd}
use Rattle.history_view.specs.declared.walk.Walked.{Walked}
use Rattle.history_view.specs.Buckets.{has_scope}
use Rattle.history_view.specs.Counts.{the_cwd, the_session, the_hostname, has_number, is_shown}
use Rattle.history_view.specs.ViewState.{ViewState}
use Rattle.history_view.specs.Walk.{walked_in}
use Rattle.history_view.proofs.Filtering.{length_summed, none_filtered, bucket_length}
use Rattle.history_view.proofs.view.HistoryView.bucket_len.Goals as goal

pub returns-in-All : goal.returns-in-All
returns-in-All c =
    let s : ViewState = record { texts = c.self.inside.texts.texts; counts = c.self.inside.texts.counts; shown = c.self.inside.shown; ids = c.self.inside.ids.entries; order = c.self.inside.order.entries } in
    c.self.invariant.sound.shown ∙ sym (length_summed (has_scope All) is_shown refl (λ numbers. refl) s.order)
    ∙ ap (λ (v : ViewState). length (filter (λ (w : Walked). has_scope All w.numbers) (walked_in v.order))) c.self.view_is
    ∙ ap (λ (by : ScopeNumber). length (filter (λ (w : Walked). has_scope by w.numbers) (walked_in c.args.self.now.order))) (sym c.in-All.is)
    ∙ bucket_length c.args.self.now c.bucket.result _ c.bucket.ensures.rows c.bucket.ensures.filtered c.bucket.ensures.walked

pub returns-in-Hostname : goal.returns-in-Hostname
returns-in-Hostname c =
    let s : ViewState = record { texts = c.self.inside.texts.texts; counts = c.self.inside.texts.counts; shown = c.self.inside.shown; ids = c.self.inside.ids.entries; order = c.self.inside.order.entries } in
    c.hosted.ensures ∙ c.self.invariant.sound.counted.hostname c.in-Hostname.number ∙ sym (length_summed (has_scope (Hostname c.in-Hostname.number)) (has_number the_hostname c.in-Hostname.number) refl (λ numbers. refl) s.order)
    ∙ ap (λ (v : ViewState). length (filter (λ (w : Walked). has_scope (Hostname c.in-Hostname.number) w.numbers) (walked_in v.order))) c.self.view_is
    ∙ ap (λ (by : ScopeNumber). length (filter (λ (w : Walked). has_scope by w.numbers) (walked_in c.args.self.now.order))) (sym c.in-Hostname.is)
    ∙ bucket_length c.args.self.now c.bucket.result _ c.bucket.ensures.rows c.bucket.ensures.filtered c.bucket.ensures.walked

pub returns-in-Session : goal.returns-in-Session
returns-in-Session c =
    let s : ViewState = record { texts = c.self.inside.texts.texts; counts = c.self.inside.texts.counts; shown = c.self.inside.shown; ids = c.self.inside.ids.entries; order = c.self.inside.order.entries } in
    c.in_session.ensures ∙ c.self.invariant.sound.counted.session c.in-Session.number ∙ sym (length_summed (has_scope (Session c.in-Session.number)) (has_number the_session c.in-Session.number) refl (λ numbers. refl) s.order)
    ∙ ap (λ (v : ViewState). length (filter (λ (w : Walked). has_scope (Session c.in-Session.number) w.numbers) (walked_in v.order))) c.self.view_is
    ∙ ap (λ (by : ScopeNumber). length (filter (λ (w : Walked). has_scope by w.numbers) (walked_in c.args.self.now.order))) (sym c.in-Session.is)
    ∙ bucket_length c.args.self.now c.bucket.result _ c.bucket.ensures.rows c.bucket.ensures.filtered c.bucket.ensures.walked

pub returns-in-Cwd : goal.returns-in-Cwd
returns-in-Cwd c =
    let s : ViewState = record { texts = c.self.inside.texts.texts; counts = c.self.inside.texts.counts; shown = c.self.inside.shown; ids = c.self.inside.ids.entries; order = c.self.inside.order.entries } in
    c.in_directory.ensures ∙ c.self.invariant.sound.counted.cwd c.in-Cwd.number ∙ sym (length_summed (has_scope (Cwd c.in-Cwd.number)) (has_number the_cwd c.in-Cwd.number) refl (λ numbers. refl) s.order)
    ∙ ap (λ (v : ViewState). length (filter (λ (w : Walked). has_scope (Cwd c.in-Cwd.number) w.numbers) (walked_in v.order))) c.self.view_is
    ∙ ap (λ (by : ScopeNumber). length (filter (λ (w : Walked). has_scope by w.numbers) (walked_in c.args.self.now.order))) (sym c.in-Cwd.is)
    ∙ bucket_length c.args.self.now c.bucket.result _ c.bucket.ensures.rows c.bucket.ensures.filtered c.bucket.ensures.walked

pub returns-in-Nothing : goal.returns-in-Nothing
returns-in-Nothing c =
    none_filtered c.args.self.now.order
    ∙ ap (λ (by : ScopeNumber). length (filter (λ (w : Walked). has_scope by w.numbers) (walked_in c.args.self.now.order))) (sym c.in-Nothing.is)
    ∙ bucket_length c.args.self.now c.bucket.result _ c.bucket.ensures.rows c.bucket.ensures.filtered c.bucket.ensures.walked
