use Rattle.std.proofs.Common.{subst}
use Rattle.record_model.specs.Seen.{record_seen}
use Rattle.kept_views.specs.declared.rooms.EventRoom.{EventRoom}
use Rattle.kept_views.specs.Rooms.{HoldsShown}
use Rattle.kept_views.proofs.Showing.{shows_command, shows_pair, shows_alias}
use Rattle.kept_views.proofs.adding.show.Goals as goal

pub returns-in-History-clause-grows : goal.returns-in-History-clause-grows
returns-in-History-clause-grows c = λ shown holds.
    shows_command c.args.kept.now (record_seen c.args.rec.now) c.add.new.self c.in-History.room c.add.ensures.grows shown (subst (λ (room : EventRoom). HoldsShown c.args.kept.now shown room) c.in-History.is holds)

pub returns-in-Pair-clause-grows : goal.returns-in-Pair-clause-grows
returns-in-Pair-clause-grows c = λ shown holds.
    shows_pair c.args.kept.now (record_seen c.args.rec.now) c.add-in-Pair.new.self c.in-Pair.room c.add-in-Pair.ensures.grows shown (subst (λ (room : EventRoom). HoldsShown c.args.kept.now shown room) c.in-Pair.is holds)

pub returns-in-Alias-clause-grows : goal.returns-in-Alias-clause-grows
returns-in-Alias-clause-grows c = λ shown holds.
    shows_alias c.args.kept.now (record_seen c.args.rec.now) c.add-in-Alias.new.self c.in-Alias.room c.add-in-Alias.ensures.grows shown (subst (λ (room : EventRoom). HoldsShown c.args.kept.now shown room) c.in-Alias.is holds)
