use Rattle.std.proofs.Common.{◌+◌, ◌<◌, ◌^◌, length, Some, refl, arith}
use Rattle.history_view.proofs.Counting.{room_more, shown_room}
use Rattle.history_view.proofs.places.show.Goals as goal

pub raise-requires-clause-fits : goal.raise-requires-clause-fits
raise-requires-clause-fits c =
    let keys = c.fill.ensures.keys in
    let most = c.fill.ensures.few in
    let long : length c.fill.new.order.entries < 2 ^ 64 = omega arith in
    room_more c.args.order.now.entries c.fill.new.order.entries _ (Some c.numbers-numbers.result) c.fill.ensures.sums c.numbers-numbers.result c.requires.empty refl c.args.texts.now.counts c.requires.counted long

pub overflow_add-shown : goal.overflow_add-shown
overflow_add-shown c =
    let keys = c.fill.ensures.keys in
    let most = c.fill.ensures.few in
    let long : length c.fill.new.order.entries < 2 ^ 64 = omega arith in
    let fits : c.args.shown.now + 1 < 2 ^ 64 = shown_room c.args.order.now.entries c.fill.new.order.entries _ (Some c.numbers-numbers.result) c.fill.ensures.sums c.numbers-numbers.result c.requires.empty refl c.args.shown.now c.requires.shown long in
    omega arith
