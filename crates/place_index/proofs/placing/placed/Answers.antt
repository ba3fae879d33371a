use Rattle.std.proofs.Common.{◌^◌, ◌<◌, get_or, rules}
use Rattle.place_index.proofs.Lookups.{placed_more}
use Rattle.place_index.proofs.placing.placed.Goals as goal

pub loop-number-preserved : goal.loop-number-preserved
loop-number-preserved c =
    let fits : get_or c.args.numbers.now c.loop-number.number-index 0 < 2 ^ 128 = search (rules, c.type_inv.numbers c.loop-number.number-index) in
    λ h i s e. placed_more h c.args.index.now c.args.keys.now i s e c.loop-number.places.items c.push.new.self.items c.args.numbers.now c.loop-number.number-index c.in_ok-place.place fits
    c.loop-number-test.true c.in_ok-place.ensures c.in_ok-push.ensures.items (c.loop-number.invariant h i s e)
