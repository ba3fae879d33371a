use Rattle.std.proofs.Common.{◌∙◌, ◌++◌, ◌∷◌, ap, drop, take}
use Rattle.lookups.specs.Standings.{standing_from}
use Rattle.lookups.proofs.Places.{put_there, there_already}
use Rattle.lookups.proofs.queues.add_once.Goals as goal

pub returns-in_ok-insert : goal.returns-in_ok-insert
returns-in_ok-insert c =
    let xs = c.args.queues.now.items in
    let i = c.standing-place.result.0 in
    c.in_ok-insert.ensures.items ∙ ap (λ q. take i xs ++ q ∷ drop i xs) c.in_ok-lawful_name.ensures ∙ put_there c.args.name.now xs i c.standing-place.result.1 (c.standing-place.ensures.standing ∙ ap (standing_from 0 c.args.name.now) c.as_slice.ensures.value) c.if-not-stands.true

pub returns-else-not-stands : goal.returns-else-not-stands
returns-else-not-stands c = there_already c.args.name.now c.args.queues.now.items c.standing-place.result.0 c.standing-place.result.1 (c.standing-place.ensures.standing ∙ ap (standing_from 0 c.args.name.now) c.as_slice.ensures.value) c.if-not-stands.false
