use Rattle.std.proofs.Common.{◌≡◌, ◌∙◌, ◌++◌, ◌∷◌, [], List, ap, arith, get_or, length, subst, sym}
use Rattle.std.specs.List.{position, remove}
use Rattle.queue_keys.specs.Names.{Bytes, same}
use Rattle.routes.proofs.Cycles.{moved, not_there, written}
use Rattle.routes.proofs.cycle.Cycle.rotate.Goals as goal

pub returns-in-Some-clause-order : goal.returns-in-Some-clause-order
returns-in-Some-clause-order c =
    let xs = c.args.self.now in
    let new = c.move_to_end.new.queues in
    let before : c.as_mut_slice.result.now ≡ xs = cc in
    let seen : c.as_slice.result.now ≡ xs = cc in
    let items = c.self.inside.queues.items in
    let same_length : length c.as_mut_slice.result.now ≡ length items = ap (λ (l : List Bytes). length l) c.as_mut_slice.ensures.value in
    moved c.args.gave.now xs new _ c.in-Some.place
    (sym c.in-Some.is ∙ c.place_of.ensures ∙ ap (position (same c.args.gave.now)) seen)
    (λ d. subst (λ (l : List Bytes). new ≡ remove l c.in-Some.place ++ get_or l c.in-Some.place d ∷ []) before (c.move_to_end.ensures.order d))
    (written c.self.inside.queues.len new items (omega (arith, same_length, c.as_mut_slice.ensures.len)) (omega (arith, same_length, c.move_to_end.ensures.count)))

pub returns-in_default-clause-order : goal.returns-in_default-clause-order
returns-in_default-clause-order c =
    let seen : c.as_slice.result.now ≡ c.args.self.now = cc in
    not_there c.args.gave.now c.args.self.now (sym c.in_default.is ∙ c.place_of.ensures ∙ ap (position (same c.args.gave.now)) seen)
