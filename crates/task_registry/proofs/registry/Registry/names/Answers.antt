use Rattle.std.proofs.Common.{sym, ◌≡◌, map, subst, take, ap, ◌∙◌}
use Rattle.std.specs.List.Sorted.{IsPermutation}
use Rattle.task_registry.proofs.Found.{whole_front}
use Rattle.task_registry.proofs.registry.Registry.names.Goals as goal

pub returns-clause-all : goal.returns-clause-all
returns-clause-all g c =
    let done : take c.loop-body.body-index c.deref-body-items.result.now ≡ c.args.self.now.bodies.items = whole_front _ _ c.loop-body-test.false c.loop-body.auto.body-index-end ∙ c.deref-body-items.ensures.value in
    let whole : c.loop-body.names.items ≡ map g.B.Body.name_of c.args.self.now.bodies.items = c.loop-body.invariant ∙ ap (map g.B.Body.name_of) done in
    subst (λ ys. IsPermutation (map g.B.Body.name_of c.args.self.now.bodies.items) ys) (sym c.from_vec.ensures) (subst (λ xs. IsPermutation xs c.sort_unstable.new.self.items) whole c.sort_unstable.ensures.permutation)
