use Rattle.std.proofs.Common.{ap, ◌∙◌}
use Rattle.std.specs.FinMap.{get}
use Rattle.place_index.specs.Places.{first_of}
use Rattle.place_index.proofs.Tellings.{or_later, told_last, told_none}
use Rattle.place_index.proofs.tagged.first_told.Goals as goal

pub telling-init : goal.telling-init
telling-init g c = λ t.
    ap (λ l. or_later (first_of t l) (get c.new-first.result t)) c.into_vec-left.ensures
    ∙ ap (λ m. or_later (first_of t c.args.told) (get m t)) c.new-first.ensures
    ∙ told_none t c.args.told

pub telling-preserved : goal.telling-preserved
telling-preserved g c = λ t.
    ap (λ m. or_later (first_of t c.pop.new.self.items) (get m t)) c.in_ok-put.ensures
    ∙ told_last t c.telling.left.items c.pop.new.self.items c.in-Some.one.0 c.in-Some.one.1 c.telling.first c.in-Some.ensures.items
    ∙ c.telling.invariant t
