use Rattle.std.proofs.Common.{◌∙◌}
use Rattle.store_model.specs.Keys.{value_at}
use Rattle.store_lists.proofs.Pops.{popped}
use Rattle.store_lists.proofs.lists.pop_from.Goals as goal

pub returns-clause-some : goal.returns-clause-some
returns-clause-some c later =
    c.in_ok-pop_pair.ensures
    ∙ popped c.args.keys.now c.take_items.new.keys c.args.key (value_at c.args.keys.now c.args.key) c.in-Some.items c.pop_back.new.self c.in-Some-pop_back.last later
    c.in-Some.ensures.items c.in-Some-pop_back.ensures.some c.in-Some.ensures.room c.in-Some.ensures.gone
