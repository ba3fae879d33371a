use Rattle.std.proofs.Common.{◌∙◌}
use Rattle.std.proofs.lemmas.Result.{IfOk-weaker}
use Rattle.store_model.specs.Keys.{value_at}
use Rattle.store_lists.proofs.Pops.{rpopped}
use Rattle.store_lists.proofs.lists.rpop.Goals as goal

pub returns : goal.returns
returns c = IfOk-weaker c.pop_bulk.result _ _ (λ e left. left
    ∙ rpopped c.args.keys.now c.take_items.new.keys c.args.key (value_at c.args.keys.now c.args.key) c.in-Some.items c.pop_back.new.self c.in-Some-pop_back.last
    c.in-Some.ensures.items c.in-Some-pop_back.ensures.some c.in-Some.ensures.room c.in-Some.ensures.gone) c.pop_bulk.ensures
