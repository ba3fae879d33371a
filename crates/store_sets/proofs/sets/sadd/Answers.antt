use Rattle.std.proofs.Common.{◌∙◌}
use Rattle.std.proofs.lemmas.Result.{IfOk-weaker}
use Rattle.store_model.specs.Keys.{value_at}
use Rattle.store_sets.proofs.Takings.{sadd_at}
use Rattle.store_sets.proofs.sets.sadd.Goals as goal

pub returns : goal.returns
returns c = IfOk-weaker c.add.result _ _ (λ e h. h c.args.keys.now c.in-Some.ensures.room c.in-Some.ensures.back ∙ sadd_at c.args.keys.now c.args.key c.args.names (value_at c.args.keys.now c.args.key) c.in-Some.members c.in-Some.ensures.members) c.add.ensures
