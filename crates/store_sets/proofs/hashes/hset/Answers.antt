use Rattle.std.proofs.Common.{◌∙◌}
use Rattle.std.proofs.lemmas.Result.{IfOk-weaker}
use Rattle.store_model.specs.Keys.{value_at}
use Rattle.store_sets.proofs.Takings.{hset_at}
use Rattle.store_sets.proofs.hashes.hset.Goals as goal

pub returns : goal.returns
returns c = IfOk-weaker c.set_field.result _ _ (λ e h. h c.args.keys.now c.in-Some.ensures.room c.in-Some.ensures.back ∙ hset_at c.args.keys.now c.args.key c.args.field c.args.text (value_at c.args.keys.now c.args.key) c.in-Some.hash c.in-Some.ensures.hash) c.set_field.ensures
