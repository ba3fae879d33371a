use Rattle.std.proofs.Common.{◌∙◌}
use Rattle.std.proofs.lemmas.Result.{IfOk-weaker}
use Rattle.store_model.specs.Keys.{value_at}
use Rattle.store_model.specs.declared.held.Stored.TheVariants.{Members}
use Rattle.store_sets.proofs.Takings.{taking_left, srem_at}
use Rattle.store_sets.proofs.sets.srem.Goals as goal

pub returns : goal.returns
returns c =
    let m = c.args.keys.now in
    let h = c.in-Some.members in
    IfOk-weaker c.finish.result _ _ (λ e same. same ∙ srem_at m c.args.key c.args.names (value_at m c.args.key) h c.in-Some.ensures.members)
    (taking_left Members m c.take_members.new.keys c.finish.new.keys c.args.key h c.take_out-members.result.0 c.args.names c.take_out-members.result.1 c.len-left.result c.finish.result
    c.take_out-members.ensures c.len-left.ensures.len c.in-Some.ensures.room c.in-Some.ensures.gone c.in-Some.ensures.back c.finish.ensures.none c.finish.ensures.some)
