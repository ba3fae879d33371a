use Rattle.store_sets.proofs.Takings.{put_first, put_step}
use Rattle.store_sets.proofs.sets.put_in.Goals as goal

pub loop-name-init : goal.loop-name-init
loop-name-init c = put_first c.args.members c.args.names _ c.new-new.ensures

pub loop-name-preserved : goal.loop-name-preserved
loop-name-preserved c = put_step c.args.members c.args.names c.loop-name.members c.put_one.new.members c.loop-name.names c.pop_front.new.self c.loop-name.new c.put_one.new.new c.in-Some.name
    c.loop-name.invariant c.in-Some.ensures.some c.in_ok-put_one.ensures.members c.in_ok-put_one.ensures.new
