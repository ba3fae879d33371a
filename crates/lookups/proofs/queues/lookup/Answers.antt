use Rattle.std.proofs.Common.{◌∙◌, arith}
use Rattle.lookups.proofs.Members.{one_more}
use Rattle.lookups.proofs.queues.lookup.Goals as goal

pub members-preserved : goal.members-preserved
members-preserved c = (
  one_more c.args.routing_key.now c.args.members.now c.members.count c.as_slice.result.now c.index-members-count.result c.members.queues.items c.add_bound.new.queues.items c.members-test.true c.members.invariant.1 (c.as_slice.ensures ∙ c.index-members-count.is) c.members.invariant.0 c.in_ok-add_bound.ensures,
  (let few = c.members.invariant.1 in omega (arith, few)),
)
