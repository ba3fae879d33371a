use Rattle.passes.proofs.Tagged.{found_step}
use Rattle.passes.proofs.members.tags_among.Goals as goal

pub loop-member-preserved : goal.loop-member-preserved
loop-member-preserved c =
    found_step c.args.members.now c.loop-member.member-index c.member-item.result c.loop-member.tags c.add_read.new.tags c.as_slice.result.now c.loop-member-test.true c.member-item.is c.loop-member.invariant c.as_slice.ensures c.in_ok-add_read.ensures
