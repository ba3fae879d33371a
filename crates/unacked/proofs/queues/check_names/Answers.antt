use Rattle.unacked.proofs.Names.{names_more}
use Rattle.unacked.proofs.queues.check_names.Goals as goal

pub loop-name-preserved : goal.loop-name-preserved
loop-name-preserved c = names_more c.args.names.now c.loop-name.name-index c.name-item.result c.loop-name-test.true c.name-item.is c.loop-name.invariant c.bytes-bytes.ensures.lawful
