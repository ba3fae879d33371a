use Rattle.std.proofs.Common.{[]}
use Rattle.queue_keys.proofs.Cuts.{keys_more}
use Rattle.lookups.proofs.queues.list_keys.Goals as goal

pub loop-queue-preserved : goal.loop-queue-preserved
loop-queue-preserved c = keys_more c.args.step c.args.queues.now c.loop-queue.queue-index c.queue-item.result c.in_ok-queue_key.field-0 [] c.loop-queue.keys c.push.new.self c.loop-queue-test.true c.queue-item.is c.loop-queue.invariant c.in_ok-queue_key.ensures c.in_ok-push.ensures.ok
