use Rattle.std.proofs.Common.{◌≡◌, take}
use Rattle.queue_keys.specs.Layouts.{plain}
use Rattle.queue_keys.specs.QueueKeys.{keys_at}
use Rattle.lookups.proofs.queues.list_keys.Given as goal

abbrev pub invariant-loop-queue : goal.invariant-loop-queue
invariant-loop-queue l = l.keys ≡ keys_at plain l.step (take l.queue-index l.queues)
