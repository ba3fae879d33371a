-- It goes down the slice.
use Rattle.std.proofs.Common.{length}
use Rattle.store_tests.proofs.lawful.+is_new.Given as goal

abbrev pub decreases-is_new : goal.decreases-is_new
decreases-is_new l = length l.clients.now
