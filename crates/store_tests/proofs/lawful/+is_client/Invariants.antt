-- It goes down the slice.
use Rattle.std.proofs.Common.{length}
use Rattle.store_tests.proofs.lawful.+is_client.Given as goal

abbrev pub decreases-is_client : goal.decreases-is_client
decreases-is_client l = length l.clients.now
