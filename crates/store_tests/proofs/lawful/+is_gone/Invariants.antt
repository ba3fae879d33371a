-- It goes down the slice.
use Rattle.std.proofs.Common.{length}
use Rattle.store_tests.proofs.lawful.+is_gone.Given as goal

abbrev pub decreases-is_gone : goal.decreases-is_gone
decreases-is_gone l = length l.entries.now
