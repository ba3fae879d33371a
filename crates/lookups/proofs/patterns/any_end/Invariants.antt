use Rattle.std.proofs.Common.{◌≡◌, ◌+◌}
use Rattle.lookups.specs.Runs.{end_passes}
use Rattle.lookups.specs.WordsLeft.{text_extent, told}
use Rattle.lookups.proofs.patterns.any_end.Given as goal

abbrev pub invariant-ends : goal.invariant-ends
invariant-ends l = end_passes (told l.others) (told l.left) ≡ end_passes (told l.pattern) (told l.key)

abbrev pub decreases-ends : goal.decreases-ends
decreases-ends l = text_extent (told l.others) + text_extent (told l.left)
