use Rattle.std.proofs.Common.{◌≡◌, ◌++◌}
use Rattle.std.specs.FinMap.{entries}
use Rattle.command_blocks.specs.EnvelopeTexts.{plain_setting}
use Rattle.place_index.specs.Standing.{standing_in}
use Rattle.place_index.proofs.standing.told_by.Given as goal

abbrev pub invariant-loop-key : goal.invariant-loop-key
invariant-loop-key l = l.told ++ standing_in plain_setting l.key-iterator ≡ standing_in plain_setting (entries l.keys)
