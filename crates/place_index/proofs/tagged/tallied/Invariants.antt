use Rattle.std.proofs.Common.{◌≡◌, drop}
use Rattle.std.specs.FinMap.{empty}
use Rattle.place_index.proofs.Tellings.{told_too}
use Rattle.place_index.proofs.tagged.tallied.Given as goal

abbrev pub invariant-loop-number : goal.invariant-loop-number
invariant-loop-number l = told_too l.counts (drop l.number-index l.numbers) ≡ told_too empty l.numbers
