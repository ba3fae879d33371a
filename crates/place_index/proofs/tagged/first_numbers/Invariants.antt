use Rattle.std.proofs.Common.{◌≡◌, ◌++◌, drop}
use Rattle.std.specs.FinMap.{empty}
use Rattle.place_index.proofs.Tellings.{fresh}
use Rattle.place_index.proofs.tagged.first_numbers.Given as goal

abbrev pub invariant-loop-number : goal.invariant-loop-number
invariant-loop-number l = l.firsts ++ fresh l.known (drop l.number-index l.numbers) ≡ fresh empty l.numbers
