use Rattle.place_index.proofs.Tellings.{fresh_end}
use Rattle.place_index.proofs.tagged.first_numbers.Goals as goal

pub returns : goal.returns
returns c = fresh_end c.loop-number.firsts c.loop-number.known c.args.numbers.now c.loop-number.number-index c.loop-number-test.false c.loop-number.invariant
