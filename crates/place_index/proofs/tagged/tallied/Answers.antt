use Rattle.place_index.proofs.Tellings.{told_end}
use Rattle.place_index.proofs.tagged.tallied.Goals as goal

pub returns : goal.returns
returns c = told_end c.loop-number.counts c.args.numbers.now c.loop-number.number-index c.loop-number-test.false c.loop-number.invariant
