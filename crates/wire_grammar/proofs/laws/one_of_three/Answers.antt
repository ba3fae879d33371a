use Rattle.wire_grammar.proofs.Limited.{one_holds}
use Rattle.wire_grammar.proofs.laws.one_of_three.Goals as goal

pub returns : goal.returns
returns c = λ p b. one_holds p b
