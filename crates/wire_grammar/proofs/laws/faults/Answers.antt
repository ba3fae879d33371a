use Rattle.wire_grammar.proofs.Limited.{fault_is}
use Rattle.wire_grammar.proofs.laws.faults.Goals as goal

pub returns : goal.returns
returns c = λ p b more kind q f. fault_is p b more kind q f
