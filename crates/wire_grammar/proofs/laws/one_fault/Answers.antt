use Rattle.wire_grammar.proofs.OneFault.{fault_told}
use Rattle.wire_grammar.proofs.laws.one_fault.Goals as goal

pub returns : goal.returns
returns c = λ p b kind q w. fault_told p b kind q w
