use Rattle.wire_grammar.proofs.Limited.{read_spelled}
use Rattle.wire_grammar.proofs.laws.written_is_read.Goals as goal

pub returns : goal.returns
returns c = λ v b rest p s. read_spelled v b rest p s
