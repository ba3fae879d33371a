use Rattle.wire_grammar.specs.Limits.{depth_limit}
use Rattle.wire_grammar.proofs.Writings.{one_spelling}
use Rattle.wire_grammar.proofs.laws.one_spelling.Goals as goal

pub returns : goal.returns
returns c = λ v b s. one_spelling depth_limit v b s.0
