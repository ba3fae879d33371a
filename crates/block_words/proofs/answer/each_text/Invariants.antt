use Rattle.std.proofs.Common.{drop}
use Rattle.block_words.proofs.Told.{AreTold}
use Rattle.block_words.proofs.answer.each_text.Given as goal

abbrev pub invariant-loop-value : goal.invariant-loop-value
invariant-loop-value l = AreTold l.values l.texts (drop l.value-index l.values)
