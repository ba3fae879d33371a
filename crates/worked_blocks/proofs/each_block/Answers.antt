-- Each clause is a lemma of its own.
use Rattle.worked_blocks.proofs.EachBlock.{each, manner}
use Rattle.worked_blocks.proofs.ToyTexts.{toy_is_lawful}
use Rattle.worked_blocks.proofs.each_block.Goals as goal

pub returns : goal.returns
returns c = record { blocks = each; mannered = manner; lawful = toy_is_lawful }
