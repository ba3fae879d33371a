use Rattle.envelope_trees.proofs.TextsBack.{read-compact_text}
use Rattle.envelope_trees.proofs.SortedTrees.{read_sorted}
use Rattle.envelope_laws.proofs.laws.texts_read_back.Goals as goal

pub returns-clause-sorted : goal.returns-clause-sorted
returns-clause-sorted c = read_sorted

pub returns-clause-back : goal.returns-clause-back
returns-clause-back c = read-compact_text
