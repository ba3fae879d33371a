use Rattle.lookups.specs.Runs.{IsPassing}
use Rattle.lookups.specs.WordsLeft.{text_extent, told}
use Rattle.lookups.proofs.patterns.pass_words.Given as goal

abbrev pub invariant-words : goal.invariant-words
invariant-words l = IsPassing (told l.pattern) (told l.key) (told l.words) (told l.left)

abbrev pub decreases-words : goal.decreases-words
decreases-words l = text_extent (told l.words)
