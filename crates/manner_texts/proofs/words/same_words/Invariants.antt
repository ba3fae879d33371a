use Rattle.std.proofs.Common.{◌≡◌, length, map}
use Rattle.manner_laws.specs.Cursor.{same_words}
use Rattle.manner_texts.proofs.words.same_words.Given as goal

-- what is left tells it
abbrev pub invariant-words : goal.invariant-words
invariant-words l = same_words (l.fn.one) l.fn.other ≡ same_words (l.left) l.others

abbrev pub decreases-words : goal.decreases-words
decreases-words l = length l.left
