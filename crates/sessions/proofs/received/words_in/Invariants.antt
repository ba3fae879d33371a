use Rattle.std.proofs.Common.{◌≡◌, drop}
use Rattle.sessions.specs.CommandValues.{contents}
use Rattle.sessions.proofs.Contents.{after_words}
use Rattle.sessions.proofs.received.words_in.Given as goal

abbrev pub invariant-loop-value : goal.invariant-loop-value
invariant-loop-value l = after_words l.words (contents (drop l.value-index l.fn.values)) ≡ contents l.fn.values
