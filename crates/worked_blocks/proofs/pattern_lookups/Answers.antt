-- Each clause computes.
use Rattle.std.proofs.Common.{refl}
use Rattle.queue_keys.specs.Bindings.{binding_of}
use Rattle.queue_keys.specs.Names.{same}
use Rattle.queue_keys.specs.Patterns.{matches}
use Rattle.worked_blocks.proofs.pattern_lookups.Goals as goal

pub returns : goal.returns
unfolding same matches binding_of
returns c = record { two_words = refl; four_words = refl; one_word = refl; two_queues = refl }
