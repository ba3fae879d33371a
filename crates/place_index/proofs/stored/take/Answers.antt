-- A store can take the words of an entry.
use Rattle.std.proofs.Common.{subst}
use Rattle.place_model.specs.Takable.{IsTakable}
use Rattle.place_index.proofs.stored.take.Goals as goal

pub apply-requires-clause-words : goal.apply-requires-clause-words
apply-requires-clause-words c = (subst IsTakable c.in-Call.is c.requires).1
