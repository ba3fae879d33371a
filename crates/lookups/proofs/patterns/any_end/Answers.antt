use Rattle.std.proofs.Common.{◌∙◌, sym}
use Rattle.lookups.specs.WordsLeft.{told}
use Rattle.lookups.proofs.Runs.{whole_passes}
use Rattle.lookups.proofs.patterns.any_end.Goals as goal

pub returns-in-Whole : goal.returns-in-Whole
returns-in-Whole c = sym (whole_passes (told c.ends.others) (told c.ends.left) c.in-Whole.ensures) ∙ c.ends.invariant
