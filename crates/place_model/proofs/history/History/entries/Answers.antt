use Rattle.std.proofs.Common.{sym, subst}
use Rattle.place_model.specs.Takable.{AreTakable}
use Rattle.place_model.proofs.Takings.{takable_each}
use Rattle.place_model.proofs.history.History.entries.Goals as goal

pub returns-clause-takable : goal.returns-clause-takable
returns-clause-takable c = subst AreTakable (sym c.as_slice.ensures) (takable_each c.args.self.now.entries c.args.self.now.takable)
