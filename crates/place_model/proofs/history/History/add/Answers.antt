use Rattle.place_model.proofs.Takings.{takable_pushed}
use Rattle.place_model.proofs.history.History.add.Goals as goal

pub invariant_of-self : goal.invariant_of-self
invariant_of-self c = record { takable = takable_pushed c.push.result c.args.self.now.entries c.push.new.self c.args.entry c.args.self.now.takable c.requires.takable c.push.ensures.ok c.push.ensures.err }
