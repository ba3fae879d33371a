use Rattle.schedule_laws.proofs.Crafts.{layout_craft}
use Rattle.schedule_laws.proofs.layout_crafts.Goals as goal

pub returns : goal.returns
returns c = layout_craft
