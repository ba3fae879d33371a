use Rattle.envelope.specs.ShownEntry.{entry_view}
use Rattle.returns.proofs.Entries.{of_entry}
use Rattle.returns.proofs.read.found.Goals as goal

pub returns-in-Ok-clause-left : goal.returns-in-Ok-clause-left
returns-in-Ok-clause-left c = of_entry c.carried.result c.args.aim (entry_view c.in-Ok.entry) c.args.entry.now c.carried.ensures.left c.in-Ok.ensures.value
