use Rattle.envelope.specs.ShownEntry.{entry_view}
use Rattle.envelope.proofs.Readings.{entry_given}
use Rattle.envelope.proofs.entry.read_entry.Goals as goal

pub returns-clause-members : goal.returns-clause-members
returns-clause-members c = entry_given entry_view c.entry_told.result c.args.bytes.now c.entry_told.ensures
