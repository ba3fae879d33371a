use Rattle.serde_json.specs.View.{view as data_of}
use Rattle.envelope.proofs.Readings.{envelope_given}
use Rattle.envelope.proofs.reading.read.Goals as goal

pub returns-clause-members : goal.returns-clause-members
returns-clause-members c = envelope_given data_of c.read_told.result c.args.bytes.now c.read_told.ensures
