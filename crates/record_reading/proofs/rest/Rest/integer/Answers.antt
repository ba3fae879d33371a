use Rattle.record_reading.proofs.Spelled.{integer_said}
use Rattle.record_reading.proofs.rest.Rest.integer.Goals as goal

-- src/number.rt:47:5
pub returns-clause-text : goal.returns-clause-text
returns-clause-text c = integer_said _ c.args.self.now.bytes.now c.number_text.result.now c.number_text.new.self.bytes.now c.integer.ensures c.number_text.ensures
