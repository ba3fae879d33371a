use Rattle.record_reading.proofs.Passed.{passed}
use Rattle.record_reading.proofs.rest.Rest.pass.Goals as goal

-- src/rest.rt:13:5
pub returns-in-Some-clause-passed : goal.returns-in-Some-clause-passed
returns-in-Some-clause-passed c = λ _. passed c.args.text.now c.args.self.now.bytes.now c.in-Some.rest.now c.in-Some.ensures.cases.0 c.in-Some.ensures.cases.1
