-- What `lawful_records` ensures.
use Rattle.check_laws.proofs.Led.{records}
use Rattle.check_laws.proofs.lawful_records.Goals as goal

pub returns : goal.returns
returns c = records
