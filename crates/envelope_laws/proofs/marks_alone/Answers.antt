-- What `marks_alone` ensures.
use Rattle.envelope_laws.proofs.MarksAlone.{marks_alone as alone}
use Rattle.envelope_laws.proofs.marks_alone.Goals as goal

pub returns : goal.returns
returns c = alone
