-- What `envelopes_go_in` ensures.
use Rattle.envelope_laws.proofs.Entered.{entered}
use Rattle.envelope_laws.proofs.envelopes_go_in.Goals as goal

pub returns : goal.returns
returns c = entered
