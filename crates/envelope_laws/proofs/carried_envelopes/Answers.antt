-- What `carried_envelopes` ensures.
use Rattle.envelope_laws.proofs.Carried.{carries}
use Rattle.envelope_laws.proofs.carried_envelopes.Goals as goal

pub returns : goal.returns
returns c = carries
