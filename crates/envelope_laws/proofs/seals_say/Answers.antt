-- What `seals_say` ensures.
use Rattle.envelope_laws.proofs.SealsSay.{seals_say as say}
use Rattle.envelope_laws.proofs.seals_say.Goals as goal

pub returns : goal.returns
returns c = say
