-- What `names_are_texts` ensures.
use Rattle.envelope_laws.proofs.Names.{names_are}
use Rattle.envelope_laws.proofs.names_are_texts.Goals as goal

pub returns : goal.returns
returns c = names_are
