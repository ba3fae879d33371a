use Rattle.envelope.proofs.BodyTexts.{entry_body, carried_body}
use Rattle.envelope_laws.proofs.laws.bodies_stay.Goals as goal

pub returns-clause-go_in : goal.returns-clause-go_in
returns-clause-go_in c = entry_body

pub returns-clause-come_out : goal.returns-clause-come_out
returns-clause-come_out c = carried_body
