-- What `envelopes_read` ensures.
use Rattle.envelope.proofs.EntryRelations.{entry_from, entry_read}
use Rattle.envelope.proofs.Relations.{envelope_from, envelope_read, tree_said}
use Rattle.envelope_laws.proofs.envelopes_read.Goals as goal

pub returns-clause-envelopes : goal.returns-clause-envelopes
returns-clause-envelopes c = λ d b. (envelope_from d b, envelope_read d b)

pub returns-clause-entries : goal.returns-clause-entries
returns-clause-entries c = λ e b. (entry_from e b, entry_read e b)

pub returns-clause-said : goal.returns-clause-said
returns-clause-said c = tree_said
