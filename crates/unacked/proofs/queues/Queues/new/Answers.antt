use Rattle.unacked.proofs.Pops.{some_of}
use Rattle.unacked.proofs.queues.Queues.new.Goals as goal

pub invariant_of-result-clause-some : goal.invariant_of-result-clause-some
invariant_of-result-clause-some c = some_of c.args.names c.requires.some
