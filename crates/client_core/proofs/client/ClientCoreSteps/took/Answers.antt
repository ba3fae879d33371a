use Rattle.client_core.proofs.Works.{heard_had}
use Rattle.client_core.proofs.client.ClientCoreSteps.took.Goals as goal

pub returns-clause-had : goal.returns-clause-had
returns-clause-had c = heard_had c.args.self.now c.hear.new.self c.args.at c.args.reply.now c.hear.result c.hear.ensures
