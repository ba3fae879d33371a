use Rattle.std.proofs.Common.{◌∙◌}
use Rattle.std.proofs.lemmas.Result.{IfOk-weaker}
use Rattle.store_model.specs.Connections.{conn}
use Rattle.mini_store.proofs.Steps.{inside_other}
use Rattle.mini_store.proofs.database.Database.inside.Goals as goal

pub returns-in_default : goal.returns-in_default
returns-in_default c = IfOk-weaker c.enqueue.result _ _ (λ v h q e. h q e ∙ inside_other c.args.at c.args.self.now c.args.number (conn c.args.self.now.conns c.args.number) q c.args.command c.in_default.not-Exec c.in_default.not-Discard c.in_default.not-Faulty) c.enqueue.ensures
