use Rattle.store_model.specs.Connections.{around}
use Rattle.mini_store.proofs.Runs.{always_ok, on_tables, posts_nothing}
use Rattle.mini_store.proofs.run.run.Goals as goal

pub returns-in_default-clause-run : goal.returns-in_default-clause-run
returns-in_default-clause-run c =
    let d = c.in_default in
    c.run_on_tables.ensures (on_tables c.args.command d.not-Set d.not-Del d.not-Expire d.not-Lpush d.not-Rpush d.not-Rpop d.not-Brpop d.not-Publish) (around c.args.at c.args.conns.now)

pub returns-in_default-clause-posted : goal.returns-in_default-clause-posted
returns-in_default-clause-posted c = always_ok c.run_on_tables.result (posts_nothing c.args.command c.args.conns.now c.in_default.not-Publish)
