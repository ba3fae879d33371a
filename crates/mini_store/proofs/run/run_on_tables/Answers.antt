use Rattle.mini_store.proofs.Runs.{looks}
use Rattle.mini_store.proofs.run.run_on_tables.Goals as goal

pub returns-in_default : goal.returns-in_default
returns-in_default c on =
    let d = c.in_default in
    c.run_to_look-effect.ensures (looks c.args.command d.not-Sadd d.not-Srem d.not-Hset d.not-Hdel d.not-Zadd d.not-Zrem on)
