use Rattle.place_walk.proofs.PutBack.{on_ok, stopped_none, stopped_some}
use Rattle.place_walk.proofs.walk.HistoryWalk.stopped.Goals as goal

pub returns-in-None : goal.returns-in-None
returns-in-None c = stopped_none c.args.self.now c.args.conn c.take.new.self c.in-None.ensures.before c.take.ensures.after

pub returns-in-Some : goal.returns-in-Some
returns-in-Some c = on_ok c.put.result (λ put. stopped_some c.args.self.now c.args.conn c.in-Some.seat c.stopped.result c.take.new.self c.put.new.self c.in-Some.ensures.before c.take.ensures.after put c.stopped.ensures) c.put.ensures
