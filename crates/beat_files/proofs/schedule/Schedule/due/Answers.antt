use Rattle.std.proofs.Common.{ap, arith, length}
use Rattle.std.proofs.lemmas.Result.{IfOk-weaker}
use Rattle.beat_files.specs.Readings.{tasks_in}
use Rattle.beat_files.proofs.Below.{due_below}
use Rattle.beat_files.proofs.schedule.Schedule.due.Goals as goal

pub returns-clause-below : goal.returns-clause-below
returns-clause-below c =
    IfOk-weaker c.due.result _ _
    (λ found d. due_below c.args.now 0 (length (tasks_in c.args.self.now)) c.as_slice.result.now found.items (omega (arith, ap length c.as_slice.ensures.value, c.args.self.now.paired)) d)
    c.due.ensures
