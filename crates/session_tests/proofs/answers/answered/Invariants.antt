use Rattle.desks.specs.Faults.{IsOpen}
use Rattle.session_tests.proofs.answers.answered.Given as goal

-- the desk is open
abbrev pub invariant-lines : goal.invariant-lines
invariant-lines l = IsOpen l.desk.standing.fault l.desk.standing.stopped
