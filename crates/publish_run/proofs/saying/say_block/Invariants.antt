use Rattle.std.proofs.Common.{[], ℕ}
use Rattle.command_blocks.specs.Scripts.{Plan}
use Rattle.block_core.specs.Cores.{HasHad}
use Rattle.publish_run.specs.Saids.{IsAmid, IsLater, StandsOpen, desk_shows}
use Rattle.publish_run.proofs.saying.say_block.Given as goal

abbrev pub invariant-commands : goal.invariant-commands
invariant-commands g l = record {
  amid : (s p : ℕ) (plan : Plan) → HasHad g.S.Stage.left g.S.Stage.had g.S.Stage.tells s p plan [] l.fn.core → IsAmid g.D.Desk.goes g.S.Stage.left g.S.Stage.had g.S.Stage.tells s p plan l.fn.desk l.desk l.core;
  is_open : StandsOpen (desk_shows g.D.Desk.fault g.D.Desk.stopped g.D.Desk.faults g.D.Desk.ends l.desk);
  later : IsLater (desk_shows g.D.Desk.fault g.D.Desk.stopped g.D.Desk.faults g.D.Desk.ends l.fn.desk) (desk_shows g.D.Desk.fault g.D.Desk.stopped g.D.Desk.faults g.D.Desk.ends l.desk);
}
