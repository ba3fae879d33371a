use Rattle.publish_run.specs.Saids.{calls_said, desk_shows}
use Rattle.publish_run.proofs.Sayings.{amid_end, amid_on, later_on}
use Rattle.publish_run.proofs.saying.say_block.Goals as goal

pub returns-in-Err : goal.returns-in-Err
returns-in-Err g c = record {
  later = later_on (desk_shows g.D.Desk.fault g.D.Desk.stopped g.D.Desk.faults g.D.Desk.ends c.args.desk.now) (desk_shows g.D.Desk.fault g.D.Desk.stopped g.D.Desk.faults g.D.Desk.ends c.commands.desk) (desk_shows g.D.Desk.fault g.D.Desk.stopped g.D.Desk.faults g.D.Desk.ends c.say_one.new.desk) c.commands.invariant.later c.say_one.ensures.later;
  said = λ s p plan h.
      let a = c.commands.invariant.amid s p plan h in
      amid_end g.D.Desk.goes g.met.D.Desk.joins g.D.Desk.refuses g.D.Desk.remote g.D.Desk.shared g.S.Stage.left g.S.Stage.had g.S.Stage.tells s p plan c.args.desk.now c.commands.desk c.say_one.new.desk c.commands.core c.say_one.new.core
      (desk_shows g.D.Desk.fault g.D.Desk.stopped g.D.Desk.faults g.D.Desk.ends c.args.desk.now) (desk_shows g.D.Desk.fault g.D.Desk.stopped g.D.Desk.faults g.D.Desk.ends c.commands.desk) (desk_shows g.D.Desk.fault g.D.Desk.stopped g.D.Desk.faults g.D.Desk.ends c.say_one.new.desk)
      a c.in-Err.fault c.commands.invariant.later (c.in-Err.ensures.said s p plan (calls_said a.deeds) a.had_so);
}

pub commands-preserved : goal.commands-preserved
commands-preserved g c = record {
  amid = λ s p plan h.
      let a = c.commands.invariant.amid s p plan h in
      amid_on g.D.Desk.goes g.met.D.Desk.joins g.D.Desk.refuses g.D.Desk.remote g.D.Desk.shared g.S.Stage.left g.S.Stage.had g.S.Stage.tells s p plan c.args.desk.now c.commands.desk c.say_one.new.desk c.commands.core c.say_one.new.core
      (desk_shows g.D.Desk.fault g.D.Desk.stopped g.D.Desk.faults g.D.Desk.ends c.args.desk.now) (desk_shows g.D.Desk.fault g.D.Desk.stopped g.D.Desk.faults g.D.Desk.ends c.commands.desk) (desk_shows g.D.Desk.fault g.D.Desk.stopped g.D.Desk.faults g.D.Desk.ends c.say_one.new.desk)
      a (c.in-Ok.ensures.said s p plan (calls_said a.deeds) a.had_so);
  is_open = c.in-Ok.ensures.is_open;
  later = later_on (desk_shows g.D.Desk.fault g.D.Desk.stopped g.D.Desk.faults g.D.Desk.ends c.args.desk.now) (desk_shows g.D.Desk.fault g.D.Desk.stopped g.D.Desk.faults g.D.Desk.ends c.commands.desk) (desk_shows g.D.Desk.fault g.D.Desk.stopped g.D.Desk.faults g.D.Desk.ends c.say_one.new.desk) c.commands.invariant.later c.say_one.ensures.later;
}
