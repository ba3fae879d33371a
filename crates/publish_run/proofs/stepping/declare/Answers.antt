use Rattle.routes.specs.Declares.{declaration_plan}
use Rattle.publish_run.specs.Saids.{desk_shows}
use Rattle.publish_run.proofs.Amid.{said_amid, said_declared}
use Rattle.publish_run.proofs.stepping.declare.Goals as goal

pub returns-in-Ok : goal.returns-in-Ok
returns-in-Ok g c = record {
  later = c.say_block.ensures.later;
  said = λ s n view.
      let d = c.args.declaration in
      said_declared g.D.Desk.goes g.D.Desk.refuses g.D.Desk.remote g.D.Desk.shared s n c.args.desk.now c.say_block.new.desk (desk_shows g.D.Desk.fault g.D.Desk.stopped g.D.Desk.faults g.D.Desk.ends c.args.desk.now) (desk_shows g.D.Desk.fault g.D.Desk.stopped g.D.Desk.faults g.D.Desk.ends c.say_block.new.desk)
      _ d.change d.exchange d.routing_key d.pattern d.queue view c.in-Ok.field-0 (c.declare_core-core.ensures.lawful s n) (c.in-Ok.ensures.said s 0 (declaration_plan d) (c.declare_core-core.ensures.traced s 0));
}

pub returns : goal.returns
returns g c = record {
  later = c.say_block.ensures.later;
  said = λ s n view.
      let d = c.args.declaration in
      said_amid g.D.Desk.goes g.D.Desk.refuses g.D.Desk.remote g.D.Desk.shared s n c.args.desk.now c.say_block.new.desk (desk_shows g.D.Desk.fault g.D.Desk.stopped g.D.Desk.faults g.D.Desk.ends c.args.desk.now) (desk_shows g.D.Desk.fault g.D.Desk.stopped g.D.Desk.faults g.D.Desk.ends c.say_block.new.desk)
      _ (declaration_plan d) view c.in-Err.fault c.end_at.result (c.declare_core-core.ensures.lawful s n) (c.in-Err.ensures.said s 0 (declaration_plan d) (c.declare_core-core.ensures.traced s 0)) c.end_at.ensures;
}
