use Rattle.std.proofs.Common.{◌≡◌, Some, sym, ◌∙◌}
use Rattle.command_blocks.specs.Scripts.{next_words}
use Rattle.block_core.specs.Cores.{core_left}
use Rattle.publish_run.specs.Saids.{desk_shows}
use Rattle.publish_run.proofs.Sayings.{later_counts, on_ok, said_one}
use Rattle.publish_run.proofs.saying.say_one.Goals as goal

pub returns-in-Ok : goal.returns-in-Ok
returns-in-Ok g c = record {
  is_open = on_ok _ c.hear.result c.in-Ok.ensures.shown.1;
  later = later_counts _ _ _ _ _ _ _ _ c.in-Ok.ensures.counts;
  said = λ s p plan calls h.
      let n : next_words (core_left g.S.Stage.left c.args.core.now) 0 ≡ Some c.in-Ok-Some.words = sym c.in-Ok-Some.ensures.words ∙ c.in-Ok-Some.field-0-is in
      said_one g.D.Desk.goes g.met.D.Desk.joins g.D.Desk.refuses g.D.Desk.remote g.D.Desk.shared g.S.Stage.left g.S.Stage.had g.S.Stage.tells s p plan c.args.desk.now c.ask.new.self c.args.core.now c.hear.new.core
      (desk_shows g.D.Desk.fault g.D.Desk.stopped g.D.Desk.faults g.D.Desk.ends c.args.desk.now) (desk_shows g.D.Desk.fault g.D.Desk.stopped g.D.Desk.faults g.D.Desk.ends c.ask.new.self)
      calls c.in-Ok-Some.words c.in-Ok.reply c.hear.result c.in-Ok.ensures.ok c.in-Ok.ensures.shown.1 h n (c.hear.ensures.heard s p plan calls c.in-Ok-Some.words h n);
}
