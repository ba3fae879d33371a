use Rattle.std.proofs.Common.{◌≡◌, Ok, sym, subst, ℕ, ◌∙◌}
use Rattle.links.specs.Views.{sink_view}
use Rattle.command_blocks.specs.Blocks.{drawn}
use Rattle.command_blocks.specs.Scripts.{counter_use}
use Rattle.publish_script.specs.Readings.{IsLineRead, IsSayable, plan_said, reader_of}
use Rattle.publish_script.specs.Scripts.{line_step}
use Rattle.publish_run.specs.Publishings.{HasSaidPlan}
use Rattle.publish_run.specs.Saids.{desk_shows}
use Rattle.publish_run.proofs.Goings.{DrawsSo, counter_said, draws_line, line_said}
use Rattle.publish_run.proofs.stepping.say_line.Goals as goal

pub say_step-requires-clause-sayable : goal.say_step-requires-clause-sayable
say_step-requires-clause-sayable g c =
    let s = c.args.reader.now.seed in
    let n = c.args.reader.now.drawn in
    let read = subst (λ o. IsLineRead s n (line_step s (reader_of c.args.reader.now) c.args.line.now) (reader_of c.line.new.self) (Ok o)) c.in-Ok-Some.field-0-is c.in-Ok-Some.ensures.read in
    (n, subst (λ (x : ℕ). IsSayable x n c.in-Ok-Some.step) (sym (c.seed.ensures ∙ c.line.ensures.seed)) read.1)

pub returns-in-Ok-Some-clause-said : goal.returns-in-Ok-Some-clause-said
returns-in-Ok-Some-clause-said g c =
    let s = c.args.reader.now.seed in
    let n = c.args.reader.now.drawn in
    let d = reader_of c.args.reader.now in
    let x = c.in-Ok-Some.step in
    let same : c.seed.result ≡ s = c.seed.ensures ∙ c.line.ensures.seed in
    let read = subst (λ o. IsLineRead s n (line_step s d c.args.line.now) (reader_of c.line.new.self) (Ok o)) c.in-Ok-Some.field-0-is c.in-Ok-Some.ensures.read in
    let draws : c.line.new.self.drawn ≡ drawn (counter_use (plan_said x)) n = subst (DrawsSo d) read.0 (draws_line s d c.args.line.now) in
    line_said g.D.Desk.goes g.D.Desk.refuses g.D.Desk.remote g.D.Desk.shared s n (line_step s d c.args.line.now) (reader_of c.line.new.self) c.args.desk.now c.say_step.new.desk (desk_shows g.D.Desk.fault g.D.Desk.stopped g.D.Desk.faults g.D.Desk.ends c.args.desk.now) (desk_shows g.D.Desk.fault g.D.Desk.stopped g.D.Desk.faults g.D.Desk.ends c.say_step.new.desk)
    (sink_view g.K.Sink.taken g.K.Sink.write_faults c.args.out.now) (sink_view g.K.Sink.taken g.K.Sink.write_faults c.say_step.new.out) (plan_said x) c.say_step.result read.0
    (subst (λ (y : ℕ). HasSaidPlan g.D.Desk.goes g.D.Desk.refuses g.D.Desk.remote g.D.Desk.shared y n (plan_said x) c.args.desk.now c.say_step.new.desk (desk_shows g.D.Desk.fault g.D.Desk.stopped g.D.Desk.faults g.D.Desk.ends c.args.desk.now) (desk_shows g.D.Desk.fault g.D.Desk.stopped g.D.Desk.faults g.D.Desk.ends c.say_step.new.desk) (sink_view g.K.Sink.taken g.K.Sink.write_faults c.args.out.now) (sink_view g.K.Sink.taken g.K.Sink.write_faults c.say_step.new.out) c.say_step.result) same
    (c.say_step.ensures.said n (subst (λ (y : ℕ). IsSayable y n x) (sym same) read.1) (counter_said n c.drawn.result x (c.drawn.ensures ∙ draws))))
