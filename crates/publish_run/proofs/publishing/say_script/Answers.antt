use Rattle.std.proofs.Common.{ap, length, nat_lt, subst, sym, ◌≡◌, ◌∙◌}
use Rattle.line_text.specs.Lines.{lines_of, numbered}
use Rattle.line_text.specs.LinesLeft.{lines_left}
use Rattle.links.specs.Views.{sink_view}
use Rattle.schedule_model.specs.Schedules.{max_input}
use Rattle.publish_script.specs.Scripts.{Blocks, header_script}
use Rattle.publish_script.proofs.Numbered.{header_good}
use Rattle.publish_run.specs.Publishings.{HasSaidScript}
use Rattle.publish_run.specs.Saids.{desk_shows}
use Rattle.publish_run.proofs.Linked.{blocks_same}
use Rattle.publish_run.proofs.publishing.say_script.Goals as goal

pub say_lines-requires-clause-good : goal.say_lines-requires-clause-good
say_lines-requires-clause-good g c =
    let good = c.requires.good in (
      good.0,
      header_good c.args.seed (nat_lt max_input (length c.args.bytes.now)) (lines_left c.new-lines.result) c.next-header.result (lines_left c.next-header.new.self) good.0
          (subst (λ l. header_script c.args.seed (nat_lt max_input (length c.args.bytes.now)) l ≡ Blocks good.0) (sym (c.new-lines.ensures ∙ ap (λ t. numbered 1 (lines_of t)) c.script_text.ensures)) good.1) c.next-header.ensures.steps,
    )

pub returns : goal.returns
returns g c =
    let good = c.requires.good in
    let lines = header_good c.args.seed (nat_lt max_input (length c.args.bytes.now)) (lines_left c.new-lines.result) c.next-header.result (lines_left c.next-header.new.self) good.0
    (subst (λ l. header_script c.args.seed (nat_lt max_input (length c.args.bytes.now)) l ≡ Blocks good.0) (sym (c.new-lines.ensures ∙ ap (λ t. numbered 1 (lines_of t)) c.script_text.ensures)) good.1) c.next-header.ensures.steps in
    let said = c.say_lines.ensures.said in
    record {
      said = (
        good.0,
        good.1,
        subst (λ ps. HasSaidScript g.D.Desk.goes g.D.Desk.refuses g.D.Desk.remote g.D.Desk.shared c.args.seed 0 ps c.args.desk.now c.say_lines.new.desk (desk_shows g.D.Desk.fault g.D.Desk.stopped g.D.Desk.faults g.D.Desk.ends c.args.desk.now) (desk_shows g.D.Desk.fault g.D.Desk.stopped g.D.Desk.faults g.D.Desk.ends c.say_lines.new.desk) (sink_view g.K.Sink.taken g.K.Sink.write_faults c.args.out.now) (sink_view g.K.Sink.taken g.K.Sink.write_faults c.say_lines.new.out) c.say_lines.result)
            (sym (blocks_same good.0 said.0 (sym lines ∙ said.1))) said.2,
      );
    }
