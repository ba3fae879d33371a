use Rattle.std.proofs.Common.{ap, ◌∙◌}
use Rattle.line_text.specs.LinesLeft.{lines_left}
use Rattle.schedule_model.specs.Programs.{program_craft}
use Rattle.schedule_world.specs.Desks.{desk_of}
use Rattle.schedule_world.specs.Runs.{from_present, numbered_led}
use Rattle.schedule_world.proofs.run.lines_run.Goals as goal

pub returns : goal.returns
returns c =
    let at = c.loop-present in
    at.invariant ∙ ap (λ p. numbered_led program_craft c.args.is_cut (desk_of at.world) (from_present p (lines_left at.lines))) c.in_default.is
