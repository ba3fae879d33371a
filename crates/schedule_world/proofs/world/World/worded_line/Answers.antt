use Rattle.std.proofs.Common.{sym, ◌∙◌, map}
use Rattle.schedule_world.proofs.AskableLines.{askable}
use Rattle.schedule_world.proofs.world.World.worded_line.Goals as goal

pub spelled_line-requires : goal.spelled_line-requires
spelled_line-requires c = askable (map (λ word. word.now) c.args.words.now) c.in-Some.line (sym c.in_ok-found.ensures ∙ c.in-Some.is)
