-- Which lines words can spell, as far as preparing a block needs it. Serves the proofs of code.
use Rattle.client_plans.specs.Plans.{IsAskable}
use Rattle.schedule_model.specs.declared.line.Line.{Line}
use Rattle.schedule_model.specs.declared.line.Line.TheVariants as line

-- what the line begins can be asked for
abbrev pub IsAskableLine : Line → Type 0
IsAskableLine (line.Begin c a) = IsAskable a
IsAskableLine other = Unit {0}
