-- What an answer brings to a stage of a block. Serves the proofs of code.
use Rattle.std.specs.Prelude.{List}
use Rattle.command_blocks.specs.Calls.{Call}
use Rattle.command_blocks.specs.Scripts.{Script, Over, Off}
use Rattle.block_core.specs.declared.stage.Progress.{Progress}
use Rattle.block_core.specs.declared.stage.Progress.TheVariants as progress

-- what is left by what an answer brought
abbrev pub progress_left : {S E : Type 0} → (S → Script) → Progress S E → Script
progress_left left (progress.Next stage) = left stage
progress_left left (progress.Over end) = Over
progress_left left progress.Refused = Off

-- what an answer brought tells of the calls up to it
abbrev pub TellsOn : {S E : Type 0} → (List Call → S → Type 0) → (List Call → E → Type 0) → List Call → Progress S E → Type 0
TellsOn had tells calls (progress.Next stage) = had calls stage
TellsOn had tells calls (progress.Over end) = tells calls end
TellsOn had tells calls progress.Refused = Unit {0}
