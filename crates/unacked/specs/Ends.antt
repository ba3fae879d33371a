-- What is left of an acknowledgement, and what its end tells. Serves the proofs of code.
use Rattle.std.specs.Prelude.{◌≡◌, ℕ, ℤ, true, refl, List, [], ◌∷◌, ◌++◌, codes, Some}
use Rattle.store_model.specs.Words.{Words}
use Rattle.delivery_tags.specs.Tags.{tag_text}
use Rattle.command_blocks.specs.Answers.{is_one, integers}
use Rattle.command_blocks.specs.Calls.{Call}
use Rattle.command_blocks.specs.Cores.{is_saying}
use Rattle.command_blocks.specs.EnvelopeTexts.{plain_setting}
use Rattle.command_blocks.specs.Scripts.{End, Script}
use Rattle.block_core.specs.Cores.{HasHad, core_left}
use Rattle.block_core.specs.declared.block.BlockCore.{BlockCore}
use Rattle.unacked.specs.Steps.{steps_left}
use Rattle.unacked.specs.declared.end.Acked.{Acked}
use Rattle.unacked.specs.declared.end.EndStage.{EndStage}
use Rattle.unacked.specs.declared.step.Step.{Step}
use Rattle.unacked.specs.declared.step.Step.TheVariants.{Begin, Index, Table, Run}

-- the command that takes a tag out of the index
abbrev pub unindex_words : ℕ → ℕ → Words
unindex_words tag at = codes "ZREM" ∷ plain_setting.index ∷ tag_text tag ∷ []

-- the command that takes its entry out of the table
abbrev pub untable_words : ℕ → Words
untable_words tag = codes "HDEL" ∷ plain_setting.unacked ∷ tag_text tag ∷ []

-- what is left at a stage
abbrev pub end_stage_left : EndStage → Script
end_stage_left stage = steps_left (unindex_words stage.tag.0) (untable_words stage.tag.0) stage.step

-- what is left to say of an acknowledgement
abbrev pub end_left : BlockCore EndStage Acked → Script
end_left core = core_left end_stage_left core

-- the end of an acknowledgement tells of its calls, by the answer to the last, which is EXEC: two integers, and whether the second is 1
abbrev pub TellsEnd : List Call → Acked → Type 0
TellsEnd calls end = (before : List Call) × (last : Call) × (x : ℤ) × (y : ℤ) × (calls ≡ before ++ last ∷ []) × (last.answer ≡ integers (x ∷ y ∷ [])) × (end.removed ≡ is_one (Some y))

-- the core of the acknowledgement of a tag had these calls so far
abbrev pub HasEnding : ℕ → ℕ → ℕ → List Call → BlockCore EndStage Acked → Type 0
HasEnding s p tag calls core = HasHad end_stage_left (λ plan calls stage. Unit {0}) (λ plan calls end. TellsEnd calls end) s p (End (tag_text tag)) calls core

-- at each step a command is next
pub end_says : (tag : ℕ) (step : Step) → is_saying (steps_left (unindex_words tag) (untable_words tag) step) ≡ true
end_says tag Begin = refl
end_says tag Index = refl
end_says tag Table = refl
end_says tag Run = refl
