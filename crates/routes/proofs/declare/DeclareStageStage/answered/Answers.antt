use Rattle.std.proofs.Common.{◌≡◌, ◌++◌, ◌∷◌, [], ap, subst, sym}
use Rattle.block_core.specs.Stages.{TellsOn}
use Rattle.command_blocks.specs.Answers.{number_of}
use Rattle.routes.specs.Declares.{TellsDeclare}
use Rattle.routes.proofs.Declares.{answer_tells}
use Rattle.routes.proofs.declare.DeclareStageStage.answered.Goals as goal

pub returns-clause-tells : goal.returns-clause-tells
returns-clause-tells c = λ plan calls last is h. subst (TellsOn (λ l stage. l ≡ []) TellsDeclare (calls ++ last ∷ [])) (sym c.counted.ensures)
    (answer_tells calls last (number_of c.args.answer.now) h (ap number_of is))
