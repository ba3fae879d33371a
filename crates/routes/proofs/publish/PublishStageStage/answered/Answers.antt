use Rattle.std.proofs.Common.{◌∙◌, subst, sym}
use Rattle.command_blocks.specs.Calls.{call}
use Rattle.serde_json.specs.View.{view as data_of}
use Rattle.routes.specs.Bringing.{IsBrought}
use Rattle.routes.proofs.Answered.{answered_tells, brought_on, progress_is}
use Rattle.routes.proofs.publish.PublishStageStage.answered.Goals as goal

pub returns-clause-left : goal.returns-clause-left
returns-clause-left c = λ at words. progress_is (data_of c.args.self.envelope) c.in_ok-brought.brought c.progress.result c.progress.ensures ∙ brought_on (data_of c.args.self.envelope) c.args.self.next (call at words c.args.answer.now) c.in_ok-brought.brought c.in_ok-brought.ensures

pub returns-clause-tells : goal.returns-clause-tells
returns-clause-tells c = λ plan calls last is had. answered_tells plan calls last c.args.self c.in_ok-brought.brought c.progress.result had
    (subst (λ r. IsBrought (data_of c.args.self.envelope) c.args.self.next r c.in_ok-brought.brought) (sym is) c.in_ok-brought.ensures) c.progress.ensures
