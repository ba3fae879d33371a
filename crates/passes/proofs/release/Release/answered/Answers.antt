use Rattle.std.proofs.Common.{◌∙◌, [], ap, sym}
use Rattle.command_blocks.specs.Calls.{call}
use Rattle.command_blocks.specs.Scripts.{after_call}
use Rattle.passes.specs.Releases.{release_left}
use Rattle.passes.proofs.release.Release.answered.Goals as goal

pub returns-in-Run : goal.returns-in-Run
returns-in-Run c = c.ran.ensures c.args.token.now ∙ sym (ap (λ at. after_call (release_left c.args.token.now at) (call 0 [] c.args.answer.now)) c.in-Run.is)
