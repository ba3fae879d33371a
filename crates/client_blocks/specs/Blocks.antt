-- What is left of a client's block. Serves the proofs of code.
use Rattle.command_blocks.specs.Scripts.{Script, Over}
use Rattle.passes.specs.Passes.{pass_left}
use Rattle.returns.specs.Returns.{return_left}
use Rattle.routes.specs.Declares.{declare_left}
use Rattle.routes.specs.Publishes.{publish_left}
use Rattle.unacked.specs.Ends.{end_left}
use Rattle.unacked.specs.Pops.{pop_left}
use Rattle.client_blocks.specs.declared.left.BlockLeft.{BlockLeft}
use Rattle.client_blocks.specs.declared.left.BlockLeft.TheVariants as left

-- its script
abbrev pub script_left : BlockLeft → Script
script_left left.Over = Over
script_left (left.Declare core) = declare_left core.value
script_left (left.Publish core) = publish_left core.value
script_left (left.Pop core) = pop_left core.value
script_left (left.End core) = end_left core.value
script_left (left.Return core) = return_left core.value
script_left (left.Pass core) = pass_left core.value
