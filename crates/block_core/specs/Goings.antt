-- The steps of taking a reply; these serve the proofs of a core alone.
use Rattle.std.specs.Prelude.{◌≡◌, ⊤, Result, Ok, Err, Some}
use Rattle.store_model.specs.declared.reply.Reply.{Reply}
use Rattle.block_core.specs.declared.block.BlockCore.{BlockCore}
use Rattle.block_core.specs.declared.block.CoreState.TheVariants as state
use Rattle.block_core.specs.declared.fault.ReplyFault.{ReplyFault}
use Rattle.block_core.specs.declared.fault.ReplyFault.TheVariants.{Refused, Memory}
use Rattle.block_core.specs.declared.stage.Progress.{Progress}
use Rattle.block_core.specs.declared.stage.Progress.TheVariants as progress

-- a reply whose answer isn't a listed one was refused, or there was no memory to copy it
abbrev pub IsRefused : {S E : Type 0} → Reply → BlockCore S E → Result ⊤ ReplyFault → Type 0
IsRefused reply new (Ok u) = ⊥
IsRefused reply new (Err (Refused given)) = (new.state ≡ state.Off) × (given ≡ reply)
IsRefused reply new (Err Memory) = new.state ≡ state.Spent

-- what an answer brought was done
abbrev pub HasGone : {S E : Type 0} → Reply → Progress S E → BlockCore S E → Result ⊤ ReplyFault → Type 0
HasGone reply (progress.Next stage) new result = (new.state ≡ state.Saying stage) × (result ≡ Ok tt)
HasGone reply (progress.Over end) new result = (new.state ≡ state.Over (Some end)) × (result ≡ Ok tt)
HasGone reply progress.Refused new result = IsRefused reply new result

-- memory was wanting
abbrev pub IsSpent : {S E : Type 0} → BlockCore S E → Result ⊤ ReplyFault → Type 0
IsSpent new result = (new.state ≡ state.Spent) × (result ≡ Err Memory)
