-- A block by its core: its end, what it had, and what a reply brings. Serves the proofs of code.
use Rattle.std.specs.Prelude.{◌≡◌, ℕ, List, [], ◌∷◌, ◌++◌, ⊤, Option, None, Some, IsSome, option_map, Result, Ok, Err}
use Rattle.store_model.specs.Words.{Words}
use Rattle.store_model.specs.declared.reply.Reply.{Reply}
use Rattle.block_core.specs.Cores.{HasHad, core_end}
use Rattle.block_core.specs.declared.fault.ReplyFault.{ReplyFault}
use Rattle.block_core.specs.declared.fault.ReplyFault.TheVariants.{Refused, Memory}
use Rattle.command_blocks.specs.Calls.{Call, call}
use Rattle.command_blocks.specs.Scripts.{Plan, Over, Off, next_words}
use Rattle.client_blocks.specs.Blocks.{script_left}
use Rattle.client_blocks.specs.declared.left.BlockLeft.{BlockLeft}
use Rattle.client_blocks.specs.declared.left.BlockLeft.TheVariants as left
use Rattle.passes.specs.Passes.{PassHad, pass_stage_left}
use Rattle.passes.specs.Told.{TellsPass}
use Rattle.passes.specs.declared.passing.PassStage.{PassStage}
use Rattle.returns.specs.Returns.{ReturnHad, TellsReturn, return_stage_left}
use Rattle.routes.specs.Declares.{TellsDeclare, declare_stage_left}
use Rattle.routes.specs.Publishes.{PublishHad, TellsPublish, publish_stage_left}
use Rattle.routes.specs.declared.declare.DeclareStage.{DeclareStage}
use Rattle.routes.specs.declared.declare.Declared.{Declared}
use Rattle.passes.specs.declared.ended.PassEnd.{PassEnd}
use Rattle.unacked.specs.Ends.{TellsEnd, end_stage_left}
use Rattle.unacked.specs.Pops.{PopHad, TellsPop, pop_stage_left}
use Rattle.unacked.specs.declared.end.Acked.{Acked}
use Rattle.unacked.specs.declared.end.EndStage.{EndStage}
use Rattle.unacked.specs.declared.pop.PopEnd.{PopEnd}
use Rattle.unacked.specs.declared.pop.PopStage.{PopStage}
use Rattle.steps.specs.Ends.{Declares, Publishes, Pops, Acknowledges, Returns, Passes, plan_kind}
use Rattle.steps.specs.Goings.{script_after}
use Rattle.steps.specs.declared.ended.BlockEnd.{BlockEnd}
use Rattle.steps.specs.declared.ended.BlockEnd.TheVariants as end

-- ---- ends

-- the end of a block, where it is over and that wasn't told yet
abbrev pub left_end : BlockLeft → Option BlockEnd
left_end left.Over = None
left_end (left.Declare core) = option_map end.Declare (core_end core.value)
left_end (left.Publish core) = option_map end.Publish (core_end core.value)
left_end (left.Pop core) = option_map end.Pop (core_end core.value)
left_end (left.End core) = option_map end.End (core_end core.value)
left_end (left.Return core) = option_map end.Return (core_end core.value)
left_end (left.Pass core) = option_map end.Pass (core_end core.value)

-- ---- what a block had

-- the block is of the plan's kind
abbrev pub IsOfKind : Plan → BlockLeft → Type 0
IsOfKind plan left.Over = ⊥
IsOfKind plan (left.Declare core) = plan_kind plan ≡ Declares
IsOfKind plan (left.Publish core) = plan_kind plan ≡ Publishes
IsOfKind plan (left.Pop core) = plan_kind plan ≡ Pops
IsOfKind plan (left.End core) = plan_kind plan ≡ Acknowledges
IsOfKind plan (left.Return core) = plan_kind plan ≡ Returns
IsOfKind plan (left.Pass core) = plan_kind plan ≡ Passes

-- what the stages and the ends of the cores tell, whatever the plan
abbrev pub DeclareHad : Plan → List Call → DeclareStage → Type 0
DeclareHad plan calls stage = calls ≡ []

abbrev pub DeclareTells : Plan → List Call → Declared → Type 0
DeclareTells plan calls e = TellsDeclare calls e

abbrev pub PopsHad : Plan → List Call → PopStage → Type 0
PopsHad plan calls stage = PopHad calls stage

abbrev pub PopTells : Plan → List Call → PopEnd → Type 0
PopTells plan calls e = TellsPop calls e

abbrev pub EndHad : Plan → List Call → EndStage → Type 0
EndHad plan calls stage = Unit {0}

abbrev pub EndTells_ : Plan → List Call → Acked → Type 0
EndTells_ plan calls e = TellsEnd calls e

abbrev pub PassesHad : Plan → List Call → PassStage → Type 0
PassesHad plan calls stage = PassHad calls stage

abbrev pub PassTells : Plan → List Call → PassEnd → Type 0
PassTells plan calls e = TellsPass calls e

-- the core of the block of a plan, of a client of seed s that made p passes before, had these calls so far
abbrev pub CoreHad : ℕ → ℕ → Plan → List Call → BlockLeft → Type 0
CoreHad s p plan calls left.Over = ⊥
CoreHad s p plan calls (left.Declare core) = HasHad declare_stage_left DeclareHad DeclareTells s p plan calls core.value
CoreHad s p plan calls (left.Publish core) = HasHad publish_stage_left PublishHad TellsPublish s p plan calls core.value
CoreHad s p plan calls (left.Pop core) = HasHad pop_stage_left PopsHad PopTells s p plan calls core.value
CoreHad s p plan calls (left.End core) = HasHad end_stage_left EndHad EndTells_ s p plan calls core.value
CoreHad s p plan calls (left.Return core) = HasHad return_stage_left ReturnHad TellsReturn s p plan calls core.value
CoreHad s p plan calls (left.Pass core) = HasHad pass_stage_left PassesHad PassTells s p plan calls core.value

-- it is the block of this plan, and had these calls so far
abbrev pub LeftHad : ℕ → ℕ → Plan → List Call → BlockLeft → Type 0
LeftHad s p plan calls left = IsOfKind plan left × CoreHad s p plan calls left

-- ---- replies

-- what taking a reply left of a block
abbrev pub LeftTaken : BlockLeft → BlockLeft → Reply → Result ⊤ ReplyFault → Type 0
LeftTaken old new r (Ok u) = (script_left new ≡ script_after (script_left old) r) × (script_left new ≡ Off → ⊥) × (script_left new ≡ Over → IsSome (left_end new))
LeftTaken old new r (Err (Refused given)) = (script_left new ≡ script_after (script_left old) r) × (script_left new ≡ Off) × (given ≡ r)
LeftTaken old new r (Err Memory) = Unit {0}

-- what was had then
abbrev pub LeftHadOn : (List Call → BlockLeft → Type 0) → List Call → Call → BlockLeft → Result ⊤ ReplyFault → Type 0
LeftHadOn Had calls x new (Ok u) = Had (calls ++ x ∷ []) new
LeftHadOn Had calls x new (Err (Refused given)) = Had (calls ++ x ∷ []) new
LeftHadOn Had calls x new (Err Memory) = Unit {0}

-- a block took a reply: what follows, and what it had then
pub record HeardLeft (old new : BlockLeft) (at : ℕ) (r : Reply) (result : Result ⊤ ReplyFault) : Type 0 where
  pub taken : LeftTaken old new r result
  pub traced : (s p : ℕ) (plan : Plan) (calls : List Call) (words : Words) → LeftHad s p plan calls old → next_words (script_left old) at ≡ Some words → LeftHadOn (LeftHad s p plan) calls (call at words r.answer) new result
