-- What is left of a declaration, and what its end tells. Serves the proofs of code.
use Rattle.std.specs.Prelude.{◌≡◌, ℕ, ℤ, List, [], ◌∷◌, codes, Option, None, Some}
use Rattle.block_core.specs.Cores.{HasHad, core_left}
use Rattle.block_core.specs.declared.block.BlockCore.{BlockCore}
use Rattle.block_core.specs.declared.stage.Progress.{Progress}
use Rattle.block_core.specs.declared.stage.Progress.TheVariants as progress
use Rattle.command_blocks.specs.Answers.{is_one, number_of}
use Rattle.command_blocks.specs.Calls.{Call}
use Rattle.command_blocks.specs.EnvelopeTexts.{plain_setting}
use Rattle.command_blocks.specs.Scripts.{Plan, Declare, Undeclare, Script, declare_script}
use Rattle.queue_keys.specs.Names.{Bytes}
use Rattle.routes.specs.declared.declaration.Change.{Change}
use Rattle.routes.specs.declared.declaration.Change.TheVariants.{Add, Remove}
use Rattle.routes.specs.declared.declaration.Declaration.{Declaration}
use Rattle.routes.specs.declared.declare.DeclareStage.{DeclareStage}
use Rattle.routes.specs.declared.declare.Declared.{Declared}

-- the plan that changes an exchange's set so: exchange, routing key, pattern and queue of the binding
abbrev pub declared_plan : Change → Bytes → Bytes → Bytes → Bytes → Plan
declared_plan Add e r x q = Declare e r x q
declared_plan Remove e r x q = Undeclare e r x q

-- the plan of a declaration
abbrev pub declaration_plan : Declaration → Plan
declaration_plan d = declared_plan d.change d.exchange d.routing_key d.pattern d.queue

-- the name of its command
abbrev pub change_word : Change → Bytes
change_word Add = codes "SADD"
change_word Remove = codes "SREM"

-- what is left at its one stage
abbrev pub declaration_left : Declaration → Script
declaration_left d = declare_script plain_setting (change_word d.change) d.exchange d.routing_key d.pattern d.queue

abbrev pub declare_stage_left : DeclareStage → Script
declare_stage_left stage = declaration_left stage.declaration

-- what is left to say of a declaration
abbrev pub declare_left : BlockCore DeclareStage Declared → Script
declare_left core = core_left declare_stage_left core

-- what the answer brings, by the integer that it tells, which counts the members that came or went
abbrev pub declared_by : Option ℤ → Progress DeclareStage Declared
declared_by None = progress.Refused
declared_by (Some z) = progress.Over (record { changed = is_one (Some z) })

-- the end of a declaration tells of its one call, which was answered an integer: whether that is 1
abbrev pub TellsDeclare : List Call → Declared → Type 0
TellsDeclare calls end = (x : Call) × (z : ℤ) × (calls ≡ x ∷ []) × (number_of x.answer ≡ Some z) × (end.changed ≡ is_one (Some z))

-- the core of a declaration had these calls so far
abbrev pub HasDeclaring : ℕ → ℕ → Plan → List Call → BlockCore DeclareStage Declared → Type 0
HasDeclaring s p plan calls core = HasHad declare_stage_left (λ plan calls stage. calls ≡ []) (λ plan calls end. TellsDeclare calls end) s p plan calls core
