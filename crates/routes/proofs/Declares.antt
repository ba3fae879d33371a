-- A declaration is said by one command.
use Rattle.std.proofs.Common.{◌≡◌, ℕ, ℤ, true, List, [], ◌∷◌, ◌++◌, Option, None, Some, refl, ap}
use Rattle.block_core.specs.Stages.{TellsOn, progress_left}
use Rattle.block_laws.specs.Rows.{IsLawfulPlan}
use Rattle.command_blocks.specs.Answers.{number_of}
use Rattle.command_blocks.specs.Calls.{Call}
use Rattle.command_blocks.specs.EnvelopeTexts.{plain_setting}
use Rattle.command_blocks.specs.Scripts.{Over, if_told, script_of}
use Rattle.queue_keys.specs.Names.{is_name}
use Rattle.routes.specs.Declares.{TellsDeclare, declaration_left, declaration_plan, declare_stage_left, declared_by}
use Rattle.routes.specs.declared.declaration.Change.{Change}
use Rattle.routes.specs.declared.declaration.Change.TheVariants.{Add, Remove}
use Rattle.routes.specs.declared.declaration.Declaration.{Declaration}
use Rattle.routes.specs.declared.declare.DeclareStage.{DeclareStage}

-- what is left of it is its plan's script
pub declared_left : (d : Declaration) (s p : ℕ) → declaration_left d ≡ script_of plain_setting s p (declaration_plan d)
declared_left d s p = by d.change refl where
  by : (c : Change) → d.change ≡ c → declaration_left d ≡ script_of plain_setting s p (declaration_plan d)
  by Add e = rw e refl
  by Remove e = rw e refl

-- its plan is lawful
pub lawful_declaration : (d : Declaration) (s n : ℕ) → is_name d.queue ≡ true → IsLawfulPlan plain_setting s n (declaration_plan d)
lawful_declaration d s n name = by d.change refl where
  by : (c : Change) → d.change ≡ c → IsLawfulPlan plain_setting s n (declaration_plan d)
  by Add e = rw e (record { exchange = d.exchange_part; routing_key = d.key_part; pattern = d.pattern_part; queue = name })
  by Remove e = rw e (record { exchange = d.exchange_part; routing_key = d.key_part; pattern = d.pattern_part; queue = name })

-- what the answer brings
pub answer_left : (o : Option ℤ) → progress_left declare_stage_left (declared_by o) ≡ if_told (λ (z : ℤ). Over) o
answer_left None = refl
answer_left (Some z) = refl

pub answer_tells : (calls : List Call) (x : Call) (o : Option ℤ) → calls ≡ [] → number_of x.answer ≡ o → TellsOn (λ (l : List Call) (stage : DeclareStage). l ≡ []) TellsDeclare (calls ++ x ∷ []) (declared_by o)
answer_tells calls x None none is = tt
answer_tells calls x (Some z) none is = (x, z, ap (λ (l : List Call). l ++ x ∷ []) none, is, refl)
