-- A core of a block: what is left of it, its end, and the calls that it had so far. Serves the proofs of code.
use Rattle.std.specs.Prelude.{◌≡◌, ℕ, ⊤, Bool, true, false, List, [], ◌∷◌, ◌++◌, Option, None, Some, IsSome, Result, Ok, Err}
use Rattle.store_model.specs.declared.reply.Reply.{Reply}
use Rattle.command_blocks.specs.Calls.{Call}
use Rattle.command_blocks.specs.Cores.{IsAnswered}
use Rattle.command_blocks.specs.EnvelopeTexts.{plain_setting}
use Rattle.command_blocks.specs.Scripts.{Plan, Script, Over, Off, script_of}
use Rattle.block_laws.specs.Rows.{IsLawfulPlan, IsPlanBlock}
use Rattle.block_laws.specs.Traces.{IsTrace, IsFrontOf}
use Rattle.block_core.specs.declared.block.BlockCore.{BlockCore}
use Rattle.block_core.specs.declared.block.CoreState.{CoreState}
use Rattle.block_core.specs.declared.block.CoreState.TheVariants as state
use Rattle.block_core.specs.declared.fault.ReplyFault.{ReplyFault}
use Rattle.block_core.specs.declared.fault.ReplyFault.TheVariants.{Refused, Memory}

-- what is left to say in a state, by what is left at a stage
abbrev pub state_left : {S E : Type 0} → (S → Script) → CoreState S E → Script
state_left left (state.Saying stage) = left stage
state_left left (state.Over end) = Over
state_left left state.Off = Off
state_left left state.Spent = Off

-- what is left to say of a block
abbrev pub core_left : {S E : Type 0} → (S → Script) → BlockCore S E → Script
core_left left core = state_left left core.state

-- the end of a block that is over, if it wasn't given yet
abbrev pub state_end : {S E : Type 0} → CoreState S E → Option E
state_end (state.Saying stage) = None
state_end (state.Over end) = end
state_end state.Off = None
state_end state.Spent = None

abbrev pub core_end : {S E : Type 0} → BlockCore S E → Option E
core_end core = state_end core.state

-- whether memory was wanting
abbrev pub is_spent_state : {S E : Type 0} → CoreState S E → Bool
is_spent_state (state.Saying stage) = false
is_spent_state (state.Over end) = false
is_spent_state state.Off = false
is_spent_state state.Spent = true

abbrev pub is_spent : {S E : Type 0} → BlockCore S E → Bool
is_spent core = is_spent_state core.state

-- ---- what a core has had

-- what a state holds tells of the calls so far
abbrev pub StateTells : {S E : Type 0} → (List Call → S → Type 0) → (List Call → E → Type 0) → List Call → CoreState S E → Type 0
StateTells had tells calls (state.Saying stage) = had calls stage
StateTells had tells calls (state.Over None) = Unit {0}
StateTells had tells calls (state.Over (Some end)) = tells calls end
StateTells had tells calls state.Off = Unit {0}
StateTells had tells calls state.Spent = Unit {0}

-- the core of a block of this plan, of a client of seed s that made p passes before, had these calls so far: the plan's script said them, and what the core holds tells of them
pub record HasHad {S E : Type 0} (left : S → Script) (had : Plan → List Call → S → Type 0) (tell : Plan → List Call → E → Type 0) (s p : ℕ) (plan : Plan) (calls : List Call) (core : BlockCore S E) : Type 0 where
  pub trace : IsTrace (script_of plain_setting s p plan) calls (core_left left core)
  pub tells : StateTells (had plan) (tell plan) calls core.state

-- ---- what taking a reply left

-- the script after its answer, which goes on, or is over with its end; or an answer that isn't listed, after which nothing is said; want of memory spends the core
abbrev pub HasTaken : {S E : Type 0} → (S → Script) → BlockCore S E → BlockCore S E → ℕ → Reply → Result ⊤ ReplyFault → Type 0
HasTaken left old new at reply (Ok u) = IsAnswered (core_left left old) (core_left left new) at reply.answer × (core_left left new ≡ Off → ⊥) × (core_left left new ≡ Over → IsSome (core_end new))
HasTaken left old new at reply (Err (Refused given)) = IsAnswered (core_left left old) (core_left left new) at reply.answer × (core_left left new ≡ Off) × (is_spent new ≡ false) × (given ≡ reply)
HasTaken left old new at reply (Err Memory) = is_spent new ≡ true

-- a core that took the reply of this call has had it, also where it refused it; of one that is spent nothing more is told
abbrev pub HasHadOn : {S E : Type 0} → (List Call → BlockCore S E → Type 0) → List Call → Call → BlockCore S E → Result ⊤ ReplyFault → Type 0
HasHadOn Had calls x core (Ok u) = Had (calls ++ x ∷ []) core
HasHadOn Had calls x core (Err (Refused given)) = Had (calls ++ x ∷ []) core
HasHadOn Had calls x core (Err Memory) = Unit {0}

-- calls whose last reply was taken begin such a block, and those whose last reply was refused begin none
abbrev pub IsListed : (List Call → Type 0) → List Call → Result ⊤ ReplyFault → Type 0
IsListed IsBlock calls (Ok u) = (more : List Call) × IsBlock (calls ++ more)
IsListed IsBlock calls (Err (Refused given)) = (more : List Call) → IsBlock (calls ++ more) → ⊥
IsListed IsBlock calls (Err Memory) = Unit {0}

-- ---- as blocks

-- the calls that a core of a lawful plan has had begin its block, and are a whole one where nothing is left to say
abbrev pub BlocksBegin : Type 0
BlocksBegin = (s n p : ℕ) (plan : Plan) (calls : List Call) (left : Script) → IsLawfulPlan plain_setting s n plan → IsTrace (script_of plain_setting s p plan) calls left
    → IsFrontOf (IsPlanBlock plain_setting s n p plan) calls left
