-- Rows: a block's script can always be said to its end, and what was said to its end is the block. Serves the proofs of code.
use Rattle.std.specs.Prelude.{◌≡◌, ◌⊎◌, ℕ, ◌^◌, suc, true, ◌<◌, List, [], ◌∷◌, ◌++◌, codes, None, Some}
use Rattle.wire_values.specs.declared.value.Value.{Value}
use Rattle.store_model.specs.Limits.{moment_limit}
use Rattle.store_model.specs.Words.{Words}
use Rattle.queue_keys.specs.Names.{Bytes, is_name}
use Rattle.queue_keys.specs.Texts.{token}
use Rattle.queue_keys.specs.Bindings.{is_part}
use Rattle.command_blocks.specs.Setting.{Setting, IsLawful}
use Rattle.command_blocks.specs.Calls.{Call, call}
use Rattle.command_blocks.specs.RouteBlocks.{IsDeclareBlock, IsPublishBlock}
use Rattle.command_blocks.specs.TakeBlocks.{IsPop, IsPopBlock, IsEndBlock}
use Rattle.command_blocks.specs.ReturnBlocks.{ReturnEnd, IsReturnBlock}
use Rattle.command_blocks.specs.PassBlocks.{PassEnd, IsPassBlock}
use Rattle.command_blocks.specs.Blocks.{IsBlock}
use Rattle.command_blocks.specs.Scripts.{Script, Over, Off, Say, Plan, Declare, Undeclare, Publish, Pop, End, Return, Pass, script_of, counter_use, rest_of, IsSaid}

-- some answer is listed at each of its commands, and what goes on after any listed one is good
abbrev pub IsGood : Script → Type 0
IsGood Over = Unit {0}
IsGood Off = ⊥
IsGood (Say w go) = ((r : Value) × IsGood (go r)) × ((r : Value) → (go r ≡ Off) ⊎ IsGood (go r))

-- each of the calls was made before the moment 2^40
abbrev pub AreTimely : List Call → Type 0
AreTimely [] = Unit {0}
AreTimely (x ∷ xs) = (x.at < moment_limit) × AreTimely xs

-- ---- what each plan has to keep

-- a declaration's texts part nothing, and its queue has a lawful name
pub record IsDeclaration (e r x q : Bytes) : Type 0 where
  pub exchange : is_part e ≡ true
  pub routing_key : is_part r ≡ true
  pub pattern : is_part x ≡ true
  pub queue : is_name q ≡ true

-- an envelope as it is written has the next tag of a client of seed s that drew n tags, and one key on the empty exchange
pub record IsPublication (σ : Setting) (s n : ℕ) (v : Bytes) : Type 0 where
  pub tag : σ.written_tag v ≡ Some (σ.tag s (suc n))
  pub key : σ.exchange_of v ≡ None → (k : Bytes) × (σ.keys_for v [] ≡ k ∷ [])

-- the plan is lawful for a client of seed s that drew n tags
abbrev pub IsLawfulPlan : Setting → ℕ → ℕ → Plan → Type 0
IsLawfulPlan σ s n (Declare e r x q) = IsDeclaration e r x q
IsLawfulPlan σ s n (Undeclare e r x q) = IsDeclaration e r x q
IsLawfulPlan σ s n (Publish v) = IsPublication σ s n v
IsLawfulPlan σ s n (Pop names) = (k : Bytes) × (ks : List Bytes) × IsPop σ names (k ∷ ks)
IsLawfulPlan σ s n (End t) = σ.is_tag t ≡ true
IsLawfulPlan σ s n (Return side t) = σ.is_tag t ≡ true
IsLawfulPlan σ s n (Pass v) = v < 2 ^ 32

-- ---- rows

-- the calls are the block of the plan, with some end, of a client of seed s that drew n tags and made p passes before
abbrev pub IsPlanBlock : Setting → ℕ → ℕ → ℕ → Plan → List Call → Type 0
IsPlanBlock σ s n p (Declare e r x q) l = IsDeclareBlock σ (codes "SADD") e r x q l
IsPlanBlock σ s n p (Undeclare e r x q) l = IsDeclareBlock σ (codes "SREM") e r x q l
IsPlanBlock σ s n p (Publish v) l = IsPublishBlock σ (σ.tag s (suc n)) v l
IsPlanBlock σ s n p (Pop names) l = IsPopBlock σ names l
IsPlanBlock σ s n p (End t) l = IsEndBlock σ t l
IsPlanBlock σ s n p (Return side t) l = (end : ReturnEnd) × IsReturnBlock σ t side end l
IsPlanBlock σ s n p (Pass v) l = (end : PassEnd) × IsPassBlock σ (token s (suc p)) v end l

-- the plan's script is good, and each whole talk of it is the plan's block
pub record IsRow (σ : Setting) (s n p : ℕ) (plan : Plan) : Type 0 where
  pub good : IsGood (script_of σ s p plan)
  pub told : (l : List Call) → AreTimely l → IsSaid (script_of σ s p plan) l → rest_of (script_of σ s p plan) l ≡ Over → IsPlanBlock σ s n p plan l
  pub block : (l : List Call) → AreTimely l → IsSaid (script_of σ s p plan) l → rest_of (script_of σ s p plan) l ≡ Over → IsBlock σ s n p (counter_use plan) l

-- each lawful plan is a row
abbrev pub PlansAreRows : Type 0
PlansAreRows = (σ : Setting) (s n p : ℕ) (plan : Plan) → IsLawfulPlan σ s n plan → IsRow σ s n p plan

-- what was said so far of a lawful plan begins a block of its kind, where its last answer was a listed one
abbrev pub TalksGoOn : Type 0
TalksGoOn = (σ : Setting) (s n p : ℕ) (plan : Plan) → IsLawfulPlan σ s n plan → (l : List Call) → AreTimely l → IsSaid (script_of σ s p plan) l → (rest_of (script_of σ s p plan) l ≡ Off → ⊥)
    → (more : List Call) × IsBlock σ s n p (counter_use plan) (l ++ more)

-- where it wasn't, what was said would begin such a block with another answer to the last words
abbrev pub TalksPutOff : Type 0
TalksPutOff = (σ : Setting) (s n p : ℕ) (plan : Plan) → IsLawfulPlan σ s n plan → (l : List Call) → AreTimely l → IsSaid (script_of σ s p plan) l → rest_of (script_of σ s p plan) l ≡ Off
    → (before : List Call) × (a : ℕ) × (words : Words) × (answer : Value) × (listed : Value) × (more : List Call) × (l ≡ before ++ call a words answer ∷ []) × IsBlock σ s n p (counter_use plan) (before ++ call a words listed ∷ more)

-- scripts say their plans' blocks and no others: each whole block of a plan is said by its script to its end, and what isn't listed by the script begins no block of the plan
abbrev pub BlocksAreSaid : Type 0
BlocksAreSaid = (σ : Setting) → IsLawful σ → (s n p : ℕ) (plan : Plan) (l : List Call) → IsPlanBlock σ s n p plan l → IsSaid (script_of σ s p plan) l × (rest_of (script_of σ s p plan) l ≡ Over)

abbrev pub TalksUnlisted : Type 0
TalksUnlisted = (σ : Setting) → IsLawful σ → (s n p : ℕ) (plan : Plan) (l more : List Call) → rest_of (script_of σ s p plan) l ≡ Off → IsPlanBlock σ s n p plan (l ++ more) → ⊥
