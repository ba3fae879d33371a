-- The blocks of a publish script, as they are said and told.
use Rattle.std.specs.Prelude.{◌≡◌, ◌++◌, ℕ, suc, List, [], ◌∷◌, codes, decimal}
use Rattle.wire_values.specs.declared.value.Value.{Value}
use Rattle.store_model.specs.Words.{Words}
use Rattle.command_blocks.specs.Blocks.{drawn}
use Rattle.command_blocks.specs.Calls.{Call, call}
use Rattle.command_blocks.specs.EnvelopeTexts.{plain_setting}
use Rattle.command_blocks.specs.Scripts.{Plan, Publish, counter_use}
use Rattle.block_laws.specs.Rows.{IsPlanBlock}
use Rattle.routes.specs.Publishes.{TellsPublish}
use Rattle.routes.specs.declared.publish.PublishEnd.{PublishEnd}
use Rattle.routes.specs.declared.publish.PublishEnd.TheVariants.{NoQueue, Sent}
use Rattle.publish_script.specs.Scripts.{ScriptStep, Wrong}

-- the line of a publication under the tag of a seed and a counter: it went to queues, or there is none for it
abbrev pub end_line : ℕ → ℕ → PublishEnd → List ℕ
end_line s n (Sent tag queues) = codes "published " ++ (decimal s ++ (codes ":" ++ (decimal n ++ codes "\n")))
end_line s n (NoQueue tag) = codes "no queue " ++ (decimal s ++ (codes ":" ++ (decimal n ++ codes "\n")))

-- what is written of the whole block of a plan, for a client of seed s that drew n tags: of a publication its end, by its next tag; of a declaration nothing
abbrev pub IsLineOf : ℕ → ℕ → Plan → List Call → List ℕ → Type 0
IsLineOf s n (Publish v) calls line = (end : PublishEnd) × TellsPublish (Publish v) calls end × (line ≡ end_line s (suc n) end)
IsLineOf s n plan calls line = line ≡ []

-- these calls are the whole block of a plan, and this is written of it
abbrev pub IsBlockTold : ℕ → ℕ → Plan → List Call → List ℕ → Type 0
IsBlockTold s n plan calls line = IsPlanBlock plain_setting s n 0 plan calls × IsLineOf s n plan calls line

-- these calls are the whole blocks of these plans, in order, and this is written of them
abbrev pub AreBlocksTold : ℕ → ℕ → List Plan → List Call → List ℕ → Type 0
AreBlocksTold s n [] calls text = (calls ≡ []) × (text ≡ [])
AreBlocksTold s n (p ∷ ps) calls text = (block : List Call) × (rest : List Call) × (line : List ℕ) × (more : List ℕ)
    × (calls ≡ block ++ rest) × (text ≡ line ++ more) × IsBlockTold s n p block line × AreBlocksTold s (drawn (counter_use p) n) ps rest more

-- how many tags a client that drew n has drawn after these plans
abbrev pub drawn_after : ℕ → List Plan → ℕ
drawn_after n [] = n
drawn_after n (p ∷ ps) = drawn_after (drawn (counter_use p) n) ps

-- these calls begin the block of the next of these plans; without one there are none
abbrev pub BeginsNext : ℕ → ℕ → List Plan → List Call → Type 0
BeginsNext s n [] calls = calls ≡ []
BeginsNext s n (p ∷ ps) calls = (more : List Call) × IsPlanBlock plain_setting s n 0 p (calls ++ more)

-- these calls begin the block of the next of these plans, and then go on with a command of these words
abbrev pub IsNextCommand : ℕ → ℕ → List Plan → List Call → Words → Type 0
IsNextCommand s n [] calls words = ⊥
IsNextCommand s n (p ∷ ps) calls words = (answer : Value) × (more : List Call) × IsPlanBlock plain_setting s n 0 p (calls ++ call 0 words answer ∷ more)

-- these calls begin no block of a plan; with another answer to the last of them, in place of this one, they would
pub record IsUnlistedIn (s n : ℕ) (p : Plan) (calls : List Call) (answer : Value) : Type 0 where
  pub before : List Call
  pub at : ℕ
  pub words : Words
  pub listed : Value
  pub more : List Call
  pub last : calls ≡ before ++ call at words answer ∷ []
  pub would : IsPlanBlock plain_setting s n 0 p (before ++ call at words listed ∷ more)
  pub unlisted : (l : List Call) → IsPlanBlock plain_setting s n 0 p (calls ++ l) → ⊥

-- the last of these calls has this answer, which the block of the next of these plans doesn't list there
abbrev pub IsRefusedNext : ℕ → ℕ → List Plan → List Call → Value → Type 0
IsRefusedNext s n [] calls answer = ⊥
IsRefusedNext s n (p ∷ ps) calls answer = IsUnlistedIn s n p calls answer

-- these calls are the whole block of the next of these plans, and this is to be written of it
abbrev pub IsNextTold : ℕ → ℕ → List Plan → List Call → List ℕ → Type 0
IsNextTold s n [] calls line = ⊥
IsNextTold s n (p ∷ ps) calls line = IsBlockTold s n p calls line

-- ---- the counters of lines; these serve the proofs of code

-- this is the counter of the next tag of a client that drew n, where the plan draws one
abbrev pub HasCounter : ℕ → ℕ → Plan → Type 0
HasCounter n counter (Publish v) = counter ≡ suc n
HasCounter n counter plan = Unit {0}

-- a line that isn't bad
abbrev pub IsNotWrong : ScriptStep → Type 0
IsNotWrong (Wrong r) = ⊥
IsNotWrong other = Unit {0}
