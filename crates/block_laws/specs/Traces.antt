-- What was said so far of a block: calls by its script. Serves the proofs of code.
use Rattle.std.specs.Prelude.{◌≡◌, ℕ, List, [], ◌∷◌, ◌++◌}
use Rattle.wire_values.specs.declared.value.Value.{Value}
use Rattle.store_model.specs.Words.{Words}
use Rattle.command_blocks.specs.Calls.{Call, call}
use Rattle.command_blocks.specs.Scripts.{Script, Over, Off, rest_of, IsSaid}
use Rattle.block_laws.specs.Rows.{AreTimely}

-- the calls were said by the script, each before the moment 2^40, and this is left of it
pub record IsTrace (p : Script) (calls : List Call) (q : Script) : Type 0 where
  pub timely : AreTimely calls
  pub said : IsSaid p calls
  pub left : q ≡ rest_of p calls

-- the calls begin a block, and are a whole one where nothing is left to say
pub record IsFrontOf (IsBlock : List Call → Type 0) (calls : List Call) (left : Script) : Type 0 where
  pub whole : left ≡ Over → IsBlock calls
  pub front : (left ≡ Off → ⊥) → (more : List Call) × IsBlock (calls ++ more)
  -- where the last answer isn't listed, they would with another one
  pub but_last : left ≡ Off → (before : List Call) × (a : ℕ) × (words : Words) × (answer : Value) × (listed : Value) × (more : List Call)
      × (calls ≡ before ++ call a words answer ∷ []) × IsBlock (before ++ call a words listed ∷ more)
