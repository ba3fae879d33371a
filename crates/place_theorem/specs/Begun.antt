-- The blocks that a client has begun.
use Rattle.std.specs.Prelude.{◌≡◌, ◌⊎◌, ℕ, List, [], ◌∷◌, ◌++◌}
use Rattle.wire_values.specs.declared.value.Value.{Value}
use Rattle.store_model.specs.Words.{Words}
use Rattle.command_blocks.specs.Calls.{Call, IsPrefixOf, call, concat}

-- the calls begin these blocks, and may be amid one of them: they are a prefix of them all, or would be with another answer to the last call
abbrev pub BeginsBlocks : List Call → List (List Call) → Type 0
BeginsBlocks l bs = IsPrefixOf l (concat bs)
    ⊎ ((before : List Call) × (a : ℕ) × (words : Words) × (listed : Value) × (answer : Value) × (l ≡ before ++ call a words answer ∷ []) × IsPrefixOf (before ++ call a words listed ∷ []) (concat bs))
