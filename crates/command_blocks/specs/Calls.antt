-- Calls of a client, as the blocks speak of them.
use Rattle.std.specs.Prelude.{◌≡◌, ℕ, List, [], ◌∷◌, ◌++◌, codes}
use Rattle.wire_values.specs.declared.value.Value.{Value}
use Rattle.store_model.specs.Words.{Words}
use Rattle.queue_keys.specs.Names.{Bytes}
use Rattle.command_blocks.specs.declared.side.Side.{Side}
use Rattle.command_blocks.specs.declared.side.Side.TheVariants.{Left, Right}

-- a call: its moment, its words, and the answer; messages that were pushed before the answer are passed over
pub record Call : Type 0 where
  pub at : ℕ
  pub words : Words
  pub answer : Value

-- a call, written short
abbrev pub call : ℕ → Words → Value → Call
call a w r = record { at = a; words = w; answer = r }

-- the command that pushes at this side of a list
abbrev pub push_word : Side → Bytes
push_word Left = codes "LPUSH"
push_word Right = codes "RPUSH"

-- the lists one after the other
abbrev pub concat : {A : Type 0} → List (List A) → List A
concat [] = []
concat (x ∷ xs) = x ++ concat xs

-- the one list begins the other
abbrev pub IsPrefixOf : {A : Type 0} → List A → List A → Type 0
IsPrefixOf {A} xs ys = (rest : List A) × (xs ++ rest ≡ ys)
