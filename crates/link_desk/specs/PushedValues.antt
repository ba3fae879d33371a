-- Values that a store pushes: messages of channels, told before a reply.
use Rattle.std.specs.Prelude.{Bool, List, None, Option, Some, [], bytes_eq, codes, false, is_some, length, true, ℕ, ◌&&◌, ◌∷◌, ◌≡◌, ◌≤◌}
use Rattle.wire_values.specs.declared.value.Value.{Value}
use Rattle.store_model.specs.declared.reply.Reply.{Reply}
use Rattle.command_blocks.specs.Answers.{bulk_of, items_of}

-- the most values that are pushed before one reply
abbrev pub pushed_limit : ℕ
pushed_limit = 1024

-- whether the content of a bulk string is this word
abbrev pub is_content : List ℕ → Option (List ℕ) → Bool
is_content word None = false
is_content word (Some content) = bytes_eq content word

-- whether these are three bulk strings, the first of which is `message`
abbrev pub are_message : List Value → Bool
are_message [] = false
are_message (a ∷ []) = false
are_message (a ∷ b ∷ []) = false
are_message (a ∷ b ∷ c ∷ []) = is_content (codes "message") (bulk_of a) && (is_some (bulk_of b) && is_some (bulk_of c))
are_message (a ∷ b ∷ c ∷ d ∷ more) = false

-- whether the items of an array are so
abbrev pub are_pushed_items : Option (List Value) → Bool
are_pushed_items None = false
are_pushed_items (Some items) = are_message items

-- whether a value counts as pushed: it is an array of three bulk strings, the first of which is `message`
abbrev pub is_pushed : Value → Bool
is_pushed v = are_pushed_items (items_of v)

-- each of these values counts as pushed
abbrev pub ArePushed : List Value → Type 0
ArePushed [] = Unit {0}
ArePushed (v ∷ vs) = (is_pushed v ≡ true) × ArePushed vs

-- pushed values up to the limit, and then one that isn't pushed
pub record AreBefore (pushed : List Value) (answer : Value) : Type 0 where
  pub each : ArePushed pushed
  pub few : length pushed ≤ pushed_limit
  pub last : is_pushed answer ≡ false

-- one reply
abbrev pub IsOneReply : Reply → Type 0
IsOneReply reply = AreBefore reply.pushed reply.answer
