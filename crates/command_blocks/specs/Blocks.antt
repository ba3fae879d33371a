-- The blocks: the lists of calls that a client makes, from the first to the last of each.
use Rattle.std.specs.Prelude.{◌≡◌, ◌⊎◌, ℕ, ◌^◌, suc, true, false, ◌<◌, List, [], ◌∷◌, ◌++◌, codes}
use Rattle.wire_values.specs.declared.value.Value.{Value}
use Rattle.store_model.specs.Words.{Words}
use Rattle.queue_keys.specs.Names.{Bytes}
use Rattle.queue_keys.specs.Texts.{token}
use Rattle.command_blocks.specs.Answers.{is_error}
use Rattle.command_blocks.specs.Setting.{Setting, control_channel}
use Rattle.command_blocks.specs.Calls.{Call, call, concat, IsPrefixOf}
use Rattle.command_blocks.specs.RouteBlocks.{IsDeclareBlock, IsPublishBlock, IsShortPublish}
use Rattle.command_blocks.specs.TakeBlocks.{IsPopBlock, IsEndBlock}
use Rattle.command_blocks.specs.ReturnBlocks.{ReturnEnd, IsReturnBlock}
use Rattle.command_blocks.specs.PassBlocks.{PassEnd, IsPassBlock}
use Rattle.command_blocks.specs.declared.side.Side.{Side}

-- words that concern no message
pub data IsNeutral (σ : Setting) : Words → Type 0 where
  Pings : IsNeutral σ (codes "PING" ∷ [])
  Selects : IsNeutral σ (codes "SELECT" ∷ codes "0" ∷ [])
  Measures : (k : Bytes) → IsNeutral σ (codes "LLEN" ∷ k ∷ [])
  Subscribes : IsNeutral σ (codes "SUBSCRIBE" ∷ control_channel ∷ [])
  Unsubscribes : IsNeutral σ (codes "UNSUBSCRIBE" ∷ control_channel ∷ [])
  Announces : (m : Bytes) → IsNeutral σ (codes "PUBLISH" ∷ control_channel ∷ m ∷ [])
  Replies : (k v : Bytes) (vs : List Bytes) → σ.is_reply k ≡ true → IsNeutral σ (codes "LPUSH" ∷ k ∷ v ∷ vs)
  Receives : (k w : Bytes) → σ.is_reply k ≡ true → IsNeutral σ (codes "BRPOP" ∷ k ∷ w ∷ [])
  Limits : (k s : Bytes) → σ.is_reply k ≡ true → IsNeutral σ (codes "EXPIRE" ∷ k ∷ s ∷ [])

-- one neutral command, answered by anything but an error
pub data IsNeutralBlock (σ : Setting) (words : Words) : List Call → Type 0 where
  Answered : (a : ℕ) (r : Value) → IsNeutral σ words → is_error r ≡ false → IsNeutralBlock σ words (call a words r ∷ [])

-- what a block takes from the client's counters: a tag, a token or nothing
pub data CounterUse : Type 0 where
  Drawing : CounterUse
  Passing : CounterUse
  Other : CounterUse

-- how many tags are drawn after a block of this kind
abbrev pub drawn : CounterUse → ℕ → ℕ
drawn Drawing n = suc n
drawn Passing n = n
drawn Other n = n

-- how many passes are made after a block of this kind
abbrev pub passes_after : CounterUse → ℕ → ℕ
passes_after Drawing n = n
passes_after Passing n = suc n
passes_after Other n = n

-- the blocks of a client of seed s that drew n tags and made p passes before
pub data IsBlock (σ : Setting) (s n p : ℕ) : CounterUse → List Call → Type 0 where
  Declare : (e r x q : Bytes) (l : List Call) → IsDeclareBlock σ (codes "SADD") e r x q l → IsBlock σ s n p Other l
  Undeclare : (e r x q : Bytes) (l : List Call) → IsDeclareBlock σ (codes "SREM") e r x q l → IsBlock σ s n p Other l
  Publish : (v : Bytes) (l : List Call) → IsPublishBlock σ (σ.tag s (suc n)) v l → IsBlock σ s n p Drawing l
  Publish_short : (l : List Call) → IsShortPublish σ (σ.tag s (suc n)) l → IsBlock σ s n p Drawing l
  Pop : (names : List Bytes) (l : List Call) → IsPopBlock σ names l → IsBlock σ s n p Other l
  End : (t : Bytes) (l : List Call) → IsEndBlock σ t l → IsBlock σ s n p Other l
  Return : (t : Bytes) (side : Side) (end : ReturnEnd) (l : List Call) → IsReturnBlock σ t side end l → IsBlock σ s n p Other l
  Pass : (v : ℕ) (end : PassEnd) (l : List Call) → v < 2 ^ 32 → IsPassBlock σ (token s (suc p)) v end l → IsBlock σ s n p Passing l
  Neutral : (words : Words) (l : List Call) → IsNeutralBlock σ words l → IsBlock σ s n p Other l

-- the blocks of a client, one after the other, with its counters
abbrev pub AreBlocks : Setting → ℕ → ℕ → ℕ → List (List Call) → Type 0
AreBlocks σ s n p [] = Unit {0}
AreBlocks σ s n p (b ∷ bs) = (k : CounterUse) × IsBlock σ s n p k b × AreBlocks σ s (drawn k n) (passes_after k p) bs

-- how many tags they have drawn at their end
abbrev pub drawn_by : (σ : Setting) (s n p : ℕ) (bs : List (List Call)) → AreBlocks σ s n p bs → ℕ
drawn_by σ s n p [] h = n
drawn_by σ s n p (b ∷ bs) h = drawn_by σ s (drawn h.0 n) (passes_after h.0 p) bs h.2

-- a prefix of a concatenation of blocks of a client of seed s
abbrev pub IsFrontOfBlocks : Setting → ℕ → List Call → Type 0
IsFrontOfBlocks σ s l = (bs : List (List Call)) × AreBlocks σ s 0 0 bs × IsPrefixOf l (concat bs)

-- such a prefix, and then one call whose words a block allows next and whose answer isn't listed there
abbrev pub IsUnlisted : Setting → ℕ → List Call → Type 0
IsUnlisted σ s l = (before : List Call) × (a : ℕ) × (words : Words) × (listed : Value) × (answer : Value) × (l ≡ before ++ call a words answer ∷ [])
    × IsFrontOfBlocks σ s (before ++ call a words listed ∷ []) × (IsFrontOfBlocks σ s l → ⊥)

-- the manner of a client of seed s
abbrev pub IsMannered : Setting → ℕ → List Call → Type 0
IsMannered σ s l = IsFrontOfBlocks σ s l ⊎ IsUnlisted σ s l
