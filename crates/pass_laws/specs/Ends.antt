-- The end of a pass's core, as the grammar of blocks has it.
use Rattle.std.specs.Prelude.{◌≡◌, ◌+◌, ℕ, suc, List, [], ◌∷◌, codes, length}
use Rattle.wire_values.specs.declared.value.Value.TheVariants.{NullArray}
use Rattle.delivery_tags.specs.Tags.{tag_text}
use Rattle.store_model.specs.Replies.{done}
use Rattle.queue_keys.specs.Names.{Bytes}
use Rattle.command_blocks.specs.Calls.{Call}
use Rattle.command_blocks.specs.EnvelopeTexts.{plain_setting}
use Rattle.command_blocks.specs.PassBlocks.{IsPassBlock, tags_among}
use Rattle.command_blocks.specs.PassBlocks as block
use Rattle.command_blocks.specs.ReturnBlocks.{ReturnEnd, Moved, Gone, Stayed}
use Rattle.passes.specs.Told.{HasDue, IsFirst, TellsPass}
use Rattle.passes.specs.declared.ended.PassEnd.{PassEnd}
use Rattle.passes.specs.declared.ended.PassEnd.TheVariants as ended

-- how many of the returns moved their messages
abbrev pub moved_in : List ReturnEnd → ℕ
moved_in [] = 0
moved_in (Moved ∷ ends) = suc (moved_in ends)
moved_in (other ∷ ends) = moved_in ends

-- how many found them gone
abbrev pub gone_in : List ReturnEnd → ℕ
gone_in [] = 0
gone_in (Gone ∷ ends) = suc (gone_in ends)
gone_in (other ∷ ends) = gone_in ends

-- how many left them
abbrev pub stayed_in : List ReturnEnd → ℕ
stayed_in [] = 0
stayed_in (Stayed ∷ ends) = suc (stayed_in ends)
stayed_in (other ∷ ends) = stayed_in ends

-- this is told of a pass that ended so
abbrev pub IsToldOf : block.PassEnd → PassEnd → Type 0
IsToldOf block.Held ended.Held = Unit {0}
IsToldOf (block.Stuck t) (ended.Contended tag) = t ≡ tag_text tag.0
IsToldOf (block.Done ends) (ended.Done m g s) = (m ≡ moved_in ends) × (g ≡ gone_in ends) × (s ≡ stayed_in ends)
IsToldOf other end = ⊥

-- what is told of the calls of a whole pass is its end
abbrev pub PassesEndSo : Type 0
PassesEndSo = (token : Bytes) (v : ℕ) (end : block.PassEnd) (calls : List Call) (is : PassEnd) → IsPassBlock plain_setting token v end calls → TellsPass calls is → IsToldOf end is

-- no transaction among the calls failed: no EXEC was answered the null array
abbrev pub NoneFailed : List Call → Type 0
NoneFailed [] = Unit {0}
NoneFailed (x ∷ xs) = (x.words ≡ codes "EXEC" ∷ [] → x.answer ≡ NullArray → ⊥) × NoneFailed xs

-- the pass is done, and its counts sum to the tags among the members that the calls read
abbrev pub IsDoneWith : List Call → PassEnd → Type 0
IsDoneWith calls ended.Held = ⊥
IsDoneWith calls (ended.Contended tag) = ⊥
IsDoneWith calls (ended.Done m g s) = (members : List Bytes) × (more : List Call) × HasDue members more calls × (m + g + s ≡ length (tags_among plain_setting members))

-- a whole pass that took the mutex and none of whose transactions failed is done
abbrev pub PassesAreDone : Type 0
PassesAreDone = (token : Bytes) (v : ℕ) (end : block.PassEnd) (calls : List Call) (is : PassEnd) → IsPassBlock plain_setting token v end calls → TellsPass calls is → IsFirst (λ r. r ≡ done) calls → NoneFailed calls → IsDoneWith calls is
