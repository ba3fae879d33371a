-- What is left of a pop, and what its end tells. Serves the proofs of code.
use Rattle.std.specs.Prelude.{◌≡◌, ℕ, true, refl, List, [], ◌∷◌, codes, decimal, None, Ok}
use Rattle.serde_json.specs.Data.{Data}
use Rattle.serde_json.specs.View.{view as data_of}
use Rattle.serde_json.specs.Written.{compact_text}
use Rattle.wire_values.specs.declared.value.Value.{Value}
use Rattle.wire_values.specs.declared.value.Value.TheVariants.{NullArray}
use Rattle.store_model.specs.Replies.{pair}
use Rattle.store_model.specs.Words.{Words}
use Rattle.envelope.specs.Bodies.{tag_of_bytes}
use Rattle.envelope.specs.Entries.{entry_data, entry_for}
use Rattle.envelope.specs.Envelopes.{envelope_at, parts_in}
use Rattle.delivery_tags.specs.Tags.{tag_text}
use Rattle.command_blocks.specs.Calls.{Call}
use Rattle.command_blocks.specs.Cores.{is_saying}
use Rattle.command_blocks.specs.EnvelopeTexts.{plain_setting}
use Rattle.queue_keys.specs.Names.{Bytes}
use Rattle.command_blocks.specs.Scripts.{Pop, Script, pop_script}
use Rattle.block_core.specs.Cores.{HasHad, core_left}
use Rattle.block_core.specs.declared.block.BlockCore.{BlockCore}
use Rattle.block_core.specs.declared.stage.Progress.{Progress}
use Rattle.block_core.specs.declared.stage.Progress.TheVariants as progress
use Rattle.unacked.specs.Queues.{are_some}
use Rattle.unacked.specs.Steps.{steps_left}
use Rattle.unacked.specs.declared.pop.Delivery.{Delivery}
use Rattle.unacked.specs.declared.pop.PopEnd.{PopEnd}
use Rattle.unacked.specs.declared.pop.PopEnd.TheVariants.{Empty, Popped, Unreadable}
use Rattle.unacked.specs.declared.pop.PopStage.{PopStage}
use Rattle.unacked.specs.declared.pop.Popping.{Popping}
use Rattle.unacked.specs.declared.pop.Popping.TheVariants.{Asking, Keeping}
use Rattle.unacked.specs.declared.step.Course.{Course}
use Rattle.unacked.specs.declared.step.Course.TheVariants as course
use Rattle.unacked.specs.declared.step.Step.{Step}
use Rattle.unacked.specs.declared.step.Step.TheVariants.{Begin, Index, Table, Run}

-- the text of the tag of an envelope's tree
abbrev pub tag_within : Data → Bytes
tag_within d = tag_text (parts_in d).tag

-- the command that puts the tag of an envelope's tree into the index, under the moment
abbrev pub index_words : Data → ℕ → Words
index_words d at = codes "ZADD" ∷ plain_setting.index ∷ decimal at ∷ tag_within d ∷ []

-- the command that puts its entry into the table
abbrev pub table_words : Data → Words
table_words d = codes "HSET" ∷ plain_setting.unacked ∷ tag_within d ∷ compact_text (entry_data (entry_for d)) ∷ []

-- what is left at a stage
abbrev pub popping_left : Popping → Script
popping_left (Asking queues) = pop_script plain_setting queues.names
popping_left (Keeping delivery step) = steps_left (index_words (data_of delivery.value.envelope)) (table_words (data_of delivery.value.envelope)) step

abbrev pub pop_stage_left : PopStage → Script
pop_stage_left stage = popping_left stage.at

-- what is left to say of a pop
abbrev pub pop_left : BlockCore PopStage PopEnd → Script
pop_left core = core_left pop_stage_left core

-- ---- what is told of the calls

-- BRPOP answered a key with an envelope, which the delivery has
abbrev pub IsDelivered : Delivery → Value → Type 0
IsDelivered delivery r = (v : Bytes) × (r ≡ pair delivery.key v) × (envelope_at v ≡ Ok (data_of delivery.envelope))

-- what the end of a pop tells of BRPOP's answer: the null array, a key with an envelope, or a key with bytes that are none
abbrev pub IsPopEnd : PopEnd → Value → Type 0
IsPopEnd Empty r = r ≡ NullArray
IsPopEnd (Popped delivery) r = IsDelivered delivery.value r
IsPopEnd Unreadable r = (q : Bytes) × (v : Bytes) × (r ≡ pair q v) × (tag_of_bytes v ≡ None)

-- this holds of the first answer
abbrev pub IsFirst : (Value → Type 0) → List Call → Type 0
IsFirst P [] = ⊥
IsFirst P (x ∷ xs) = P x.answer

-- the end of a pop tells of its calls, by the answer to the first, which is BRPOP
abbrev pub TellsPop : List Call → PopEnd → Type 0
TellsPop calls end = IsFirst (IsPopEnd end) calls

-- what a stage holds tells of the calls so far
abbrev pub PoppingHad : List Call → Popping → Type 0
PoppingHad calls (Asking queues) = calls ≡ []
PoppingHad calls (Keeping delivery step) = IsFirst (IsDelivered delivery.value) calls

abbrev pub PopHad : List Call → PopStage → Type 0
PopHad calls stage = PoppingHad calls stage.at

-- the core of a pop over these queues had these calls so far
abbrev pub HasPopping : ℕ → ℕ → List Bytes → List Call → BlockCore PopStage PopEnd → Type 0
HasPopping s p names calls core = HasHad pop_stage_left (λ plan calls stage. PopHad calls stage) (λ plan calls end. TellsPop calls end) s p (Pop names) calls core

-- ---- what an answer brings

-- what BRPOP's answer brought tells of it
abbrev pub PoppingTells : Popping → Value → Type 0
PoppingTells (Asking queues) r = ⊥
PoppingTells (Keeping delivery step) r = IsDelivered delivery.value r

abbrev pub FoundTells : Progress PopStage PopEnd → Value → Type 0
FoundTells (progress.Next stage) r = PoppingTells stage.at r
FoundTells (progress.Over end) r = IsPopEnd end r
FoundTells progress.Refused r = Unit {0}

-- the stage goes on with this message at this step
abbrev pub IsKeeping : Delivery → Step → Popping → Type 0
IsKeeping delivery step (Asking queues) = ⊥
IsKeeping delivery step (Keeping held at) = (held.value ≡ delivery) × (at ≡ step)

-- the pop ended with this message
abbrev pub IsGiven : Delivery → PopEnd → Type 0
IsGiven delivery Empty = ⊥
IsGiven delivery (Popped given) = given.value ≡ delivery
IsGiven delivery Unreadable = ⊥

-- what the answer to a step of the transaction brings
abbrev pub HasKept : Delivery → Course → Progress PopStage PopEnd → Type 0
HasKept delivery (course.Next step) (progress.Next stage) = IsKeeping delivery step stage.at
HasKept delivery (course.Ran removed) (progress.Over end) = IsGiven delivery end
HasKept delivery course.Refused progress.Refused = Unit {0}
HasKept delivery course other = ⊥

-- ---- at each stage a command is next

steps_say : (d : Data) (step : Step) → is_saying (steps_left (index_words d) (table_words d) step) ≡ true
steps_say d Begin = refl
steps_say d Index = refl
steps_say d Table = refl
steps_say d Run = refl

names_say : (names : List Bytes) → are_some names ≡ true → is_saying (pop_script plain_setting names) ≡ true
names_say [] h = h
names_say (q ∷ qs) h = refl

pub popping_says : (at : Popping) → is_saying (popping_left at) ≡ true
popping_says (Asking queues) = names_say queues.names queues.some
popping_says (Keeping delivery step) = steps_say (data_of delivery.value.envelope) step
