-- What a client begins: the errand of a block, or the first reason why it doesn't begin it.
use Rattle.std.specs.Prelude.{◌≡◌, ◌≤◌, ℕ, true, IsUtf8, if◌then◌else◌, [], ◌∷◌, length, Option, None, Some, Result, Ok, Err}
use Rattle.serde_json.specs.Data.{Data}
use Rattle.serde_json.specs.View.{view as data_of}
use Rattle.serde_json.specs.Written.{compact_text}
use Rattle.delivery_tags.specs.Tags.{tag_text}
use Rattle.envelope.specs.Envelopes.{parts_in}
use Rattle.envelope_trees.specs.declared.fault.EnvelopeFault.{EnvelopeFault}
use Rattle.queue_keys.specs.NameFaults.{name_fault}
use Rattle.queue_keys.specs.Names.{Bytes}
use Rattle.queue_keys.specs.declared.queue_name.NameFault.{NameFault}
use Rattle.sealed_drafts.specs.Sealed.{seal_of}
use Rattle.sealed_drafts.specs.declared.sealing.Draft.{Draft}
use Rattle.store_model.specs.Words.{Words}
use Rattle.wire_grammar.specs.Fits.{IsWithinLimits}
use Rattle.command_blocks.specs.Scripts.{Publish, Pop, End, Return, Pass}
use Rattle.routes.specs.Declares.{declaration_plan}
use Rattle.steps.specs.Clients.{next_tag_of}
use Rattle.steps.specs.declared.counts.ClientCounts.{ClientCounts}
use Rattle.steps.specs.Errands.{Errand, Planned, Aside}
use Rattle.steps.specs.Neutrals.{is_neutral}
use Rattle.steps.specs.declared.begun.BeginFault.{BeginFault}
use Rattle.steps.specs.declared.begun.BeginFault.TheVariants as fault
use Rattle.steps.specs.declared.begun.Block.{Block}
use Rattle.steps.specs.declared.begun.Block.TheVariants as block

-- why a message can't go this way: on the empty exchange it goes to the queue that its routing key names
abbrev pub way_name_fault : Bytes → Bytes → Option NameFault
way_name_fault [] routing_key = name_fault routing_key
way_name_fault (b ∷ exchange) routing_key = None

-- what is begun, unless a name has a fault
abbrev pub if_named : Option NameFault → Result Errand BeginFault → Result Errand BeginFault
if_named (Some f) begun = Err (fault.Name f)
if_named None begun = begun

-- the publication of an envelope's tree
abbrev pub publish_errand : Data → Errand
publish_errand d = Planned (Publish (compact_text d))

-- the publication of what was sealed
abbrev pub sealed_errand : Result Data EnvelopeFault → Result Errand BeginFault
sealed_errand (Ok d) = Ok (publish_errand d)
sealed_errand (Err f) = Err (fault.Draft f)

-- the publication of a draft under the next tag
abbrev pub drafted_errand : Draft → Option ℕ → Result Errand BeginFault
drafted_errand draft None = Err fault.NoTag
drafted_errand draft (Some tag) = if_named (way_name_fault draft.exchange draft.routing_key) (sealed_errand (seal_of draft tag))

-- the publication of an envelope that was sealed already
abbrev pub again_errand : Data → Result Errand BeginFault
again_errand d = if_named (way_name_fault (parts_in d).exchange (parts_in d).routing_key) (Ok (publish_errand d))

-- a command that concerns no message
abbrev pub neutral_errand : Words → Result Errand BeginFault
neutral_errand words = if is_neutral words then Ok (Aside words) else Err fault.BadNeutral

-- the errand of a block, or the first reason why a client with these counters doesn't begin it
abbrev pub errand_of : ClientCounts → Block → Result Errand BeginFault
errand_of c (block.Declare declaration) = Ok (Planned (declaration_plan declaration.value))
errand_of c (block.Publish draft) = drafted_errand draft.value (next_tag_of c)
errand_of c (block.Again envelope) = again_errand (data_of envelope.value)
errand_of c (block.Pop queues) = Ok (Planned (Pop queues))
errand_of c (block.End tag) = Ok (Planned (End (tag_text tag.0)))
errand_of c (block.Return tag side) = Ok (Planned (Return side (tag_text tag.0)))
errand_of c (block.Pass v) = Ok (Planned (Pass v))
errand_of c (block.Neutral words) = neutral_errand words

-- the texts that an envelope's tree is to hold are UTF-8
pub record AreTexts (draft : Draft) : Type 0 where
  pub id : IsUtf8 draft.id
  pub exchange : IsUtf8 draft.exchange
  pub routing_key : IsUtf8 draft.routing_key

-- what a client with these counters may be asked to begin: a message that is sent again has its next tag, and a command that concerns no message is within the limits of one
abbrev pub IsLawfulBlock : ClientCounts → Block → Type 0
IsLawfulBlock c (block.Declare declaration) = Unit {0}
IsLawfulBlock c (block.Publish draft) = AreTexts draft.value
IsLawfulBlock c (block.Again envelope) = next_tag_of c ≡ Some (parts_in (data_of envelope.value)).tag
IsLawfulBlock c (block.Pop queues) = (1 ≤ length queues) × (length queues ≤ 1023)
IsLawfulBlock c (block.End tag) = Unit {0}
IsLawfulBlock c (block.Return tag side) = Unit {0}
IsLawfulBlock c (block.Pass v) = Unit {0}
IsLawfulBlock c (block.Neutral words) = is_neutral words ≡ true → IsWithinLimits words
