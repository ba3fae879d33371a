-- What is left of a publication, and what its end tells. Serves the proofs of code.
use Rattle.std.specs.Prelude.{◌≡◌, ◌<◌, ℕ, true, List, [], ◌∷◌, drop, length, Option, None, Some, Ok, refl}
use Rattle.std.proofs.Common.{ap}
use Rattle.std.proofs.lemmas.List.{drop_more}
use Rattle.command_blocks.specs.Cores.{is_saying}
use Rattle.serde_json.specs.Data.{Data}
use Rattle.serde_json.specs.View.{view as data_of}
use Rattle.serde_json.specs.Written.{compact_text}
use Rattle.envelope.specs.Envelopes.{envelope_at, parts_in, priority_of}
use Rattle.command_blocks.specs.Calls.{Call}
use Rattle.command_blocks.specs.EnvelopeTexts.{plain_setting}
use Rattle.command_blocks.specs.Scripts.{Plan, Publish, Script, asking_script, pushes, texts_of}
use Rattle.command_blocks.specs.Setting.{named_or_none}
use Rattle.queue_keys.specs.Layouts.{plain, step_of}
use Rattle.queue_keys.specs.Lookup.{queues_for}
use Rattle.queue_keys.specs.Names.{Bytes, is_name}
use Rattle.queue_keys.specs.QueueKeys.{keys_at, queue_key}
use Rattle.block_core.specs.Cores.{HasHad, core_left}
use Rattle.block_core.specs.declared.block.BlockCore.{BlockCore}
use Rattle.block_core.specs.declared.stage.Progress.{Progress}
use Rattle.block_core.specs.declared.stage.Progress.TheVariants as progress
use Rattle.routes.specs.declared.brought.Brought.{Brought}
use Rattle.routes.specs.declared.brought.Brought.TheVariants as brought
use Rattle.routes.specs.declared.publish.PublishEnd.{PublishEnd}
use Rattle.routes.specs.declared.publish.PublishEnd.TheVariants.{Sent, NoQueue}
use Rattle.routes.specs.declared.route.Publishing.{Publishing}
use Rattle.routes.specs.declared.route.Publishing.TheVariants.{Direct, Asking, Pushing}
use Rattle.routes.specs.declared.stage.PublishStage.{PublishStage}

-- the tree is that of an envelope that may be published: on the empty exchange its routing key is the lawful name of a queue
abbrev pub IsPublishable : Data → Type 0
IsPublishable d = (parts_in d).exchange ≡ [] → is_name (parts_in d).routing_key ≡ true

-- the tree is that of an envelope that goes to a queue directly
pub record GoesDirectly (d : Data) : Type 0 where
  pub exchange : (parts_in d).exchange ≡ []
  pub queue : is_name (parts_in d).routing_key ≡ true

-- ---- what is left

-- the step of an envelope's tree
abbrev pub step_in : Data → ℕ
step_in d = step_of plain (priority_of d)

-- the key of the list to which such an envelope is pushed
abbrev pub direct_key : Data → Bytes
direct_key d = queue_key plain (parts_in d).routing_key (step_in d)

-- the pushes of an envelope's tree to these queues
abbrev pub queue_pushes : Data → List Bytes → Script
queue_pushes d queues = pushes (compact_text d) (keys_at plain (step_in d) queues)

-- the queues of an envelope's tree, by the members of its exchange's bindings
abbrev pub queues_of : Data → List Bytes → List Bytes
queues_of d ms = queues_for (parts_in d).exchange (parts_in d).routing_key ms

-- what is left where this command is next
abbrev pub publishing_left : Data → Publishing → Script
publishing_left d Direct = pushes (compact_text d) (direct_key d ∷ [])
publishing_left d Asking = asking_script plain_setting (Some (parts_in d).exchange) (λ ms. queue_pushes d (queues_of d ms))
publishing_left d (Pushing route) = queue_pushes d (drop route.place route.queues)

abbrev pub publish_stage_left : PublishStage → Script
publish_stage_left stage = publishing_left (data_of stage.envelope) stage.next

-- what is left to say of a publication
abbrev pub publish_left : BlockCore PublishStage PublishEnd → Script
publish_left core = core_left publish_stage_left core

-- the first command of a publication on this exchange
abbrev pub BeginsOn : Bytes → Publishing → Type 0
BeginsOn e Direct = e ≡ []
BeginsOn e Asking = named_or_none e ≡ Some e
BeginsOn e (Pushing route) = ⊥

-- the next command pushes to a queue of this route
abbrev pub IsPushing : Data → Brought → PublishStage → Type 0
IsPushing d (brought.Next route) stage = (data_of stage.envelope ≡ d) × (stage.next ≡ Pushing route)
IsPushing d (brought.Over end) stage = ⊥
IsPushing d brought.Refused stage = ⊥

-- how the publication of an envelope's tree goes on by what the answer brought
abbrev pub IsProgress : Data → Brought → Progress PublishStage PublishEnd → Type 0
IsProgress d h (progress.Next stage) = IsPushing d h stage
IsProgress d h (progress.Over end) = h ≡ brought.Over end
IsProgress d h progress.Refused = h ≡ brought.Refused

-- ---- what is told of the calls

-- the first of the calls read the members of the exchange's bindings; on the empty exchange there are none
abbrev pub AnsweredFirst : List Bytes → List Call → Type 0
AnsweredFirst ms [] = ⊥
AnsweredFirst ms (x ∷ xs) = texts_of x.answer ≡ Some ms

abbrev pub WereRead : Option Bytes → List Bytes → List Call → Type 0
WereRead None ms calls = ms ≡ []
WereRead (Some e) ms calls = AnsweredFirst ms calls

-- the calls read the members ms for an envelope's tree
abbrev pub HasRead : Data → List Bytes → List Call → Type 0
HasRead d ms calls = WereRead (named_or_none (parts_in d).exchange) ms calls

-- what is next tells of the calls so far
abbrev pub PublishingHad : Data → List Call → Publishing → Type 0
PublishingHad d calls Direct = (calls ≡ []) × GoesDirectly d
PublishingHad d calls Asking = (calls ≡ []) × (named_or_none (parts_in d).exchange ≡ Some (parts_in d).exchange)
PublishingHad d calls (Pushing route) = (ms : List Bytes) × HasRead d ms calls × (named_or_none (parts_in d).exchange ≡ Some (parts_in d).exchange) × (route.queues ≡ queues_of d ms)

-- and so does a stage of the publication of an envelope's text
abbrev pub PublishHad : Plan → List Call → PublishStage → Type 0
PublishHad (Publish v) calls stage = (envelope_at v ≡ Ok (data_of stage.envelope)) × PublishingHad (data_of stage.envelope) calls stage.next
PublishHad other calls stage = ⊥

-- the end of the publication of an envelope's tree, by the queues of its lookup: it has its tag, and the message went to each of them, one at least; or there is none
abbrev pub EndsPublished : Data → List Bytes → PublishEnd → Type 0
EndsPublished d queues (Sent tag count) = (tag.0 ≡ (parts_in d).tag) × (count ≡ length queues) × (0 < count)
EndsPublished d queues (NoQueue tag) = (tag.0 ≡ (parts_in d).tag) × (queues ≡ [])

-- the end of a publication tells of its calls, by the members that they read
abbrev pub TellsPublish : Plan → List Call → PublishEnd → Type 0
TellsPublish (Publish v) calls end = (d : Data) × (ms : List Bytes) × (envelope_at v ≡ Ok d) × HasRead d ms calls × EndsPublished d (queues_of d ms) end
TellsPublish other calls end = ⊥

-- the core of the publication of an envelope's text had these calls so far
abbrev pub HasPublishing : ℕ → ℕ → Bytes → List Call → BlockCore PublishStage PublishEnd → Type 0
HasPublishing s p v calls core = HasHad publish_stage_left PublishHad TellsPublish s p (Publish v) calls core

-- ---- at each stage a command is next

pub publishing_says : (d : Data) (next : Publishing) → is_saying (publishing_left d next) ≡ true
publishing_says d Direct = refl
publishing_says d Asking = refl
publishing_says d (Pushing route) = ap (λ qs. is_saying (queue_pushes d qs)) (drop_more route.queues route.place [] route.next)
