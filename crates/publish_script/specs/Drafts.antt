-- The task of a publish line with its moments (Celery's message protocol, version 2), and its sealed envelope.
use Rattle.std.specs.Prelude.{◌≤◌, ◌&&◌, ℕ, ℤ, if◌then◌else◌, Option, None, Some, option_and_then, pos}
use Rattle.base64.specs.Engines.{standard}
use Rattle.base64.specs.GeneralPurpose.{encode_of}
use Rattle.serde_json.specs.Data.{Data, no_members, object}
use Rattle.serde_json.specs.Written.{compact_text}
use Rattle.envelope.specs.SealedTrees.{sealed_info, sealed_properties, sealed_tree}
use Rattle.sealed_drafts.specs.declared.sealing.Draft.{Draft}
use Rattle.delivery_tags.specs.Tags.{tag}
use Rattle.queue_keys.specs.Names.{Bytes}
use Rattle.command_blocks.specs.EnvelopeTexts.{plain_setting}
use Rattle.schedule_model.specs.Drafts.{are_told, are_within, arguments_of}
use Rattle.schedule_model.specs.Faults.{Craft}
use Rattle.schedule_model.specs.Programs.{are_arguments}
use Rattle.task_message.specs.Drafted.{IsDrafted, call_tree, headers_of}
use Rattle.task_message.specs.Tasks.{TaskParts}

-- the moment before which a task waits, and the one after which it is expired, where there is one
pub record Times : Type 0 where
  pub eta : Option ℤ
  pub expires : Option ℤ

-- the task that is published under this id: of version 2, without keywords, never retried, and at these moments
abbrev pub timed_parts : Bytes → Bytes → Data → Times → TaskParts
timed_parts id name args times = record { version = 2; name = name; id = id; args = args; kwargs = object no_members; settings = record { retries = 0; eta = times.eta; expires = times.expires } }

-- the draft is that of this task, sent to this exchange with this routing key and a priority of one byte
pub record IsTimedDraft (t : TaskParts) (exchange routing_key : Bytes) (priority : ℕ) (draft : Draft) : Type 0 where
  pub drafted : IsDrafted t exchange routing_key (pos priority) draft
  pub is_byte : priority ≤ 255

-- the tree of the envelope of a task of version 2 under this tag's text
abbrev pub timed_tree : Bytes → Bytes → Bytes → ℕ → TaskParts → Data
timed_tree t exchange routing_key priority task =
    sealed_tree (encode_of standard (compact_text (call_tree task))) (headers_of task)
    (sealed_properties (sealed_info exchange routing_key) task.id (pos priority) t)

-- the text of the tree of a task with these arguments, whose id is the tag's text, where it can be told and is short enough
abbrev pub if_timed : Times → Bytes → Bytes → Bytes → ℕ → Bytes → Data → Option Bytes
if_timed times t exchange routing_key priority task args =
    let d = timed_tree t exchange routing_key priority (timed_parts t task args times) in
    if are_told t exchange routing_key priority task && are_within exchange routing_key d then Some (compact_text d) else None

-- the envelope of a task at these moments, by the seed and counter of its tag, exchange, routing key, priority, task and arguments
unfoldable pub timed_task : Times → ℕ → ℕ → Bytes → Bytes → ℕ → Bytes → Bytes → Option Bytes
timed_task times s n exchange routing_key priority task j = option_and_then (if_timed times (tag s n) exchange routing_key priority task) (arguments_of j)

-- how publish lines are read: as those of a schedule, but that a task has moments
abbrev pub timed_craft : Times → Craft
timed_craft times = record { setting = plain_setting; are_arguments = are_arguments; sealed = timed_task times }
