-- What a publish line of a schedule sends.
use Rattle.std.specs.Prelude.{◌≡◌, ◌≤◌, ℕ, length, Some, Ok, true}
use Rattle.serde_json.specs.Data.{Data}
use Rattle.envelope.specs.Envelopes.{envelope_at}
use Rattle.delivery_tags.specs.Tags.{tag}
use Rattle.queue_keys.specs.Names.{Bytes}
use Rattle.schedule_model.specs.Drafts.{arguments_of, sealed_task}
use Rattle.task_message.specs.Drafted.{is_writable}
use Rattle.task_message.specs.Tasks.{TaskParts, task_of}
use Rattle.client_plans.specs.Tasks.{published_task}
use Rattle.publish_script.specs.Drafts.{Times, timed_parts, timed_task}
use Rattle.publish_script.specs.Scripts.{no_times}

-- the bytes are an envelope that carries the task
pub record CarriesTask (t : TaskParts) (v : Bytes) : Type 0 where
  pub tree : Data
  pub envelope : envelope_at v ≡ Ok tree
  pub task : task_of tree ≡ Ok t

-- what a line sends, by its tag's seed and counter, its exchange, routing key, priority, task and the text of its arguments, carries the published task of these arguments, whose id is the tag's text
abbrev pub PublishLinesSendTasks : Type 0
PublishLinesSendTasks = (s n : ℕ) (exchange routing_key : Bytes) (priority : ℕ) (task j v : Bytes)
    → 1 ≤ length task → sealed_task s n exchange routing_key priority task j ≡ Some v
    → (args : Data) × (arguments_of j ≡ Some args) × CarriesTask (published_task (tag s n) task args) v

-- a publish line of a script that no moment stands before sends what the same line of a schedule sends
abbrev pub PlainLinesAgree : Type 0
PlainLinesAgree = (s n : ℕ) (exchange routing_key : Bytes) (priority : ℕ) (task j : Bytes)
    → timed_task no_times s n exchange routing_key priority task j ≡ sealed_task s n exchange routing_key priority task j

-- what a publish line of a script sends behind these moments carries the task of its arguments, with just these moments, under the text of its tag as its id
abbrev pub TimedLinesSendTasks : Type 0
TimedLinesSendTasks = (times : Times) (s n : ℕ) (exchange routing_key : Bytes) (priority : ℕ) (task j v : Bytes)
    → 1 ≤ length task → is_writable times.eta ≡ true → is_writable times.expires ≡ true → timed_task times s n exchange routing_key priority task j ≡ Some v
    → (args : Data) × (arguments_of j ≡ Some args) × CarriesTask (timed_parts (tag s n) task args times) v
