-- The task that a publish line drafts, and the texts of envelopes.
use Rattle.std.specs.Prelude.{◌≡◌, ◌≤◌, ℕ, pos, None}
use Rattle.serde_json.specs.Data.{Data, no_members, object}
use Rattle.serde_json.specs.View.{view as data_of}
use Rattle.serde_json.specs.Written.{compact_text}
use Rattle.envelope.specs.Envelopes.{parts_in}
use Rattle.envelope.specs.declared.envelope.Envelope.{Envelope}
use Rattle.sealed_drafts.specs.declared.sealing.Draft.{Draft}
use Rattle.queue_keys.specs.Names.{Bytes}
use Rattle.task_message.specs.Drafted.{IsDrafted}
use Rattle.task_message.specs.Tasks.{TaskParts}

-- the compact text of an envelope's tree
abbrev pub envelope_text : Envelope → Bytes
envelope_text e = compact_text (data_of e)

-- the task that is published under this id: of version 2, without keywords, never retried, and at no moment
abbrev pub published_task : Bytes → Bytes → Data → TaskParts
published_task id name args = record { version = 2; name = name; id = id; args = args; kwargs = object no_members; settings = record { retries = 0; eta = None; expires = None } }

-- the draft is that of the task of this id, name and arguments, sent to this exchange with this routing key and a priority of one byte
pub record IsDraftOf (id exchange routing_key : Bytes) (priority : ℕ) (task : Bytes) (args : Data) (draft : Draft) : Type 0 where
  pub drafted : IsDrafted (published_task id task args) exchange routing_key (pos priority) draft
  pub is_byte : priority ≤ 255

-- the tree of an envelope names this exchange and this routing key
pub record Names (exchange routing_key : Bytes) (d : Data) : Type 0 where
  pub exchange_is : (parts_in d).exchange ≡ exchange
  pub routing_key_is : (parts_in d).routing_key ≡ routing_key
