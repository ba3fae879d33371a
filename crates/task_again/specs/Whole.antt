-- A tree that is an envelope's but for its length. This serves the proofs of code.
use Rattle.std.specs.Prelude.{◌≡◌, ◌≤◌, ℕ, List, false, Some, Ok}
use Rattle.serde_json.specs.Data.{Data, depth}
use Rattle.serde_json.specs.Written.{has_float}
use Rattle.envelope.specs.Envelopes.{Parts, content_of, max_levels, parts_of}
use Rattle.envelope_trees.specs.declared.fault.EnvelopeFault.{EnvelopeFault}
use Rattle.envelope_trees.specs.declared.fault.EnvelopeFault.TheVariants.{TooLong, NotJson, TooDeep, Float, Missing, Compressed, BadBody, Memory}
use Rattle.task_message.specs.declared.fault.TaskFault.{TaskFault}
use Rattle.task_message.specs.declared.fault.TaskFault.TheVariants as task

-- the tree nests at most 100 deep, has no float, and says the parts of an envelope
pub record IsWhole (d : Data) : Type 0 where
  pub shallow : depth d ≤ max_levels
  pub whole : has_float d ≡ false
  pub parts : Parts
  pub said : parts_of d ≡ Ok parts

-- some content has this body
abbrev pub IsBody : List ℕ → Type 0
IsBody body = (content : List ℕ) × (content_of body ≡ Some content)

-- a fault that a whole tree may have
abbrev pub IsOfLength : EnvelopeFault → Type 0
IsOfLength TooLong = Unit {0}
IsOfLength NotJson = ⊥
IsOfLength TooDeep = ⊥
IsOfLength Float = ⊥
IsOfLength (Missing f) = ⊥
IsOfLength Compressed = ⊥
IsOfLength BadBody = ⊥
IsOfLength Memory = Unit {0}

-- the same as the fault of a task
abbrev pub refused : EnvelopeFault → TaskFault
refused TooLong = task.TooLong
refused NotJson = task.Memory
refused TooDeep = task.Memory
refused Float = task.Memory
refused (Missing f) = task.Memory
refused Compressed = task.Memory
refused BadBody = task.Memory
refused Memory = task.Memory
