-- What reading a line of a script answers, and checking a whole one. Serves the proofs of code.
use Rattle.std.specs.Prelude.{◌≡◌, ◌≤◌, ℕ, suc, List, [], ◌∷◌, length, ⊤, Option, None, Some, Result, Ok, Err}
use Rattle.std.specs.Borrow.{Bor}
use Rattle.serde_json.specs.View.{view as data_of}
use Rattle.serde_json.specs.Written.{compact_text}
use Rattle.command_blocks.specs.EnvelopeTexts.{plain_setting}
use Rattle.command_blocks.specs.Scripts.{Plan, Publish}
use Rattle.line_text.specs.declared.reason.TextFault.{TextFault}
use Rattle.line_text.specs.declared.reason.TextFault.TheVariants as text
use Rattle.queue_keys.specs.Names.{Bytes}
use Rattle.routes.specs.Declares.{declaration_plan}
use Rattle.routes.specs.Publishes.{IsPublishable}
use Rattle.schedule_model.specs.declared.line.Asked.{Asked}
use Rattle.schedule_model.specs.declared.line.Asked.TheVariants as asked
use Rattle.task_message.specs.Shown.{micros_if}
use Rattle.client_plans.specs.declared.fault.PlanFault.{PlanFault}
use Rattle.client_plans.specs.declared.fault.PlanFault.TheVariants.{Bad, Memory}
use Rattle.publish_script.specs.Drafts.{Times}
use Rattle.publish_script.specs.Scripts.{Blocks, Noted, PublishScript, Says, ScriptReader, ScriptStep, Wrong, Wrong_line}
use Rattle.publish_script.specs.declared.draft.Sending.{Sending}
use Rattle.publish_script.specs.declared.reader.PublishReader.{PublishReader}
use Rattle.publish_script.specs.declared.reader.PublishStep.{PublishStep}
use Rattle.publish_script.specs.declared.reader.PublishStep.TheVariants as step

-- the moments of what is sent
abbrev pub times_of : Sending → Times
times_of asked = record { eta = micros_if asked.eta; expires = micros_if asked.expires }

-- a reader without its seed
abbrev pub reader_of : PublishReader → ScriptReader
reader_of r = record { drawn = r.drawn; times = record { eta = micros_if r.eta; expires = micros_if r.expires } }

-- the plan of a block that is said
abbrev pub plan_said : PublishStep → Plan
plan_said (step.Declare declaration) = declaration_plan declaration
plan_said (step.Publish envelope) = Publish (compact_text (data_of envelope))

-- an envelope may be published by a client of this seed that drew n tags, under its next tag
pub record IsNextEnvelope (s n : ℕ) (v : Bytes) : Type 0 where
  pub written : plain_setting.written_tag v ≡ Some (plain_setting.tag s (suc n))

-- a block can be said by a client of this seed that drew n tags
abbrev pub IsSayable : ℕ → ℕ → PublishStep → Type 0
IsSayable s n (step.Declare declaration) = Unit {0}
IsSayable s n (step.Publish envelope) = IsPublishable (data_of envelope) × IsNextEnvelope s n (compact_text (data_of envelope))

-- an answer to a line that leads to this, from a reader that drew n tags: nothing is said, or a block is, or the line is bad; want of memory may be answered at any time
abbrev pub IsLineRead : ℕ → ℕ → ScriptStep → ScriptReader → Result (Option PublishStep) PlanFault → Type 0
IsLineRead s n led new (Ok None) = led ≡ Noted new
IsLineRead s n led new (Ok (Some x)) = (led ≡ Says new (plan_said x)) × IsSayable s n x
IsLineRead s n led new (Err (Bad r)) = led ≡ Wrong r
IsLineRead s n led new (Err Memory) = Unit {0}

-- what a publisher's line begins: a publication of a task with a name, or a declaration
abbrev pub IsPublishers : Asked → Type 0
IsPublishers (asked.Publish x k p t j) = 1 ≤ length t
IsPublishers (asked.Declare x k p q) = Unit {0}
IsPublishers other = ⊥

-- whatever is begun is so
abbrev pub ArePublishers : Option Asked → Type 0
ArePublishers None = Unit {0}
ArePublishers (Some a) = IsPublishers a

-- an answer to what a script determines: blocks, or its first bad line; want of memory may be answered at any time
abbrev pub IsChecked : PublishScript → Result ⊤ TextFault → Type 0
IsChecked told (Ok u) = (ps : List Plan) × (told ≡ Blocks ps)
IsChecked told (Err (text.Bad b)) = told ≡ Wrong_line b.line b.reason
IsChecked told (Err text.Memory) = Unit {0}

-- a line that was read already, where there is one, and those behind it
abbrev pub from_first : Option (ℕ × Bor Bytes) → List (ℕ × Bytes) → List (ℕ × Bytes)
from_first None ls = []
from_first (Some l) ls = (l.0, l.1.now) ∷ ls

-- the fault of the line of this number, as one of the script
abbrev pub script_fault_at : ℕ → PlanFault → TextFault
script_fault_at n (Bad r) = text.Bad (record { line = n; reason = r })
script_fault_at n Memory = text.Memory
