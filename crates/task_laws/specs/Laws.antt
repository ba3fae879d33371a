-- Laws of tasks.
use Rattle.std.specs.Prelude.{◌≡◌, ◌↔◌, ◌<◌, ◌^◌, ℕ, ℤ, suc, true, List, Ok, Err}
use Rattle.serde_json.specs.Data.{Data}
use Rattle.envelope.specs.Envelopes.{Parts, parts_in, said_by}
use Rattle.envelope_trees.specs.Sorted.{Sorted}
use Rattle.sealed_drafts.specs.Sealed.{seal_of}
use Rattle.sealed_drafts.specs.declared.sealing.Draft.{Draft}
use Rattle.moments.specs.CivilTimes.{is_within_years}
use Rattle.task_message.specs.Again.{again_of}
use Rattle.task_message.specs.Drafted.{IsDrafted, can_draft}
use Rattle.task_message.specs.Tasks.{TaskParts, task_of}
use Rattle.task_message.specs.declared.fault.TaskFault.{TaskFault}
use Rattle.task_message.specs.declared.fault.TaskFault.TheVariants.{TooLong}
use Rattle.task_laws.specs.Relations.{IsTask}
use Rattle.task_laws.specs.SentAgain.{IsSentAgain, next_try}

-- a task is read of an envelope's tree exactly where the tree carries it
abbrev pub ReadsTasks : Type 0
ReadsTasks = (d : Data) (t : TaskParts) → (task_of d ≡ Ok t) ↔ IsTask d t

-- a task that was drafted and sealed is read as the same task
abbrev pub DraftsComeBack : Type 0
DraftsComeBack = (t : TaskParts) (exchange routing_key : List ℕ) (priority : ℤ) (draft : Draft) (n : ℕ) (d : Data)
    → can_draft t ≡ true → t.settings.retries < 2 ^ 32 → n < 2 ^ 128 → IsDrafted t exchange routing_key priority draft → seal_of draft n ≡ Ok d → task_of d ≡ Ok t

-- sending the task of an envelope again changes what it must and nothing else; what was read has each key once and in order, as this asks of the tree
abbrev pub AgainChanges : Type 0
AgainChanges = (d e : Data) (p : Parts) (t : TaskParts) (n : ℕ) (eta : ℤ)
    → Sorted d → said_by d ≡ Ok p → task_of d ≡ Ok t → again_of d t n eta ≡ Ok e → IsSentAgain d t n eta e

-- what was sent again is read as the task with one retry more, under its tag
abbrev pub AgainIsRead : Type 0
AgainIsRead = (d e : Data) (t : TaskParts) (n : ℕ) (eta : ℤ)
    → Sorted d → task_of d ≡ Ok t → suc t.settings.retries < 2 ^ 32 → n < 2 ^ 128 → is_within_years eta ≡ true → again_of d t n eta ≡ Ok e
    → (task_of e ≡ Ok (next_try t eta)) × ((parts_in e).tag ≡ n)

-- reading a task is never refused as too long, and sending it again for nothing else
abbrev pub FaultsApart : Type 0
FaultsApart = ((d : Data) → task_of d ≡ Err TooLong → ⊥) × ((d : Data) (t : TaskParts) (n : ℕ) (eta : ℤ) (f : TaskFault) → again_of d t n eta ≡ Err f → f ≡ TooLong)
