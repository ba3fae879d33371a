-- The transaction that changes the table of messages together with its index: what is left of it at each of its steps. Serves the proofs of code.
use Rattle.std.specs.Prelude.{◌≡◌, ℕ, ℤ, [], ◌∷◌, codes, Option, None, Some}
use Rattle.wire_values.specs.declared.value.Value.{Value}
use Rattle.store_model.specs.Words.{Words}
use Rattle.command_blocks.specs.Answers.{is_one, integers}
use Rattle.command_blocks.specs.Calls.{call}
use Rattle.command_blocks.specs.Scripts.{Script, Over, Off, Say, plainly, on_done, on_queued, on_two_numbers, after_call}
use Rattle.unacked.specs.declared.step.Course.{Course}
use Rattle.unacked.specs.declared.step.Course.TheVariants.{Next, Ran, Refused}
use Rattle.unacked.specs.declared.step.Step.{Step}
use Rattle.unacked.specs.declared.step.Step.TheVariants.{Begin, Index, Table, Run}

-- EXEC is next, which two integers answer
abbrev pub exec_left : Script
exec_left = plainly (codes "EXEC" ∷ []) (on_two_numbers Over)

-- the command on the table is next
abbrev pub table_step_left : Words → Script
table_step_left table = plainly table (on_queued exec_left)

-- the command on the index is next, by the moment
abbrev pub index_step_left : (ℕ → Words) → Words → Script
index_step_left index table = Say index (on_queued (table_step_left table))

-- MULTI is next
abbrev pub multi_left : (ℕ → Words) → Words → Script
multi_left index table = plainly (codes "MULTI" ∷ []) (on_done (index_step_left index table))

-- the transaction of these two commands, from a step on
abbrev pub steps_left : (ℕ → Words) → Words → Step → Script
steps_left index table Begin = multi_left index table
steps_left index table Index = index_step_left index table
steps_left index table Table = table_step_left table
steps_left index table Run = exec_left

-- what goes on after an answer to the command of a step
abbrev pub answered_left : (ℕ → Words) → Words → Step → Value → Script
answered_left index table step answer = after_call (steps_left index table step) (call 0 [] answer)

-- what is left by what an answer brings
abbrev pub course_left : (ℕ → Words) → Words → Course → Script
course_left index table (Next step) = steps_left index table step
course_left index table (Ran removed) = Over
course_left index table Refused = Off

-- a transaction that ran was answered two integers, and the second tells whether its command on the table counted one member
abbrev pub HasExecuted : Course → Value → Type 0
HasExecuted (Next step) answer = Unit {0}
HasExecuted (Ran removed) answer = (x : ℤ) × (y : ℤ) × (answer ≡ integers (x ∷ y ∷ [])) × (removed ≡ is_one (Some y))
HasExecuted Refused answer = Unit {0}

-- what two integers bring as EXEC's answer
abbrev pub executed_by : Option (ℤ × ℤ) → Course
executed_by None = Refused
executed_by (Some p) = Ran (is_one (Some p.1))
