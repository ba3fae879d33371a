-- The transaction from step to step.
use Rattle.std.proofs.Common.{◌≡◌, ℕ, Bool, true, false, Option, None, Some, refl, sym, subst, ap, ◌∙◌, ℤ, codes, if◌then◌else◌}
use Rattle.wire_values.specs.Layer.{layer}
use Rattle.wire_values.specs.declared.value.Value.{Value}
use Rattle.store_model.specs.Words.{Words}
use Rattle.command_blocks.specs.Answers.{numbers_of}
use Rattle.command_blocks.specs.Cores.{is_off, is_saying}
use Rattle.command_blocks.specs.Scripts.{Over, Off, on_two_numbers, status_in}
use Rattle.unacked.specs.Steps.{HasExecuted, answered_left, course_left, executed_by, steps_left}
use Rattle.unacked.specs.declared.step.Course.{Course}
use Rattle.unacked.specs.declared.step.Course.TheVariants.{Next, Refused}
use Rattle.unacked.specs.declared.step.Step.{Step}
use Rattle.unacked.specs.declared.step.Step.TheVariants.{Begin, Index, Table, Run}
use Rattle.unacked.proofs.Numbers.{two_are, two_off, two_on}

-- the progress, where an answer is a listed one
abbrev next_if : Bool → Step → Course
next_if listed step = if listed then Next step else Refused

next_left : (index : ℕ → Words) (table : Words) (b : Bool) (step : Step) → course_left index table (next_if b step) ≡ (if b then steps_left index table step else Off)
next_left index table true step = refl
next_left index table false step = refl

-- a progress that a status brought leaves what goes on after it
pub begin_answered : (index : ℕ → Words) (table : Words) (r : Value) (b : Bool) (p : Course) → b ≡ status_in (codes "OK") (layer r) → p ≡ next_if b Index → course_left index table p ≡ answered_left index table Begin r
begin_answered index table r b p e f = ap (course_left index table) f ∙ next_left index table b Index ∙ ap (λ c. if c then steps_left index table Index else Off) e

pub index_answered : (index : ℕ → Words) (table : Words) (r : Value) (b : Bool) (p : Course) → b ≡ status_in (codes "QUEUED") (layer r) → p ≡ next_if b Table → course_left index table p ≡ answered_left index table Index r
index_answered index table r b p e f = ap (course_left index table) f ∙ next_left index table b Table ∙ ap (λ c. if c then steps_left index table Table else Off) e

pub table_answered : (index : ℕ → Words) (table : Words) (r : Value) (b : Bool) (p : Course) → b ≡ status_in (codes "QUEUED") (layer r) → p ≡ next_if b Run → course_left index table p ≡ answered_left index table Table r
table_answered index table r b p e f = ap (course_left index table) f ∙ next_left index table b Run ∙ ap (λ c. if c then steps_left index table Run else Off) e

ran_left : (index : ℕ → Words) (table : Words) (r : Value) (o : Option (ℤ × ℤ)) → numbers_of r ≡ o → course_left index table (executed_by o) ≡ on_two_numbers Over r
ran_left index table r None e = sym (two_off Over r e)
ran_left index table r (Some p) e = sym (two_on Over r p e)

pub run_answered : (index : ℕ → Words) (table : Words) (r : Value) (p : Course) → p ≡ executed_by (numbers_of r) → course_left index table p ≡ answered_left index table Run r
run_answered index table r p f = ap (course_left index table) f ∙ ran_left index table r (numbers_of r) refl

ran_so : (r : Value) (o : Option (ℤ × ℤ)) → numbers_of r ≡ o → HasExecuted (executed_by o) r
ran_so r None e = tt
ran_so r (Some p) e = (p.0, p.1, two_are r p e, refl)

-- what two integers bring tells of them
pub run_told : (r : Value) (p : Course) → p ≡ executed_by (numbers_of r) → HasExecuted p r
run_told r p f = let P : Course → Type 0 = λ p. HasExecuted p r in subst P (sym f) (ran_so r (numbers_of r) refl)

-- a status doesn't end the transaction
pub next_told : (r : Value) (b : Bool) (step : Step) (p : Course) → p ≡ next_if b step → HasExecuted p r
next_told r b step p f = let P : Course → Type 0 = λ p. HasExecuted p r in subst P (sym f) (by b) where
  by : (b : Bool) → HasExecuted (next_if b step) r
  by true = tt
  by false = tt

-- at each step a command is next
pub steps_say : (index : ℕ → Words) (table : Words) (step : Step) → is_saying (steps_left index table step) ≡ true
steps_say index table Begin = refl
steps_say index table Index = refl
steps_say index table Table = refl
steps_say index table Run = refl

pub steps_on : (index : ℕ → Words) (table : Words) (step : Step) → is_off (steps_left index table step) ≡ false
steps_on index table Begin = refl
steps_on index table Index = refl
steps_on index table Table = refl
steps_on index table Run = refl
