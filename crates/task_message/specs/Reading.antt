-- Readings of tasks that end at their first fault. This serves the proofs of code.
use Rattle.std.specs.Prelude.{◌≡◌, ⊤, Bool, true, false, Option, Some, None, Result, Ok, Err}
use Rattle.task_message.specs.declared.fault.TaskFault.{TaskFault}
use Rattle.task_message.specs.declared.fault.TaskFault.TheVariants.{NoTask, Float, BadField, BadMoment, TooLong, Memory}

-- goes on with what was read; the first fault ends the reading
infixl 10 ◌>>=◌
abbrev pub ◌>>=◌ : {A B : Type 0} → Result A TaskFault → (A → Result B TaskFault) → Result B TaskFault
(Ok x) >>= f = f x
(Err e) >>= f = Err e

-- the reading has this fault; want of memory says nothing
abbrev pub Fails : {Y : Type 0} → TaskFault → Result Y TaskFault → Type 0
Fails NoTask read = read ≡ Err NoTask
Fails Float read = read ≡ Err Float
Fails (BadField p) read = read ≡ Err (BadField p)
Fails BadMoment read = read ≡ Err BadMoment
Fails TooLong read = read ≡ Err TooLong
Fails Memory read = Unit {0}

-- what a function returned, seen by view, is what the reading gives, unless memory ran out
abbrev pub GivesTask : {X Y : Type 0} → (X → Y) → Result X TaskFault → Result Y TaskFault → Type 0
GivesTask view (Ok x) read = read ≡ Ok (view x)
GivesTask view (Err e) read = Fails e read

-- what is there, or else the fault
abbrev pub needed : {A : Type 0} → TaskFault → Option A → Result A TaskFault
needed fault (Some x) = Ok x
needed fault None = Err fault

-- what must hold, or else the fault
abbrev pub wanted : TaskFault → Bool → Result ⊤ TaskFault
wanted fault true = Ok tt
wanted fault false = Err fault
