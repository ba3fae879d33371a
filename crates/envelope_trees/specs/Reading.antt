-- Readings that end at their first fault. Serves the proofs of code.
use Rattle.std.specs.Prelude.{◌≡◌, ⊤, Bool, true, false, Option, Some, None, Result, Ok, Err}
use Rattle.envelope_trees.specs.declared.fault.EnvelopeFault.{EnvelopeFault}
use Rattle.envelope_trees.specs.declared.fault.EnvelopeFault.TheVariants.{TooLong, NotJson, TooDeep, Float, Missing, Compressed, BadBody, Memory}

-- goes on with what was read; the first fault ends the reading
infixl 10 ◌>>=◌
abbrev pub ◌>>=◌ : {A B : Type 0} → Result A EnvelopeFault → (A → Result B EnvelopeFault) → Result B EnvelopeFault
(Ok x) >>= f = f x
(Err e) >>= f = Err e

-- the reading has this fault; want of memory says nothing
abbrev pub Fails : {Y : Type 0} → EnvelopeFault → Result Y EnvelopeFault → Type 0
Fails TooLong read = read ≡ Err TooLong
Fails NotJson read = read ≡ Err NotJson
Fails TooDeep read = read ≡ Err TooDeep
Fails Float read = read ≡ Err Float
Fails (Missing f) read = read ≡ Err (Missing f)
Fails Compressed read = read ≡ Err Compressed
Fails BadBody read = read ≡ Err BadBody
Fails Memory read = Unit {0}

-- what a function returned, seen by view, is what the reading gives, unless memory ran out
abbrev pub Gives : {X Y : Type 0} → (X → Y) → Result X EnvelopeFault → Result Y EnvelopeFault → Type 0
Gives view (Ok x) read = read ≡ Ok (view x)
Gives view (Err e) read = Fails e read

-- what is there, or else the fault
abbrev pub needed : {A : Type 0} → EnvelopeFault → Option A → Result A EnvelopeFault
needed fault (Some x) = Ok x
needed fault None = Err fault

-- what must hold, or else the fault
abbrev pub wanted : EnvelopeFault → Bool → Result ⊤ EnvelopeFault
wanted fault true = Ok tt
wanted fault false = Err fault
