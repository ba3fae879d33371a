-- What a desk shows of its faults, and when each may come.
use Rattle.std.specs.Prelude.{Bool, Err, None, Ok, Option, Result, Some, false, true, ℕ, ◌≡◌, ◌≤◌, ◌⊎◌}
use Rattle.links.specs.Causes.{Rose}
use Rattle.desks.specs.declared.desk.DeskFault.{DeskFault}
use Rattle.desks.specs.declared.desk.DeskFault.TheVariants.{Closed, Ended, Flood, Full, Link, Memory, Wire}

-- counts of faults and of ends never fall
pub record HasCounts (faults faults2 ends ends2 : ℕ) : Type 0 where
  pub later_faults : faults ≤ faults2
  pub later_ends : ends ≤ ends2

-- no fault was answered, and it wasn't stopped
pub record IsOpen (fault : Option DeskFault) (stopped : Bool) : Type 0 where
  pub no_fault : fault ≡ None
  pub no_stop : stopped ≡ false

-- the first of the faults
abbrev pub first_fault : Option DeskFault → DeskFault → Option DeskFault
first_fault None later = Some later
first_fault (Some first) later = Some first

-- an open desk answers any fault but Ended
abbrev pub IsNotEnded : DeskFault → Type 0
IsNotEnded Link = Unit {0}
IsNotEnded (Wire kind place) = Unit {0}
IsNotEnded Flood = Unit {0}
IsNotEnded (Full entries bytes) = Unit {0}
IsNotEnded Closed = Unit {0}
IsNotEnded Ended = ⊥
IsNotEnded Memory = Unit {0}

-- a fault is Ended exactly where the desk wasn't open
abbrev pub IsTimely : Option DeskFault → Bool → DeskFault → Type 0
IsTimely None false fault = IsNotEnded fault
IsTimely None true fault = fault ≡ Ended
IsTimely (Some first) stopped fault = fault ≡ Ended

-- a call was taken by an open desk, which stays open; or it was refused, and the first fault is shown
abbrev pub HasShown : {T : Type 0} → Option DeskFault → Bool → Option DeskFault → Bool → Result T DeskFault → Type 0
HasShown fault stopped fault2 stopped2 (Ok x) = IsOpen fault stopped × IsOpen fault2 stopped2
HasShown fault stopped fault2 stopped2 (Err f) = IsTimely fault stopped f × (fault2 ≡ first_fault fault f) × (stopped2 ≡ stopped)

-- a stop that was taken leaves the desk stopped; a refused one shows the first fault
abbrev pub HasStopped : {T : Type 0} → Option DeskFault → Bool → Option DeskFault → Bool → Result T DeskFault → Type 0
HasStopped fault stopped fault2 stopped2 (Ok x) = IsOpen fault stopped × (fault2 ≡ None) × (stopped2 ≡ true)
HasStopped fault stopped fault2 stopped2 (Err f) = IsTimely fault stopped f × (fault2 ≡ first_fault fault f)

-- faults of a link come only to a remote desk, Link only where a count of its link rose; those of a history only where it is shared
abbrev pub IsFaultOf : Bool → Bool → ℕ → ℕ → ℕ → ℕ → DeskFault → Type 0
IsFaultOf remote shared faults faults2 ends ends2 Link = (remote ≡ true) × (Rose faults faults2 ⊎ Rose ends ends2)
IsFaultOf remote shared faults faults2 ends ends2 (Wire kind place) = remote ≡ true
IsFaultOf remote shared faults faults2 ends ends2 Flood = remote ≡ true
IsFaultOf remote shared faults faults2 ends ends2 (Full entries bytes) = shared ≡ true
IsFaultOf remote shared faults faults2 ends ends2 Closed = shared ≡ true
IsFaultOf remote shared faults faults2 ends ends2 Ended = Unit {0}
IsFaultOf remote shared faults faults2 ends ends2 Memory = Unit {0}
