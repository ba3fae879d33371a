-- Which faults a desk has that has its store, and what it does once it answered one or was stopped.
use Rattle.std.specs.Prelude.{Bool, IsErrOf, None, Option, Result, Some, false, true, ◌≡◌}
use Rattle.store_model.specs.Store.{StoreView}
use Rattle.desks.specs.declared.desk.DeskFault.{DeskFault}
use Rattle.desks.specs.declared.desk.DeskFault.TheVariants.{Closed, Ended, Flood, Full, Link, Memory, Wire}

-- it answers no other fault than these two
abbrev pub IsPlainFault : DeskFault → Type 0
IsPlainFault Link = ⊥
IsPlainFault (Wire kind place) = ⊥
IsPlainFault Flood = ⊥
IsPlainFault (Full entries bytes) = ⊥
IsPlainFault Closed = ⊥
IsPlainFault Ended = Unit {0}
IsPlainFault Memory = Unit {0}

-- after a fault or a stop it answers Ended, and its store stays
abbrev pub StaysEnded : {T : Type 0} → Option DeskFault → Bool → StoreView → StoreView → Result T DeskFault → Type 0
StaysEnded None false store store2 result = Unit {0}
StaysEnded None true store store2 result = IsErrOf result Ended × (store2 ≡ store)
StaysEnded (Some fault) stopped store store2 result = IsErrOf result Ended × (store2 ≡ store)
