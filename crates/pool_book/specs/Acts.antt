-- What a worker does: deeds at its desk, and asks of its book with their answers.
use Rattle.std.specs.Prelude.{◌≡◌, ℤ, Bool, true, List, [], ◌∷◌, Option, None, Some, Result, Ok, Err}
use Rattle.desks.specs.Deeds.{Deed}
use Rattle.desks.specs.Faults.{first_fault}
use Rattle.desks.specs.declared.desk.DeskFault.{DeskFault}
use Rattle.desks.specs.declared.desk.DeskFault.TheVariants as desk
use Rattle.turn_lock.specs.declared.turn_fault.TurnFault.{TurnFault}
use Rattle.turn_lock.specs.declared.turn_fault.TurnFault.TheVariants.{Full, Closed, Memory}
use Rattle.pool_book.specs.Deliveries.{Kept, has_expired, is_held_at}
use Rattle.pool_book.specs.declared.asking.BookAnswer.{BookAnswer}
use Rattle.pool_book.specs.declared.asking.BookAnswer.TheVariants as answer
use Rattle.pool_book.specs.declared.asking.BookAsk.{BookAsk}
use Rattle.pool_book.specs.declared.asking.BookAsk.TheVariants as ask
use Rattle.pool_book.specs.declared.asking.DropWhy.{DropWhy}
use Rattle.pool_book.specs.declared.asking.DropWhy.TheVariants as why

-- an ask with its answer
pub record Query : Type 0 where
  pub asked : BookAsk
  pub answered : BookAnswer

abbrev pub query : BookAsk → BookAnswer → Query
query q a = record { asked = q; answered = a }

-- a deed at the desk, or an ask of the book
pub data Act : Type 0 where
  Did : Deed → Act
  Asked : Query → Act

-- what was done at the desk
abbrev pub deeds_in : List Act → List Deed
deeds_in [] = []
deeds_in (Did d ∷ acts) = d ∷ deeds_in acts
deeds_in (Asked q ∷ acts) = deeds_in acts

-- what the book was asked
abbrev pub queries_in : List Act → List Query
queries_in [] = []
queries_in (Did d ∷ acts) = queries_in acts
queries_in (Asked q ∷ acts) = q ∷ queries_in acts

-- deeds alone
abbrev pub all_did : List Deed → List Act
all_did [] = []
all_did (d ∷ deeds) = Did d ∷ all_did deeds

-- a delivery is held only where the moment before which its task waits is later
abbrev pub IsPutAnswer : Kept → ℤ → BookAnswer → Type 0
IsPutAnswer d now (answer.Put held) = held ≡ true → is_held_at now d.value ≡ true
IsPutAnswer d now answer.Nothing = Unit {0}
IsPutAnswer d now (answer.Run e) = ⊥
IsPutAnswer d now (answer.Drop e w) = ⊥
IsPutAnswer d now answer.Over = ⊥
IsPutAnswer d now answer.Finished = ⊥
IsPutAnswer d now answer.Noted = ⊥
IsPutAnswer d now (answer.Seen v) = ⊥

-- a delivery is dropped as expired only where the moment after which its task is so is earlier
abbrev pub IsDropWhy : Kept → ℤ → DropWhy → Type 0
IsDropWhy d now why.Expired = has_expired now d.value ≡ true
IsDropWhy d now why.Revoked = Unit {0}

abbrev pub IsTakeAnswer : ℤ → BookAnswer → Type 0
IsTakeAnswer now (answer.Run d) = Unit {0}
IsTakeAnswer now (answer.Drop d w) = IsDropWhy d now w
IsTakeAnswer now answer.Nothing = Unit {0}
IsTakeAnswer now answer.Over = Unit {0}
IsTakeAnswer now (answer.Put held) = ⊥
IsTakeAnswer now answer.Finished = ⊥
IsTakeAnswer now answer.Noted = ⊥
IsTakeAnswer now (answer.Seen v) = ⊥

abbrev pub IsLookAnswer : BookAnswer → Type 0
IsLookAnswer (answer.Seen v) = Unit {0}
IsLookAnswer (answer.Run d) = ⊥
IsLookAnswer (answer.Drop d w) = ⊥
IsLookAnswer answer.Nothing = ⊥
IsLookAnswer answer.Over = ⊥
IsLookAnswer (answer.Put held) = ⊥
IsLookAnswer answer.Finished = ⊥
IsLookAnswer answer.Noted = ⊥

-- the answers that an ask may have
abbrev pub IsBookAnswer : BookAsk → BookAnswer → Type 0
IsBookAnswer (ask.Put d now) a = IsPutAnswer d now a
IsBookAnswer (ask.Take now) a = IsTakeAnswer now a
IsBookAnswer (ask.Finish n) a = a ≡ answer.Finished
IsBookAnswer (ask.Revoke id now) a = a ≡ answer.Noted
IsBookAnswer (ask.Look now) a = IsLookAnswer a
IsBookAnswer ask.Closing a = a ≡ answer.Noted
IsBookAnswer ask.Shut a = a ≡ answer.Noted

-- the desk fault of the same name
abbrev pub turn_desk_fault : TurnFault → DeskFault
turn_desk_fault (Full entries bytes) = desk.Full entries bytes
turn_desk_fault Closed = desk.Closed
turn_desk_fault Memory = desk.Memory

-- an answer, with no fault before and after; or the first fault is shown
abbrev pub HasAskedBook : {T : Type 0} → Option DeskFault → Option DeskFault → Result T TurnFault → Type 0
HasAskedBook fault fault2 (Ok x) = (fault ≡ None) × (fault2 ≡ None)
HasAskedBook fault fault2 (Err f) = fault2 ≡ first_fault fault (turn_desk_fault f)
