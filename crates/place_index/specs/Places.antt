-- The place of a message by what a walk over its history gathered. Serves the proofs of code.
use Rattle.std.specs.Prelude.{ℕ, Bool, true, false, ◌==◌, if◌then◌else◌, List, [], ◌∷◌, Option, None, Some}
use Rattle.std.specs.FinMap.{entries}
use Rattle.queue_keys.specs.Names.{Bytes}
use Rattle.place_model.specs.PlaceOf.{by_counts, or_place}
use Rattle.place_model.specs.declared.place.Place.{Place}
use Rattle.place_model.specs.declared.place.Place.TheVariants.{List as InList, Unacked, Hand, Ended, Lost, Never}
use Rattle.message_acts.specs.Numbers.{has, times}
use Rattle.place_walk.specs.Seats.{hands}
use Rattle.place_walk.specs.declared.walk.HistoryWalk.{HistoryWalk}

-- the first that a number is told with
abbrev pub first_of : {A : Type 0} → ℕ → List (ℕ × A) → Option A
first_of t [] = None
first_of t (p ∷ ps) = if p.0 == t then Some p.1 else first_of t ps

-- the place of a list
abbrev pub listed_place : Bytes × ℕ → Place
listed_place p = InList p.0 p.1

-- the place of a message of which nothing is pushed twice, by what was gathered, the lists of queues, and whether it is in the table
abbrev pub single_place : ℕ → HistoryWalk → List (ℕ × (Bytes × ℕ)) → Bool → Place
single_place t w told kept =
    or_place listed_place (first_of t told)
    (if kept then Unacked else
    or_place Hand (first_of t (hands false (entries w.seats)))
    (if has t w.ended then Ended else
    or_place Lost (first_of t (hands true (entries w.seats))) Never))

-- the place of a message
abbrev pub place_by : ℕ → HistoryWalk → List (ℕ × (Bytes × ℕ)) → Bool → Place
place_by t w told kept = by_counts (times t w.pushes) (if has t w.copied then 1 else 0) (single_place t w told kept)
