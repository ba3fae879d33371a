-- The books of a schedule's clients as a finite map. Serves the proofs of code.
use Rattle.std.specs.Prelude.{◌≡◌, ℕ, Bool, false, true, is_some, List, Option, None, Some}
use Rattle.std.specs.Coded.{Coded, coded_ℕ}
use Rattle.std.specs.FinMap.{FinMap, code, get}
use Rattle.std.specs.Ordering.{nat_cmp}
use Rattle.place_model.specs.Shown.{has_stopped}
use Rattle.place_model.specs.declared.heard.Heard.{Heard}
use Rattle.place_model.specs.declared.history.Entry.{Entry}
use Rattle.schedule_model.specs.Faults.{has_number}
use Rattle.schedule_world.specs.declared.book.ClientBook.{ClientBook}
use Rattle.schedule_world.specs.contracts.book.ClientBook.{the_row as book_row}

-- books by the numbers of their clients
abbrev pub Shelf : Type 0
Shelf = FinMap nat_cmp ClientBook

-- they can stand in a model
abbrev pub shelf_code : Coded Shelf
shelf_code = code coded_ℕ book_row.coded

-- who has a book is in the table of clients
abbrev pub AreKnown : Shelf → List (ℕ × ℕ) → Type 0
AreKnown m clients = (c : ℕ) → is_some (get m c) ≡ true → has_number c clients ≡ true

-- whether a book says that its client is stopped
abbrev pub says_stopped : Option ClientBook → Bool
says_stopped None = false
says_stopped (Some b) = b.is_stopped

-- who is gone has a book that says so
abbrev pub AreHere : Shelf → List (Entry Heard) → Type 0
AreHere m es = (c : ℕ) → says_stopped (get m c) ≡ false → has_stopped c es ≡ false
