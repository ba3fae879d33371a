-- How a desk and a book followed a course.
use Rattle.std.specs.Prelude.{◌≡◌, List, [], Option, None, Some, Bool, Result, Ok, Err, ⊤, ◌⊎◌}
use Rattle.desks.specs.Deeds.{Deed}
use Rattle.desks.specs.Faults.{IsOpen}
use Rattle.desks.specs.declared.desk.DeskFault.{DeskFault}
use Rattle.block_runs.specs.declared.fault.BlockFault.{BlockFault}
use Rattle.block_runs.specs.declared.fault.BlockFault.TheVariants.{Begin, Desk, Refused, Memory}
use Rattle.pool_book.specs.Acts.{Act, Query, deeds_in, queries_in}
use Rattle.work_courses.specs.Courses.{Course, Cut, Unlisted}

-- whole where it gave something, else a beginning, which ends with an unlisted reply exactly where that is the fault; every block was begun
abbrev pub Follows : {X : Type 0} → Course X → List Act → Result X BlockFault → Type 0
Follows course l (Ok x) = course.whole x l
Follows course l (Err (Begin f)) = ⊥
Follows course l (Err (Desk f)) = course.front Cut l
Follows course l (Err (Refused r)) = course.front (Unlisted r) l
Follows course l (Err Memory) = course.front Cut l

-- the desk and the book went on by acts that follow the course
pub record HasFollowed {D A X : Type 0} (goes : D → List Deed → D → Type 0) (asking : A → List Query → A → Type 0) (desk desk2 : D) (book book2 : A) (course : Course X) (result : Result X BlockFault) : Type 0 where
  pub acts : List Act
  pub went : goes desk (deeds_in acts) desk2
  pub asked : asking book (queries_in acts) book2
  pub follows : Follows course acts result

-- no book is asked
abbrev pub unasked : ⊤ → List Query → ⊤ → Type 0
unasked a l b = l ≡ []

-- what the desk and the book show at the end
abbrev pub HasEndedSo : {X : Type 0} → Option DeskFault → Bool → Option DeskFault → Result X BlockFault → Type 0
HasEndedSo fault stopped book (Ok x) = IsOpen fault stopped × (book ≡ None)
HasEndedSo fault stopped book (Err (Begin f)) = ⊥
HasEndedSo fault stopped book (Err (Desk f)) = (fault ≡ Some f) ⊎ (book ≡ Some f)
HasEndedSo fault stopped book (Err (Refused r)) = Unit {0}
HasEndedSo fault stopped book (Err Memory) = Unit {0}
