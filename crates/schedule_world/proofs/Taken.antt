-- What lines lead to, over plain variables.
use Rattle.std.proofs.Common.{◌≡◌, ℕ, ◌<◌, ◌≤◌, ◌^◌, List, Bool, true, false, sym, ap, ◌∙◌, None, Some, arith}
use Rattle.std.specs.Prelude.{◌||◌, if◌then◌else◌, is_some, nat_le, nat_lt, option_map}
use Rattle.std.specs.FinMap.{get, empty, get-empty}
use Rattle.std.specs.Ordering.{nat_cmp}
use Rattle.std.proofs.lemmas.Bool.Decides.{nat_tests}
use Rattle.line_text.specs.declared.reason.Reason.TheVariants.{Moment}
use Rattle.schedule_model.specs.Desk.{ScheduleReader}
use Rattle.schedule_model.specs.Faults.{has_number, is_gone}
use Rattle.schedule_model.specs.Programs.{program_craft}
use Rattle.schedule_model.specs.Schedules.{Went, led_unless}
use Rattle.schedule_model.specs.declared.line.Line.TheVariants.{At}
use Rattle.schedule_world.proofs.Shelved.{get-books_of}
use Rattle.schedule_world.specs.Books.{book_of, books_of}
use Rattle.schedule_world.specs.Shelves.{AreKnown, Shelf}

false_true : false ≡ true → ⊥
false_true e = cc

-- nobody has a book in an empty table
pub known_empty : (m : Shelf) (cs : List (ℕ × ℕ)) → m ≡ empty → AreKnown m cs
known_empty m cs e q h = absurd (false_true (sym (ap is_some (ap (λ n. get n q) e ∙ get-empty nat_cmp q)) ∙ h))

-- who has a book, in tables that are the same
pub known_same : (m n : Shelf) (cs ds : List (ℕ × ℕ)) → n ≡ m → ds ≡ cs → AreKnown m cs → AreKnown n ds
known_same m n cs ds e f known q h = ap (has_number q) f ∙ known q (ap (λ t. is_some (get t q)) (sym e) ∙ h)

-- a moment that is neither too late nor past
pub in_time : (m k : ℕ) → m < 2 ^ 40 → k ≤ m → (nat_le (2 ^ 40) m || nat_lt m k) ≡ false
in_time m k a b = grind (arith, nat_tests)

-- a moment's line without a fault
pub at_led : (d : ScheduleReader) (m : ℕ) (b : Bool) → b ≡ false → led_unless program_craft d (At m) (if b then Some Moment else None) ≡ Went (record d { moment = m })
at_led d m b e = ap (λ t. led_unless program_craft d (At m) (if t then Some Moment else None)) e

-- whether a client is put off, by its book
pub gone_is : (m : Shelf) (c : ℕ) (b : Bool) → is_gone (option_map book_of (get m c)) ≡ b → is_gone (get (books_of m) c) ≡ b
gone_is m c b e = ap is_gone (get-books_of m c) ∙ e
