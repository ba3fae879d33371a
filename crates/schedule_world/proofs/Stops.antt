-- What a line leads to by which a client is gone.
use Rattle.std.proofs.Common.{◌≡◌, ℕ, [], ◌∷◌, ◌++◌, true, false, sym, ap, ◌∙◌, Option, None, Some}
use Rattle.std.specs.Prelude.{if◌then◌else◌, option_map}
use Rattle.std.specs.FinMap.{FinMap, get, insert, remove}
use Rattle.std.specs.Ordering.{nat_cmp}
use Rattle.store_model.specs.Store.{gone_of}
use Rattle.line_text.specs.declared.reason.Reason.{Reason}
use Rattle.place_model.specs.Shown.{history_of}
use Rattle.place_model.specs.declared.history.Entry.TheVariants as entry
use Rattle.schedule_model.specs.Costs.{is_full}
use Rattle.schedule_model.specs.Desk as desk
use Rattle.schedule_model.specs.Desk.{ScheduleReader, with_stop}
use Rattle.schedule_model.specs.Faults.{first_reason, present_tests}
use Rattle.schedule_model.specs.Programs.{program_craft}
use Rattle.schedule_model.specs.Schedules.{Filled, Went, led_unless, stopped}
use Rattle.schedule_model.specs.Schedules as schedules
use Rattle.schedule_model.specs.declared.line.Line.TheVariants.{Stop}
use Rattle.schedule_world.proofs.Shelved.{books_of_again, get-books_of}
use Rattle.schedule_world.specs.Books.{book_of, books_of}
use Rattle.schedule_past.specs.Desks.{desk_with}
use Rattle.schedule_world.specs.Shelves.{Shelf}
use Rattle.schedule_world.specs.declared.book.ClientBook.{ClientBook}
use Rattle.schedule_past.specs.declared.past.Past.{Past}

-- the first reason why a client can't be stopped, by its book
abbrev pub present_reason : Option desk.ClientBook → Option Reason
present_reason b = first_reason (present_tests b)

-- a client that isn't there
pub absent_led : (d : ScheduleReader) (m : Shelf) (c : ℕ) (r : Reason) → present_reason (option_map book_of (get m c)) ≡ Some r → led_unless program_craft d (Stop c) (present_reason (get (books_of m) c)) ≡ schedules.Bad r
absent_led d m c r h = ap (λ b. led_unless program_craft d (Stop c) (present_reason b)) (get-books_of m c) ∙ ap (led_unless program_craft d (Stop c)) h

module _ (p : Past) (m : Shelf) (c : ℕ) (k : ClientBook) (found : get m c ≡ Some k) (there : present_reason (option_map book_of (get m c)) ≡ None) where
  abbrev before : ScheduleReader
  before = desk_with p (books_of m)

  unfaulted : led_unless program_craft before (Stop c) (present_reason (get (books_of m) c)) ≡ (if is_full before.entries then Filled before else Went (with_stop before c (book_of k)))
  unfaulted =
      ap (λ b. led_unless program_craft before (Stop c) (present_reason b)) (get-books_of m c)
      ∙ ap (led_unless program_craft before (Stop c)) there
      ∙ ap (stopped before c) (get-books_of m c ∙ ap (option_map book_of) found)

  -- where the history has no room
  pub full_led : is_full before.entries ≡ true → led_unless program_craft before (Stop c) (present_reason (get (books_of m) c)) ≡ Filled before
  full_led full = unfaulted ∙ ap (λ b. if b then Filled before else Went (with_stop before c (book_of k))) full

  -- a client that is gone
  pub stop_led : (q : Past) (t : Shelf) → is_full before.entries ≡ false → t ≡ insert (remove m c) c (record k { is_stopped = true })
      → ((bs : FinMap nat_cmp desk.ClientBook) → desk_with q bs ≡ record (desk_with p bs) { entries = (history_of p.history).entries ++ entry.Stop c ∷ []; store = gone_of p.store.state c })
      → led_unless program_craft before (Stop c) (present_reason (get (books_of m) c)) ≡ Went (desk_with q (books_of t))
  stop_led q t room e grown =
      let books : books_of t ≡ insert (books_of m) c (book_of (record k { is_stopped = true })) = ap books_of e ∙ books_of_again m c (record k { is_stopped = true }) in
      unfaulted
      ∙ ap (λ b. if b then Filled before else Went (with_stop before c (book_of k))) room
      ∙ ap Went (sym (grown (books_of t) ∙ ap (λ b. record (desk_with p b) { entries = (history_of p.history).entries ++ entry.Stop c ∷ []; store = gone_of p.store.state c }) books))
