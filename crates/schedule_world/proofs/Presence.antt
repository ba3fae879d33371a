-- Whether a client is there, by its book.
use Rattle.std.proofs.Common.{◌≡◌, List, ◌∷◌, [], ◌++◌, Bool, true, false, refl, ap, ◌∙◌, None, Some}
use Rattle.std.specs.Prelude.{◌||◌, not, if◌then◌else◌}
use Rattle.line_text.specs.declared.reason.Reason.TheVariants.{Idle, Stopped}
use Rattle.client_core.specs.Works.{client_left}
use Rattle.schedule_model.specs.Faults.{Test, first_reason, has_more, is_busy, present_tests}
use Rattle.schedule_world.specs.Books.{book_of}
use Rattle.schedule_world.specs.Rests.{is_book_gone}
use Rattle.schedule_world.specs.declared.book.ClientBook.{ClientBook}

pub neither : (a b : Bool) → (a || b) ≡ false → (a ≡ false) × (b ≡ false)
neither true b e = cc
neither false b e = (refl, e)

-- a client that says nothing more
pub gone_reason : (k : ClientBook) (ts : List Test) → is_book_gone k ≡ true → first_reason (present_tests (Some (book_of k)) ++ ts) ≡ Some Stopped
gone_reason k ts e = ap (λ b. if b then Some Stopped else first_reason ts) e

-- one that does, by the tests that follow
pub here_reason : (k : ClientBook) (ts : List Test) → is_book_gone k ≡ false → first_reason (present_tests (Some (book_of k)) ++ ts) ≡ first_reason ts
here_reason k ts e = ap (λ b. if b then Some Stopped else first_reason ts) e

-- one that has nothing to say, and one that has
pub idle_reason : (k : ClientBook) → is_book_gone k ≡ false → has_more (client_left k.core) ≡ false → first_reason (present_tests (Some (book_of k)) ++ (not (is_busy (Some (book_of k))), Idle) ∷ []) ≡ Some Idle
idle_reason k e f = here_reason k ((not (is_busy (Some (book_of k))), Idle) ∷ []) e ∙ ap (λ b. if not b then Some Idle else None) f

pub busy_reason : (k : ClientBook) → is_book_gone k ≡ false → has_more (client_left k.core) ≡ true → first_reason (present_tests (Some (book_of k)) ++ (not (is_busy (Some (book_of k))), Idle) ∷ []) ≡ None
busy_reason k e f = here_reason k ((not (is_busy (Some (book_of k))), Idle) ∷ []) e ∙ ap (λ b. if not b then Some Idle else None) f
