-- The book's state, what it answers to each ask, and what it is afterwards.
use Rattle.std.specs.Prelude.{ℕ, ◌+◌, ◌-◌, ◌^◌, ◌==◌, min, nat_le, nat_lt, ℤ, ◌&&◌, Bool, true, false, not, if◌then◌else◌, List, [], ◌∷◌, ◌++◌, length, map}
use Rattle.std.specs.List.{insert, list_any, position_or_len}
use Rattle.revokes.specs.Revokes.{Revoke, is_revoked, live_ids, second_of, with_revoke}
use Rattle.pool_book.specs.Deliveries.{Kept, comes_before, parcel_id, has_expired, is_held_at, parcel_number, second_of_moment}
use Rattle.pool_book.specs.declared.asking.BookAnswer.{BookAnswer}
use Rattle.pool_book.specs.declared.asking.BookAnswer.TheVariants as answer
use Rattle.pool_book.specs.declared.asking.BookAsk.{BookAsk}
use Rattle.pool_book.specs.declared.asking.BookAsk.TheVariants as ask
use Rattle.pool_book.specs.declared.asking.DropWhy.TheVariants as why
use Rattle.pool_book.specs.declared.asking.View.{View}
use Rattle.pool_book.specs.declared.pool_book.PoolBook.{PoolBook}
use Rattle.pool_book.specs.declared.pool_book.Ticket.{Ticket}

-- how many deliveries may be held
abbrev pub held_limit : ℕ
held_limit = 65535

-- the deliveries that wait, in the order in which they were put; those that are held, in the order in which they come due; those that run; the numbers of all that were put; the revokes; how many may wait and run at once; whether the worker is closing, and whether nothing is given any more
pub record Book : Type 0 where
  pub waiting : List Kept
  pub held : List Kept
  pub running : List Ticket
  pub numbers : List ℕ
  pub revokes : List Revoke
  pub prefetch : ℕ
  pub closing : Bool
  pub shut : Bool

-- what a book is
abbrev pub pool_book_of : PoolBook → Book
pool_book_of b = record { waiting = b.waiting.items; held = b.held.items; running = b.running.items; numbers = b.numbers; revokes = b.revokes; prefetch = b.prefetch; closing = b.closing; shut = b.shut }

-- a book to which nothing was put
abbrev pub empty_book : ℕ → Book
empty_book n = record { waiting = []; held = []; running = []; numbers = []; revokes = []; prefetch = n; closing = false; shut = false }

-- ---- Put

abbrev pub was_put : ℕ → List ℕ → Bool
was_put n ns = list_any (λ m. m == n) ns

-- one more that is held, before the first that comes due after it
abbrev pub with_held : Kept → List Kept → List Kept
with_held d ds = insert ds (position_or_len (λ other. comes_before d.value other.value) ds) d

-- a delivery is held where it isn't due yet and so many may be held, else it waits
abbrev pub hold_answer : Book → BookAnswer
hold_answer b = if nat_le held_limit (length b.held) then answer.Nothing else answer.Put true

abbrev pub hold_after : Book → Kept → Book
hold_after b d = if nat_le held_limit (length b.held) then b else record b { held = with_held d b.held; numbers = b.numbers ++ parcel_number d.value ∷ [] }

abbrev pub wait_after : Book → Kept → Book
wait_after b d = record b { waiting = b.waiting ++ d ∷ []; numbers = b.numbers ++ parcel_number d.value ∷ [] }

-- a number that was put before is put no more
abbrev pub put_answer : Book → Kept → ℤ → BookAnswer
put_answer b d now =
    if was_put (parcel_number d.value) b.numbers then answer.Nothing
    else (if is_held_at now d.value then hold_answer b else answer.Put false)

abbrev pub put_after : Book → Kept → ℤ → Book
put_after b d now =
    if was_put (parcel_number d.value) b.numbers then b
    else (if is_held_at now d.value then hold_after b d else wait_after b d)

-- ---- Take

-- whether its task is revoked
abbrev pub is_revoked_at : Book → ℤ → Kept → Bool
is_revoked_at b now d = is_revoked (second_of_moment now) (second_of (parcel_id d.value) b.revokes)

-- a delivery that is taken is dropped where its task is revoked, else where it is expired; else it is run
abbrev pub given_answer : Book → ℤ → Kept → BookAnswer
given_answer b now d =
    if is_revoked_at b now d then answer.Drop d why.Revoked
    else (if has_expired now d.value then answer.Drop d why.Expired else answer.Run d)

-- the number and the id of a delivery
abbrev pub ticket_of : Kept → Ticket
ticket_of d = record { number = parcel_number d.value; id = parcel_id d.value }

abbrev pub given_after : Book → ℤ → Kept → Book
given_after b now d =
    if is_revoked_at b now d then b
    else (if has_expired now d.value then b else record b { running = b.running ++ ticket_of d ∷ [] })

-- of those that are held the first is taken, where it is due
abbrev pub due_answer : Book → ℤ → List Kept → BookAnswer
due_answer b now [] = answer.Nothing
due_answer b now (d ∷ ds) = if is_held_at now d.value then answer.Nothing else given_answer b now d

abbrev pub due_after : Book → ℤ → List Kept → Book
due_after b now [] = b
due_after b now (d ∷ ds) = if is_held_at now d.value then b else given_after (record b { held = ds }) now d

-- whether the first of those that are held is due
abbrev pub is_one_due : ℤ → List Kept → Bool
is_one_due now [] = false
is_one_due now (d ∷ ds) = not (is_held_at now d.value)

-- the first that waits is taken, and where none waits one that is held
abbrev pub first_answer : Book → ℤ → List Kept → BookAnswer
first_answer b now [] = due_answer b now b.held
first_answer b now (d ∷ ds) = given_answer b now d

abbrev pub first_after : Book → ℤ → List Kept → Book
first_after b now [] = due_after b now b.held
first_after b now (d ∷ ds) = given_after (record b { waiting = ds }) now d

abbrev pub take_answer : Book → ℤ → BookAnswer
take_answer b now = if b.shut then answer.Over else first_answer b now b.waiting

abbrev pub take_after : Book → ℤ → Book
take_after b now = if b.shut then b else first_after b now b.waiting

-- ---- Finish

-- those that run without that of a number
abbrev pub without_ticket : ℕ → List Ticket → List Ticket
without_ticket n [] = []
without_ticket n (t ∷ ts) = if t.number == n then ts else t ∷ without_ticket n ts

-- ---- Look

-- how many wait or run
abbrev pub busy_in : Book → ℕ
busy_in b = min (length b.waiting + length b.running) (2 ^ 64 - 1)

-- whether one more may be put
abbrev pub has_room : Book → Bool
has_room b = nat_lt (busy_in b) b.prefetch && nat_lt (length b.held) held_limit

abbrev pub ids_of : List Kept → List (List ℕ)
ids_of ds = map (λ d. parcel_id d.value) ds

abbrev pub ticket_ids : List Ticket → List (List ℕ)
ticket_ids ts = map (λ t. t.id) ts

abbrev pub view_of : Book → ℤ → View
view_of b now = record { room = has_room b; busy = busy_in b; closing = b.closing; waiting = ids_of b.waiting; running = ticket_ids b.running; held = ids_of b.held; revoked = live_ids (second_of_moment now) b.revokes }

-- ---- the step

-- what it answers
abbrev pub answer_of : Book → BookAsk → BookAnswer
answer_of b (ask.Put d now) = put_answer b d now
answer_of b (ask.Take now) = take_answer b now
answer_of b (ask.Finish n) = answer.Finished
answer_of b (ask.Revoke id now) = answer.Noted
answer_of b (ask.Look now) = answer.Seen (view_of b now)
answer_of b ask.Closing = answer.Noted
answer_of b ask.Shut = answer.Noted

-- what it is afterwards
abbrev pub book_after : Book → BookAsk → Book
book_after b (ask.Put d now) = put_after b d now
book_after b (ask.Take now) = take_after b now
book_after b (ask.Finish n) = record b { running = without_ticket n b.running }
book_after b (ask.Revoke id now) = record b { revokes = with_revoke id now b.revokes }
book_after b (ask.Look now) = b
book_after b ask.Closing = record b { closing = true }
book_after b ask.Shut = record b { shut = true }
