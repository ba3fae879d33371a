-- What a line leads to by which a client begins a block.
use Rattle.std.proofs.Common.{◌≡◌, ℕ, suc, ◌∷◌, ◌++◌, Bool, true, false, refl, sym, ap, ◌∙◌, subst, Option, None, Some, Result, Ok, Err}
use Rattle.std.specs.Prelude.{◌||◌, if◌then◌else◌, option_map}
use Rattle.std.specs.FinMap.{get, insert, remove}
use Rattle.std.specs.Result.{IsErr, IsErrAnd}
use Rattle.line_text.specs.declared.reason.Reason.{Reason}
use Rattle.line_text.specs.declared.reason.Reason.TheVariants.{Busy, Stopped}
use Rattle.command_blocks.specs.EnvelopeTexts.{plain_setting}
use Rattle.command_blocks.specs.Scripts.{Plan, Script, Over, Off, Say}
use Rattle.schedule_model.specs.Desk as desk
use Rattle.schedule_model.specs.Desk.{ScheduleReader, begun}
use Rattle.schedule_model.specs.Faults.{asked_tests, counter_of, first_reason, has_more, is_busy, is_script_off, present_tests, client_seed}
use Rattle.schedule_model.specs.Programs.{program_craft}
use Rattle.schedule_model.specs.Schedules.{Led, Bad, Went, led_unless, plan_of, with_plan}
use Rattle.schedule_model.specs.declared.line.Asked.{Asked}
use Rattle.schedule_model.specs.declared.line.Line.TheVariants.{Begin}
use Rattle.schedule_world.proofs.Shelved.{books_of_again, get-books_of}
use Rattle.client_core.specs.Works.{client_left, core_client}
use Rattle.schedule_world.specs.Books.{book_of, books_of}
use Rattle.schedule_past.specs.Desks.{desk_with}
use Rattle.client_plans.specs.Plans.{Begins, IsPrepared}
use Rattle.schedule_world.specs.Begins.{BeganPlan, HasBegunPlan, MayBegin}
use Rattle.client_core.specs.Begun.{Began}
use Rattle.client_core.specs.declared.client.ClientCore.{ClientCore}
use Rattle.steps.specs.Errands.{Errand, Planned}
use Rattle.steps.specs.declared.begun.BeginFault.{BeginFault}
use Rattle.steps.specs.declared.begun.BeginFault.TheVariants as begin
use Rattle.steps.specs.declared.begun.Block.{Block}
use Rattle.schedule_world.specs.Rests.{IsResting}
use Rattle.schedule_world.specs.Shelves.{Shelf}
use Rattle.schedule_world.specs.Told.{IsTold, fault_of_plan}
use Rattle.schedule_world.specs.declared.book.ClientBook.{ClientBook}
use Rattle.schedule_world.specs.declared.fault.LineFault.{LineFault}
use Rattle.steps.specs.declared.counts.ClientCounts.{ClientCounts}
use Rattle.client_plans.specs.declared.fault.PlanFault.{PlanFault}
use Rattle.client_plans.specs.declared.fault.PlanFault.TheVariants as fault
use Rattle.schedule_past.specs.declared.past.Past.{Past}

no_error : false ≡ true → ⊥
no_error e = cc

same_some : (x y : ClientBook) → ◌≡◌ {A = Option ClientBook} (Some x) (Some y) → x ≡ y
same_some x y e = cc

-- the first reason why a client can't begin, by its book
abbrev pub begin_reason : Asked → Option desk.ClientBook → Option Reason
begin_reason a b = first_reason (present_tests b ++ (is_busy b, Busy) ∷ asked_tests program_craft (client_seed b) (counter_of b) a)

-- what such a line leads to, by that reason
abbrev pub begin_led : ScheduleReader → ℕ → Asked → Option desk.ClientBook → Led
begin_led d c a b = led_unless program_craft d (Begin c a) (begin_reason a b)

-- a client that can't begin
pub resting_bad : (d : ScheduleReader) (m : Shelf) (c : ℕ) (a : Asked) (r : Reason) → IsResting (get m c) (Err r) → begin_led d c a (get (books_of m) c) ≡ Bad r
resting_bad d m c a r h =
    let b = option_map book_of (get m c) in
    ap (begin_led d c a) (get-books_of m c) ∙ ap (led_unless program_craft d (Begin c a)) (h (asked_tests program_craft (client_seed b) (counter_of b) a))

-- tests that don't hold
passing : (x y : Bool) (o : Option Reason) → x ≡ false → y ≡ false → (if x then Some Stopped else if y then Some Busy else o) ≡ o
passing x y o e f = ap (λ t. if t then Some Stopped else if y then Some Busy else o) e ∙ ap (λ t. if t then Some Busy else o) f

or_no : (a b : Bool) → a ≡ false → b ≡ false → (a || b) ≡ false
or_no a b e f = ap (λ t. t || b) e ∙ f

-- a script of which nothing is left
pub nothing_left : (s : Script) → is_script_off s ≡ false → has_more s ≡ false → s ≡ Over
nothing_left Over e f = refl
nothing_left Off e f = absurd (no_error (sym e))
nothing_left (Say w go) e f = absurd (no_error (sym f))

module _ (past : Past) (m t : Shelf) (c : ℕ) (k : ClientBook) (w : ClientCounts) (a : Asked) (found : get m c ≡ Some k) (same : w ≡ core_client k.core) (running : k.is_stopped ≡ false) (on : is_script_off (client_left k.core) ≡ false) (free : has_more (client_left k.core) ≡ false) where
  abbrev before : ScheduleReader
  before = desk_with past (books_of m)

  book_found : get (books_of m) c ≡ Some (book_of k)
  book_found = get-books_of m c ∙ ap (option_map book_of) found

  abbrev tests_of : ClientCounts → Option Reason
  tests_of v = first_reason (asked_tests program_craft v.seed (suc v.drawn) a)

  reason_is : begin_reason a (get (books_of m) c) ≡ tests_of w
  reason_is =
      ap (begin_reason a) book_found
      ∙ passing (k.is_stopped || is_script_off (client_left k.core)) (has_more (client_left k.core)) (tests_of (core_client k.core)) (or_no k.is_stopped (is_script_off (client_left k.core)) running on) free
      ∙ ap tests_of (sym same)

  -- a block that fails a test
  pub asked_bad : (r : Reason) → tests_of w ≡ Some r → begin_led before c a (get (books_of m) c) ≡ Bad r
  asked_bad r e = ap (led_unless program_craft before (Begin c a)) (reason_is ∙ e)

  prepared_told : (f : PlanFault) → IsPrepared w a (Err f) → IsTold (begin_led before c a (get (books_of m) c)) before before (Err (fault_of_plan f))
  prepared_told (fault.Bad r) h = (asked_bad r h, refl)
  prepared_told fault.Memory h = tt

  -- what is answered then, or for want of memory
  pub unprepared : (f : PlanFault) (r : Result (Unit {0}) LineFault) → IsErr r → IsErrAnd r (λ g. g ≡ fault_of_plan f) → IsPrepared w a (Err f) → IsTold (begin_led before c a (get (books_of m) c)) before before r
  unprepared f (Ok u) e h p = absurd (no_error e)
  unprepared f (Err g) e h p = subst (λ x. IsTold (begin_led before c a (get (books_of m) c)) before before (Err x)) (sym h) (prepared_told f p)

  -- the client may begin what was prepared
  pub may_begin : (b : Block) (p : Plan) → Begins w p b → (j : ClientBook) → get m c ≡ Some j → MayBegin j b
  may_begin b p h j e =
      let one : k ≡ j = same_some k j (sym found ∙ e) in
      subst (λ i. MayBegin i b) one (nothing_left (client_left k.core) on free, (p, subst (λ v. Begins v p b) same h))

  -- the book of a client that begins a plan
  book_begun : (n : ClientBook) (p : Plan) → BeganPlan k p n → book_of n ≡ begun plain_setting (book_of k) p
  book_begun n p h =
      let with_all : ClientCounts → Script → Bool → desk.ClientBook = λ v q s. record { seed = v.seed; drawn = v.drawn; passes = v.passes; left = q; stopped = s } in
      λ i. with_all (h.counts_are i) (h.left_is i) (h.stopped_is i)

  -- a block that is begun
  pub asked_went : (b : Block) (p : Plan) → tests_of w ≡ None → plan_of program_craft w.seed (suc w.drawn) a ≡ Some p → Begins w p b
      → ((j : ClientBook) (q : Plan) → get m c ≡ Some j → Begins (core_client j.core) q b → HasBegunPlan c j q m t) → begin_led before c a (get (books_of m) c) ≡ Went (desk_with past (books_of t))
  asked_went b p none plan h grows =
      let grown = grows k p found (subst (λ v. Begins v p b) same h) in
      let books : insert (books_of m) c (begun plain_setting (book_of k) p) ≡ books_of t =
      ap (insert (books_of m) c) (sym (book_begun grown.0 p grown.2)) ∙ sym (ap books_of grown.1 ∙ books_of_again m c grown.0) in
      ap (led_unless program_craft before (Begin c a)) (reason_is ∙ none)
      ∙ ap (λ o. with_plan program_craft before c o (plan_of program_craft (client_seed o) (counter_of o) a)) book_found
      ∙ ap (with_plan program_craft before c (Some (book_of k))) (ap (λ v. plan_of program_craft v.seed (suc v.drawn) a) (sym same) ∙ plan)
      ∙ ap (λ bs. Went (desk_with past bs)) books

-- ---- a client that was asked to begin

ok_err : {A B C : Type 0} {x : A} {y : B} → ◌≡◌ {A = Result A B} (Ok x) (Err y) → C
ok_err e = absurd (cc e)

-- who may begin a plan refuses it for want of memory alone
pub memory_alone : (old new : ClientCore) (errand : Result Errand BeginFault) (p : Plan) (f : BeginFault) → errand ≡ Ok (Planned p) → Began old new errand (Err f) → f ≡ begin.Memory
memory_alone old new errand p begin.NoTag e h = ok_err (sym e ∙ h.0)
memory_alone old new errand p (begin.Name f) e h = ok_err (sym e ∙ h.0)
memory_alone old new errand p (begin.Draft f) e h = ok_err (sym e ∙ h.0)
memory_alone old new errand p begin.BadNeutral e h = ok_err (sym e ∙ h.0)
memory_alone old new errand p begin.Memory e h = refl

-- a book that was taken out and set again, whose client began a plan
pub set_so : (m r t : Shelf) (c : ℕ) (book k : ClientBook) (p : Plan) (b : Block) → Some book ≡ get m c → r ≡ remove m c → get m c ≡ Some k → Begins (core_client k.core) p b
    → ((q : Plan) → Begins (core_client book.core) q b → (n : ClientBook) × (t ≡ insert r c n) × BeganPlan book q n) → HasBegunPlan c k p m t
set_so m r t c book k p b taken removed e begins f =
    let one : k ≡ book = same_some k book (sym e ∙ sym taken) in
    let h = f p (subst (λ j. Begins (core_client j.core) p b) one begins) in
    (h.0, h.1 ∙ ap (λ x. insert x c h.0) removed, subst (λ j. BeganPlan j p h.0) (sym one) h.2)
