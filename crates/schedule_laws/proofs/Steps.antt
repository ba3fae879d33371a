-- `run` is `step` repeated.
use Rattle.std.proofs.Common.{◌≡◌, ℕ, ◌+◌, zero, suc, refl, ap, sym, ◌∙◌, List, [], ◌∷◌, ◌++◌, Bool, true, false, Option, None, Some, if◌then◌else◌, length}
use Rattle.std.specs.Prelude.{is_none, not, ◌||◌}
use Rattle.std.specs.FinMap.{get}
use Rattle.wire_values.specs.declared.value.Value.{Value}
use Rattle.line_text.specs.declared.reason.Reason.{Reason}
use Rattle.line_text.specs.declared.reason.Reason.TheVariants.{Stopped, Idle, UnknownClient}
use Rattle.queue_keys.specs.Names.{Bytes}
use Rattle.store_model.specs.Words.{Words}
use Rattle.store_model.specs.Store.{apply_of}
use Rattle.command_blocks.specs.Scripts.{Script, Over, Off, Say}
use Rattle.schedule_model.specs.Costs.{is_full, total_cost}
use Rattle.schedule_model.specs.Desk.{ScheduleReader, ClientBook, Said, with_book, with_call, said_one, said_all}
use Rattle.schedule_model.specs.Faults.{Craft, first_reason, tests, present_tests, is_busy, is_gone, is_script_off, has_more}
use Rattle.schedule_model.specs.Schedules.{Determined, Whole, Full, Bad_line, Led, Went, Filled, Bad, reader_after, stepped, run_through, led_unless, led_by, text_led, line_led, last_led, led_on, lines_led}
use Rattle.schedule_model.specs.declared.line.Line.{Line}
use Rattle.schedule_model.specs.declared.line.Line.TheVariants.{Step, Run}
use Rattle.schedule_laws.specs.BegunBlocks.{RunsAreSteps, RunsEndBlocks, SpellsLine, unnumbered, repeated}
use Rattle.schedule_laws.proofs.Asking.{faultless}
use Rattle.schedule_laws.proofs.Numbered.{get_same, insert_twice}
use Rattle.schedule_laws.proofs.Worlds.{neither}

-- ---- numbers

-- what follows a line, whatever its number
abbrev followed : (ScheduleReader → Determined) → Led → Determined
followed go (Went d) = go d
followed go (Filled d) = Full (length d.entries) (total_cost d.entries)
followed go (Bad r) = Bad_line 0 r

on_numbers : (go : ScheduleReader → Determined) (n : ℕ) (r : Led) → unnumbered (led_on go n r) ≡ followed (λ d. unnumbered (go d)) r
on_numbers go n (Went d) = refl
on_numbers go n (Filled d) = refl
on_numbers go n (Bad r) = refl

-- two ways to go on that lead to the same
same_after : (f g : ScheduleReader → Determined) → ((d : ScheduleReader) → f d ≡ g d) → (r : Led) → followed f r ≡ followed g r
same_after f g h (Went d) = h d
same_after f g h (Filled d) = refl
same_after f g h (Bad r) = refl

numbers : (κ : Craft) (cut : Bool) (n m : ℕ) (d : ScheduleReader) (ls : List Bytes) → unnumbered (lines_led κ cut n d ls) ≡ unnumbered (lines_led κ cut m d ls)
numbers κ cut n m d [] = refl
numbers κ cut n m d (l ∷ []) = on_numbers Whole n (last_led cut (line_led κ d l)) ∙ sym (on_numbers Whole m (last_led cut (line_led κ d l)))
numbers κ cut n m d (l ∷ k ∷ ls) =
    on_numbers (λ e. lines_led κ cut (n + 1) e (k ∷ ls)) n (line_led κ d l)
    ∙ (same_after _ _ (λ e. numbers κ cut (n + 1) (m + 1) e (k ∷ ls)) (line_led κ d l)
    ∙ sym (on_numbers (λ e. lines_led κ cut (m + 1) e (k ∷ ls)) m (line_led κ d l)))

-- lines follow, or the input has no more
abbrev GoesOn : Bool → List Bytes → Type 0
GoesOn true [] = ⊥
GoesOn cut other = Unit {0}

on_repeated : (cut : Bool) (k : ℕ) (l : Bytes) (ls : List Bytes) → GoesOn cut ls → GoesOn cut (repeated k l ls)
on_repeated cut zero l ls h = h
on_repeated true (suc k) l ls h = tt
on_repeated false (suc k) l ls h = tt

-- what lines lead to, whatever their numbers
abbrev led_through : Craft → Bool → List Bytes → ScheduleReader → Determined
led_through κ cut ls d = unnumbered (lines_led κ cut 0 d ls)

first_line : (κ : Craft) (cut : Bool) (n : ℕ) (d : ScheduleReader) (l : Bytes) (ls : List Bytes) → GoesOn cut ls → unnumbered (lines_led κ cut n d (l ∷ ls)) ≡ followed (led_through κ cut ls) (line_led κ d l)
first_line κ true n d l [] h = absurd h
first_line κ false n d l [] h = on_numbers Whole n (line_led κ d l)
first_line κ cut n d l (k ∷ ls) h =
    on_numbers (λ e. lines_led κ cut (n + 1) e (k ∷ ls)) n (line_led κ d l)
    ∙ same_after _ _ (λ e. numbers κ cut (n + 1) 0 e (k ∷ ls)) (line_led κ d l)

-- ---- a line

spelled_led : (κ : Craft) (d : ScheduleReader) (l : Line) (bytes : Bytes) → SpellsLine l bytes → line_led κ d bytes ≡ led_unless κ d l (first_reason (tests κ d l))
spelled_led κ d l bytes h =
    ap (text_led κ d bytes) h.text ∙ ap (led_by κ d) h.line

-- ---- what is said is said one by one

-- a book that is written over makes no difference
said_beside : (c : ℕ) (x : ClientBook) (y : Script → ClientBook) (q : Script) (d : ScheduleReader)
    → let s = said_all (with_book d c x) c q in let t = said_all d c q in
    (with_book s.desk c (y s.left) ≡ with_book t.desk c (y t.left)) × (s.room ≡ t.room)
said_beside c x y Over d = (ap (λ m. record d { books = m }) (insert_twice d.books c x (y Over)), refl)
said_beside c x y Off d = (ap (λ m. record d { books = m }) (insert_twice d.books c x (y Off)), refl)
said_beside c x y (Say w go) d = by (is_full d.entries) (let r = apply_of d.store d.moment c (w d.moment) in said_beside c x y (go r.1.answer) (with_call d c (w d.moment) r)) where
  others : ScheduleReader → Said
  others e = let r = apply_of e.store e.moment c (w e.moment) in said_all (with_call e c (w e.moment) r) c (go r.1.answer)

  full : ScheduleReader → Said
  full e = record { desk = e; left = Say w go; room = false }

  by : (f : Bool)
      → (let s = others (with_book d c x) in let t = others d in (with_book s.desk c (y s.left) ≡ with_book t.desk c (y t.left)) × (s.room ≡ t.room))
      → (let s = (if f then full (with_book d c x) else others (with_book d c x)) in let t = (if f then full d else others d) in (with_book s.desk c (y s.left) ≡ with_book t.desk c (y t.left)) × (s.room ≡ t.room))
  by true h = (ap (λ m. record d { books = m }) (insert_twice d.books c x (y (Say w go))), refl)
  by false h = h

written_after : (c : ℕ) (b : ClientBook) (s t : Said) → with_book s.desk c (record b { left = s.left }) ≡ with_book t.desk c (record b { left = t.left }) → s.room ≡ t.room → reader_after c b s ≡ reader_after c b t
written_after c b s t e f = ap (λ (p : ScheduleReader × Bool). if p.1 then Went p.0 else Filled p.0) (λ i. (e i, f i))

no_more : false ≡ true → ⊥
no_more e = cc e

module _ (κ : Craft) (c : ℕ) (step : Bytes) (spelled : SpellsLine (Step c) step) (cut : Bool) (ls : List Bytes) (on : GoesOn cut ls) where
  abbrev rest : Led → Determined
  rest r = followed (led_through κ cut ls) r

  abbrev Stepwise : ScheduleReader → Led → Type 0
  Stepwise d r = (k : ℕ) × (rest r ≡ led_through κ cut (repeated (suc k) step ls) d)

  -- no test of a step holds for a client that has something to say
  step_led : (d : ScheduleReader) (b : ClientBook) (w : ℕ → Words) (go : Value → Script) → get d.books c ≡ Some b → b.stopped ≡ false → b.left ≡ Say w go → line_led κ d step ≡ reader_after c b (said_one d c (Say w go))
  step_led d b w go book running says = spelled_led κ d (Step c) step spelled ∙ (ap (led_unless κ d (Step c)) fine ∙ (ap (stepped d c) book ∙ ap (λ p. reader_after c b (said_one d c p)) says)) where
    fine : first_reason (tests κ d (Step c)) ≡ None
    fine =
        ap (λ o. first_reason (present_tests o ++ (not (is_busy o), Idle) ∷ [])) book
        ∙ (ap (λ (x : Bool). first_reason ((x || is_script_off b.left, Stopped) ∷ (not (has_more b.left), Idle) ∷ [])) running
        ∙ ap (λ (q : Script). first_reason ((is_script_off q, Stopped) ∷ (not (has_more q), Idle) ∷ [])) says)

  at_step : (d : ScheduleReader) (b : ClientBook) (w : ℕ → Words) (go : Value → Script) (k : ℕ) → get d.books c ≡ Some b → b.stopped ≡ false → b.left ≡ Say w go
      → led_through κ cut (repeated (suc k) step ls) d ≡ followed (led_through κ cut (repeated k step ls)) (reader_after c b (said_one d c (Say w go)))
  at_step d b w go k book running says = first_line κ cut 0 d step (repeated k step ls) (on_repeated cut k step ls on) ∙ ap (followed (led_through κ cut (repeated k step ls))) (step_led d b w go book running says)

  steps : (p : Script) (d : ScheduleReader) (b : ClientBook) → get d.books c ≡ Some b → b.stopped ≡ false → b.left ≡ p → has_more p ≡ true → Stepwise d (reader_after c b (said_all d c p))
  steps Over d b book running says more = absurd (no_more more)
  steps Off d b book running says more = absurd (no_more more)
  steps (Say w go) d b book running says more =
      by (is_full d.entries) refl (λ h. steps (go answer) e (left_with (go answer)) (get_same d₁.books c (left_with (go answer))) running refl h)
    where
      answer : Value
      answer = (apply_of d.store d.moment c (w d.moment)).1.answer

      d₁ : ScheduleReader
      d₁ = with_call d c (w d.moment) (apply_of d.store d.moment c (w d.moment))

      left_with : Script → ClientBook
      left_with q = record b { left = q }

      e : ScheduleReader
      e = with_book d₁ c (left_with (go answer))

      full : Said
      full = record { desk = d; left = Say w go; room = false }

      one : Said
      one = record { desk = d₁; left = go answer; room = true }

      -- the next one is the last
      last : (q : Script) → has_more q ≡ false → reader_after c b (said_all d₁ c q) ≡ Went (with_book d₁ c (left_with q))
      last Over h = refl
      last Off h = refl
      last (Say v g) h = absurd (no_more (sym h))

      over : (f : Bool) → has_more (go answer) ≡ f → (has_more (go answer) ≡ true → Stepwise e (reader_after c (left_with (go answer)) (said_all e c (go answer))))
          → (k : ℕ) × (rest (reader_after c b (said_all d₁ c (go answer))) ≡ followed (led_through κ cut (repeated k step ls)) (Went e))
      over false h later = (0, ap rest (last (go answer) h))
      over true h later =
          let both = said_beside c (left_with (go answer)) left_with (go answer) d₁ in
          let same = written_after c b (said_all e c (go answer)) (said_all d₁ c (go answer)) both.0 both.1 in
          let it = later h in
          (suc it.0, ap rest (sym same) ∙ it.1)

      by : (f : Bool) → is_full d.entries ≡ f → (has_more (go answer) ≡ true → Stepwise e (reader_after c (left_with (go answer)) (said_all e c (go answer))))
          → Stepwise d (reader_after c b (if f then full else said_all d₁ c (go answer)))
      by true is later = (0, sym (at_step d b w go 0 book running says ∙ ap (λ x. followed (led_through κ cut ls) (reader_after c b (if x then full else one))) is))
      by false is later =
          let it = over (has_more (go answer)) refl later in
          (it.0, it.1 ∙ sym (at_step d b w go it.0 book running says ∙ ap (λ x. followed (led_through κ cut (repeated it.0 step ls)) (reader_after c b (if x then full else one))) is))

-- ---- the law

holds : (b : Bool) → not b ≡ false → b ≡ true
holds true e = refl
holds false e = cc e

module _ (κ : Craft) (c : ℕ) (run step : Bytes) (spells_run : SpellsLine (Run c) run) (spells_step : SpellsLine (Step c) step) (cut : Bool) (n : ℕ) (d : ScheduleReader) (ls : List Bytes) where
  abbrev Leads : Type 0
  Leads = (k : ℕ) × (unnumbered (lines_led κ cut n d (run ∷ ls)) ≡ unnumbered (lines_led κ cut n d (repeated (suc k) step ls)))

  module _ (on : GoesOn cut ls) where
    from_run : (r : Led) → line_led κ d run ≡ r → unnumbered (lines_led κ cut n d (run ∷ ls)) ≡ followed (led_through κ cut ls) r
    from_run r e = first_line κ cut n d run ls on ∙ ap (followed (led_through κ cut ls)) e

    refused : (reason : Reason) → first_reason (tests κ d (Run c)) ≡ Some reason → Leads
    refused reason e = (
      0,
      from_run (Bad reason) (spelled_led κ d (Run c) run spells_run ∙ ap (led_unless κ d (Run c)) e)
          ∙ sym (first_line κ cut n d step ls on ∙ ap (followed (led_through κ cut ls)) (spelled_led κ d (Step c) step spells_step ∙ ap (led_unless κ d (Step c)) e)),
    )

    taken : first_reason (tests κ d (Run c)) ≡ None → (o : Option ClientBook) → get d.books c ≡ o → is_none o ≡ false → is_gone o ≡ false → not (is_busy o) ≡ false → Leads
    taken e None book f g h = absurd (no_more (sym f))
    taken e (Some b) book f g h =
        let it = steps κ c step spells_step cut ls on b.left d b book (neither b.stopped (is_script_off b.left) g).0 refl (holds (has_more b.left) h) in (
          it.0,
          from_run (reader_after c b (said_all d c b.left)) (spelled_led κ d (Run c) run spells_run ∙ (ap (led_unless κ d (Run c)) e ∙ ap (run_through d c) book))
              ∙ (it.1 ∙ numbers κ cut 0 n d (repeated (suc it.0) step ls)),
        )

    by_reason : (o : Option Reason) → first_reason (tests κ d (Run c)) ≡ o → Leads
    by_reason (Some reason) e = refused reason e
    by_reason None e = let fine = faultless (tests κ d (Run c)) e in taken e (get d.books c) refl fine.0 fine.1.0 fine.1.1.0

pub runs : RunsAreSteps
runs κ c run step spells_run spells_step true n d [] = (0, refl)
runs κ c run step spells_run spells_step false n d [] = by_reason κ c run step spells_run spells_step false n d [] tt (first_reason (tests κ d (Run c))) refl
runs κ c run step spells_run spells_step true n d (l ∷ ls) = by_reason κ c run step spells_run spells_step true n d (l ∷ ls) tt (first_reason (tests κ d (Run c))) refl
runs κ c run step spells_run spells_step false n d (l ∷ ls) = by_reason κ c run step spells_run spells_step false n d (l ∷ ls) tt (first_reason (tests κ d (Run c))) refl

-- ---- the end of a run

-- where there was room for all, nothing is left to say
said_out : (p : Script) (d : ScheduleReader) (c : ℕ) → (said_all d c p).room ≡ true → has_more (said_all d c p).left ≡ false
said_out Over d c h = refl
said_out Off d c h = refl
said_out (Say w go) d c h = by (is_full d.entries) h (let r = apply_of d.store d.moment c (w d.moment) in said_out (go r.1.answer) (with_call d c (w d.moment) r) c) where
  later : Said
  later = let r = apply_of d.store d.moment c (w d.moment) in said_all (with_call d c (w d.moment) r) c (go r.1.answer)

  full : Said
  full = record { desk = d; left = Say w go; room = false }

  by : (f : Bool) → (if f then full else later).room ≡ true → (later.room ≡ true → has_more later.left ≡ false) → has_more (if f then full else later).left ≡ false
  by true e go = absurd (no_more e)
  by false e go = go e

not_went : (x e : ScheduleReader) → Filled x ≡ Went e → ⊥
not_went x e h = cc h

bad_went : (r : Reason) (e : ScheduleReader) → Bad r ≡ Went e → ⊥
bad_went r e h = cc h

went_same : (x e : ScheduleReader) → Went x ≡ Went e → x ≡ e
went_same x e h = cc h

-- the desk after what a client said
desk_idle : (c : ℕ) (b : ClientBook) (s : Said) (e : ScheduleReader) → (s.room ≡ true → has_more s.left ≡ false) → reader_after c b s ≡ Went e → is_busy (get e.books c) ≡ false
desk_idle c b s e out h = by s.room refl h where
  after : ScheduleReader
  after = with_book s.desk c (record b { left = s.left })

  by : (f : Bool) → s.room ≡ f → (if f then Went after else Filled after) ≡ Went e → is_busy (get e.books c) ≡ false
  by true f g = ap (λ (x : ScheduleReader). is_busy (get x.books c)) (sym (went_same after e g)) ∙ (ap is_busy (get_same s.desk.books c (record b { left = s.left })) ∙ out f)
  by false f g = absurd (not_went after e g)

run_idle : (d : ScheduleReader) (c : ℕ) (o : Option ClientBook) (e : ScheduleReader) → run_through d c o ≡ Went e → is_busy (get e.books c) ≡ false
run_idle d c None e h = absurd (bad_went UnknownClient e h)
run_idle d c (Some b) e h = desk_idle c b (said_all d c b.left) e (said_out b.left d c) h

unless_idle : (κ : Craft) (d : ScheduleReader) (c : ℕ) (o : Option Reason) (e : ScheduleReader) → led_unless κ d (Run c) o ≡ Went e → is_busy (get e.books c) ≡ false
unless_idle κ d c (Some r) e h = absurd (bad_went r e h)
unless_idle κ d c None e h = run_idle d c (get d.books c) e h

pub ends : RunsEndBlocks
ends κ c run spells d e h = unless_idle κ d c (first_reason (tests κ d (Run c))) e (sym (spelled_led κ d (Run c) run spells) ∙ h)
