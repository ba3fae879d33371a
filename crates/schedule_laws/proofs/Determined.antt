-- What a schedule determines is sound.
use Rattle.std.proofs.Common.{◌≡◌, ℕ, ◌<◌, ◌≤◌, ◌^◌, suc, refl, subst, arith, List, [], ◌∷◌, Bool, true, false, Option, None, Some, if◌then◌else◌}
use Rattle.std.specs.Prelude.{nat_le, nat_lt}
use Rattle.std.specs.FinMap.{get}
use Rattle.std.proofs.lemmas.Grind.{common_steps}
use Rattle.line_text.specs.Lines.{text_fault}
use Rattle.line_text.specs.Words.{words_of}
use Rattle.line_text.specs.declared.reason.Reason.{Reason}
use Rattle.queue_keys.specs.Names.{Bytes}
use Rattle.place_model.specs.Histories.{calls_of}
use Rattle.command_blocks.specs.Setting.{Setting}
use Rattle.command_blocks.specs.Scripts.{Script, Over, Off, Say, Plan}
use Rattle.schedule_model.specs.Costs.{is_full}
use Rattle.schedule_model.specs.Desk.{ScheduleReader, ClientBook, Said, first_desk, with_book, begun, said_one, said_all, with_stop}
use Rattle.schedule_model.specs.Faults.{Craft, first_reason, tests, is_script_off, is_gone, has_more, is_busy, has_number, has_seed, asked_tests, client_seed, counter_of}
use Rattle.schedule_model.specs.Filled.{FilledDesk, IsLedBy, LeadTo, lines_read}
use Rattle.schedule_model.specs.Lines.{line_in}
use Rattle.schedule_model.specs.Schedules.{Led, Went, Filled, Bad, plan_of, with_plan, reader_after, stepped, run_through, stopped, led, led_unless, led_by, text_led, line_led, Determined, Whole, Full, Bad_line, max_line, schedule_run}
use Rattle.schedule_model.specs.declared.line.Asked.{Asked}
use Rattle.schedule_model.specs.declared.line.Line.{Line}
use Rattle.schedule_model.specs.declared.line.Line.TheVariants.{Client, At, Begin, Step, Run, Stop}
use Rattle.schedule_laws.specs.Sound.{IsCraft, IsSoundlyDetermined}
use Rattle.block_laws.proofs.PlanRows.{plan_row}
use Rattle.schedule_laws.proofs.Leads.{schedule_leads}
use Rattle.schedule_laws.proofs.Kept.{DecidesFronts, begun_kept}
use Rattle.schedule_laws.proofs.Worlds.{neither}
use Rattle.schedule_laws.proofs.Desks.{Holds, first_holds, book_holds, HeardHolds, said_one_holds, said_all_holds, moment_holds, stop_holds, client_holds}
use Rattle.schedule_laws.proofs.Spelled.{IfThere, IsAskedWithin, IsWithin, line_there}
use Rattle.schedule_laws.proofs.Asking.{AreFaultless, faultless, lawful_plan}
use Rattle.schedule_laws.proofs.Decided.{fronts_decided}
use Rattle.schedule_laws.proofs.Sounds.{desk_sound}

-- the desk of what a line led to holds, and is full where it says so
abbrev pub LedHolds : Setting → Led → Type 0
LedHolds σ (Went d) = Holds σ d
LedHolds σ (Filled d) = Holds σ d × (is_full d.entries ≡ true)
LedHolds σ (Bad r) = Unit {0}

true_not : {A : Type 0} → true ≡ false → A
true_not e = absurd (cc e)

-- a client that isn't off and has nothing to say has no block
pub over_of : (p : Script) → is_script_off p ≡ false → has_more p ≡ false → p ≡ Over
over_of Over e f = refl
over_of Off e f = true_not e
over_of (Say w go) e f = true_not f

heard_holds : (σ : Setting) (c : ℕ) (b : ClientBook) (s : Said) → HeardHolds σ c b s → LedHolds σ (reader_after c b s)
heard_holds σ c b s h = by s.room h.1 where
  by : (room : Bool) → (room ≡ false → is_full s.desk.entries ≡ true) → LedHolds σ (if room then Went (with_book s.desk c (record b { left = s.left })) else Filled (with_book s.desk c (record b { left = s.left })))
  by true f = h.0
  by false f = (h.0, f refl)

-- the book as it is, which is written again
written : (σ : Setting) (d : ScheduleReader) (c : ℕ) (b : ClientBook) → Holds σ d → get d.books c ≡ Some b → Holds σ (with_book d c (record b { left = b.left }))
written σ d c b h book = book_holds σ d h c b b book refl refl (h.books c b book).kept

step_holds : (σ : Setting) (d : ScheduleReader) (c : ℕ) → Holds σ d → (o : Option ClientBook) → get d.books c ≡ o → is_gone o ≡ false → LedHolds σ (stepped d c o)
step_holds σ d c h None book on = tt
step_holds σ d c h (Some b) book on = heard_holds σ c b (said_one d c b.left) (said_one_holds σ c b (neither b.stopped (is_script_off b.left) on).0 b.left d (written σ d c b h book))

run_holds : (σ : Setting) (d : ScheduleReader) (c : ℕ) → Holds σ d → (o : Option ClientBook) → get d.books c ≡ o → is_gone o ≡ false → LedHolds σ (run_through d c o)
run_holds σ d c h None book on = tt
run_holds σ d c h (Some b) book on = heard_holds σ c b (said_all d c b.left) (said_all_holds σ c b (neither b.stopped (is_script_off b.left) on).0 b.left d (written σ d c b h book))

stopped_holds : (σ : Setting) (d : ScheduleReader) (c : ℕ) → Holds σ d → (o : Option ClientBook) → get d.books c ≡ o → is_gone o ≡ false → LedHolds σ (stopped d c o)
stopped_holds σ d c h None book on = tt
stopped_holds σ d c h (Some b) book on = by (is_full d.entries) refl where
  by : (f : Bool) → is_full d.entries ≡ f → LedHolds σ (if f then Filled d else Went (with_stop d c b))
  by true is = (h, is)
  by false is = stop_holds σ d h c b book (neither b.stopped (is_script_off b.left) on).0

begin_holds : (κ : Craft) (craft : IsCraft κ) (d : ScheduleReader) (c : ℕ) (a : Asked) → Holds κ.setting d → IsAskedWithin a → (o : Option ClientBook) → get d.books c ≡ o → is_gone o ≡ false → is_busy o ≡ false
    → AreFaultless (asked_tests κ (client_seed o) (counter_of o) a) → LedHolds κ.setting (with_plan κ d c o (plan_of κ (client_seed o) (counter_of o) a))
begin_holds κ craft d c a h within None book on idle fine = tt
begin_holds κ craft d c a h within (Some b) book on idle fine = by (plan_of κ b.seed (suc b.drawn) a) refl where
  over : b.left ≡ Over
  over = over_of b.left (neither b.stopped (is_script_off b.left) on).1 idle

  by : (p : Option Plan) → plan_of κ b.seed (suc b.drawn) a ≡ p → LedHolds κ.setting (with_plan κ d c (Some b) p)
  by None e = tt
  by (Some plan) e = book_holds κ.setting d h c b (begun κ.setting b plan) book refl refl
      (begun_kept κ.setting (calls_of c d.entries) b plan (h.books c b book).kept over
      (plan_row κ.setting b.seed b.drawn b.passes plan (lawful_plan κ craft b.seed b.drawn a plan within fine e)))

-- ---- lines

pub below : (m : ℕ) → nat_le (2 ^ 40) m ≡ false → m < 2 ^ 40
below m e = grind (arith, common_steps, e)

not_before : (m n : ℕ) → nat_lt m n ≡ false → n ≤ m
not_before m n e = grind (arith, common_steps, e)

led_holds : (κ : Craft) (craft : IsCraft κ) (d : ScheduleReader) (l : Line) → Holds κ.setting d → IsWithin l → AreFaultless (tests κ d l) → LedHolds κ.setting (led κ d l)
led_holds κ craft d (Client c s) h within fine = let f = neither (has_number c d.clients) (has_seed s d.clients) fine.1.0 in client_holds κ.setting d h c s f.0 f.1
led_holds κ craft d (At m) h within fine = let f = neither (nat_le (2 ^ 40) m) (nat_lt m d.moment) fine.0 in moment_holds κ.setting d m h (below m f.0) (not_before m d.moment f.1)
led_holds κ craft d (Begin c a) h within fine = begin_holds κ craft d c a h within (get d.books c) refl fine.1.0 fine.1.1.0 fine.1.1.1
led_holds κ craft d (Step c) h within fine = step_holds κ.setting d c h (get d.books c) refl fine.1.0
led_holds κ craft d (Run c) h within fine = run_holds κ.setting d c h (get d.books c) refl fine.1.0
led_holds κ craft d (Stop c) h within fine = stopped_holds κ.setting d c h (get d.books c) refl fine.1.0

unless_holds : (κ : Craft) (craft : IsCraft κ) (d : ScheduleReader) (l : Line) → Holds κ.setting d → IsWithin l → (o : Option Reason) → first_reason (tests κ d l) ≡ o → LedHolds κ.setting (led_unless κ d l o)
unless_holds κ craft d l h within (Some r) e = tt
unless_holds κ craft d l h within None e = led_holds κ craft d l h within (faultless (tests κ d l) e)

by_holds : (κ : Craft) (craft : IsCraft κ) (d : ScheduleReader) → Holds κ.setting d → (o : Option Line) → IfThere IsWithin o → LedHolds κ.setting (led_by κ d o)
by_holds κ craft d h None within = tt
by_holds κ craft d h (Some l) within = unless_holds κ craft d l h within (first_reason (tests κ d l)) refl

text_holds : (κ : Craft) (craft : IsCraft κ) (d : ScheduleReader) (line : Bytes) → Holds κ.setting d → (o : Option Reason) → LedHolds κ.setting (text_led κ d line o)
text_holds κ craft d line h (Some r) = tt
text_holds κ craft d line h None = by_holds κ craft d h (line_in (words_of line)) (line_there (words_of line))

-- each line keeps a desk
pub line_holds : (κ : Craft) (craft : IsCraft κ) (d : ScheduleReader) (line : Bytes) → Holds κ.setting d → LedHolds κ.setting (line_led κ d line)
line_holds κ craft d line h = text_holds κ craft d line h (text_fault max_line line)

-- ---- a schedule

-- so do lines in a row
pub lines_hold : (κ : Craft) (craft : IsCraft κ) (d e : ScheduleReader) (ls : List Bytes) → Holds κ.setting d → LeadTo κ d ls e → Holds κ.setting e
lines_hold κ craft d e [] h to = subst (Holds κ.setting) to h
lines_hold κ craft d e (l ∷ ls) h to = lines_hold κ craft to.0 e ls (subst (LedHolds κ.setting) to.1 (line_holds κ craft d l h)) to.2

-- and the line that had no room
pub filled_holds : (κ : Craft) (craft : IsCraft κ) (d : ScheduleReader) (ls : List Bytes) (n cost : ℕ) → Holds κ.setting d → (f : FilledDesk κ d ls n cost) → Holds κ.setting f.desk × (is_full f.desk.entries ≡ true)
filled_holds κ craft d ls n cost h f = subst (LedHolds κ.setting) f.filled.filled (line_holds κ craft f.filled.reached f.filled.line (lines_hold κ craft d f.filled.reached f.filled.before h f.filled.led))

determined_sound : (κ : Craft) (craft : IsCraft κ) (ls : List Bytes) (r : Determined) → DecidesFronts κ.setting → IsLedBy κ first_desk ls r → IsSoundlyDetermined κ ls r
determined_sound κ craft ls (Whole d) decide to = desk_sound κ.setting d (lines_hold κ craft first_desk d ls (first_holds κ.setting) to) decide
determined_sound κ craft ls (Full n cost) decide f = let h = filled_holds κ craft first_desk ls n cost (first_holds κ.setting) f in (f, desk_sound κ.setting f.desk h.0 decide, h.1)
determined_sound κ craft ls (Bad_line n reason) decide to = tt

pub schedule_sound : (κ : Craft) → IsCraft κ → (bytes : Bytes) → IsSoundlyDetermined κ (lines_read bytes) (schedule_run κ bytes)
schedule_sound κ craft bytes = determined_sound κ craft (lines_read bytes) (schedule_run κ bytes) (fronts_decided κ.setting craft.exchange_at craft.lawful craft.readable) (schedule_leads κ bytes)
