-- Where the lines of a schedule lead.
use Rattle.std.proofs.Common.{◌≡◌, ℕ, ◌+◌, refl, ap, List, [], ◌∷◌, Bool, true, false, Option, None, Some, if◌then◌else◌, length, take, codes}
use Rattle.std.specs.Prelude.{nat_lt, bytes_eq}
use Rattle.line_text.specs.Lines.{lines_of, text_fault}
use Rattle.line_text.specs.declared.reason.Reason.{Reason}
use Rattle.line_text.specs.declared.reason.Reason.TheVariants.{Header}
use Rattle.queue_keys.specs.Names.{Bytes}
use Rattle.schedule_model.specs.Costs.{total_cost}
use Rattle.schedule_model.specs.Desk.{ScheduleReader, first_desk}
use Rattle.schedule_model.specs.Faults.{Craft}
use Rattle.schedule_model.specs.Filled.{FilledDesk, IsLedBy, after_header}
use Rattle.schedule_model.specs.Schedules.{Led, Went, Filled, Bad, Determined, Whole, Full, Bad_line, line_led, header_led, led_on, last_led, lines_led, header_on, max_input, max_line}
use Rattle.schedule_laws.specs.Sound.{SchedulesLead}

module _ (κ : Craft) (d : ScheduleReader) (l : Bytes) (ls : List Bytes) where
  -- a line with room before the one that had none
  filled_later : (next : ScheduleReader) (n cost : ℕ) → line_led κ d l ≡ Went next → FilledDesk κ next ls n cost → FilledDesk κ d (l ∷ ls) n cost
  filled_later next n cost went f = record {
    desk = f.desk;
    filled = record {
      before = l ∷ f.filled.before;
      line = f.filled.line;
      later = f.filled.later;
      lines = ap (λ z. l ∷ z) f.filled.lines;
      reached = f.filled.reached;
      led = (next, went, f.filled.led);
      filled = f.filled.filled;
    };
    entries = f.entries;
    costs = f.costs;
  }

  led_later : (next : ScheduleReader) (r : Determined) → line_led κ d l ≡ Went next → IsLedBy κ next ls r → IsLedBy κ d (l ∷ ls) r
  led_later next (Whole e) went h = (next, went, h)
  led_later next (Full n cost) went h = filled_later next n cost went h
  led_later next (Bad_line n reason) went h = tt

  -- the line that had no room
  filled_here : (e : ScheduleReader) → line_led κ d l ≡ Filled e → FilledDesk κ d (l ∷ ls) (length e.entries) (total_cost e.entries)
  filled_here e is = record {
    desk = e;
    filled = record { before = []; line = l; later = ls; lines = refl; reached = d; led = refl; filled = is };
    entries = refl;
    costs = refl;
  }

lines_lead : (κ : Craft) (cut : Bool) (n : ℕ) (d : ScheduleReader) (ls : List Bytes) → IsLedBy κ d ls (lines_led κ cut n d ls)
lines_lead κ cut n d [] = refl
lines_lead κ cut n d (l ∷ []) = by cut (line_led κ d l) refl where
  by : (b : Bool) (r : Led) → line_led κ d l ≡ r → IsLedBy κ d (l ∷ []) (led_on Whole n (last_led b r))
  by true r is = tt
  by false (Went e) is = (e, is, refl)
  by false (Filled e) is = filled_here κ d l [] e is
  by false (Bad r) is = tt
lines_lead κ cut n d (l ∷ m ∷ ls) = by (line_led κ d l) refl (λ e. lines_lead κ cut (n + 1) e (m ∷ ls)) where
  by : (r : Led) → line_led κ d l ≡ r → ((e : ScheduleReader) → IsLedBy κ e (m ∷ ls) (lines_led κ cut (n + 1) e (m ∷ ls))) → IsLedBy κ d (l ∷ m ∷ ls) (led_on (λ e. lines_led κ cut (n + 1) e (m ∷ ls)) n r)
  by (Went e) is more = led_later κ d l (m ∷ ls) e (lines_led κ cut (n + 1) e (m ∷ ls)) is (more e)
  by (Filled e) is more = filled_here κ d l (m ∷ ls) e is
  by (Bad r) is more = tt

-- the header leads to the first desk, or is bad
from_header : (κ : Craft) (go : ScheduleReader → Determined) (n : ℕ) (later : List Bytes) (line : Bytes) (cut : Bool) (o : Option Reason) → IsLedBy κ first_desk later (go first_desk)
    → IsLedBy κ first_desk later (led_on go n (last_led cut (header_led line o)))
from_header κ go n later line true o f = tt
from_header κ go n later line false (Some r) f = tt
from_header κ go n later line false None f = by (bytes_eq line (codes "celery-schedule 1")) where
  by : (b : Bool) → IsLedBy κ first_desk later (led_on go n (if b then Went first_desk else Bad Header))
  by true = f
  by false = tt

header_leads : (κ : Craft) (cut : Bool) (ls : List Bytes) → IsLedBy κ first_desk (after_header ls) (header_on κ cut ls)
header_leads κ cut [] = tt
header_leads κ cut (h ∷ []) = from_header κ Whole 1 [] h cut (text_fault max_line h) refl
header_leads κ cut (h ∷ l ∷ ls) = from_header κ (λ d. lines_led κ cut 2 d (l ∷ ls)) 1 (l ∷ ls) h false (text_fault max_line h) (lines_lead κ cut 2 first_desk (l ∷ ls))

pub schedule_leads : SchedulesLead
schedule_leads κ bytes = header_leads κ (nat_lt max_input (length bytes)) (lines_of (take (max_input + 1) bytes))
