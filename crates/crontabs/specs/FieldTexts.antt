-- How the fields of a crontab are spelled.
use Rattle.std.specs.Prelude.{ℕ, ◌==◌, nat_le, bytes_eq, codes, if◌then◌else◌, List, [], ◌∷◌, Option, Some, None, option_map, option_and_then}
use Rattle.std.specs.List.{list_any, before_first, after_first, slice_split}
use Rattle.line_text.specs.Numbers.{number_in, moment_in}
use Rattle.crontabs.specs.declared.crontab.Crontab.{Crontab}
use Rattle.crontabs.specs.declared.dates.Dates.{Dates}
use Rattle.crontabs.specs.declared.stepped_range.SteppedRange.{SteppedRange}
use Rattle.crontabs.specs.declared.times.Times.{Times}

-- goes on with what was read, if anything was
infixl 10 ◌>>=◌
abbrev pub ◌>>=◌ : {A B : Type 0} → Option A → (A → Option B) → Option B
o >>= f = option_and_then f o

-- ---- the parts of a field

-- a first and a last number in their order
abbrev pub ordered : ℕ → ℕ → ℕ → Option SteppedRange
ordered step first last = if nat_le first last then Some (record { first = first; last = last; step = step }) else None

-- two numbers with a dash between them
abbrev pub dashed_range : ℕ → ℕ → ℕ → List ℕ → List ℕ → Option SteppedRange
dashed_range low high step v w = do
  first ← number_in low high v
  last ← number_in low high w
  ordered step first last

-- a number alone
abbrev pub single_number : ℕ → ℕ → List ℕ → Option SteppedRange
single_number low high w = option_map (λ n. record { first = n; last = n; step = 1 }) (number_in low high w)

-- all numbers by a star, or those from one to another
abbrev pub span_in : ℕ → ℕ → ℕ → List ℕ → Option SteppedRange
span_in low high step w =
    if bytes_eq w (codes "*") then Some (record { first = low; last = high; step = step })
    else if list_any (λ b. b == 45) w then dashed_range low high step (before_first (λ b. b == 45) w) (after_first (λ b. b == 45) w)
    else None

-- the same in steps of one, or a number alone
abbrev pub plain_in : ℕ → ℕ → List ℕ → Option SteppedRange
plain_in low high w =
    if bytes_eq w (codes "*") then Some (record { first = low; last = high; step = 1 })
    else if list_any (λ b. b == 45) w then dashed_range low high 1 (before_first (λ b. b == 45) w) (after_first (λ b. b == 45) w)
    else single_number low high w

-- a step: a number from 1 on, of which each from 2^40 on counts as 2^40
abbrev pub part_step : List ℕ → Option ℕ
part_step w = do
  step ← moment_in w
  if nat_le 1 step then Some step else None

-- steps after a slash
abbrev pub stepped_in : ℕ → ℕ → List ℕ → List ℕ → Option SteppedRange
stepped_in low high v w = do
  step ← part_step w
  span_in low high step v

abbrev pub field_part : ℕ → ℕ → List ℕ → Option SteppedRange
field_part low high w =
    if list_any (λ b. b == 47) w then stepped_in low high (before_first (λ b. b == 47) w) (after_first (λ b. b == 47) w)
    else plain_in low high w

-- ---- fields

-- one more part, where it is one
abbrev pub with_part : Option SteppedRange → Option (List SteppedRange) → Option (List SteppedRange)
with_part None ps = None
with_part (Some p) ps = option_map (λ qs. p ∷ qs) ps

-- parts, each of which is one
abbrev pub field_parts : ℕ → ℕ → List (List ℕ) → Option (List SteppedRange)
field_parts low high [] = Some []
field_parts low high (w ∷ ws) = with_part (field_part low high w) (field_parts low high ws)

-- a field whose numbers lie between these: parts with commas between them
unfoldable pub field_in : ℕ → ℕ → List ℕ → Option (List SteppedRange)
field_in low high w = field_parts low high (slice_split (λ b. b == 44) w)

-- minutes and hours
abbrev pub times_in : List ℕ → List ℕ → Option Times
times_in minute hour = do
  minutes ← field_in 0 59 minute
  hours ← field_in 0 23 hour
  Some (record { minutes = minutes; hours = hours })

-- days, months and weekdays
abbrev pub dates_in : List ℕ → List ℕ → List ℕ → Option Dates
dates_in day month weekday = do
  days ← field_in 1 31 day
  months ← field_in 1 12 month
  weekdays ← field_in 0 6 weekday
  Some (record { days = days; months = months; weekdays = weekdays })

-- the five fields in their order
abbrev pub crontab_in : List ℕ → List ℕ → List ℕ → List ℕ → List ℕ → Option Crontab
crontab_in minute hour day month weekday = do
  times ← times_in minute hour
  dates ← dates_in day month weekday
  Some (record { times = times; dates = dates })
