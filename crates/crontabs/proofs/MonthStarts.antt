-- When months begin. This serves the proofs of code.
use Rattle.std.proofs.Common.{◌≡◌, ℕ, zero, suc, inl, inr, ◌+◌, ◌-◌, ◌*◌, ◌/◌, ◌%◌, ◌<◌, ◌≤◌, refl, sym, ap, ◌∙◌, subst, arith, pos, ◌-ℤ◌, true}
use Rattle.std.specs.Prelude.{unsigned_abs}
use Rattle.std.proofs.lemmas.Bool.{cases_lt}
use Rattle.std.proofs.lemmas.Bool.Decides.{nat_tests}
use Rattle.jiff_core.proofs.CalendarLemmas.{days_in_month_bounds, days_of_months_all}
use Rattle.jiff_core.proofs.SignedLemmas.{signed_arith}
use Rattle.moments.proofs.KitCalendar.{months_is}
use Rattle.moments.proofs.MomentsBack.{epoch_days, last_days}
use Rattle.moments.specs.CivilDays.{days_to_year, days_of_first, day_number, year_days, month_days}
use Rattle.crontabs.specs.Minutes.{Minute, day_of, is_minute}
use Rattle.crontabs.specs.Months.{month_length, month_start}

-- the days from 1 January of year 0 to the first of a month
abbrev pub before : ℕ → ℕ
before month = days_to_year (month / 12) + days_of_first (month / 12) (month % 12)

year_more : (y : ℕ) → days_to_year (suc y) ≡ days_to_year y + year_days y
unfolding days_to_year
year_more y = refl

month_more : (y n : ℕ) → days_of_first y (suc n) ≡ days_of_first y n + month_days y (suc n)
unfolding days_of_first
month_more y n = refl

no_months : (y : ℕ) → days_of_first y 0 ≡ 0
unfolding days_of_first
no_months y = refl

all_months : (y : ℕ) → days_of_first y 12 ≡ year_days y
all_months y = sym (months_is y 12) ∙ days_of_months_all (pos y)

-- a month begins where the one before ends
pub before_next : (m : ℕ) → before (m + 1) ≡ before m + month_length m
before_next m =
    elim (cases_lt (m % 12) 11) [
      | inl early ↦
          let y : (m + 1) / 12 ≡ m / 12 = omega arith in
          let r : (m + 1) % 12 ≡ suc (m % 12) = omega arith in
          let s : m % 12 + 1 ≡ suc (m % 12) = omega arith in
          ap (λ z. days_to_year z + days_of_first z ((m + 1) % 12)) y ∙ ap (λ z. days_to_year (m / 12) + days_of_first (m / 12) z) r
          ∙ omega (arith, month_more (m / 12) (m % 12), ap (λ z. month_days (m / 12) z) s)
      | inr late ↦
          let y : (m + 1) / 12 ≡ suc (m / 12) = omega arith in
          let r : (m + 1) % 12 ≡ 0 = omega arith in
          let e : m % 12 ≡ 11 = omega arith in
          ap (λ z. days_to_year z + days_of_first z ((m + 1) % 12)) y ∙ ap (λ z. days_to_year (suc (m / 12)) + days_of_first (suc (m / 12)) z) r
          ∙ omega (arith, year_more (m / 12), no_months (suc (m / 12)), all_months (m / 12), month_more (m / 12) 11, ap (λ z. days_of_first (m / 12) z) e, ap (λ z. month_days (m / 12) (z + 1)) e)
    ]

-- months come one after the other
pub in_order : (a b : ℕ) → a ≤ b → before a ≤ before b
in_order a zero h = let e : a ≡ 0 = omega arith in subst (λ n. before n ≤ before 0) (sym e) (omega arith)
in_order a (suc b) h =
    elim (cases_lt b a) [
      | inl above ↦ let e : a ≡ suc b = omega arith in subst (λ n. before n ≤ before (suc b)) (sym e) (omega arith)
      | inr below ↦
          let s : b + 1 ≡ suc b = omega arith in
          omega (arith, in_order a b below, before_next b, ap before s)
    ]

-- a later month begins at the end of an earlier one at the soonest
pub apart : (a b : ℕ) → a < b → before a + month_length a ≤ before b
apart a b h = omega (arith, before_next a, in_order (a + 1) b (omega arith))

epoch_is : before 23640 ≡ days_to_year 1970
epoch_is = omega (arith, no_months 1970)

since_epoch : (a b : ℕ) → b ≤ a → unsigned_abs (pos a -ℤ pos b) + b ≡ a
since_epoch a b h =
    let e : pos a -ℤ pos b ≡ pos (a - b) = omega (arith, signed_arith) in
    let n : (a - b) + b ≡ a = omega arith in
    ap (λ z. unsigned_abs z + b) e ∙ n

natural_is : (a b : ℕ) → b ≤ a → pos a -ℤ pos b ≡ pos (unsigned_abs (pos a -ℤ pos b))
natural_is a b h =
    let e : pos a -ℤ pos b ≡ pos (a - b) = omega (arith, signed_arith) in
    e ∙ ap (λ z. pos (unsigned_abs z)) (sym e)

-- a month from 1970 on begins as many days after it
pub start_is : (m : ℕ) → 23640 ≤ m → month_start m + days_to_year 1970 ≡ before m
start_is m h =
    let r : m % 12 + 1 - 1 ≡ m % 12 = omega arith in
    let whole : days_to_year (m / 12) + (days_of_first (m / 12) (m % 12 + 1 - 1) + (1 - 1)) ≡ before m = omega (arith, ap (λ z. days_of_first (m / 12) z) r) in
    since_epoch _ (days_to_year 1970) (omega (arith, whole, epoch_is, in_order 23640 m h)) ∙ whole

-- by its day number
pub number_is : (m : ℕ) → 23640 ≤ m → day_number (m / 12) (m % 12 + 1) 1 ≡ pos (month_start m)
number_is m h =
    let r : m % 12 + 1 - 1 ≡ m % 12 = omega arith in
    let whole : days_to_year (m / 12) + (days_of_first (m / 12) (m % 12 + 1 - 1) + (1 - 1)) ≡ before m = omega (arith, ap (λ z. days_of_first (m / 12) z) r) in
    natural_is _ (days_to_year 1970) (omega (arith, whole, epoch_is, in_order 23640 m h))

-- ---- minutes

-- the parts of a minute
pub record IsReal (m : Minute) : Type 0 where
  pub year_low : 1970 ≤ m.year
  pub year_high : m.year ≤ 9999
  pub month_low : 1 ≤ m.month
  pub month_high : m.month ≤ 12
  pub day_low : 1 ≤ m.day
  pub day_high : m.day ≤ month_days m.year m.month
  pub hour_in : m.hour ≤ 23
  pub minute_in : m.minute ≤ 59

pub real_is : (m : Minute) → is_minute m ≡ true → IsReal m
real_is m h = record {
  year_low = grind (arith, nat_tests);
  year_high = grind (arith, nat_tests);
  month_low = grind (arith, nat_tests);
  month_high = grind (arith, nat_tests);
  day_low = grind (arith, nat_tests);
  day_high = grind (arith, nat_tests);
  hour_in = grind (arith, nat_tests);
  minute_in = grind (arith, nat_tests);
}

pub is_real : (m : Minute) → IsReal m → is_minute m ≡ true
is_real m r = grind (arith, nat_tests)

-- the month in which a minute lies
abbrev pub month_of : Minute → ℕ
month_of m = m.year * 12 + (m.month - 1)

pub year_of_month : (m : Minute) → IsReal m → month_of m / 12 ≡ m.year
year_of_month m r = omega (arith, r.month_low, r.month_high)

pub month_in_year : (m : Minute) → IsReal m → month_of m % 12 + 1 ≡ m.month
month_in_year m r = omega (arith, r.month_low, r.month_high)

pub month_low : (m : Minute) → IsReal m → 23640 ≤ month_of m
month_low m r = omega (arith, r.year_low)

pub month_high : (m : Minute) → IsReal m → month_of m < 120000
month_high m r = omega (arith, r.year_high, r.month_low, r.month_high)

before_is : (m : Minute) → IsReal m → before (month_of m) ≡ days_to_year m.year + days_of_first m.year (m.month - 1)
before_is m r =
    let r12 : month_of m % 12 ≡ m.month - 1 = omega (arith, r.month_low, r.month_high) in
    ap (λ z. days_to_year z + days_of_first z (month_of m % 12)) (year_of_month m r) ∙ ap (λ z. days_to_year m.year + days_of_first m.year z) r12

-- the day of a minute, by its month
pub day_is : (m : Minute) → IsReal m → day_of m ≡ month_start (month_of m) + (m.day - 1)
day_is m r =
    let low = in_order 23640 (month_of m) (month_low m r) in
    let whole = since_epoch (days_to_year m.year + (days_of_first m.year (m.month - 1) + (m.day - 1))) (days_to_year 1970) (omega (arith, before_is m r, epoch_is, low)) in
    omega (arith, whole, before_is m r, start_is (month_of m) (month_low m r))

-- it lies within the month
pub day_in_month : (m : Minute) → IsReal m → m.day - 1 < month_length (month_of m)
day_in_month m r =
    let e : month_days (month_of m / 12) (month_of m % 12 + 1) ≡ month_days m.year m.month = ap (λ z. month_days z (month_of m % 12 + 1)) (year_of_month m r) ∙ ap (λ z. month_days m.year z) (month_in_year m r) in
    omega (arith, e, r.day_low, r.day_high)

length_low : (m : ℕ) → 28 ≤ month_length m
length_low m = (days_in_month_bounds (pos (m / 12)) (m % 12 + 1)).1

end_is : before 120000 ≡ days_to_year 10000
end_is = omega (arith, no_months 10000)

-- the calendar ends with the year 9999
pub day_bound : (m : Minute) → IsReal m → day_of m ≤ 2932896
day_bound m r =
    omega (arith, day_is m r, day_in_month m r, start_is (month_of m) (month_low m r), apart (month_of m) 120000 (month_high m r), end_is, last_days, epoch_days)

-- and so does its last month
pub start_bound : (m : ℕ) → 23640 ≤ m → m < 120000 → month_start m ≤ 2932896
start_bound m low high = omega (arith, start_is m low, apart m 120000 high, end_is, last_days, epoch_days, length_low m)

-- months begin in their order
pub starts_in_order : (a b : ℕ) → 23640 ≤ a → a ≤ b → month_start a ≤ month_start b
starts_in_order a b low h = omega (arith, start_is a low, start_is b (omega arith), in_order a b h)

pub starts_apart : (a b : ℕ) → 23640 ≤ a → a < b → month_start a + month_length a ≤ month_start b
starts_apart a b low h = omega (arith, start_is a low, start_is b (omega arith), apart a b h)
