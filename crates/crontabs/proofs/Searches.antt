-- What is found among minutes, level by level. This serves the proofs of code.
use Rattle.std.proofs.Common.{◌≡◌, ℕ, inl, inr, ◌+◌, ◌-◌, ◌*◌, ◌/◌, ◌%◌, ◌<◌, ◌≤◌, ◌↔◌, Bool, true, false, IsTrue, min, refl, sym, ap, ◌∙◌, subst, arith}
use Rattle.std.proofs.lemmas.Bool.{cases_lt}
use Rattle.std.proofs.lemmas.Bool.Decides.{nat_tests}
use Rattle.std.specs.Ordering.{nat_cmp, ord_min}
use Rattle.crontabs.specs.Crontabs.{IsCronDue}
use Rattle.crontabs.specs.Fields.{field_has}
use Rattle.crontabs.specs.Found.{HasDay, HasMinuteIn, HasMinuteOn, HasTimeIn, SomeBetween, SomeDay, SomeMinute, SomeTime}
use Rattle.crontabs.specs.Minutes.{Minute, day_of, minute_number}
use Rattle.crontabs.specs.Months.{month_length, month_start}
use Rattle.crontabs.specs.declared.crontab.Crontab.{Crontab}
use Rattle.crontabs.specs.declared.times.Times.{Times}
use Rattle.crontabs.proofs.MonthStarts.{IsReal, day_bound, day_in_month, day_is, is_real, month_in_year, month_low, month_of, real_is, starts_apart}

pub clash : {A : Type 0} → false ≡ true → A
clash e = cc

-- the lesser of two numbers
pub lesser : (a b : ℕ) → ord_min nat_cmp a b ≡ min a b
lesser a b = grind (arith, nat_tests)

-- what is found is there
pub found : {P : Type 0} → P → IsTrue true ↔ P
found p = (λ _. p, λ _. refl)

-- where nothing is, nothing is found
pub missed : {P : Type 0} → (P → false ≡ true) → IsTrue false ↔ P
missed none = (λ e. clash e, none)

pub nowhere : {P : Type 0} → (P → ⊥) → IsTrue false ↔ P
nowhere none = missed (λ p. absurd (none p))

-- what is found at none of the first is found at none of one more
pub more_missed : (P : ℕ → Type 0) (i : ℕ) (r : Bool) → ((k : ℕ) → k < i → P k → ⊥) → (IsTrue r ↔ P i) → r ≡ false → (k : ℕ) → k < i + 1 → P k → ⊥
more_missed P i r none is out k h p =
    elim (cases_lt k i) [
      | inl before ↦ none k before p
      | inr since ↦ let e : k ≡ i = omega arith in clash (sym out ∙ is.1 (subst P e p))
    ]

-- ---- minutes of an hour

pub none_between : (p : ℕ → Bool) (low high : ℕ) → ((k : ℕ) → low ≤ k → k < high + 1 → p k ≡ false) → IsTrue false ↔ SomeBetween p low high
none_between p low high none = missed (λ w. sym (none w.0 w.1 (let h : w.0 ≤ high = w.2 in omega arith)) ∙ w.3)

-- ---- hours of a day

pub hour_is : (t : Times) (low high hour : ℕ) → field_has t.hours hour ≡ true → hour * 60 ≤ high → (r : Bool) → (IsTrue r ↔ SomeBetween (field_has t.minutes) (low - hour * 60) (min 59 (high - hour * 60))) → IsTrue r ↔ HasTimeIn t low high hour
hour_is t low high hour here begun r is = (
  λ e.
      let w = is.0 e in
      let from : low - hour * 60 ≤ w.0 = w.1 in
      let to : w.0 ≤ min 59 (high - hour * 60) = w.2 in
      (w.0, record { hour_in = here; minute_in = w.3; short = omega arith; from = omega arith; to = omega arith }),
  λ w.
      let from : low ≤ hour * 60 + w.0 = w.1.from in
      let to : hour * 60 + w.0 ≤ high = w.1.to in
      let short : w.0 ≤ 59 = w.1.short in
      is.1 (w.0, omega arith, omega arith, w.1.minute_in),
)

pub hour_out : (t : Times) (low high hour : ℕ) → field_has t.hours hour ≡ false → IsTrue false ↔ HasTimeIn t low high hour
hour_out t low high hour out = missed (λ w. sym out ∙ w.1.hour_in)

-- each hour that has one lies between the first and the last
pub hour_from : (t : Times) (low high hour : ℕ) → HasTimeIn t low high hour → low / 60 ≤ hour
hour_from t low high hour w =
    let from : low ≤ hour * 60 + w.0 = w.1.from in
    let short : w.0 ≤ 59 = w.1.short in
    omega arith

pub hour_to : (t : Times) (low high hour : ℕ) → HasTimeIn t low high hour → hour < high / 60 + 1
hour_to t low high hour w =
    let to : hour * 60 + w.0 ≤ high = w.1.to in
    omega arith

-- ---- days of a month

pub day_found : (c : Crontab) (base first last place : ℕ) → HasDay c.dates base place → (base + place) * 1440 ≤ last → (r : Bool)
    → (IsTrue r ↔ SomeTime c.times (first - (base + place) * 1440) (min 1439 (last - (base + place) * 1440))) → IsTrue r ↔ HasMinuteOn c base first last place
day_found c base first last place here begun r is = (
  λ e.
      let w = is.0 e in
      let from : first - (base + place) * 1440 ≤ w.0 * 60 + w.1.0 = w.1.1.from in
      let to : w.0 * 60 + w.1.0 ≤ min 1439 (last - (base + place) * 1440) = w.1.1.to in (
        w.0,
        w.1.0,
        record {
          day = here;
          time = record { hour_in = w.1.1.hour_in; minute_in = w.1.1.minute_in; short = w.1.1.short; from = omega arith; to = omega arith };
          from = omega arith;
          to = omega arith;
        },
      ),
  λ w.
      let from : first ≤ (base + place) * 1440 + (w.0 * 60 + w.1) = w.2.from in
      let to : (base + place) * 1440 + (w.0 * 60 + w.1) ≤ last = w.2.to in
      let within : w.0 * 60 + w.1 ≤ 1439 = w.2.time.to in
      is.1 (w.0, (w.1, record { hour_in = w.2.time.hour_in; minute_in = w.2.time.minute_in; short = w.2.time.short; from = omega arith; to = omega arith })),
)

pub day_out : (c : Crontab) (base first last place : ℕ) → (HasDay c.dates base place → false ≡ true) → IsTrue false ↔ HasMinuteOn c base first last place
day_out c base first last place out = missed (λ w. out w.2.day)

pub day_from : (c : Crontab) (base first last place : ℕ) → HasMinuteOn c base first last place → first / 1440 - base ≤ place
day_from c base first last place w =
    let from : first ≤ (base + place) * 1440 + (w.0 * 60 + w.1) = w.2.from in
    let within : w.0 * 60 + w.1 ≤ 1439 = w.2.time.to in
    omega arith

pub day_to : (c : Crontab) (base first last place : ℕ) → base ≤ last / 1440 → HasMinuteOn c base first last place → place < last / 1440 + 1 - base
day_to c base first last place begun w =
    let to : (base + place) * 1440 + (w.0 * 60 + w.1) ≤ last = w.2.to in
    omega arith

-- ---- months

at_real : (month place hour minute : ℕ) → 23640 ≤ month → month < 120000 → place < month_length month → hour * 60 + minute ≤ 1439 → minute ≤ 59
    → IsReal (record { year = month / 12; month = month % 12 + 1; day = place + 1; hour = hour; minute = minute })
at_real month place hour minute low high inside within short = record {
  year_low = omega arith;
  year_high = omega arith;
  month_low = omega arith;
  month_high = omega arith;
  day_low = omega arith;
  day_high = omega arith;
  hour_in = omega arith;
  minute_in = short;
}

pub month_found : (c : Crontab) (first last month : ℕ) → 23640 ≤ month → month < 120000 → field_has c.dates.months (month % 12 + 1) ≡ true → (r : Bool)
    → (IsTrue r ↔ SomeDay c (month_start month) (month_length month) first last) → IsTrue r ↔ HasMinuteIn c first last month
month_found c first last month low high here r is = (
  λ e. made (is.0 e),
  λ w. is.1 (told w),
) where
  made : SomeDay c (month_start month) (month_length month) first last → HasMinuteIn c first last month
  made w =
      let place = w.0 in
      let hour = w.2.0 in
      let minute = w.2.1 in
      let on = w.2.2 in
      let m : Minute = record { year = month / 12; month = month % 12 + 1; day = place + 1; hour = hour; minute = minute } in
      let inside : place < month_length month = w.1 in
      let within : hour * 60 + minute ≤ 1439 = on.time.to in
      let real : IsReal m = at_real month place hour minute low high inside within on.time.short in
      let same : month_of m ≡ month = omega arith in
      let day : day_of m ≡ month_start month + place = day_is m real ∙ ap (λ z. month_start z + (place + 1 - 1)) same ∙ omega arith in
      let from : first ≤ (month_start month + place) * 1440 + (hour * 60 + minute) = on.from in
      let to : (month_start month + place) * 1440 + (hour * 60 + minute) ≤ last = on.to in (
        m,
        record {
          real = is_real m real;
          matches = record {
            minute = on.time.minute_in;
            hour = on.time.hour_in;
            day = on.day.day_in;
            month = here;
            weekday = ap (λ z. field_has c.dates.weekdays ((z + 4) % 7)) day ∙ on.day.weekday_in;
          };
          from = subst (λ z. first ≤ z * 1440 + (hour * 60 + minute)) (sym day) from;
          to = subst (λ z. z * 1440 + (hour * 60 + minute) ≤ last) (sym day) to;
        },
        same,
      )

  told : HasMinuteIn c first last month → SomeDay c (month_start month) (month_length month) first last
  told w =
      let m = w.0 in
      let real = real_is m w.1.real in
      let day : day_of m ≡ month_start month + (m.day - 1) = day_is m real ∙ ap (λ z. month_start z + (m.day - 1)) w.2 in
      let place : m.day - 1 + 1 ≡ m.day = omega (arith, real.day_low) in
      let from : first ≤ day_of m * 1440 + (m.hour * 60 + m.minute) = w.1.from in
      let to : day_of m * 1440 + (m.hour * 60 + m.minute) ≤ last = w.1.to in (
        m.day - 1,
        subst (λ z. m.day - 1 < month_length z) w.2 (day_in_month m real),
        (
          m.hour,
          m.minute,
          record {
            day = record {
              day_in = ap (field_has c.dates.days) place ∙ w.1.matches.day;
              weekday_in = ap (λ z. field_has c.dates.weekdays ((z + 4) % 7)) (sym day) ∙ w.1.matches.weekday;
            };
            time = record { hour_in = w.1.matches.hour; minute_in = w.1.matches.minute; short = real.minute_in; from = omega arith; to = omega (arith, real.hour_in, real.minute_in) };
            from = subst (λ z. first ≤ z * 1440 + (m.hour * 60 + m.minute)) day from;
            to = subst (λ z. z * 1440 + (m.hour * 60 + m.minute) ≤ last) day to;
          },
        ),
      )

pub month_out : (c : Crontab) (first last month : ℕ) → field_has c.dates.months (month % 12 + 1) ≡ false → IsTrue false ↔ HasMinuteIn c first last month
month_out c first last month out =
    missed (λ w.
    let same : month % 12 + 1 ≡ w.0.month = ap (λ z. z % 12 + 1) (sym w.2) ∙ month_in_year w.0 (real_is w.0 w.1.real) in
    sym out ∙ ap (field_has c.dates.months) same ∙ w.1.matches.month)

-- the day of a minute of a month
inside : (c : Crontab) (first last month : ℕ) → HasMinuteIn c first last month → (day : ℕ) × (month_start month ≤ day) × (day < month_start month + month_length month) × (first / 1440 ≤ day) × (day ≤ last / 1440)
inside c first last month w =
    let m = w.0 in
    let real = real_is m w.1.real in
    let day : day_of m ≡ month_start month + (m.day - 1) = day_is m real ∙ ap (λ z. month_start z + (m.day - 1)) w.2 in
    let within : m.day - 1 < month_length month = subst (λ z. m.day - 1 < month_length z) w.2 (day_in_month m real) in
    let from : first ≤ day_of m * 1440 + (m.hour * 60 + m.minute) = w.1.from in
    let to : day_of m * 1440 + (m.hour * 60 + m.minute) ≤ last = w.1.to in
    let hour : m.hour ≤ 23 = real.hour_in in
    let minute : m.minute ≤ 59 = real.minute_in in
    (day_of m, omega arith, omega arith, omega arith, omega arith)

-- each month that has one lies between the first and the last
pub month_from : (c : Crontab) (first last month begin : ℕ) → 23640 ≤ month → month_start begin ≤ first / 1440 → HasMinuteIn c first last month → begin ≤ month
month_from c first last month begin low begun w =
    elim (cases_lt month begin) [
      | inl before ↦ let d = inside c first last month w in absurd (omega (arith, starts_apart month begin low before, d.2, d.3))
      | inr since ↦ since
    ]

pub month_to : (c : Crontab) (first last month end : ℕ) → 23640 ≤ end → last / 1440 < month_start end + month_length end → HasMinuteIn c first last month → month < end + 1
month_to c first last month end low ended w =
    elim (cases_lt end month) [
      | inl after ↦ let d = inside c first last month w in absurd (omega (arith, starts_apart end month low after, d.1, d.4))
      | inr until ↦ omega arith
    ]

-- a minute is one of its month
pub in_its_month : (c : Crontab) (first last : ℕ) (w : SomeMinute c first last) → HasMinuteIn c first last (month_of w.0)
in_its_month c first last w = (w.0, w.1, refl)

pub its_month_low : (c : Crontab) (first last : ℕ) (w : SomeMinute c first last) → 23640 ≤ month_of w.0
its_month_low c first last w = month_low w.0 (real_is w.0 w.1.real)

-- ---- when it is due

pub due_found : (c : Crontab) (last now : ℕ) (r : Bool) → (IsTrue r ↔ SomeMinute c (last / 60 + 1) (min (now / 60) 4223371679)) → IsTrue r ↔ IsCronDue c last now
due_found c last now r is = (
  λ e.
      let w = is.0 e in
      let from : last / 60 + 1 ≤ minute_number w.0 = w.1.from in
      let to : minute_number w.0 ≤ min (now / 60) 4223371679 = w.1.to in
      (w.0, record { real = w.1.real; matches = w.1.matches; after = after_of last (minute_number w.0) from; by_now = by_now_of now (minute_number w.0) to }),
  λ w.
      let real = real_is w.0 w.1.real in
      let after : last < minute_number w.0 * 60 = w.1.after in
      let by_now : minute_number w.0 * 60 ≤ now = w.1.by_now in
      is.1 (w.0, record { real = w.1.real; matches = w.1.matches; from = from_of last (minute_number w.0) after; to = to_of now (minute_number w.0) by_now (omega (arith, day_bound w.0 real, real.hour_in, real.minute_in)) }),
) where
  after_of : (a n : ℕ) → a / 60 + 1 ≤ n → a < n * 60
  after_of a n h = omega arith

  by_now_of : (a n : ℕ) → n ≤ min (a / 60) 4223371679 → n * 60 ≤ a
  by_now_of a n h = omega arith

  from_of : (a n : ℕ) → a < n * 60 → a / 60 + 1 ≤ n
  from_of a n h = omega arith

  to_of : (a n : ℕ) → n * 60 ≤ a → n ≤ 4223371679 → n ≤ min (a / 60) 4223371679
  to_of a n h k = omega arith

pub not_due : (c : Crontab) (last now : ℕ) → min (now / 60) 4223371679 < last / 60 + 1 → IsTrue false ↔ IsCronDue c last now
not_due c last now none = due_found c last now false (missed (λ w. absurd (out (last / 60 + 1) (min (now / 60) 4223371679) (minute_number w.0) none w.1.from w.1.to))) where
  out : (a b n : ℕ) → b < a → a ≤ n → n ≤ b → ⊥
  out a b n h k l = omega arith
