-- Which texts are moments, and the text that is written for one (ISO 8601 as Python's datetime writes it, RFC 3339).
use Rattle.std.specs.Prelude.{ℕ, ◌+◌, ◌-◌, ◌*◌, ◌/◌, ◌%◌, ◌==◌, ◌&&◌, ◌||◌, Bool, not, nat_le, if◌then◌else◌, List, [], ◌∷◌, ◌++◌, length, take, drop, slice_index_or, position, codes, Option, Some, None, option_and_then, option_map, unwrap_or, ℤ, pos, neg_ℤ, ◌-ℤ◌, ◌*ℤ◌}
use Rattle.moments.specs.CivilTimes.{civil_at, is_within_years, real_micros}
use Rattle.moments.specs.declared.civil.CivilTime.{CivilTime}
use Rattle.moments.specs.declared.reading.AfterSeconds.{AfterSeconds}

-- goes on with what was read, if anything was
infixl 10 ◌>>=◌
abbrev pub ◌>>=◌ : {A B : Type 0} → Option A → (A → Option B) → Option B
o >>= f = option_and_then f o

-- ---- digits

-- whether a byte is a digit
abbrev pub is_digit : ℕ → Bool
is_digit b = nat_le 48 b && nat_le b 57

-- the number that two digits spell
abbrev pub two_digits : ℕ → ℕ → Option ℕ
two_digits a b = if is_digit a && is_digit b then Some ((a - 48) * 10 + (b - 48)) else None

-- the number that the digits of a text at i and after it spell; past the text's end stands the byte e
abbrev pub two_at : ℕ → ℕ → List ℕ → Option ℕ
two_at e i s = two_digits (slice_index_or s i e) (slice_index_or s (i + 1) e)

-- ---- reading

-- whether dashes, the T and colons stand where they must
abbrev pub has_marks : List ℕ → Bool
has_marks s = (slice_index_or s 4 0 == 45) && (slice_index_or s 7 0 == 45) && (slice_index_or s 10 0 == 84) && (slice_index_or s 13 0 == 58) && (slice_index_or s 16 0 == 58)

-- what YYYY-MM-DDThh:mm:ss spells, at the start of a text
unfoldable pub front_civil : List ℕ → Option CivilTime
front_civil s = do
  century ← two_at 0 0 s
  year ← two_at 0 2 s
  month ← two_at 0 5 s
  day ← two_at 0 8 s
  hour ← two_at 0 11 s
  minute ← two_at 0 14 s
  second ← two_at 0 17 s
  if has_marks s then Some (record { year = century * 100 + year; month = month; day = day; hour = hour; minute = minute; second = second; micros = 0 }) else None

-- the microseconds of the digits of a fraction, as if zeros followed
unfoldable pub fraction_micros : List ℕ → Option ℕ
fraction_micros s = do
  high ← two_at 48 0 s
  middle ← two_at 48 2 s
  low ← two_at 48 4 s
  Some ((high * 100 + middle) * 100 + low)

-- the minutes of an offset with its sign
abbrev pub signed_minutes : ℕ → ℕ → Option ℤ
signed_minutes sign n = if sign == 43 then Some (pos n) else (if sign == 45 then Some (neg_ℤ (pos n)) else None)

-- the minutes of +hh:mm or -hh:mm
unfoldable pub offset_minutes : List ℕ → Option ℤ
offset_minutes s = do
  hours ← two_at 0 1 s
  minutes ← two_at 0 4 s
  if (length s == 6) && (slice_index_or s 3 0 == 58) && nat_le hours 23 && nat_le minutes 59 then signed_minutes (slice_index_or s 0 0) (hours * 60 + minutes) else None

-- the minutes of what ends a text: nothing, Z or an offset
abbrev pub zone_minutes : List ℕ → Option ℤ
zone_minutes s = if (length s == 0) || ((length s == 1) && (slice_index_or s 0 0 == 90)) then Some (pos 0) else offset_minutes s

-- how many digits a text begins with
abbrev pub digit_count : List ℕ → ℕ
digit_count s = unwrap_or (position (λ b. not (is_digit b)) s) (length s)

-- 1 to 6 digits of a fraction, and what ends the text
unfoldable pub fraction_tail : List ℕ → Option AfterSeconds
fraction_tail s = do
  micros ← (if nat_le 1 (digit_count s) && nat_le (digit_count s) 6 then fraction_micros (take (digit_count s) s) else None)
  offset ← zone_minutes (drop (digit_count s) s)
  Some (record { micros = micros; offset = offset })

-- nothing or a dot and a fraction, and what ends the text
abbrev pub tail_of : List ℕ → Option AfterSeconds
tail_of s = if slice_index_or s 0 0 == 46 then fraction_tail (drop 1 s) else option_map (λ o. record { micros = 0; offset = o }) (zone_minutes s)

-- a moment, if it lies in the years 1 to 9999
abbrev pub if_within : ℤ → Option ℤ
if_within m = if is_within_years m then Some m else None

-- the moment that a text spells, in microseconds since 1970
unfoldable pub moment_of : List ℕ → Option ℤ
moment_of s = do
  front ← front_civil s
  tail ← tail_of (drop 19 s)
  shown ← real_micros (record front { micros = tail.micros })
  if_within (shown -ℤ tail.offset *ℤ pos 60000000)

-- ---- writing

-- the last two digits of a number
abbrev pub two_text : ℕ → List ℕ
two_text n = (48 + n / 10 % 10) ∷ (48 + n % 10) ∷ []

-- YYYY-MM-DDThh:mm:ss
abbrev pub front_text : CivilTime → List ℕ
front_text c =
    two_text (c.year / 100) ++ two_text c.year ++ codes "-" ++ two_text c.month ++ codes "-" ++ two_text c.day ++ codes "T"
    ++ two_text c.hour ++ codes ":" ++ two_text c.minute ++ codes ":" ++ two_text c.second

-- a dot and six digits, or nothing where there are no microseconds
abbrev pub fraction_text : ℕ → List ℕ
fraction_text n = if n == 0 then [] else codes "." ++ two_text (n / 10000) ++ two_text (n / 100) ++ two_text n

-- what is written for what clock and calendar show in UTC
abbrev pub civil_text : CivilTime → List ℕ
civil_text c = front_text c ++ fraction_text c.micros ++ codes "+00:00"

-- the text that is written for a moment
abbrev pub moment_text : ℤ → List ℕ
moment_text m = civil_text (civil_at m)
