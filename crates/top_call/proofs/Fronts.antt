-- Inputs past their limit: they have a bad line, or a full history, and what was read of them tells which.
use Rattle.std.proofs.Common.{List, [], ap, arith, length, length-append, nat_lt, sym, take, true, ℕ, ◌+◌, ◌++◌, ◌≡◌, ◌∙◌, ◌∷◌}
use Rattle.std.proofs.lemmas.Grind.{common_steps}
use Rattle.std.proofs.lemmas.List.{take-append-le}
use Rattle.line_text.specs.Lines.{lines_of, text_fault}
use Rattle.schedule_model.specs.Desk.{ScheduleReader}
use Rattle.schedule_model.specs.Faults.{Craft}
use Rattle.schedule_model.specs.Schedules.{Bad, Determined, Filled, Led, Went, Whole, header_led, header_on, led_on, line_led, lines_led, schedule_run}

-- a line leads to a whole history only where the lines after it do
led_on-unwhole : (go : ScheduleReader → Determined) (n : ℕ) (l : Led) (e : ScheduleReader) → ((d : ScheduleReader) → go d ≡ Whole e → ⊥) → led_on go n l ≡ Whole e → ⊥
led_on-unwhole go n (Went d) e unwhole is = unwhole d is
led_on-unwhole go n (Filled d) e unwhole is = cc
led_on-unwhole go n (Bad r) e unwhole is = cc

-- lines of which the last is too long are no whole history
lines_led-cut : (κ : Craft) (n : ℕ) (d : ScheduleReader) (l : List ℕ) (ls : List (List ℕ)) (e : ScheduleReader) → lines_led κ true n d (l ∷ ls) ≡ Whole e → ⊥
lines_led-cut κ n d l [] e is = cc
lines_led-cut κ n d l (m ∷ ls) e is =
    led_on-unwhole (λ f. lines_led κ true (n + 1) f (m ∷ ls)) n (line_led κ d l) e (λ f after. lines_led-cut κ (n + 1) f m ls e after) is

header_on-cut : (κ : Craft) (ls : List (List ℕ)) (e : ScheduleReader) → header_on κ true ls ≡ Whole e → ⊥
header_on-cut κ [] e is = cc
header_on-cut κ (h ∷ []) e is = cc
header_on-cut κ (h ∷ l ∷ ls) e is =
    led_on-unwhole (λ d. lines_led κ true 2 d (l ∷ ls)) 1 (header_led h (text_fault 65536 h)) e (λ d after. lines_led-cut κ 2 d l ls e after) is

-- what an input determines within a limit
abbrev run_within : Craft → ℕ → List ℕ → Determined
run_within κ limit bytes = header_on κ (nat_lt limit (length bytes)) (lines_of (take (limit + 1) bytes))

run_within-cut : (κ : Craft) (limit : ℕ) (bytes : List ℕ) (e : ScheduleReader) → length bytes ≡ limit + 1 → run_within κ limit bytes ≡ Whole e → ⊥
run_within-cut κ limit bytes e over is =
    let cut : nat_lt limit (length bytes) ≡ true = grind (arith, common_steps, over) in
    header_on-cut κ (lines_of (take (limit + 1) bytes)) e (ap (λ b. header_on κ b (lines_of (take (limit + 1) bytes))) (sym cut) ∙ is)

run_within-front : (κ : Craft) (limit : ℕ) (bytes more : List ℕ) → length bytes ≡ limit + 1 → run_within κ limit (bytes ++ more) ≡ run_within κ limit bytes
run_within-front κ limit bytes more over =
    let cut : nat_lt limit (length bytes) ≡ true = grind (arith, common_steps, over) in
    let whole : nat_lt limit (length (bytes ++ more)) ≡ true = grind (arith, common_steps, over, length-append bytes more) in
    let front : take (limit + 1) (bytes ++ more) ≡ take (limit + 1) bytes = take-append-le (limit + 1) bytes more (omega (arith, over)) in
    ap (λ b. header_on κ b (lines_of (take (limit + 1) (bytes ++ more)))) (whole ∙ sym cut)
    ∙ ap (λ t. header_on κ (nat_lt limit (length bytes)) (lines_of t)) front

-- an input past 64 MiB determines no history
pub schedule_run-past : (κ : Craft) (bytes : List ℕ) (e : ScheduleReader) → length bytes ≡ 67108864 + 1 → schedule_run κ bytes ≡ Whole e → ⊥
schedule_run-past κ bytes e over is = run_within-cut κ 67108864 bytes e over is

-- an input determines what its first bytes do, one more than 64 MiB
pub schedule_run-front : (κ : Craft) (bytes more : List ℕ) → length bytes ≡ 67108864 + 1 → schedule_run κ (bytes ++ more) ≡ schedule_run κ bytes
schedule_run-front κ bytes more over = run_within-front κ 67108864 bytes more over
