-- Lines with their numbers determine what the lines determine.
use Rattle.std.proofs.Common.{◌≡◌, ℕ, ◌+◌, ◌∙◌, Bool, true, false, List, [], ◌∷◌, Option, Some, None, zero, suc, length, take, ◌≤◌, arith, MatchOption, is_some, not, refl, ap, sym, subst}
use Rattle.std.specs.Borrow.{Bor}
use Rattle.line_text.specs.Lines.{numbered, text_fault}
use Rattle.queue_keys.specs.Names.{Bytes}
use Rattle.schedule_model.specs.Desk.{ScheduleReader, first_desk}
use Rattle.schedule_model.specs.Faults.{Craft}
use Rattle.schedule_model.specs.Schedules.{Led, Went, Filled, header_led, header_on, last_led, led_on, line_led, lines_led}
use Rattle.schedule_model.specs.Schedules as schedules
use Rattle.schedule_world.specs.Runs.{from_present, numbered_led}

-- how it goes on depends on what the desks determine
gone_on : (n : ℕ) (f g : ScheduleReader → schedules.Determined) (x : Led) → ((e : ScheduleReader) → f e ≡ g e) → led_on f n x ≡ led_on g n x
gone_on n f g (Went e) same = same e
gone_on n f g (Filled e) same = refl
gone_on n f g (schedules.Bad r) same = refl

pub lines_numbered : (κ : Craft) (cut : Bool) (n : ℕ) (d : ScheduleReader) (ls : List Bytes) → lines_led κ cut n d ls ≡ numbered_led κ cut d (numbered n ls)
lines_numbered κ cut n d [] = refl
lines_numbered κ cut n d (l ∷ []) = refl
lines_numbered κ cut n d (l ∷ m ∷ ls) = gone_on n (λ e. lines_led κ cut (n + 1) e (m ∷ ls)) (λ e. numbered_led κ cut e (numbered (n + 1) (m ∷ ls))) (line_led κ d l) (λ e. lines_numbered κ cut (n + 1) e (m ∷ ls))

-- whether a line is the last of an input that goes on past its limit
abbrev pub is_past : Bool → List (ℕ × Bytes) → Bool
is_past true [] = true
is_past true (l ∷ ls) = false
is_past false ls = false

-- ---- the header

-- what is left when a line more was asked for
pub past_present : (first : Option (ℕ × Bor Bytes)) (mid rest : List (ℕ × Bytes)) → MatchOption first ((mid ≡ []) × (rest ≡ [])) (λ x. mid ≡ (x.0, x.1.now) ∷ rest) → mid ≡ from_present first rest
past_present None mid rest given = given.0
past_present (Some x) mid rest given = given

past_none : (cut : Bool) (x : Led) → last_led (is_past cut []) x ≡ last_led cut x
past_none true x = refl
past_none false x = refl

not_past : (cut : Bool) (m : ℕ × Bytes) (ms : List (ℕ × Bytes)) (x : Led) → last_led (is_past cut (m ∷ ms)) x ≡ x
not_past true m ms x = refl
not_past false m ms x = refl

-- a header without a fault leaves the lines behind it
alone_or_not : (κ : Craft) (cut : Bool) (g : Bytes) (ls : List Bytes) → last_led (is_past cut (numbered 2 ls)) (header_led g (text_fault 65536 g)) ≡ Went first_desk → header_on κ cut (g ∷ ls) ≡ numbered_led κ cut first_desk (numbered 2 ls)
alone_or_not κ cut g [] went = ap (led_on schedules.Whole 1) (sym (past_none cut _) ∙ went)
alone_or_not κ cut g (l ∷ ls) went = ap (led_on (λ d. lines_led κ cut 2 d (l ∷ ls)) 1) (sym (not_past cut (2, l) (numbered 3 ls) _) ∙ went) ∙ lines_numbered κ cut 2 first_desk (l ∷ ls)

pub header_went : (κ : Craft) (cut : Bool) (ls : List Bytes) (n : ℕ) (h : Bytes) (more : List (ℕ × Bytes)) → numbered 1 ls ≡ (n, h) ∷ more → last_led (is_past cut more) (header_led h (text_fault 65536 h)) ≡ Went first_desk → header_on κ cut ls ≡ numbered_led κ cut first_desk more
header_went κ cut [] n h more is went = absurd (cc)
header_went κ cut (g ∷ ls) n h more is went =
    let pair : ◌≡◌ {A = ℕ × Bytes} (n, h) (1, g) = cc in
    let same : h ≡ g = ap (λ (p : ℕ × Bytes). p.1) pair in
    let rest : more ≡ numbered 2 ls = cc in
    subst (λ ms. header_on κ cut (g ∷ ls) ≡ numbered_led κ cut first_desk ms) (sym rest)
    (alone_or_not κ cut g ls (subst (λ ms. last_led (is_past cut ms) (header_led g (text_fault 65536 g)) ≡ Went first_desk) rest
    (subst (λ k. last_led (is_past cut more) (header_led k (text_fault 65536 k)) ≡ Went first_desk) same went)))

-- ---- whether the header is the last line of such an input

pub past_then : (cut flag none : Bool) (first : Option (ℕ × Bor Bytes)) (rest : List (ℕ × Bytes)) → cut ≡ true → is_some first ≡ not none → flag ≡ none → flag ≡ is_past cut (from_present first rest)
past_then true flag true None rest p q r = r
past_then true flag false None rest p q r = absurd (cc)
past_then true flag true (Some x) rest p q r = absurd (cc)
past_then true flag false (Some x) rest p q r = r
past_then false flag none first rest p q r = absurd (cc)

pub past_else : (cut flag : Bool) (more : List (ℕ × Bytes)) → cut ≡ false → flag ≡ false → flag ≡ is_past cut more
past_else true flag more p r = absurd (cc)
past_else false flag more p r = r

-- the answer of the lines behind the header is that of the text
pub behind_header : (κ : Craft) (cut flag : Bool) (d : ScheduleReader) (first : Option (ℕ × Bor Bytes)) (mid rest : List (ℕ × Bytes)) (ls : List Bytes) (n : ℕ) (h : Bytes) (P : schedules.Determined → Type 0)
    → numbered 1 ls ≡ (n, h) ∷ mid → MatchOption first ((mid ≡ []) × (rest ≡ [])) (λ x. mid ≡ (x.0, x.1.now) ∷ rest) → flag ≡ is_past cut (from_present first rest)
    → last_led flag (header_led h (text_fault 65536 h)) ≡ Went first_desk → d ≡ first_desk → P (numbered_led κ cut d (from_present first rest)) → P (header_on κ cut ls)
behind_header κ cut flag d first mid rest ls n h P is given past went fresh run =
    let left = past_present first mid rest given in
    let ahead : numbered 1 ls ≡ (n, h) ∷ from_present first rest = is ∙ ap (λ m. (n, h) ∷ m) left in
    let same = header_went κ cut ls n h (from_present first rest) ahead (subst (λ b. last_led b (header_led h (text_fault 65536 h)) ≡ Went first_desk) past went) in
    subst P (ap (λ e. numbered_led κ cut e (from_present first rest)) fresh ∙ sym same) run

-- ---- what is read of an input

whole_front : (n : ℕ) (bytes : Bytes) → length bytes ≤ n → take n bytes ≡ bytes
whole_front zero [] short = refl
whole_front zero (b ∷ bs) short = absurd (omega arith)
whole_front (suc n) [] short = refl
whole_front (suc n) (b ∷ bs) short = ap (λ l. b ∷ l) (whole_front n bs (omega arith))

-- an input within the limit is read whole
pub uncut : (limit : ℕ) (bytes text : Bytes) → text ≡ bytes → length bytes ≤ limit → text ≡ take (limit + 1) bytes
uncut limit bytes text same short = same ∙ sym (whole_front (limit + 1) bytes (omega arith))
