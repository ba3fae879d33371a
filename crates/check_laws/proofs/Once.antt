-- Bytes are judged to be one thing.
use Rattle.std.proofs.Common.{◌≡◌, ℕ, ◌+◌, Bool, true, false, List, [], ◌∷◌, length, take, Some, None, Option, refl, sym, ap, ◌∙◌, subst}
use Rattle.std.specs.Prelude.{nat_lt}
use Rattle.line_text.specs.Lines.{lines_of, text_fault}
use Rattle.line_text.specs.declared.reason.Reason.{Reason}
use Rattle.queue_keys.specs.Names.{Bytes}
use Rattle.place_model.specs.Histories.{History}
use Rattle.place_model.specs.declared.heard.Heard.{Heard}
use Rattle.place_model.specs.declared.history.Entry.{Entry}
use Rattle.schedule_model.specs.Costs.{is_full}
use Rattle.schedule_model.specs.Faults.{first_reason}
use Rattle.schedule_model.specs.Schedules.{max_input}
use Rattle.history_records.specs.declared.row.Row.{Row}
use Rattle.history_records.specs.declared.row.Row.TheVariants.{Client, Event}
use Rattle.record_model.specs.Steps.{Manner, RowStep, Grown, Crowded, Faulted, EventLeads, Fails_test, Lacks_room, Is_illegal, Lacks_manner, Comes_next, RowLeads, event_tests, is_unmannered, first_history}
use Rattle.record_model.specs.Judged.{AfterHeader, CarriesOn, HeaderJudged, IsAllRead, Judgement, LastLeads, LineLeads, No_text, No_row, By_row, LinesJudged, max_row, top_fault}
use Rattle.check_laws.specs.Checked.{JudgedOnce}
use Rattle.check_laws.proofs.Rows.{says_one}

clash : {A : Type 0} (o : Option Reason) (r : Reason) → o ≡ Some r → o ≡ None → A
clash o r e f = absurd (cc (e, f))

differ : {A : Type 0} (b : Bool) → b ≡ true → b ≡ false → A
differ b e f = absurd (cc (e, f))

some_reason : (o : Option Reason) (r s : Reason) → o ≡ Some r → o ≡ Some s → r ≡ s
some_reason o r s e f = ap (value_or r) (sym e ∙ f) where
  value_or : Reason → Option Reason → Reason
  value_or d None = d
  value_or d (Some x) = x

event_one : (μ : Manner) (h : History Heard) (e : Entry Heard) (a b : RowStep) → EventLeads μ h e a → EventLeads μ h e b → a ≡ b
event_one μ h e _ _ (Fails_test r f) (Fails_test r' f') = ap Faulted (some_reason (first_reason (event_tests h e)) r r' f f')
event_one μ h e _ _ (Fails_test r f) (Lacks_room f' g') = clash (first_reason (event_tests h e)) r f f'
event_one μ h e _ _ (Fails_test r f) (Is_illegal f' g' n') = clash (first_reason (event_tests h e)) r f f'
event_one μ h e _ _ (Fails_test r f) (Lacks_manner f' g' y' m') = clash (first_reason (event_tests h e)) r f f'
event_one μ h e _ _ (Fails_test r f) (Comes_next f' g' y' m') = clash (first_reason (event_tests h e)) r f f'
event_one μ h e _ _ (Lacks_room f g) (Fails_test r' f') = clash (first_reason (event_tests h e)) r' f' f
event_one μ h e _ _ (Lacks_room f g) (Lacks_room f' g') = refl
event_one μ h e _ _ (Lacks_room f g) (Is_illegal f' g' n') = differ (is_full h.entries) g g'
event_one μ h e _ _ (Lacks_room f g) (Lacks_manner f' g' y' m') = differ (is_full h.entries) g g'
event_one μ h e _ _ (Lacks_room f g) (Comes_next f' g' y' m') = differ (is_full h.entries) g g'
event_one μ h e _ _ (Is_illegal f g n) (Fails_test r' f') = clash (first_reason (event_tests h e)) r' f' f
event_one μ h e _ _ (Is_illegal f g n) (Lacks_room f' g') = differ (is_full h.entries) g' g
event_one μ h e _ _ (Is_illegal f g n) (Is_illegal f' g' n') = refl
event_one μ h e _ _ (Is_illegal f g n) (Lacks_manner f' g' y' m') = absurd (n y')
event_one μ h e _ _ (Is_illegal f g n) (Comes_next f' g' y' m') = absurd (n y')
event_one μ h e _ _ (Lacks_manner f g y m) (Fails_test r' f') = clash (first_reason (event_tests h e)) r' f' f
event_one μ h e _ _ (Lacks_manner f g y m) (Lacks_room f' g') = differ (is_full h.entries) g' g
event_one μ h e _ _ (Lacks_manner f g y m) (Is_illegal f' g' n') = absurd (n' y)
event_one μ h e _ _ (Lacks_manner f g y m) (Lacks_manner f' g' y' m') = refl
event_one μ h e _ _ (Lacks_manner f g y m) (Comes_next f' g' y' m') = differ (is_unmannered μ h e) m m'
event_one μ h e _ _ (Comes_next f g y m) (Fails_test r' f') = clash (first_reason (event_tests h e)) r' f' f
event_one μ h e _ _ (Comes_next f g y m) (Lacks_room f' g') = differ (is_full h.entries) g' g
event_one μ h e _ _ (Comes_next f g y m) (Is_illegal f' g' n') = absurd (n' y)
event_one μ h e _ _ (Comes_next f g y m) (Lacks_manner f' g' y' m') = differ (is_unmannered μ h e) m' m
event_one μ h e _ _ (Comes_next f g y m) (Comes_next f' g' y' m') = refl

row_one : (μ : Manner) (h : History Heard) (row : Row) (a b : RowStep) → RowLeads μ h row a → RowLeads μ h row b → a ≡ b
row_one μ h (Client c s) a b x y = x ∙ sym y
row_one μ h (Event e) a b x y = event_one μ h e a b x y

line_one : (μ : Manner) (h : History Heard) (line : Bytes) (a b : RowStep) → LineLeads μ h line a → LineLeads μ h line b → a ≡ b
line_one μ h line _ _ (No_text r e) (No_text s f) = ap Faulted (some_reason (text_fault max_row line) r s e f)
line_one μ h line _ _ (No_text r e) (No_row f n) = clash (text_fault max_row line) r e f
line_one μ h line _ b (No_text r e) (By_row row _ f s l) = clash (text_fault max_row line) r e f
line_one μ h line _ _ (No_row e n) (No_text s f) = clash (text_fault max_row line) s f e
line_one μ h line _ _ (No_row e n) (No_row f m) = refl
line_one μ h line _ b (No_row e n) (By_row row _ f s l) = absurd (n row s)
line_one μ h line a _ (By_row row _ e s l) (No_text r f) = clash (text_fault max_row line) r f e
line_one μ h line a _ (By_row row _ e s l) (No_row f n) = absurd (n row s)
line_one μ h line a b (By_row row _ e s l) (By_row other _ f t m) = row_one μ h row a b l (subst (λ x. RowLeads μ h x b) (says_one line other row t s) m)

last_one : (μ : Manner) (cut : Bool) (h : History Heard) (line : Bytes) (a b : RowStep) → LastLeads μ cut h line a → LastLeads μ cut h line b → a ≡ b
last_one μ true h line a b x y = x ∙ sym y
last_one μ false h line a b x y = line_one μ h line a b x y

carried_one : (goes : History Heard → Judgement → Type 0) (n : ℕ) (step : RowStep) (j k : Judgement) → ((h : History Heard) → goes h j → goes h k → j ≡ k) → CarriesOn goes n step j → CarriesOn goes n step k → j ≡ k
carried_one goes n (Grown h) j k one a b = one h a b
carried_one goes n (Crowded h) j k one a b = a ∙ sym b
carried_one goes n (Faulted r) j k one a b = a ∙ sym b

lines_one : (μ : Manner) (cut : Bool) (n : ℕ) (h : History Heard) (ls : List Bytes) (j k : Judgement) → LinesJudged μ cut n h ls j → LinesJudged μ cut n h ls k → j ≡ k
lines_one μ cut n h [] j k a b = a ∙ sym b
lines_one μ cut n h (l ∷ []) j k a b =
    carried_one IsAllRead n b.0 j k (λ g x y. x ∙ sym y) (subst (λ s. CarriesOn IsAllRead n s j) (last_one μ cut h l a.0 b.0 a.1 b.1) a.2) b.2
lines_one μ cut n h (l ∷ m ∷ ls) j k a b =
    let goes : History Heard → Judgement → Type 0 = λ g i. LinesJudged μ cut (n + 1) g (m ∷ ls) i in
    carried_one goes n b.0 j k (λ g x y. lines_one μ cut (n + 1) g (m ∷ ls) j k x y) (subst (λ s. CarriesOn goes n s j) (line_one μ h l a.0 b.0 a.1 b.1) a.2) b.2

after_one : (μ : Manner) (cut : Bool) (ls : List Bytes) (o : Option Reason) (j k : Judgement) → AfterHeader μ cut ls o j → AfterHeader μ cut ls o k → j ≡ k
after_one μ cut ls (Some r) j k a b = a ∙ sym b
after_one μ cut ls None j k a b = lines_one μ cut 2 first_history ls j k a b

header_one : (μ : Manner) (cut : Bool) (ls : List Bytes) (j k : Judgement) → HeaderJudged μ cut ls j → HeaderJudged μ cut ls k → j ≡ k
header_one μ cut [] j k a b = a ∙ sym b
header_one μ cut (l ∷ ls) j k a b = after_one μ cut ls (top_fault cut l ls) j k a b

pub once : JudgedOnce
once μ bytes j k a b = header_one μ (nat_lt max_input (length bytes)) (lines_of (take (max_input + 1) bytes)) j k a b
