-- The lines of a schedule fill at most one desk.
use Rattle.std.proofs.Common.{◌≡◌, ℕ, subst, sym, ap, refl, ◌∙◌, List, [], ◌∷◌, ◌++◌, drop}
use Rattle.queue_keys.specs.Names.{Bytes}
use Rattle.schedule_model.specs.Desk.{ScheduleReader, first_desk}
use Rattle.schedule_model.specs.Faults.{Craft}
use Rattle.schedule_model.specs.Filled.{FilledDesk, IsLedBy, LeadTo, lines_read}
use Rattle.schedule_model.specs.Schedules.{Filled, Went, line_led}
use Rattle.schedule_laws.specs.OneDesk.{FillsOnly, SchedulesFillOne}
use Rattle.schedule_laws.proofs.Leads.{schedule_leads}

same_went : (d e : ScheduleReader) → Went d ≡ Went e → d ≡ e
same_went d e is = cc is

same_filled : (d e : ScheduleReader) → Filled d ≡ Filled e → d ≡ e
same_filled d e is = cc is

went_filled : {A : Type 0} (d e : ScheduleReader) → Went d ≡ Filled e → A
went_filled d e is = absurd (cc is)

same_head : (l m : Bytes) (ls ms : List Bytes) → l ∷ ls ≡ m ∷ ms → l ≡ m
same_head l m ls ms is = cc is

-- two ways to fill a desk from the same one by the same lines
one_fill : (κ : Craft) (d d' : ScheduleReader) (before later before' later' : List Bytes) (line line' : Bytes) (at at' e e' : ScheduleReader)
    → d ≡ d' → before ++ line ∷ later ≡ before' ++ line' ∷ later' → LeadTo κ d before at → LeadTo κ d' before' at' → line_led κ at line ≡ Filled e → line_led κ at' line' ≡ Filled e'
    → (e ≡ e') × (before ≡ before') × (line ≡ line')
one_fill κ d d' [] later [] later' line line' at at' e e' from lines led led' full full' =
    let here : line ≡ line' = same_head line line' later later' lines in
    let desk : at ≡ at' = sym led ∙ from ∙ led' in
    (same_filled e e' (sym full ∙ (λ i. line_led κ (desk i) (here i)) ∙ full'), refl, here)
one_fill κ d d' [] later (m ∷ before') later' line line' at at' e e' from lines led led' full full' =
    let here : line ≡ m = same_head line m later (before' ++ line' ∷ later') lines in
    let desk : at ≡ d' = sym led ∙ from in
    went_filled led'.0 e (sym led'.1 ∙ (λ i. line_led κ (sym desk i) (sym here i)) ∙ full)
one_fill κ d d' (l ∷ before) later [] later' line line' at at' e e' from lines led led' full full' =
    let here : l ≡ line' = same_head l line' (before ++ line ∷ later) later' lines in
    let desk : d ≡ at' = from ∙ led' in
    went_filled led.0 e' (sym led.1 ∙ (λ i. line_led κ (desk i) (here i)) ∙ full')
one_fill κ d d' (l ∷ before) later (m ∷ before') later' line line' at at' e e' from lines led led' full full' =
    let here : l ≡ m = same_head l m (before ++ line ∷ later) (before' ++ line' ∷ later') lines in
    let next : led.0 ≡ led'.0 = same_went led.0 led'.0 (sym led.1 ∙ (λ i. line_led κ (from i) (here i)) ∙ led'.1) in
    let rest = one_fill κ led.0 led'.0 before later before' later' line line' at at' e e' next (ap (λ z. drop 1 z) lines) led.2 led'.2 full full' in
    (rest.0, (λ i. here i ∷ rest.1 i), rest.2)

-- no other desk is filled by the lines that filled one
pub fills_only : (κ : Craft) (d : ScheduleReader) (ls : List Bytes) (n cost : ℕ) (f : FilledDesk κ d ls n cost) → FillsOnly κ d ls n cost f
fills_only κ d ls n cost f e g =
    one_fill κ d d g.before g.later f.filled.before f.filled.later g.line f.filled.line g.reached f.filled.reached e f.desk refl (sym g.lines ∙ f.filled.lines) g.led f.filled.led g.filled f.filled.filled

pub fills_one : SchedulesFillOne
fills_one κ bytes n cost is =
    let f : FilledDesk κ first_desk (lines_read bytes) n cost = subst (IsLedBy κ first_desk (lines_read bytes)) is (schedule_leads κ bytes) in
    (f, fills_only κ first_desk (lines_read bytes) n cost f)
