-- A script's check goes on by one line.
use Rattle.std.proofs.Common.{◌≡◌, ℕ, Bool, true, false, List, [], ◌∷◌, Option, None, Some, Result, Ok, Err, refl, sym, ap, subst, ◌∙◌}
use Rattle.std.specs.Prelude.{⊤, MatchOption}
use Rattle.std.specs.Result.{result_err}
use Rattle.std.specs.Borrow.{Bor}
use Rattle.line_text.specs.declared.reason.Reason.{Reason}
use Rattle.line_text.specs.declared.reason.Reason.TheVariants.{Long}
use Rattle.line_text.specs.declared.reason.TextFault.{TextFault}
use Rattle.line_text.specs.declared.reason.TextFault.TheVariants as text
use Rattle.queue_keys.specs.Names.{Bytes}
use Rattle.command_blocks.specs.Scripts.{Plan}
use Rattle.client_plans.specs.declared.fault.PlanFault.{PlanFault}
use Rattle.client_plans.specs.declared.fault.PlanFault.TheVariants.{Bad, Memory}
use Rattle.publish_script.specs.Readings.{IsChecked, IsLineRead, script_fault_at, from_first, plan_said}
use Rattle.publish_script.specs.Scripts.{Blocks, Noted, PublishScript, Says, ScriptReader, ScriptStep, Wrong, Wrong_line, is_cut_before, line_step, lines_script, plan_before, script_on, unless_long}
use Rattle.publish_script.specs.declared.reader.PublishStep.{PublishStep}
use Rattle.publish_script.proofs.Numbered.{left_first}

-- both say blocks, or both have the same first bad line
abbrev pub SameEnd : PublishScript → PublishScript → Type 0
SameEnd (Blocks ps) (Blocks qs) = Unit {0}
SameEnd (Blocks ps) (Wrong_line n r) = ⊥
SameEnd (Wrong_line m q) (Blocks ps) = ⊥
SameEnd (Wrong_line m q) (Wrong_line n r) = (m ≡ n) × (q ≡ r)

pub same_self : (a : PublishScript) → SameEnd a a
same_self (Blocks ps) = tt
same_self (Wrong_line n r) = (refl, refl)

same_on : (a b c : PublishScript) → SameEnd a b → SameEnd b c → SameEnd a c
same_on (Blocks ps) (Blocks qs) (Blocks rs) h k = tt
same_on (Blocks ps) (Blocks qs) (Wrong_line n r) h k = k
same_on (Blocks ps) (Wrong_line n r) c h k = absurd h
same_on (Wrong_line m q) (Blocks qs) c h k = absurd h
same_on (Wrong_line m q) (Wrong_line n r) (Blocks rs) h k = k
same_on (Wrong_line m q) (Wrong_line n r) (Wrong_line l t) h k = (h.0 ∙ k.0, h.1 ∙ k.1)

same_plan : (p : Plan) (a : PublishScript) → SameEnd (plan_before p a) a
same_plan p (Blocks ps) = tt
same_plan p (Wrong_line n r) = (refl, refl)

-- what is answered to the one is answered to the other
pub checked_by : (a b : PublishScript) (res : Result ⊤ TextFault) → SameEnd a b → IsChecked b res → IsChecked a res
checked_by (Blocks ps) (Blocks qs) (Ok u) h k = (ps, refl)
checked_by (Blocks ps) (Blocks qs) (Err (text.Bad bad)) h k = cc
checked_by (Blocks ps) (Blocks qs) (Err text.Memory) h k = tt
checked_by (Blocks ps) (Wrong_line n r) res h k = absurd h
checked_by (Wrong_line m q) (Blocks ps) res h k = absurd h
checked_by (Wrong_line m q) (Wrong_line n r) (Ok u) h (ps, k) = cc
checked_by (Wrong_line m q) (Wrong_line n r) (Err (text.Bad bad)) h k = ap (λ l. Wrong_line l q) h.0 ∙ ap (λ x. Wrong_line n x) h.1 ∙ k
checked_by (Wrong_line m q) (Wrong_line n r) (Err text.Memory) h k = tt

module _ (s : ℕ) (cut : Bool) (d : ScriptReader) (n : ℕ) (line : Bytes) (ls : List (ℕ × Bytes)) where
  abbrev go : ScriptReader → PublishScript
  go e = lines_script s cut e ls

  abbrev all : PublishScript
  all = lines_script s cut d ((n, line) ∷ ls)

  -- a line that holds the first byte past the limit
  pub too_long : is_cut_before cut ls ≡ true → all ≡ Wrong_line n Long
  too_long e = ap (λ b. script_on go n (unless_long b (line_step s d line))) e

  by_step : (step : ScriptStep) → is_cut_before cut ls ≡ false → line_step s d line ≡ step → all ≡ script_on go n step
  by_step step e is = ap (λ b. script_on go n (unless_long b (line_step s d line))) e ∙ ap (script_on go n) is

  -- a bad line
  pub bad_line : (r : Reason) → is_cut_before cut ls ≡ false → line_step s d line ≡ Wrong r → all ≡ Wrong_line n r
  bad_line r e is = by_step (Wrong r) e is

  -- a line that isn't bad
  pub good_line : (m : ℕ) (new : ScriptReader) (o : Option PublishStep) → is_cut_before cut ls ≡ false → IsLineRead s m (line_step s d line) new (Ok o) → SameEnd all (go new)
  good_line m new None e is = subst (λ a. SameEnd a (go new)) (sym (by_step (Noted new) e is)) (same_self (go new))
  good_line m new (Some x) e is = subst (λ a. SameEnd a (go new)) (sym (by_step (Says new (plan_said x)) e is.0)) (same_plan (plan_said x) (go new))

  pub good_on : (a : PublishScript) (m : ℕ) (new : ScriptReader) (o : Option PublishStep) → SameEnd a all → is_cut_before cut ls ≡ false → IsLineRead s m (line_step s d line) new (Ok o) → SameEnd a (go new)
  good_on a m new o h e is = same_on a all (go new) h (good_line m new o e is)

  -- what is answered at the line's fault
  pub fault_on : (a : PublishScript) (m : ℕ) (new : ScriptReader) (f : PlanFault) → SameEnd a all → is_cut_before cut ls ≡ false → IsLineRead s m (line_step s d line) new (Err f) → IsChecked a (Err (script_fault_at n f))
  fault_on a m new (Bad r) h e is = checked_by a all (Err (script_fault_at n (Bad r))) h (bad_line r e is)
  fault_on a m new Memory h e is = tt

pub wrong_checked : (a : PublishScript) (n : ℕ) (r : Reason) (f : TextFault) → f ≡ text.Bad (record { line = n; reason = r }) → a ≡ Wrong_line n r → IsChecked a (Err f)
wrong_checked a n r f e is = subst (λ x. IsChecked a (Err x)) (sym e) is

-- without a line left
pub none_left : (a : PublishScript) (s : ℕ) (cut : Bool) (d : ScriptReader) (ls : List (ℕ × Bytes)) → SameEnd a (lines_script s cut d ls) → ls ≡ [] → IsChecked a (Ok tt)
none_left a s cut d ls h e = checked_by a (Blocks []) (Ok tt) (subst (λ l. SameEnd a (lines_script s cut d l)) e h) ([], refl)

-- amid the lines, the next of them was read already, and what follows it was asked for
module _ (all : PublishScript) (s r : ℕ) (cut : Bool) (d : ScriptReader) (present next : Option (ℕ × Bor Bytes)) (n : ℕ) (line : Bor Bytes) (mid rest : List (ℕ × Bytes))
    (same : SameEnd all (lines_script s cut d (from_first present mid))) (is : present ≡ Some (n, line)) (steps : MatchOption next ((mid ≡ []) × (rest ≡ [])) (λ x. mid ≡ (x.0, x.1.now) ∷ rest)) (seed : r ≡ s) where
  abbrev ls : List (ℕ × Bytes)
  ls = from_first next rest

  here : SameEnd all (lines_script s cut d ((n, line.now) ∷ ls))
  here = subst (λ m. SameEnd all (lines_script s cut d ((n, line.now) ∷ m))) (left_first next mid rest steps) (subst (λ p. SameEnd all (lines_script s cut d (from_first p mid))) is same)

  read_so : (m : ℕ) (new : ScriptReader) (res : Result (Option PublishStep) PlanFault) → IsLineRead r m (line_step r d line.now) new res → IsLineRead s m (line_step s d line.now) new res
  read_so m new res h = subst (λ (x : ℕ). IsLineRead x m (line_step x d line.now) new res) seed h

  -- the line has no fault
  pub goes_on_unless : (m : ℕ) (new : ScriptReader) (res : Result (Option PublishStep) PlanFault) (b : Bool) → b ≡ false → b ≡ is_cut_before cut ls → None ≡ result_err res → IsLineRead r m (line_step r d line.now) new res → SameEnd all (lines_script s cut new ls)
  goes_on_unless m new (Ok o) b off e calm h = good_on s cut d n line.now ls all m new o here (sym e ∙ off) (read_so m new (Ok o) h)
  goes_on_unless m new (Err f) b off e calm h = absurd (cc calm)

  -- it has one
  pub ends_with : (m : ℕ) (new : ScriptReader) (res : Result (Option PublishStep) PlanFault) (f : PlanFault) (g : TextFault) (b : Bool) → b ≡ false → b ≡ is_cut_before cut ls → Some f ≡ result_err res → IsLineRead r m (line_step r d line.now) new res → g ≡ script_fault_at n f → IsChecked all (Err g)
  ends_with m new (Ok o) f g b off e found h is = absurd (cc found)
  ends_with m new (Err x) f g b off e found h is =
      let same : f ≡ x = cc in
      subst (λ y. IsChecked all (Err y)) (sym is) (subst (λ y. IsChecked all (Err (script_fault_at n y))) (sym same) (fault_on s cut d n line.now ls all m new x here (sym e ∙ off) (read_so m new (Err x) h)))

  -- the line isn't bad
  pub goes_on : (m : ℕ) (new : ScriptReader) (o : Option PublishStep) → false ≡ is_cut_before cut ls → IsLineRead r m (line_step r d line.now) new (Ok o) → SameEnd all (lines_script s cut new ls)
  goes_on m new o e h = good_on s cut d n line.now ls all m new o here (sym e) (read_so m new (Ok o) h)

  -- it is
  pub ends_at : (m : ℕ) (new : ScriptReader) (f : PlanFault) → false ≡ is_cut_before cut ls → IsLineRead r m (line_step r d line.now) new (Err f) → IsChecked all (Err (script_fault_at n f))
  ends_at m new f e h = fault_on s cut d n line.now ls all m new f here (sym e) (read_so m new (Err f) h)

  -- the input is cut off amid it
  pub cut_at : (b : Bool) (f : TextFault) → b ≡ true → b ≡ is_cut_before cut ls → f ≡ text.Bad (record { line = n; reason = Long }) → IsChecked all (Err f)
  cut_at b f on e is = subst (λ y. IsChecked all (Err y)) (sym is) (checked_by all (lines_script s cut d ((n, line.now) ∷ ls)) (Err (text.Bad (record { line = n; reason = Long }))) here (too_long s cut d n line.now ls (sym e ∙ on)))
