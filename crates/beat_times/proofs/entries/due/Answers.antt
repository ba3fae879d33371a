use Rattle.std.proofs.Common.{◌≡◌, ◌++◌, ap, subst, sym, ◌∙◌, arith, false, true}
use Rattle.beat_times.specs.Due.{AreDue}
use Rattle.beat_times.proofs.DueFound.{all_due, more_due, more_idle}
use Rattle.beat_times.proofs.entries.due.Goals.{then-is_due+in_ok-push, else-is_due}
use Rattle.beat_times.proofs.entries.due.Goals as goal

pub loop-index-preserved : goal.loop-index-preserved
loop-index-preserved c = λ rest left.
    elim c.if-is_due.branch [
      | then-is_due+in_ok-push w ↦
          subst (λ f. AreDue c.args.now 0 c.args.entries.now (f ++ rest)) (sym (ap (λ v. v.items) w.found-is ∙ w.in_ok-push.ensures.items))
          (more_due c.args.now c.loop-index.index c.index-entries-index.result c.args.entries.now c.loop-index.found.items (omega arith) c.index-entries-index.is (c.is_due.ensures.0 w.if-is_due.true) c.loop-index.invariant rest left)
      | else-is_due w ↦
          subst (λ f. AreDue c.args.now 0 c.args.entries.now (f ++ rest)) (sym (ap (λ v. v.items) w.found-is))
          (more_idle c.args.now c.loop-index.index c.index-entries-index.result c.args.entries.now c.loop-index.found.items (omega arith) c.index-entries-index.is (λ d. absurd (clash (sym w.if-is_due.false ∙ c.is_due.ensures.1 d))) c.loop-index.invariant rest left)
    ] where
      clash : false ≡ true → ⊥
      clash e = cc

pub returns : goal.returns
returns c = all_due c.args.now c.loop-index.index c.args.entries.now c.loop-index.found.items (omega arith) c.loop-index.invariant
