use Rattle.std.proofs.Common.{ℕ, suc, ◌-◌, ap, sym, ◌∙◌, arith, rules, lit<, Some, None}
use Rattle.std.proofs.lemmas.Str.Pattern.{split_once_first}
use Rattle.std.specs.Option.{option_copied}
use Rattle.line_text.specs.Words.{rest_after}
use Rattle.line_text.proofs.Cuts.{rest_after-zero, rest_after-first, rest_after-last}
use Rattle.line_text.proofs.word.rest_after.Goals as goal

pub returns-in_err-after : goal.returns-in_err-after
returns-in_err-after c =
    let left : ℕ = c.args.count - c.loop-step.step - 1 in
    let last = split_once_first 32 c.loop-step.rest.now None c.in_err-after.ensures.cases (lit< tt) in
    ap option_copied c.from_residual.ensures ∙ (sym (rest_after-last left c.loop-step.rest.now last) ∙ c.loop-step.invariant.1 (suc left) (omega arith))

pub loop-step-preserved : goal.loop-step-preserved
loop-step-preserved c =
    let found = split_once_first 32 c.loop-step.rest.now (Some (c.in_ok-after.field-0-0, c.in_ok-after.after)) c.in_ok-after.ensures.cases (lit< tt) in
    (search rules, λ left e. ap (rest_after left) found.2 ∙ (sym (rest_after-first left c.loop-step.rest.now found.0) ∙ c.loop-step.invariant.1 (suc left) (omega (arith, e))))

pub returns : goal.returns
returns c = sym (rest_after-zero c.loop-step.rest.now) ∙ c.loop-step.invariant.1 0 (omega arith)
