use Rattle.std.proofs.Common.{◌≡◌, ◌≤◌, ℕ, List, length, Some, None, refl, ap, ◌∙◌, arith, Bool, true, false}
use Rattle.std.proofs.lemmas.Grind.{common_steps}
use Rattle.std.proofs.lemmas.Str.{is_utf8-from_IsUtf8, IsUtf8-from_is_utf8}
use Rattle.std.specs.Prelude.{if◌then◌else◌, nat_lt}
use Rattle.std.specs.Str.{IsUtf8, is_utf8}
use Rattle.line_text.specs.Lines.{text_fault}
use Rattle.line_text.specs.declared.reason.Reason.TheVariants.{Long, Text}
use Rattle.line_text.proofs.line.line_text.Goals as goal

-- a line within the limit is looked at as UTF-8
within : (limit : ℕ) (line : List ℕ) → length line ≤ limit → text_fault limit line ≡ (if is_utf8 line then None else Some Text)
within limit line h = by (nat_lt limit (length line)) (grind (arith, common_steps, h)) where
  by : (b : Bool) → b ≡ false → (if b then Some Long else if is_utf8 line then None else Some Text) ≡ (if is_utf8 line then None else Some Text)
  by true e = absurd (cc)
  by false e = refl

lawful : (limit : ℕ) (line : List ℕ) → length line ≤ limit → IsUtf8 line → text_fault limit line ≡ None
lawful limit line h u = within limit line h ∙ ap (λ b. if b then None else Some Text) (is_utf8-from_IsUtf8 line u)

unlawful : (limit : ℕ) (line : List ℕ) → length line ≤ limit → (IsUtf8 line → ⊥) → text_fault limit line ≡ Some Text
unlawful limit line h u = within limit line h ∙ by (is_utf8 line) refl where
  by : (b : Bool) → is_utf8 line ≡ b → (if b then None else Some Text) ≡ Some Text
  by true e = absurd (u (IsUtf8-from_is_utf8 line e))
  by false e = refl

pub returns-in-Ok : goal.returns-in-Ok
returns-in-Ok c = (lawful c.args.limit c.args.line.now c.if-line-limit.false c.in-Ok.ensures.cases.1, c.in-Ok.ensures.cases.0)

pub returns-in-Err : goal.returns-in-Err
returns-in-Err c = unlawful c.args.limit c.args.line.now c.if-line-limit.false c.in-Err.ensures.cases.0
