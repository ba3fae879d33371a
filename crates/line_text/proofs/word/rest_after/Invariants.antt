use Rattle.std.proofs.Common.{◌≡◌, ◌+◌, ℕ}
use denote.Text.{Utf8}
use denote.Shadow.{shadow}
use Rattle.line_text.specs.Words.{rest_after}
use Rattle.line_text.proofs.word.rest_after.Given as goal

-- what stands after as many words as are left to pass is what was asked for
abbrev pub invariant-loop-step : goal.invariant-loop-step
invariant-loop-step l = shadow (Utf8 l.rest) × ((left : ℕ) → l.step + left ≡ l.count → rest_after left l.rest ≡ rest_after l.count l.line)
