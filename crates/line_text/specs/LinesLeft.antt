-- The lines that a cursor hasn't given yet. Serves the proofs of code.
use Rattle.std.specs.Prelude.{ℕ, List}
use Rattle.line_text.specs.declared.line.Lines.{Lines}
use Rattle.line_text.specs.Lines.{lines_of, numbered}

-- the lines that are left, with their numbers
abbrev pub lines_left : Lines → List (ℕ × List ℕ)
lines_left lines = numbered lines.number (lines_of lines.rest.now)
