use Rattle.std.proofs.Common.{◌≡◌, ◌≤◌, ℕ, length, true, false, ap, ◌∙◌, arith}
use Rattle.std.specs.Prelude.{nat_le}
use Rattle.std.proofs.lemmas.Bool.Decides.{nat_tests}
use Rattle.serde_json.specs.Data.{Data}
use Rattle.serde_json.specs.Written.{compact_text, has_float}
use Rattle.serde_json.specs.View.{view as data_of}
use Rattle.envelope.specs.Envelopes.{max_text}
use Rattle.envelope_trees.specs.Marks.{marked}
use Rattle.envelope_trees.proofs.Kept.{float-marked}
use Rattle.envelope_trees.proofs.Lengths.{marked_length}
use Rattle.envelope.proofs.reading.fits_marked.Goals as goal

-- marks add so little that a short text stays short
stays_short : (d : Data) (n : ℕ) → n ≡ length (compact_text d) → n ≤ 999962 → true ≡ nat_le (length (compact_text (marked d))) max_text
stays_short d n e h =
    let short : length (compact_text (marked d)) ≤ 1000000 = omega (arith, marked_length d) in
    grind (arith, nat_tests)

pub returns-then-size : goal.returns-then-size
returns-then-size c = λ whole sized. stays_short (data_of c.args.tree.now) c.args.size sized (omega arith)

pub returns : goal.returns
returns c = λ whole sized.
    let none : has_float (data_of c.in_ok-copy.copy) ≡ false = ap has_float c.in_ok-copy.ensures ∙ float-marked (data_of c.args.tree.now) whole in
    ap (λ (n : ℕ). nat_le n 1000000) (c.len.ensures ∙ ap length (c.in_ok-text.ensures.text none) ∙ ap (λ (d : Data). length (compact_text d)) c.in_ok-copy.ensures)
