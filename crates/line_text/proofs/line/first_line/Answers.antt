use Rattle.std.proofs.Common.{◌≡◌, ℕ, ◌+◌, ◌-◌, List, ◌∷◌, length, take, drop, Some, ap, sym, ◌∙◌, subst}
use Rattle.std.proofs.lemmas.List.{take_rest}
use Rattle.std.specs.Prelude.{◌==◌}
use Rattle.std.specs.List.{position, position_or_len, before_first}
use Rattle.line_text.specs.Lines.{lines_of}
use Rattle.line_text.proofs.Cuts.{lines_of-first, lines_of-last, place_some, place_none}
use Rattle.line_text.proofs.line.first_line.Goals as goal

-- the text is cut at its first line feed
cut : (text : List ℕ) (end : ℕ) → Some end ≡ position (λ b. b == 10) text → lines_of text ≡ take end text ∷ lines_of (take (length text - (end + 1)) (drop (end + 1) text))
cut text end h =
    let found = place_some (λ b. b == 10) text end h in
    subst (λ n. lines_of text ≡ take n text ∷ lines_of (take (length text - (n + 1)) (drop (n + 1) text))) (sym found.0)
    (lines_of-first text found.1 ∙ ap (λ rest. before_first (λ b. b == 10) text ∷ lines_of rest) (sym (take_rest text (position_or_len (λ b. b == 10) text + 1))))

pub returns-in-Some-clause-lines : goal.returns-in-Some-clause-lines
returns-in-Some-clause-lines c = cut c.args.text.now c.in-Some.end c.in-Some.ensures

pub returns-in-None-clause-lines : goal.returns-in-None-clause-lines
returns-in-None-clause-lines c = lines_of-last c.args.text.now c.requires (place_none (λ b. b == 10) c.args.text.now c.in-None.ensures)
