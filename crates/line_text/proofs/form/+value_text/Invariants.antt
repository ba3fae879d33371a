use Rattle.std.proofs.Common.{◌≡◌, ◌++◌, ◌∷◌, [], drop, map}
use Rattle.line_text.specs.Forms.{value_text}
use Rattle.line_text.proofs.Listed.{listed}
use Rattle.line_text.proofs.form.+value_text.Given as goal

-- what is written, the items that are left and the bracket are the text before and the whole value
abbrev pub invariant-loop-item : goal.invariant-loop-item
invariant-loop-item g l =
    l.out.items ++ (listed l.separator (map (value_text (g.F.Form.form l.form)) (drop l.item-index l.item-items)) ++ 93 ∷ [])
    ≡ l.fn.out.items ++ value_text (g.F.Form.form l.form) l.value
