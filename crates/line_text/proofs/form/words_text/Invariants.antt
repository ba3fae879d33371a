use Rattle.std.proofs.Common.{◌≡◌, ◌++◌, take}
use Rattle.line_text.specs.Forms.{words_text}
use Rattle.line_text.proofs.form.words_text.Given as goal

abbrev pub invariant-loop-word : goal.invariant-loop-word
invariant-loop-word g l = l.out.items ≡ l.initial.out.items ++ words_text (g.F.Form.form l.form) (take l.word-index l.words)
