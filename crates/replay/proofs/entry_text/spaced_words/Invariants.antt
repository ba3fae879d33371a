use Rattle.std.proofs.Common.{◌≡◌, ◌++◌, take}
use Rattle.std.specs.Prelude.{codes}
use Rattle.std.specs.List.{flat_map}
use Rattle.line_text.specs.Short.{short_word}
use Rattle.replay.proofs.entry_text.spaced_words.Given as goal

abbrev pub invariant-loop-word : goal.invariant-loop-word
invariant-loop-word g l = l.out.items ≡ l.initial.out.items ++ flat_map (λ word. codes " " ++ short_word (g.L.Legend.shape l.legend) word) (take l.word-index l.words)
