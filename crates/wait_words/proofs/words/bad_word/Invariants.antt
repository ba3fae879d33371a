use Rattle.std.proofs.Common.{drop, map, take, ◌≡◌}
use Rattle.wait_words.specs.Words.{bad_after, bad_wait_place}
use Rattle.wait_words.proofs.words.bad_word.Given as goal

-- what is left of the words, after those that were passed, tells the first bad one
abbrev pub invariant-words : goal.invariant-words
invariant-words l = bad_after (take l.place (map (λ w. w.now) l.words)) (drop l.place (map (λ w. w.now) l.words)) ≡ bad_wait_place (map (λ w. w.now) l.words)
