use Rattle.std.proofs.Common.{◌∙◌, ◌∷◌, ap, sym, take}
use Rattle.queue_keys.specs.Patterns.{dotted_words}
use Rattle.lookups.proofs.Dots.{word_none, word_some}
use Rattle.lookups.proofs.patterns.first_word.Goals as goal

pub returns-in-Some-clause-words : goal.returns-in-Some-clause-words
returns-in-Some-clause-words c = word_some c.args.text.now c.in-Some.place (sym c.in-Some.ensures) ∙ ap (λ t. take c.in-Some.place c.args.text.now ∷ dotted_words t) (sym c.after.ensures.rest)

pub returns-in-None-clause-words : goal.returns-in-None-clause-words
returns-in-None-clause-words c = word_none c.args.text.now (sym c.in-None.ensures)
