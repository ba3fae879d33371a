use Rattle.std.proofs.Common.{◌∙◌, ap, subst, sym}
use Rattle.lookups.specs.Runs.{IsPassing}
use Rattle.lookups.specs.WordsLeft.{told}
use Rattle.lookups.proofs.Runs.{hash_found, text_is_left, word_found}
use Rattle.lookups.proofs.patterns.pass_words.Goals as goal

pub returns-then-are_same : goal.returns-then-are_same
returns-then-are_same c = hash_found (told c.args.pattern) (told c.args.key) c.in-Some.text.now c.first_word.result.0.now (told c.first_word.result.1) (told c.words.left)
    (subst (λ o. IsPassing (told c.args.pattern) (told c.args.key) (told o) (told c.words.left)) c.in-Some.is c.words.invariant)
    c.first_word.ensures.words c.first_word.ensures.shorter (sym c.are_same.ensures ∙ c.if-are_same.true)

pub words-preserved : goal.words-preserved
words-preserved c = word_found (told c.args.pattern) (told c.args.key) c.in-Some.text.now c.first_word.result.0.now (told c.first_word.result.1) (told c.words.left)
    (subst (λ o. IsPassing (told c.args.pattern) (told c.args.key) (told o) (told c.words.left)) c.in-Some.is c.words.invariant)
    c.first_word.ensures.words c.first_word.ensures.shorter
    c.in-Some-left.key_text.now c.first_word-in-Some.result.0.now (told c.first_word-in-Some.result.1) (ap told c.in-Some-left.is) c.first_word-in-Some.ensures.words (sym c.are_same.ensures ∙ c.if-are_same.false)
    (sym c.word_passes.ensures ∙ c.if-not-word_passes.false) c.first_word-in-Some.ensures.shorter

pub returns-in-Some-left-2 : goal.returns-in-Some-left-2
returns-in-Some-left-2 c = text_is_left (told c.args.pattern) (told c.args.key) (told c.words.words) (told c.words.left) c.in-Some-left-2.field-0.now c.words.invariant (ap told c.in_default.is) (ap told c.in-Some-left-2.is)
