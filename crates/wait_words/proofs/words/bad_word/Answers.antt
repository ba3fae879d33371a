use Rattle.std.proofs.Common.{◌∙◌, sym}
use Rattle.wait_words.proofs.BadWords.{passed_at, refused_at}
use Rattle.wait_words.proofs.words.bad_word.Goals as goal

pub returns-then-not-can_stand : goal.returns-then-not-can_stand
returns-then-not-can_stand c = refused_at (λ w. w.now) c.args.words.now c.words.place _ c.words-test.true (sym c.can_stand.ensures ∙ c.if-not-can_stand.true) c.words.invariant

pub words-preserved : goal.words-preserved
words-preserved c = passed_at (λ w. w.now) c.args.words.now c.words.place _ c.words-test.true (sym c.can_stand.ensures ∙ c.if-not-can_stand.false) ∙ c.words.invariant
