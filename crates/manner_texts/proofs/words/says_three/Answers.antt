use Rattle.std.proofs.Common.{◌∙◌, ◌∷◌, [], sym}
use Rattle.manner_texts.proofs.words.says_three.Goals as goal

pub returns-in-Some : goal.returns-in-Some
returns-in-Some c = c.says_two.ensures ∙ sym (c.in-Some.ensures (c.args.second.now ∷ c.args.third.now ∷ []))

pub returns-in-None : goal.returns-in-None
returns-in-None c = sym (c.in-None.ensures (c.args.second.now ∷ c.args.third.now ∷ []))
