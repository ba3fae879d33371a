use Rattle.std.proofs.Common.{◌∙◌, ◌∷◌, [], sym}
use Rattle.manner_texts.proofs.words.says_two.Goals as goal

pub returns-in-Some : goal.returns-in-Some
returns-in-Some c = c.says_one.ensures ∙ sym (c.in-Some.ensures (c.args.second.now ∷ []))

pub returns-in-None : goal.returns-in-None
returns-in-None c = sym (c.in-None.ensures (c.args.second.now ∷ []))
