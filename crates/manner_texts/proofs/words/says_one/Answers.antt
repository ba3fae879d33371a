use Rattle.std.proofs.Common.{◌∙◌, ◌∷◌, [], sym}
use Rattle.manner_texts.proofs.words.says_one.Goals as goal

pub returns-in-Some : goal.returns-in-Some
returns-in-Some c = c.are_none.ensures ∙ sym (c.in-Some.ensures ([]))

pub returns-in-None : goal.returns-in-None
returns-in-None c = sym (c.in-None.ensures ([]))
