use Rattle.std.proofs.Common.{◌≡◌, lit<, None, false, ◌==◌, sym, ◌∙◌}
use Rattle.std.specs.List.{list_any}
use Rattle.std.proofs.lemmas.Str.Pattern.{split_once_first}
use Rattle.crontabs.proofs.Words.{no_byte}
use Rattle.crontabs.proofs.parts.plain_in.Goals as goal

pub returns-in-None : goal.returns-in-None
returns-in-None c =
    let none : list_any (λ b. b == 45) c.args.part.now ≡ false = no_byte 45 c.args.part.now (split_once_first 45 c.args.part.now None c.in-None.ensures.cases (lit< tt)) in
    rw (sym c.eq.ensures ∙ c.if-eq.false, none) c.single_number.ensures
