use Rattle.std.proofs.Common.{◌≡◌, lit<, None, false, ◌==◌}
use Rattle.std.specs.List.{list_any}
use Rattle.std.proofs.lemmas.Str.Pattern.{split_once_first}
use Rattle.crontabs.proofs.Words.{no_byte}
use Rattle.crontabs.proofs.parts.field_part.Goals as goal

pub returns-in-None : goal.returns-in-None
returns-in-None c =
    let none : list_any (λ b. b == 47) c.args.part.now ≡ false = no_byte 47 c.args.part.now (split_once_first 47 c.args.part.now None c.in-None.ensures.cases (lit< tt)) in
    rw none c.plain_in.ensures
