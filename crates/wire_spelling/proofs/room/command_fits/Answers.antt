use Rattle.std.proofs.Common.{sym, subst}
use Rattle.std.specs.Prelude.{Bool, IsTrue, ◌↔◌}
use Rattle.wire_grammar.specs.Fits.{IsWithinLimits}
use Rattle.wire_spelling.proofs.Commands.{command_fits_is}
use Rattle.wire_spelling.proofs.room.command_fits.Goals as goal

pub returns : goal.returns
returns c =
    subst (λ (b : Bool). IsTrue b ↔ IsWithinLimits c.args.words.now) (sym c.is_some.ensures)
    (command_fits_is c.args.words.now c.command_length.result c.command_length.ensures.is c.command_length.ensures.within)
