use Rattle.std.proofs.Common.{sym, subst}
use Rattle.std.specs.Prelude.{Bool, IsTrue, ◌↔◌}
use Rattle.wire_grammar.specs.Fits.{HasSpelling}
use Rattle.wire_spelling.proofs.Fitting.{fits_is}
use Rattle.wire_spelling.proofs.room.fits.Goals as goal

pub returns : goal.returns
returns c =
    subst (λ (b : Bool). IsTrue b ↔ HasSpelling c.args.value.now) (sym c.is_some.ensures)
    (fits_is c.args.value.now c.spelled_length.result c.spelled_length.ensures.is c.spelled_length.ensures.within)
