use Rattle.std.proofs.Common.{rules, ap, refl, ◌∙◌, ◌≡◌, true, Some, to_z-of_z, FitsSigned, w64}
use Rattle.moments.specs.CivilTimes.{civil_micros, is_civil}
use Rattle.moments.proofs.KitCalendar.{micros_is}
use Rattle.moments.proofs.civil.micros_to.Goals as goal

pub micros_since-requires : goal.micros_since-requires
micros_since-requires c = (civil_micros c.args.shown, micros_is c.args.shown c.in_ok-found.found c.in_ok-found.ensures.value)

pub returns : goal.returns
returns c =
    let civil : is_civil c.args.shown ≡ true = c.in_ok-found.ensures.some.0 refl in
    let e = c.micros_since.ensures (civil_micros c.args.shown) (micros_is c.args.shown c.in_ok-found.found c.in_ok-found.ensures.value) in
    let fits : FitsSigned w64 c.micros_since.result = search rules in
    rw civil (ap Some (to_z-of_z fits ∙ e))
