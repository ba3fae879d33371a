use Rattle.std.proofs.Common.{arith, sym, ap, ◌∙◌, ◌≡◌, ◌*ℤ◌, pos, to_z-of_z}
use Rattle.jiff_core.proofs.SignedLemmas.{signed_arith}
use Rattle.moments.specs.CivilTimes.{civil_at, civil_micros}
use Rattle.moments.proofs.CivilBack.{civil_back, real_is}
use Rattle.moments.proofs.KitCalendar.{micros_is, year_low, whole_micros}
use Rattle.moments.proofs.civil.civil_at.Goals as goal

pub civil_of-requires-clause-year : goal.civil_of-requires-clause-year
civil_of-requires-clause-year c = year_low c.datetime_at.result c.args.moment c.requires (c.datetime_at.ensures ∙ ap (λ z. z *ℤ pos 1000) (to_z-of_z c.ranges.moment))

pub civil_of-requires-clause-whole : goal.civil_of-requires-clause-whole
civil_of-requires-clause-whole c = whole_micros c.datetime_at.result c.args.moment (c.datetime_at.ensures ∙ ap (λ z. z *ℤ pos 1000) (to_z-of_z c.ranges.moment))

pub returns-clause-back : goal.returns-clause-back
returns-clause-back c = omega (arith, signed_arith, micros_is c.civil_of.result c.datetime_at.result c.civil_of.ensures.shows)

pub returns-clause-value : goal.returns-clause-value
returns-clause-value c =
    let back : civil_micros c.civil_of.result ≡ c.args.moment = returns-clause-back c in
    sym (civil_back c.civil_of.result (real_is c.civil_of.result c.civil_of.ensures.civil)) ∙ ap civil_at back
