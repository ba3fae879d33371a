use Rattle.std.proofs.Common.{◌≡◌, pos, ◌≤ℤ◌, ap, ◌∙◌, to_z, of_z, w16, sym, subst, arith}
use Rattle.std.specs.Prelude.{unsigned_abs}
use Rattle.jiff_core.proofs.SignedLemmas.{back_small, signed_arith}
use Rattle.moments.proofs.CivilBack.{is_real, real_of}
use Rattle.moments.proofs.KitCalendar.{size_is, small_is}
use Rattle.moments.proofs.civil.civil_of.Goals as goal

pub returns-clause-civil : goal.returns-clause-civil
returns-clause-civil c =
    let p = c.to_plain-plain.result in
    let low : pos 1 ≤ℤ p.date.year = subst (λ d. pos 1 ≤ℤ d.date.year) (sym c.to_plain-plain.ensures) c.requires.year in
    let back = back_small w16 p.date.year (small_is p.date.year low p.date.year_in.1) in
    let year : p.date.year ≡ pos (unsigned_abs (to_z w16 (of_z w16 p.date.year))) = size_is p.date.year low ∙ ap (λ z. pos (unsigned_abs z)) (sym back) in
    is_real _ (real_of p _ _ year (omega (arith, signed_arith, low, year)) (omega (arith, p.time.subsec_in)))
