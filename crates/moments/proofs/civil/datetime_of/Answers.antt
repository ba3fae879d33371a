use Rattle.std.proofs.Common.{◌*◌, arith, sym, ◌∙◌, w8, w16, w32}
use Rattle.std.proofs.lemmas.Int.{to_z_pos}
use Rattle.moments.proofs.CivilBack.{is_real, parts_real, real_is, real_parts}
use Rattle.moments.proofs.civil.datetime_of.Goals as goal

pub returns-clause-some : goal.returns-clause-some
returns-clause-some c =
    let s = c.args.shown in
    let y = to_z_pos w16 s.year (omega (arith, c.requires.short.year)) in
    let m = to_z_pos w8 s.month (omega (arith, c.requires.short.month)) in
    let d = to_z_pos w8 s.day (omega (arith, c.requires.short.day)) in
    let h = to_z_pos w8 s.hour (omega (arith, c.requires.short.hour)) in
    let n = to_z_pos w8 s.minute (omega (arith, c.requires.short.minute)) in
    let e = to_z_pos w8 s.second (omega (arith, c.requires.short.second)) in
    let f = to_z_pos w32 (s.micros * 1000) (omega (arith, c.requires.short.micros)) in
    let k = rw (y, m, d, h, n, e, f) at c.new-made.ensures.succeeds in (
      λ some. is_real s (parts_real s c.requires.short c.requires.year (k.0 (sym c.ok.ensures.variant ∙ some))),
      λ civil. c.ok.ensures.variant ∙ k.1 (real_parts s (real_is s civil)),
    )
