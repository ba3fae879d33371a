use Rattle.std.proofs.Common.{arith, length, take, ◌≡◌, ◌<◌, sym, ◌∙◌}
use Rattle.std.proofs.lemmas.Grind.{common_steps}
use Rattle.std.proofs.lemmas.List.{length-take-le}
use Rattle.links.specs.Views.{source_view}
use Rattle.wire_show.proofs.Endings.{ends_read, ends_read_held, long_shown}
use Rattle.wire_show.proofs.Sources.{read_end, read_past, took_none}
use Rattle.wire_show.proofs.reading.read_past.Goals as goal

pub returns-then-count-eq0 : goal.returns-then-count-eq0
returns-then-count-eq0 g c =
    let m = source_view g.S.Source.left g.S.Source.read_faults g.S.Source.ends c.args.src.now in
    let n = source_view g.S.Source.left g.S.Source.read_faults g.S.Source.ends c.read.new.self in
    let none : c.in-Ok.count ≡ 0 = omega (arith, c.if-count-eq0.true) in
    λ first bytes text so_far full h old new.
    let e = c.ended.ensures bytes text full (omega arith) h in
    let end = ends_read first n bytes text c.ended.result e
    (read_end first m n bytes so_far (take c.in-Ok.count c.read.new.into) (took_none c.in-Ok.count c.read.new.into none) c.in-Ok.ensures.bytes.0
    (c.in-Ok.ensures.bytes.1 none (grind (arith, common_steps))) (c.in-Ok.ensures.end.risen none (grind (arith, common_steps))) c.in-Ok.ensures.end.later c.in-Ok.ensures.cause.kept) in
    (bytes, end.0, end.1, end.2 old new, ends_read_held bytes text c.ended.result e)

pub returns-else-count-eq0 : goal.returns-else-count-eq0
returns-else-count-eq0 g c =
    let m = source_view g.S.Source.left g.S.Source.read_faults g.S.Source.ends c.args.src.now in
    let n = source_view g.S.Source.left g.S.Source.read_faults g.S.Source.ends c.read.new.self in
    let got = take c.in-Ok.count c.read.new.into in
    let some : 0 < c.in-Ok.count = omega (arith, c.if-count-eq0.false) in
    let room : length c.read.new.into ≡ 1 = grind (arith, common_steps) in
    let one : length got ≡ 1 = omega (arith, length-take-le c.in-Ok.count c.read.new.into (omega (arith, c.in-Ok.ensures.bound)), some, room, c.in-Ok.ensures.bound) in
    λ first bytes text so_far full h old new. (
      _,
      read_past first m n bytes so_far got c.in-Ok.ensures.bytes.0 (c.in-Ok.ensures.end.moved some) c.in-Ok.ensures.cause.kept full one,
      long_shown c.args.decoder.now bytes text h got full one,
      λ w. w,
      λ is. cc is,
    )
