use Rattle.std.proofs.Common.{arith, drop, length, take, ◌+◌, ◌++◌, ◌≡◌, ◌<◌, ◌≤◌, sym, ap, subst, refl, ◌∙◌}
use Rattle.std.specs.Prelude.{None, Some}
use Rattle.std.proofs.lemmas.Grind.{common_steps}
use Rattle.std.proofs.lemmas.List.{length-take-le, take-append-le}
use Rattle.links.specs.Views.{sink_view, source_view}
use Rattle.wire_show.specs.Runs.{Drains}
use Rattle.wire_show.specs.Shows.{input_limit}
use Rattle.wire_show.proofs.Endings.{ends_read, failed_shown, piece_ended, piece_shown}
use Rattle.wire_show.proofs.Sources.{read_end, read_failed, took_none}
use Rattle.wire_show.proofs.reading.show_pieces.Goals as goal

pub returns-in_default-clause-shown : goal.returns-in_default-clause-shown
returns-in_default-clause-shown g c =
    let m = source_view g.S.Source.left g.S.Source.read_faults g.S.Source.ends c.pieces.src in
    let n = source_view g.S.Source.left g.S.Source.read_faults g.S.Source.ends c.read.new.self in
    let (bytes, lines, long, given, read, written) = c.pieces.invariant.shown in (
      bytes,
      lines,
      read_failed _ m n bytes read c.in_default.ensures.bytes c.in_default.ensures.end.failed c.in_default.ensures.cause.later c.in_default.ensures.cause.failed,
      failed_shown c.pieces.showing.decoder bytes lines given (omega (arith, long, c.pieces.invariant.within)),
      written,
    )

pub returns-then-count-eq0-clause-shown : goal.returns-then-count-eq0-clause-shown
returns-then-count-eq0-clause-shown g c =
    let m = source_view g.S.Source.left g.S.Source.read_faults g.S.Source.ends c.pieces.src in
    let n = source_view g.S.Source.left g.S.Source.read_faults g.S.Source.ends c.read.new.self in
    let none : c.in-Ok.count ≡ 0 = omega (arith, c.if-count-eq0.true) in
    let (bytes, lines, long, given, read, written) = c.pieces.invariant.shown in
    let e = c.ended.ensures bytes lines long c.pieces.invariant.within given in
    let end = ends_read _ n bytes lines c.ended.result e
    (read_end _ m n bytes read (take c.in-Ok.count c.read.new.into) (took_none c.in-Ok.count c.read.new.into none) c.in-Ok.ensures.bytes.0
    (c.in-Ok.ensures.bytes.1 none (grind (arith, common_steps))) (c.in-Ok.ensures.end.risen none (grind (arith, common_steps))) c.in-Ok.ensures.end.later c.in-Ok.ensures.cause.kept) in
    (bytes, lines, end.0, end.1, end.2 _ _ written)

pub returns-in-Some-clause-shown : goal.returns-in-Some-clause-shown
returns-in-Some-clause-shown g c =
    let m = source_view g.S.Source.left g.S.Source.read_faults g.S.Source.ends c.pieces.src in
    let n = source_view g.S.Source.left g.S.Source.read_faults g.S.Source.ends c.read.new.self in
    let k = sink_view g.K.Sink.taken g.K.Sink.write_faults c.pieces.out in
    let x = sink_view g.K.Sink.taken g.K.Sink.write_faults c.take.new.out in
    let got = take c.in-Ok.count c.read.new.into in
    let some : 0 < c.in-Ok.count = omega (arith, c.if-count-eq0.false) in
    let size : length got ≡ c.in-Ok.count = length-take-le c.in-Ok.count c.read.new.into (omega (arith, c.in-Ok.ensures.bound)) in
    let within : c.pieces.taken + c.in-Ok.count ≤ input_limit = grind (arith, common_steps) in
    let piece : take c.in-Ok.count (c.read.new.into ++ drop c.min-want.result c.pieces.room) ≡ got = take-append-le c.in-Ok.count c.read.new.into _ (omega (arith, c.in-Ok.ensures.bound)) in
    let (bytes, lines, long, given, read, written) = c.pieces.invariant.shown in
    let drained = subst (λ p. Drains c.take.new.self.decoder (bytes ++ p) lines k x (Some c.in-Some.end)) piece (c.in-Some.ensures.drains bytes lines given.given) in
    piece_ended _ m n _ k x c.pieces.showing.decoder c.take.new.self.decoder bytes lines read written got c.in-Ok.ensures.bytes.0 (c.in-Ok.ensures.end.moved some) c.in-Ok.ensures.cause.kept
    (omega (arith, size, long, within)) c.in-Some.end drained

pub pieces-preserved : goal.pieces-preserved
pieces-preserved g c =
    let m = source_view g.S.Source.left g.S.Source.read_faults g.S.Source.ends c.pieces.src in
    let n = source_view g.S.Source.left g.S.Source.read_faults g.S.Source.ends c.read.new.self in
    let k = sink_view g.K.Sink.taken g.K.Sink.write_faults c.pieces.out in
    let x = sink_view g.K.Sink.taken g.K.Sink.write_faults c.take.new.out in
    let got = take c.in-Ok.count c.read.new.into in
    let some : 0 < c.in-Ok.count = omega (arith, c.if-count-eq0.false) in
    let size : length got ≡ c.in-Ok.count = length-take-le c.in-Ok.count c.read.new.into (omega (arith, c.in-Ok.ensures.bound)) in
    let within : c.pieces.taken + c.in-Ok.count ≤ input_limit = grind (arith, common_steps) in
    let piece : take c.in-Ok.count (c.read.new.into ++ drop c.min-want.result c.pieces.room) ≡ got = take-append-le c.in-Ok.count c.read.new.into _ (omega (arith, c.in-Ok.ensures.bound)) in
    let (bytes, lines, long, given, read, written) = c.pieces.invariant.shown in
    let drained = subst (λ p. Drains c.take.new.self.decoder (bytes ++ p) lines k x None) piece (c.in_default-take.ensures.drains bytes lines given.given) in
    let (all, shown, longer, gave, so_far, wrote) = piece_shown _ m n _ k x c.pieces.showing.decoder c.take.new.self.decoder bytes lines read written got c.in-Ok.ensures.bytes.0 (c.in-Ok.ensures.end.moved some) c.in-Ok.ensures.cause.kept
    (omega (arith, size, long, within)) drained in
    record {
      within = within;
      room = grind (arith, common_steps);
      empty = c.in_default-take.ensures.none refl;
      shown = (all, shown, omega (arith, longer, size, long), gave, so_far, wrote);
    }
