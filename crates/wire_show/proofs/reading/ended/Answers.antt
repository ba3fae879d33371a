use Rattle.std.proofs.Common.{arith, ◌∙◌, sym}
use Rattle.wire_show.proofs.Endings.{ended_unfinished, ended_whole}
use Rattle.wire_show.proofs.reading.ended.Goals as goal

pub returns-then-left-eq0 : goal.returns-then-left-eq0
returns-then-left-eq0 c = λ bytes text is within h.
    ended_whole c.args.decoder.now bytes text h (omega (arith, is, within)) (omega (arith, c.if-left-eq0.true, c.pending-left.ensures h.given.from h.given.rest h.given.stands))

pub returns-else-left-eq0 : goal.returns-else-left-eq0
returns-else-left-eq0 c = λ bytes text is within h.
    ended_unfinished c.args.decoder.now bytes text h c.pending-left.result c.saturating_sub.result (omega (arith, is, within))
    (c.pending-left.ensures h.given.from h.given.rest h.given.stands) (omega (arith, c.if-left-eq0.false)) (omega (arith, c.saturating_sub.ensures, is))
