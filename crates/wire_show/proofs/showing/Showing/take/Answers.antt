use Rattle.std.proofs.Common.{[], ◌++◌, append-nil, refl, subst, sym}
use Rattle.std.proofs.KnownBytes.{Appends-nil}
use Rattle.wire_show.specs.Runs.{AreLinesOf}
use Rattle.wire_show.proofs.Showings.{fed, lines_of_given, lines_of_more}
use Rattle.wire_show.proofs.showing.Showing.take.Goals as goal

pub returns-in-Ok-clause-drains : goal.returns-in-Ok-clause-drains
returns-in-Ok-clause-drains g c =
    λ stream text h. c.drain.ensures.drains (stream ++ c.args.piece.now) text (fed c.args.self.now.decoder c.feed.new.self stream text h c.args.piece.now c.in-Ok.ensures.ok)

pub returns-in-Err-clause-drains : goal.returns-in-Err-clause-drains
returns-in-Err-clause-drains g c =
    λ stream text h. (
      [],
      subst (AreLinesOf (stream ++ c.args.piece.now)) (sym (append-nil text)) (lines_of_more stream c.args.piece.now text (lines_of_given c.args.self.now.decoder stream text h)),
      (Appends-nil _, refl),
    )
