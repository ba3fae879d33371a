use Rattle.std.proofs.Common.{[], ◌++◌, ap, append-nil, append_assoc, refl, subst, sym, ◌∙◌}
use Rattle.std.proofs.KnownBytes.{Appends-nil}
use Rattle.links.specs.Views.{sink_view}
use Rattle.wire_show.specs.Runs.{AreLinesOf, HasFaultAfter, HasGivenAll, HasGivenLines}
use Rattle.wire_show.proofs.Showings.{lines_of_gives}
use Rattle.wire_show.proofs.Sources.{cut_more, written_more}
use Rattle.wire_show.proofs.showing.Showing.drain.Goals as goal

pub lines-init : goal.lines-init
lines-init g c = record {
  empty = c.requires;
  given = λ stream text h. ([], subst (HasGivenLines c.args.self.now.decoder stream) (sym (append-nil text)) h, (Appends-nil _, refl));
}

pub lines-preserved : goal.lines-preserved
lines-preserved g c =
    let d = c.lines.self.decoder in
    let e = c.gather-next.new.self.decoder in
    let b = c.gather-next.new.self.lines.ready.items in
    record {
      empty = c.in-Ok.ensures.none;
      given = λ stream text h.
          let (more, given, written) = c.lines.invariant.given stream text h in
          let start = subst (HasGivenLines d stream) (sym (ap (λ l. (text ++ more) ++ l) c.lines.invariant.empty ∙ append-nil (text ++ more))) given in (
            more ++ b,
            subst (HasGivenLines e stream) (append_assoc text more b) (c.in-Added.ensures.gives stream (text ++ more) start),
            written_more _ _ _ more b written c.in-Ok.ensures.ok c.in-Ok.ensures.cause.kept,
          );
    }

pub returns-in-Front-clause-drains : goal.returns-in-Front-clause-drains
returns-in-Front-clause-drains g c =
    let d = c.lines.self.decoder in
    let e = c.gather-next.new.self.decoder in
    let b = c.gather-next.new.self.lines.ready.items in
    λ stream text h.
    let (more, given, written) = c.lines.invariant.given stream text h in
    let start = subst (HasGivenLines d stream) (sym (ap (λ l. (text ++ more) ++ l) c.lines.invariant.empty ∙ append-nil (text ++ more))) given in (
      more ++ b,
      subst (HasGivenAll e stream) (append_assoc text more b) (c.in-Front.ensures.gives stream (text ++ more) start),
      written_more _ _ _ more b written c.in-Ok.ensures.ok c.in-Ok.ensures.cause.kept,
    )

pub returns-in-Bad-clause-drains : goal.returns-in-Bad-clause-drains
returns-in-Bad-clause-drains g c =
    let d = c.lines.self.decoder in
    let b = c.gather-next.new.self.lines.ready.items in
    λ stream text h.
    let (more, given, written) = c.lines.invariant.given stream text h in
    let start = subst (HasGivenLines d stream) (sym (ap (λ l. (text ++ more) ++ l) c.lines.invariant.empty ∙ append-nil (text ++ more))) given in (
      more ++ b,
      subst (λ l. HasFaultAfter stream l c.in-Bad.kind c.in-Bad.place) (append_assoc text more b) (c.in-Bad.ensures.gives stream (text ++ more) start),
      written_more _ _ _ more b written c.in-Ok.ensures.ok c.in-Ok.ensures.cause.kept,
    )

pub returns-in-Memory-clause-drains : goal.returns-in-Memory-clause-drains
returns-in-Memory-clause-drains g c =
    let d = c.lines.self.decoder in
    let b = c.gather-next.new.self.lines.ready.items in
    λ stream text h.
    let (more, given, written) = c.lines.invariant.given stream text h in
    let start = subst (HasGivenLines d stream) (sym (ap (λ l. (text ++ more) ++ l) c.lines.invariant.empty ∙ append-nil (text ++ more))) given in (
      more ++ b,
      subst (AreLinesOf stream) (append_assoc text more b) (c.in-Memory.ensures.gives stream (text ++ more) start),
      written_more _ _ _ more b written c.in-Ok.ensures.ok c.in-Ok.ensures.cause.kept,
    )

pub returns-in-Err-clause-drains : goal.returns-in-Err-clause-drains
returns-in-Err-clause-drains g c =
    let d = c.lines.self.decoder in
    let e = c.gather-next.new.self.decoder in
    let b = c.gather-next.new.self.lines.ready.items in
    λ stream text h.
    let (more, given, written) = c.lines.invariant.given stream text h in
    let start = subst (HasGivenLines d stream) (sym (ap (λ l. (text ++ more) ++ l) c.lines.invariant.empty ∙ append-nil (text ++ more))) given in (
      more ++ b,
      subst (AreLinesOf stream) (append_assoc text more b) (lines_of_gives e stream ((text ++ more) ++ b) c.gather-next.result (c.gather-next.ensures.gives stream (text ++ more) start)),
      cut_more _ _ (sink_view g.K.Sink.taken g.K.Sink.write_faults c.write.new.out) more b written (c.in-Err.ensures.err, c.in-Err.ensures.cause.later, c.in-Err.ensures.cause.failed),
    )
