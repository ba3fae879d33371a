use Rattle.std.proofs.Common.{arith, length-append, rules, subst, sym, true, ap, length, [], ◌∙◌, ◌∷◌, ◌≡◌}
use Rattle.std.proofs.KnownBytes.{Keeps-trans}
use Rattle.link_desk.specs.PushedValues.{ArePushed, is_pushed}
use Rattle.link_desk.proofs.Gathered.{gathered_cut, gathered_more, gathered_over, gathered_whole, pushed_more}
use Rattle.link_desk.proofs.replying.gather.Goals as goal

pub returns-in-Err-clause-gathers : goal.returns-in-Err-clause-gathers
returns-in-Err-clause-gathers g c = λ before rest s.
    let i = c.values.invariant in
    gathered_cut before rest (g.L.Link.received c.args.link.now) (g.L.Link.received c.values.link) (g.L.Link.received c.next.new.link) c.values.hearing.decoder c.next.new.self.decoder c.values.pushed (i.gathered before rest s) c.in-Err.fault c.in-Err.ensures.value i.pushed i.few

pub returns-then-not-is_pushed-clause-gathers : goal.returns-then-not-is_pushed-clause-gathers
returns-then-not-is_pushed-clause-gathers g c = λ before rest s.
    gathered_whole before rest (g.L.Link.received c.args.link.now) (g.L.Link.received c.values.link) (g.L.Link.received c.next.new.link) c.values.hearing.decoder c.next.new.self.decoder c.values.pushed (c.values.invariant.gathered before rest s) c.in-Ok.value c.in-Ok.ensures.value

pub values-preserved : goal.values-preserved
values-preserved g c =
    let i = c.values.invariant in
    let v = c.in-Ok.value in
    let is : is_pushed v ≡ true = search rules in
    let kept = c.in-Ok-keep.ensures in
    record {
      gathered = λ before rest s. gathered_more before rest (g.L.Link.received c.args.link.now) (g.L.Link.received c.values.link) (g.L.Link.received c.next.new.link) c.values.hearing.decoder c.next.new.self.decoder c.values.pushed (i.gathered before rest s) v c.in-Ok.ensures.value c.keep.new.pushed kept.0;
      pushed = subst ArePushed (sym kept.0) (pushed_more c.values.pushed v i.pushed is);
      few = omega (arith, kept.1, ap length kept.0, length-append c.values.pushed (v ∷ []));
      sent = Keeps-trans _ _ _ i.sent c.in-Ok.ensures.sent;
      faults = c.in-Ok.ensures.cause.0 ∙ i.faults;
      ends = c.in-Ok.ensures.cause.1 ∙ i.ends;
    }

pub returns-in-Err-keep-clause-gathers : goal.returns-in-Err-keep-clause-gathers
returns-in-Err-keep-clause-gathers g c = λ before rest s.
    let i = c.values.invariant in
    let is : is_pushed c.in-Ok.value ≡ true = search rules in
    gathered_over before rest (g.L.Link.received c.args.link.now) (g.L.Link.received c.values.link) (g.L.Link.received c.next.new.link) c.values.hearing.decoder c.next.new.self.decoder c.values.pushed (i.gathered before rest s) c.in-Ok.value c.in-Ok.ensures.value c.keep.new.pushed c.in-Err-keep.fault i.pushed i.few is c.in-Err-keep.ensures
