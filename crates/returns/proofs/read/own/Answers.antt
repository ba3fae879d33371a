use Rattle.std.proofs.Common.{ap, sym, ◌∙◌}
use Rattle.serde_json.specs.View.{view as data_of}
use Rattle.envelope.specs.Envelopes.{envelope_at}
use Rattle.envelope.specs.ShownEntry.{entry_view}
use Rattle.returns.specs.Spots.{ask_left, tried_left}
use Rattle.returns.specs.declared.carried.Carried.{Carried}
use Rattle.returns.proofs.Entries.{named_left, plain_left}
use Rattle.returns.proofs.Points.{of_lookup}
use Rattle.returns.proofs.read.own.Goals as goal

pub returns-then-is_empty-clause-left : goal.returns-then-is_empty-clause-left
returns-then-is_empty-clause-left c =
    of_lookup c.looked_up.result c.args.aim (entry_view c.args.entry.now) c.in_ok-new.field-0.value c.in_ok-carried.carried c.looked_up.ensures.left c.in_ok-new.ensures.ok
    (λ ended stuck u read. plain_left ended stuck c.args.aim u (entry_view c.args.entry.now) (data_of c.args.envelope.now) read c.requires.marked (ap envelope_at (sym c.text-text.ensures.value) ∙ c.text-text.ensures.again)
    c.requires.own c.requires.priority c.in_ok-carried.carried c.in_ok-carried.ensures (c.is_empty.ensures.0 c.if-is_empty.true))

pub returns-clause-left : goal.returns-clause-left
returns-clause-left c ended stuck u read =
    ap (tried_left ended stuck) c.at.ensures
    ∙ ap (λ (x : Carried). ask_left ended stuck c.args.aim x) c.in_ok-new-2.ensures.ok
    ∙ named_left ended stuck c.args.aim u (entry_view c.args.entry.now) (data_of c.args.envelope.now) read c.requires.marked (ap envelope_at (sym c.text-text.ensures.value) ∙ c.text-text.ensures.again)
    c.requires.own c.requires.priority c.in_ok-carried.carried c.in_ok-carried.ensures (λ none. absurd (cc (sym (c.is_empty.ensures.1 none) ∙ c.if-is_empty.false)))
