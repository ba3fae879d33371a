use Rattle.std.proofs.Common.{Ok, ap, sym, ◌∙◌}
use Rattle.serde_json.specs.Data.{Data}
use Rattle.serde_json.specs.View.{view}
use Rattle.envelope.specs.Envelopes.{said_by, parts_or_none, priority_of}
use Rattle.envelope_trees.specs.Marks.{is_marked}
use Rattle.envelope.specs.Shown.{parts_view}
use Rattle.envelope.proofs.MarkedSaid.{said_marked, is_marked-marked, priority-marked}
use Rattle.envelope.proofs.redelivery.redelivered.Goals as goal

pub whole-requires-clause-said : goal.whole-requires-clause-said
whole-requires-clause-said c =
    let d = view c.e.inside.tree in
    let p = parts_view c.e.inside.found in
    ap said_by c.in_ok-tree.ensures ∙ said_marked d p c.e.invariant.said ∙ ap (λ q. Ok q) (sym c.in_ok-found.ensures)

pub returns-clause-is_marked : goal.returns-clause-is_marked
returns-clause-is_marked c =
    ap is_marked (c.whole.ensures ∙ c.in_ok-tree.ensures) ∙ is_marked-marked (view c.e.inside.tree) (parts_view c.e.inside.found) c.e.invariant.said

pub returns-clause-parts : goal.returns-clause-parts
returns-clause-parts c =
    let d = view c.e.inside.tree in
    let p = parts_view c.e.inside.found in
    ap (λ (x : Data). parts_or_none (said_by x)) (c.whole.ensures ∙ c.in_ok-tree.ensures) ∙ ap parts_or_none (said_marked d p c.e.invariant.said ∙ sym c.e.invariant.said) ∙ ap (λ t. parts_or_none (said_by (view t))) c.e.view_is

pub returns-clause-priority : goal.returns-clause-priority
returns-clause-priority c = ap priority_of (c.whole.ensures ∙ c.in_ok-tree.ensures) ∙ priority-marked (view c.e.inside.tree) ∙ ap (λ t. priority_of (view t)) c.e.view_is
