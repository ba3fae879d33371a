use Rattle.std.proofs.Common.{ap, ◌∙◌}
use Rattle.returns.specs.Spots.{carried_keys, tried_left}
use Rattle.returns.specs.declared.carried.Carried.{Carried}
use Rattle.returns.proofs.Entries.{keys_left}
use Rattle.returns.proofs.Points.{some_of}
use Rattle.returns.proofs.read.looked_up.Goals as goal

pub returns-clause-left : goal.returns-clause-left
returns-clause-left c ended stuck =
    ap (tried_left ended stuck) c.at.ensures
    ∙ keys_left ended stuck c.args.aim c.args.carried.value.text c.in_ok-keys.keys.words (carried_keys c.args.carried.value c.args.members.now)
    (c.in_ok-keys.ensures ∙ ap (λ (x : Carried). carried_keys x c.args.members.now) c.deref.ensures)
    (some_of c.in_ok-keys.keys.words c.as_slice.result.now c.is_empty.result c.is_empty.ensures c.if-is_empty.false c.as_slice.ensures)
