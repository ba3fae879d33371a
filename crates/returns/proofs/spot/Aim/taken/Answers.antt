use Rattle.std.proofs.Common.{[], ap, refl, sym, ◌∙◌}
use Rattle.command_blocks.specs.Calls.{call}
use Rattle.command_blocks.specs.Scripts.{after_call}
use Rattle.returns.specs.Spots.{index_left, point_left, push_left, table_left}
use Rattle.returns.specs.declared.spot.Point.TheVariants.{Index, Table, After}
use Rattle.returns.specs.declared.spot.Spot.TheVariants.{Take}
use Rattle.returns.proofs.Points.{listed}
use Rattle.returns.proofs.spot.Aim.taken.Goals as goal

pub returns-in-Begin-clause-left : goal.returns-in-Begin-clause-left
returns-in-Begin-clause-left c ended stuck =
    listed ended stuck c.if_listed.result (record { aim = c.args.self; spot = Take c.args.carried c.args.keys Index }) c.is_status.result _ (index_left ended stuck c.args.self c.args.carried.value.text c.args.keys.words) c.if_listed.ensures c.is_status.ensures refl
    ∙ sym (ap (λ p. after_call (point_left ended stuck c.args.self c.args.carried.value.text c.args.keys.words p) (call 0 [] c.args.answer.now)) c.in-Begin.is)

pub returns-in-Index-clause-left : goal.returns-in-Index-clause-left
returns-in-Index-clause-left c ended stuck =
    listed ended stuck c.if_listed-in-Index.result (record { aim = c.args.self; spot = Take c.args.carried c.args.keys Table }) c.is_status-in-Index.result _ (table_left ended stuck c.args.self c.args.carried.value.text c.args.keys.words) c.if_listed-in-Index.ensures
    c.is_status-in-Index.ensures refl
    ∙ sym (ap (λ p. after_call (point_left ended stuck c.args.self c.args.carried.value.text c.args.keys.words p) (call 0 [] c.args.answer.now)) c.in-Index.is)

pub returns-in-Table-clause-left : goal.returns-in-Table-clause-left
returns-in-Table-clause-left c ended stuck =
    listed ended stuck c.if_listed-in-Table.result (record { aim = c.args.self; spot = Take c.args.carried c.args.keys (After 0) }) c.is_status-in-Table.result _ (push_left ended stuck c.args.self c.args.carried.value.text c.args.keys.words) c.if_listed-in-Table.ensures
    c.is_status-in-Table.ensures refl
    ∙ sym (ap (λ p. after_call (point_left ended stuck c.args.self c.args.carried.value.text c.args.keys.words p) (call 0 [] c.args.answer.now)) c.in-Table.is)
