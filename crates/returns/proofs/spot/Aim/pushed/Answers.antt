use Rattle.std.proofs.Common.{[], ap, drop, refl, sym, ◌+◌, ◌∙◌}
use Rattle.command_blocks.specs.Calls.{call}
use Rattle.command_blocks.specs.Scripts.{after_call}
use Rattle.returns.specs.Spots.{push_left}
use Rattle.returns.specs.declared.spot.Point.TheVariants.{After}
use Rattle.returns.specs.declared.spot.Spot.TheVariants.{Take}
use Rattle.returns.proofs.Points.{listed, next_push}
use Rattle.returns.proofs.spot.Aim.pushed.Goals as goal

pub returns-then-count-as_slice-clause-left : goal.returns-then-count-as_slice-clause-left
returns-then-count-as_slice-clause-left c ended stuck =
    listed ended stuck c.if_listed.result (record { aim = c.args.self; spot = Take c.args.carried c.args.keys (After (c.args.count + 1)) }) c.is_status.result _
    (push_left ended stuck c.args.self c.args.carried.value.text (drop (c.args.count + 1) c.args.keys.words)) c.if_listed.ensures c.is_status.ensures refl
    ∙ sym (ap (λ l. after_call (push_left ended stuck c.args.self c.args.carried.value.text l) (call 0 [] c.args.answer.now)) (next_push c.args.keys.words c.as_slice.result.now c.args.count c.if-count-as_slice.true c.as_slice.ensures))
