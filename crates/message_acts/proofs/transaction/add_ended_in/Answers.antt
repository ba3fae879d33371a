use Rattle.std.proofs.Common.{◌≤◌, ◌⊎◌, inl, inr, length}
use Rattle.message_acts.proofs.Endings.{ended_all}
use Rattle.message_acts.proofs.transaction.add_ended_in.Goals.{then-loop-at-test+else-at-answers, else-loop-at-test}
use Rattle.message_acts.proofs.transaction.add_ended_in.Goals as goal

pub returns : goal.returns
returns c =
    let stop : (length c.args.acts.now ≤ c.loop-at.at) ⊎ (length c.args.answers.now ≤ c.loop-at.at) = elim c.loop-at-test.branch [ then-loop-at-test+else-at-answers w ↦ inr w.if-at-answers.false | else-loop-at-test w ↦ inl w.loop-at-test.false ] in
    ended_all c.args.acts.now c.args.answers.now c.as_slice-pushes.result.now c.in_ok-list.list c.args.ended.now c.loop-at.ended c.loop-at.at stop c.as_slice-pushes.ensures c.in_ok-list.ensures c.loop-at.invariant
