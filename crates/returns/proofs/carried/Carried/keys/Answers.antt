use Rattle.returns.proofs.Few.{routes_few}
use Rattle.returns.proofs.carried.Carried.keys.Goals as goal

pub invariant_of-result : goal.invariant_of-result
invariant_of-result c = record { few = routes_few c.in_ok-words.words c.step_of.result c.as_slice.result.now c.as_slice-2.result.now c.args.members.now c.in_ok-words.ensures }
