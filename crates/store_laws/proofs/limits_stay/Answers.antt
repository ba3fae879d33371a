-- By each case of a step.
use Rattle.store_laws.proofs.StepsLimited.{limited_apply, limited_empty, limited_gone}
use Rattle.store_laws.proofs.limits_stay.Goals as goal

pub returns-clause-begun : goal.returns-clause-begun
returns-clause-begun c = limited_empty

pub returns-clause-kept : goal.returns-clause-kept
returns-clause-kept c = λ s at d words h fits. limited_apply s at d words h fits

pub returns-clause-gone : goal.returns-clause-gone
returns-clause-gone c = λ s d h. limited_gone s d h
