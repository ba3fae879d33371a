-- By each case of an answer.
use Rattle.store_laws.proofs.RepliesFit.{replies_fit}
use Rattle.store_laws.proofs.replies_fit.Goals as goal

pub returns : goal.returns
returns c = λ s at d words h fits counted. replies_fit s at d words h fits counted
