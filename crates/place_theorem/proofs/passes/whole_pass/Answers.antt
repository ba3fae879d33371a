-- What `whole_pass` ensures.
use Rattle.place_theorem.proofs.Passing.{whole_pass as whole}
use Rattle.place_theorem.proofs.passes.whole_pass.Goals as goal

pub returns : goal.returns
returns g c = λ σ laws. whole (record { names = σ; laws = laws })
