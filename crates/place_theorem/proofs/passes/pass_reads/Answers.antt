-- What `pass_reads` ensures.
use Rattle.place_theorem.proofs.Passing.{pass_reads as reads}
use Rattle.place_theorem.proofs.passes.pass_reads.Goals as goal

pub returns : goal.returns
returns g c = λ σ laws. reads (record { names = σ; laws = laws })
