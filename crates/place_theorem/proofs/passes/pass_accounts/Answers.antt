-- What `pass_accounts` ensures.
use Rattle.place_theorem.proofs.Passing.{pass_accounts as accounts}
use Rattle.place_theorem.proofs.passes.pass_accounts.Goals as goal

pub returns : goal.returns
returns g c = λ σ laws. accounts (record { names = σ; laws = laws })
