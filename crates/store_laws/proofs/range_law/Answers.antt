-- What `range_law` ensures.
use Rattle.store_laws.proofs.Ranges.{gives_range}
use Rattle.store_laws.proofs.range_law.Goals as goal

pub returns : goal.returns
returns c = λ high low h. gives_range high low h
