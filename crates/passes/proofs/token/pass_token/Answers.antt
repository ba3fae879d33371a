use Rattle.passes.proofs.Limits.{token_made}
use Rattle.passes.proofs.token.pass_token.Goals as goal

pub returns-clause-short : goal.returns-clause-short
returns-clause-short c = token_made c.token_text.result c.args.seed c.args.number c.ranges.seed.fits c.token_text.ensures
