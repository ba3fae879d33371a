-- What `tokens` ensures.
use Rattle.key_laws.proofs.Texts.{token_parts}
use Rattle.key_laws.proofs.tokens.Goals as goal

pub returns : goal.returns
returns c = token_parts
