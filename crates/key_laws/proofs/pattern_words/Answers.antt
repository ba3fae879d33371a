-- What `pattern_words` ensures.
use Rattle.key_laws.proofs.Fitting.{patterns_tell}
use Rattle.key_laws.proofs.pattern_words.Goals as goal

pub returns : goal.returns
returns c = patterns_tell
