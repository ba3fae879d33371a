-- What `reads_texts` ensures.
use Rattle.json_texts.proofs.Trees.{reads_texts as texts}
use Rattle.json_texts.proofs.reads_texts.Goals as goal

pub returns : goal.returns
returns c = texts
