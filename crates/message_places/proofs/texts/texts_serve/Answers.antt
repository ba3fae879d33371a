-- What `texts_serve` ensures.
use Rattle.message_places.proofs.Serving.{exchanges, facts}
use Rattle.message_places.proofs.texts.texts_serve.Goals as goal

pub returns-clause-facts : goal.returns-clause-facts
returns-clause-facts c = facts

pub returns-clause-exchanges : goal.returns-clause-exchanges
returns-clause-exchanges c = exchanges
