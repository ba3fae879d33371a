-- What `layouts_tell` ensures.
use Rattle.message_places.proofs.Serving.{readable}
use Rattle.message_places.proofs.texts.layouts_tell.Goals as goal

pub returns : goal.returns
returns c = readable
