-- What `lawful_sound` ensures.
use Rattle.check_laws.proofs.Led.{sound}
use Rattle.check_laws.proofs.lawful_sound.Goals as goal

pub returns : goal.returns
returns c = sound
