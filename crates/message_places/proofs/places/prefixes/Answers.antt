-- What `prefixes` ensures.
use Rattle.command_blocks.specs.EnvelopeTexts.{texts}
use Rattle.command_blocks.specs.Setting.{setting_of}
use Rattle.place_theorem.proofs.Prefixes.{prefix_sound}
use Rattle.message_places.proofs.places.prefixes.Goals as goal

pub returns : goal.returns
returns g c = λ κ lawful. prefix_sound (setting_of κ texts)
