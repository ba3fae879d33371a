-- What `cursor_steps` ensures.
use Rattle.command_blocks.specs.EnvelopeTexts.{texts}
use Rattle.command_blocks.specs.Setting.{setting_of}
use Rattle.manner_laws.specs.LayoutKeys.{exchange_of_key}
use Rattle.manner_laws.proofs.Allowed.{ask-allowed}
use Rattle.manner_laws.proofs.Asked.{ask_is}
use Rattle.message_places.proofs.Serving.{lawful, readable}
use Rattle.message_places.proofs.manner.cursor_steps.Goals as goal

pub returns : goal.returns
returns c = λ κ is s k a words q time.
    (ask_is (setting_of κ texts) (exchange_of_key κ) s k a words q, ask-allowed (setting_of κ texts) (exchange_of_key κ) s (lawful κ is) (readable κ is) k a words q time)
