-- What `cursor_exact` ensures.
use Rattle.command_blocks.specs.EnvelopeTexts.{texts}
use Rattle.command_blocks.specs.Setting.{setting_of}
use Rattle.manner_laws.specs.LayoutKeys.{exchange_of_key}
use Rattle.manner_laws.proofs.Judged.{at_front, cursor_mannered, cursor_unlisted, front_at, mannered_cursor, unlisted_cursor}
use Rattle.message_places.proofs.Serving.{lawful, readable}
use Rattle.message_places.proofs.manner.cursor_exact.Goals as goal

pub returns-clause-front : goal.returns-clause-front
returns-clause-front c = λ κ is s l time.
    (front_at (setting_of κ texts) (exchange_of_key κ) (lawful κ is) (readable κ is) s l time, at_front (setting_of κ texts) (exchange_of_key κ) (lawful κ is) (readable κ is) s l)

pub returns-clause-unlisted : goal.returns-clause-unlisted
returns-clause-unlisted c = λ κ is s l time.
    (unlisted_cursor (setting_of κ texts) (exchange_of_key κ) (lawful κ is) (readable κ is) s l time, cursor_unlisted (setting_of κ texts) (exchange_of_key κ) (lawful κ is) (readable κ is) s l time)

pub returns-clause-mannered : goal.returns-clause-mannered
returns-clause-mannered c = λ κ is s l time.
    (mannered_cursor (setting_of κ texts) (exchange_of_key κ) (lawful κ is) (readable κ is) s l time, cursor_mannered (setting_of κ texts) (exchange_of_key κ) (lawful κ is) (readable κ is) s l time)
