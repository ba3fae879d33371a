-- Which commands concern no message, by a test.
use Rattle.std.specs.Prelude.{Bool, true, false, ◌&&◌, ◌||◌, [], ◌∷◌, codes}
use Rattle.store_model.specs.Words.{Words}
use Rattle.queue_keys.specs.Names.{Bytes, same}
use Rattle.command_blocks.specs.EnvelopeTexts.{plain_setting}
use Rattle.command_blocks.specs.Setting.{control_channel}

-- two words
abbrev pub is_neutral_pair : Bytes → Bytes → Bool
is_neutral_pair name word =
    same (codes "LLEN") name
    || same (codes "SELECT") name && same (codes "0") word
    || (same (codes "SUBSCRIBE") name || same (codes "UNSUBSCRIBE") name) && same control_channel word

-- three words
abbrev pub is_neutral_triple : Bytes → Bytes → Bool
is_neutral_triple name word =
    same (codes "PUBLISH") name && same control_channel word
    || (same (codes "LPUSH") name || same (codes "BRPOP") name || same (codes "EXPIRE") name) && plain_setting.is_reply word

-- whether a command concerns no message
abbrev pub is_neutral : Words → Bool
is_neutral [] = false
is_neutral (name ∷ []) = same (codes "PING") name
is_neutral (name ∷ word ∷ []) = is_neutral_pair name word
is_neutral (name ∷ word ∷ other ∷ []) = is_neutral_triple name word
is_neutral (name ∷ word ∷ other ∷ more ∷ words) = same (codes "LPUSH") name && plain_setting.is_reply word
