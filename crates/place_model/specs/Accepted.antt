-- Accepted messages, in the order of their first push, and where each is.
use Rattle.std.specs.Prelude.{not, List, [], ◌∷◌, filter, map}
use Rattle.std.specs.List.{flat_map}
use Rattle.store_model.specs.Words.{command_of}
use Rattle.place_model.specs.Histories.{History}
use Rattle.queue_keys.specs.Names.{Bytes, same}
use Rattle.place_model.specs.PlaceOf.{place_of}
use Rattle.place_model.specs.Seen.{push_by}
use Rattle.command_blocks.specs.Setting.{Setting}
use Rattle.place_model.specs.declared.heard.Heard.{Heard}
use Rattle.place_model.specs.declared.history.Entry.{Entry}
use Rattle.place_model.specs.declared.history.Entry.TheVariants.{Call, Heard as Noted, Stop}
use Rattle.place_model.specs.declared.place.Place.{Place}

-- the tags that an entry accepted
abbrev pub accepted_by : Setting → Entry Heard → List Bytes
accepted_by σ (Call c at words reply) = push_by σ (command_of words) reply.answer
accepted_by σ (Noted c note) = []
accepted_by σ (Stop c) = []

-- each text where it stands first
abbrev pub firsts : List Bytes → List Bytes
firsts [] = []
firsts (t ∷ ts) = t ∷ filter (λ u. not (same u t)) (firsts ts)

-- the accepted tags, in the order of their first push
abbrev pub accepted_tags : Setting → List (Entry Heard) → List Bytes
accepted_tags σ es = firsts (flat_map (accepted_by σ) es)

-- the accepted tags with their places
abbrev pub places : Setting → History Heard → List (Bytes × Place)
places σ h = map (λ t. (t, place_of σ h t)) (accepted_tags σ h.entries)
