-- What a client's words ask.
use Rattle.std.specs.Prelude.{◌≡◌, ℕ, [], ◌∷◌, Option, None, Some}
use Rattle.std.specs.Borrow.{Bor}
use Rattle.queue_keys.specs.Names.{Bytes}
use Rattle.store_model.specs.Words.{Words}
use Rattle.queue_keys.specs.Layouts.{plain}
use Rattle.command_blocks.specs.EnvelopeTexts.{plain_setting}
use Rattle.manner_laws.specs.Cursor.{ask_at, if_said, only_if, third}
use Rattle.manner_laws.specs.LayoutKeys.{exchange_of_key}
use Rattle.manner_laws.specs.Spots.{Ask, Spot}
use Rattle.client_spots.specs.Stands.{ask_of}
use Rattle.client_spots.specs.declared.spot.Awaited.{Awaited}
use Rattle.client_spots.specs.declared.spot.ClientSpot.{ClientSpot}

-- what is asked, none where the words may not come
abbrev pub ask_told : ClientSpot → Option Awaited → Option Ask
ask_told new None = None
ask_told new (Some w) = Some (ask_of w new)

-- what the words ask of a client that was at this spot, at a moment
abbrev pub IsAskedAt : Spot → ClientSpot → ℕ → Words → ClientSpot → Option Awaited → Type 0
IsAskedAt c old a words new asked = (ask_at plain_setting (exchange_of_key plain) old.seed c a words ≡ ask_told new asked) × (new.seed ≡ old.seed)

-- what words ask that are these two and a tag's text
abbrev pub tag_ask : Bytes → Bytes → Words → Ask → Option Ask
tag_ask name key words q = only_if (plain_setting.is_tag (third words)) (if_said (name ∷ key ∷ third words ∷ []) words q)

-- whether they are, and that text
abbrev pub IsTagSaid : Bytes → Bytes → Words → Option (Bor Bytes) → Type 0
IsTagSaid name key words None = (q : Ask) → tag_ask name key words q ≡ None
IsTagSaid name key words (Some tag) = ((q : Ask) → tag_ask name key words q ≡ Some q) × (tag.now ≡ third words)
