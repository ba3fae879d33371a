-- Where an answer leads a client.
use Rattle.std.specs.Prelude.{◌≡◌, Bool}
use Rattle.wire_values.specs.declared.value.Value.{Value}
use Rattle.command_blocks.specs.EnvelopeTexts.{plain_setting}
use Rattle.manner_laws.specs.Cursor.{spot_after, spot_if}
use Rattle.manner_laws.specs.Spots.{Ask, Spot}
use Rattle.client_spots.specs.Stands.{spot_of}
use Rattle.client_spots.specs.declared.spot.ClientSpot.{ClientSpot}

-- the client is at this spot, with the seed that it had
abbrev pub IsAt : ClientSpot → Spot → ClientSpot → Type 0
IsAt old c new = (spot_of new ≡ c) × (new.seed ≡ old.seed)

-- whether the answer to an ask is listed, and where the client then is
abbrev pub IsLed : ClientSpot → Ask → Value → ClientSpot → Bool → Type 0
IsLed old q r new listed = (spot_after plain_setting old.seed q r ≡ spot_if listed (spot_of new)) × (new.seed ≡ old.seed)
