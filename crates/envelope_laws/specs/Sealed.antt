-- What a sealed draft says.
use Rattle.std.specs.Prelude.{◌≡◌, ℕ, ◌<◌, ◌^◌, Ok}
use Rattle.serde_json.specs.Data.{Data}
use Rattle.envelope.specs.Envelopes.{said_by}
use Rattle.sealed_drafts.specs.Sealed.{seal_of, sealed}
use Rattle.sealed_drafts.specs.declared.sealing.Draft.{Draft}

-- what was sealed is the draft's tree under the tag, and says the draft's content, that tag, and the draft's exchange and routing key
abbrev pub SealsSay : Type 0
SealsSay = (draft : Draft) (n : ℕ) (d : Data) → n < 2 ^ 128 → seal_of draft n ≡ Ok d
    → (d ≡ sealed draft n) × (said_by d ≡ Ok (record { content = draft.content; tag = n; exchange = draft.exchange; routing_key = draft.routing_key }))
