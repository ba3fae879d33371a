-- One command and its reply.
use Rattle.std.specs.Io.KnownBytes.{Appends, Keeps}
use Rattle.std.specs.Prelude.{Err, List, Ok, Option, Result, ℕ, ◌≡◌, ◌⊎◌}
use Rattle.resp_wire.specs.Stands.{Stands}
use Rattle.resp_wire.specs.declared.decoder.Decoder.{Decoder}
use Rattle.store_model.specs.Words.{Words}
use Rattle.store_model.specs.declared.reply.Reply.{Reply}
use Rattle.desks.specs.declared.desk.DeskFault.{DeskFault}
use Rattle.desks.specs.declared.desk.DeskFault.TheVariants.{Ended}
use Rattle.link_desk.specs.Hearings.{HasNoReply, HasReply}
use Rattle.link_desk.specs.LinkDeeds.{IsSendFault, LinkDeskView, LinkStanding, SendsPart, StandsReady, WasFaulted, WasStopped, command_bytes}
use Rattle.link_desk.specs.PushedValues.{IsOneReply}

-- a command was sent whole, and one reply came; or a front of it was sent, and nothing received; or it was sent whole, and no reply came
abbrev pub HasExchanged : Option (List ℕ) → Option (List ℕ) → Option (List ℕ) → Option (List ℕ) → Decoder → Decoder → Words → Result Reply DeskFault → Type 0
HasExchanged sent sent2 received received2 d d2 words (Ok reply) =
    Appends sent sent2 (command_bytes words) × IsOneReply reply × ((before : ℕ) (rest : List ℕ) → Stands d before rest → HasReply before rest received received2 d2 (Ok reply))
HasExchanged sent sent2 received received2 d d2 words (Err fault) =
    (SendsPart sent sent2 (command_bytes words) × Keeps received received2 × IsSendFault fault)
    ⊎ (Appends sent sent2 (command_bytes words) × ((before : ℕ) (rest : List ℕ) → Stands d before rest → HasNoReply before rest received received2 fault))

-- a desk was asked this command and answered this fault, by how it stood: it sent the command, or a front of it, and stands so that it answered this; or nothing was sent
abbrev pub RefusesBy : LinkStanding → LinkDeskView → Words → DeskFault → LinkDeskView → Type 0
RefusesBy StandsReady s words f t = (t.standing ≡ WasFaulted f) × (t.notes ≡ s.notes) × HasExchanged s.sent t.sent s.received t.received s.decoder t.decoder words (Err f)
RefusesBy WasStopped s words f t = (f ≡ Ended) × (t ≡ s)
RefusesBy (WasFaulted g) s words f t = (f ≡ Ended) × (t ≡ s)

abbrev pub RefusesWords : LinkDeskView → Words → DeskFault → LinkDeskView → Type 0
RefusesWords s words f t = RefusesBy s.standing s words f t
