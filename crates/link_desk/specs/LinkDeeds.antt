-- What a desk's link carried by its deeds.
use Rattle.std.specs.Io.KnownBytes.{Appends}
use Rattle.std.specs.Prelude.{Bool, List, None, Option, Some, [], false, flat_map, map, true, ℕ, ◌++◌, ◌∷◌, ◌≡◌, ◌⊎◌}
use Rattle.wire_values.specs.declared.value.Value.{Value}
use Rattle.wire_values.specs.declared.value.Value.TheVariants.{Array, Bulk}
use Rattle.wire_grammar.specs.Texts.{spelling}
use Rattle.resp_wire.specs.Stands.{Stands}
use Rattle.resp_wire.specs.declared.decoder.Decoder.{Decoder}
use Rattle.store_model.specs.Words.{Words}
use Rattle.place_model.specs.declared.heard.Heard.{Heard}
use Rattle.desks.specs.Deeds.{Deed, DidAsk, DidNote, DidStop}
use Rattle.desks.specs.declared.desk.DeskFault.{DeskFault}
use Rattle.desks.specs.declared.desk.DeskFault.TheVariants.{Closed, Ended, Flood, Full, Link, Memory, Wire}
use Rattle.link_desk.specs.Hearings.{GivesNoReply, HasCome, reply_values}
use Rattle.link_desk.specs.PushedValues.{ArePushed, IsOneReply}

-- the bytes of a command: the array of its words, as bulk strings
abbrev pub command_bytes : Words → List ℕ
command_bytes words = spelling (Array (map Bulk words))

-- a front of these bytes was sent, or all of them
abbrev pub SendsPart : Option (List ℕ) → Option (List ℕ) → List ℕ → Type 0
SendsPart old new bytes = (front : List ℕ) × (behind : List ℕ) × (bytes ≡ front ++ behind) × Appends old new front

-- a command is sent but for a failing link or want of memory
abbrev pub IsSendFault : DeskFault → Type 0
IsSendFault fault = (fault ≡ Link) ⊎ (fault ≡ Memory)

-- the bytes that a deed sends
abbrev pub bytes_asked : Deed → List ℕ
bytes_asked (DidAsk at words reply) = command_bytes words
bytes_asked (DidNote heard) = []
bytes_asked DidStop = []

-- the values that a deed is answered
abbrev pub values_told : Deed → List Value
values_told (DidAsk at words reply) = reply_values reply
values_told (DidNote heard) = []
values_told DidStop = []

-- the note of a deed
abbrev pub notes_told : Deed → List Heard
notes_told (DidAsk at words reply) = []
notes_told (DidNote heard) = heard ∷ []
notes_told DidStop = []

-- each answer is one reply
abbrev pub AreReplies : List Deed → Type 0
AreReplies [] = Unit {0}
AreReplies (DidAsk at words reply ∷ l) = IsOneReply reply × AreReplies l
AreReplies (DidNote heard ∷ l) = AreReplies l
AreReplies (DidStop ∷ l) = AreReplies l

-- how a desk stands: it takes something; it was stopped; or it answered this fault
pub data LinkStanding : Type 0 where
  StandsReady : LinkStanding
  WasStopped : LinkStanding
  WasFaulted : DeskFault → LinkStanding

-- a desk over a link: how it stands, what its link sent and received, the decoder of that, and the notes told to it
pub record LinkDeskView : Type 0 where
  pub standing : LinkStanding
  pub sent : Option (List ℕ)
  pub received : Option (List ℕ)
  pub decoder : Decoder
  pub notes : List Heard

abbrev pub link_desk_view : LinkStanding → Option (List ℕ) → Option (List ℕ) → Decoder → List Heard → LinkDeskView
link_desk_view standing sent received decoder notes = record { standing = standing; sent = sent; received = received; decoder = decoder; notes = notes }

-- a desk by its first fault: it was stopped before it answered that it had ended
abbrev pub standing_at : DeskFault → LinkStanding
standing_at Link = WasFaulted Link
standing_at (Wire kind place) = WasFaulted (Wire kind place)
standing_at Flood = WasFaulted Flood
standing_at (Full entries bytes) = WasFaulted (Full entries bytes)
standing_at Closed = WasFaulted Closed
standing_at Ended = WasStopped
standing_at Memory = WasFaulted Memory

-- a desk by its first fault, and whether it was stopped
abbrev pub standing_of : Option DeskFault → Bool → LinkStanding
standing_of None false = StandsReady
standing_of None true = WasStopped
standing_of (Some fault) stopped = standing_at fault

-- the faults that a desk over a link answers while it stands ready
abbrev pub IsOfLink : DeskFault → Type 0
IsOfLink Link = Unit {0}
IsOfLink (Wire kind place) = Unit {0}
IsOfLink Flood = Unit {0}
IsOfLink (Full entries bytes) = ⊥
IsOfLink Closed = ⊥
IsOfLink Ended = ⊥
IsOfLink Memory = Unit {0}

-- the commands went out, a reply to each came in, and what follows the last one stays unread
pub record HasAsked (s : LinkDeskView) (deeds : List Deed) (t : LinkDeskView) : Type 0 where
  pub went : Appends s.sent t.sent (flat_map bytes_asked deeds)
  pub came : (before : ℕ) (rest : List ℕ) → Stands s.decoder before rest
      → (from : ℕ) × (left : List ℕ) × HasCome before rest s.received t.received (flat_map values_told deeds) from left × Stands t.decoder from left

-- why a command, of which these bytes weren't sent, has no reply but for these values that were pushed: it wasn't sent, and nothing came; or it was sent whole, and there is none
abbrev pub IsUnanswered : List ℕ → List Value → ℕ → List ℕ → DeskFault → Type 0
IsUnanswered behind pushed from left f = (IsSendFault f × (pushed ≡ [])) ⊎ ((behind ≡ []) × GivesNoReply pushed from left f)

-- the commands went out and a reply to each came in; after them went a front of this command, or all of it, and there is no reply to it, by this fault
pub record HasAskedMore (s : LinkDeskView) (deeds : List Deed) (words : Words) (f : DeskFault) (t : LinkDeskView) : Type 0 where
  pub front : List ℕ
  pub behind : List ℕ
  pub cut : command_bytes words ≡ front ++ behind
  pub went : Appends s.sent t.sent (flat_map bytes_asked deeds ++ front)
  pub kind : IsOfLink f
  pub came : (before : ℕ) (rest : List ℕ) → Stands s.decoder before rest
      → (pushed : List Value) × (from : ℕ) × (left : List ℕ) × HasCome before rest s.received t.received (flat_map values_told deeds ++ pushed) from left × ArePushed pushed × IsUnanswered behind pushed from left f

-- the deeds of a desk that stood ready, by how it stands now: it still does, or was stopped since; or it answered this fault amid at most one more command
abbrev pub CarriesTo : LinkStanding → LinkDeskView → List Deed → LinkDeskView → Type 0
CarriesTo StandsReady s deeds t = HasAsked s deeds t
CarriesTo WasStopped s deeds t = HasAsked s deeds t
CarriesTo (WasFaulted f) s deeds t = (words : Words) × HasAskedMore s deeds words f t

-- a ready desk's link carried the commands of the deeds and the replies to them, and its notes grew by theirs; after a stop or a fault nothing is sent or received any more
abbrev pub CarriesBy : LinkStanding → LinkDeskView → List Deed → LinkDeskView → Type 0
CarriesBy StandsReady s deeds t = CarriesTo t.standing s deeds t × AreReplies deeds × (t.notes ≡ s.notes ++ flat_map notes_told deeds)
CarriesBy WasStopped s deeds t = (deeds ≡ []) × (t ≡ s)
CarriesBy (WasFaulted f) s deeds t = (deeds ≡ []) × (t ≡ s)

-- so, by how the desk stood
abbrev pub CarriesDeeds : LinkDeskView → List Deed → LinkDeskView → Type 0
CarriesDeeds s deeds t = CarriesBy s.standing s deeds t
