-- What a desk hears over its link, and why it hears no reply.
use Rattle.std.specs.Io.KnownBytes.{Appends, Keeps}
use Rattle.std.specs.Prelude.{Err, List, Ok, Option, Result, [], length, ⊤, ℕ, ◌++◌, ◌<◌, ◌∷◌, ◌≡◌, ◌≤◌, ◌+◌, ◌⊎◌}
use Rattle.wire_values.specs.declared.value.Value.{Value}
use Rattle.wire_grammar.specs.Spells.{IsFront}
use Rattle.wire_grammar.specs.Streams.{Leads}
use Rattle.resp_wire.specs.Stands.{IsFault, Stands}
use Rattle.resp_wire.specs.declared.decoder.Decoder.{Decoder}
use Rattle.resp_wire.specs.declared.decoder.WireFault.{WireFault}
use Rattle.resp_wire.specs.declared.decoder.WireFault.TheVariants as decoder
use Rattle.links.specs.Causes.{Rose}
use Rattle.store_model.specs.declared.reply.Reply.{Reply}
use Rattle.desks.specs.Faults.{HasCounts}
use Rattle.desks.specs.declared.desk.DeskFault.{DeskFault}
use Rattle.desks.specs.declared.desk.DeskFault.TheVariants.{Closed, Ended, Flood, Full, Link, Memory, Wire}
use Rattle.link_desk.specs.PushedValues.{ArePushed, pushed_limit}

-- the counts of a link, by what a call answered: they stay, and at the fault of a link one of them rose
abbrev pub HasLinkCause : {T : Type 0} → ℕ → ℕ → ℕ → ℕ → Result T DeskFault → Type 0
HasLinkCause faults faults2 ends ends2 (Ok x) = (faults2 ≡ faults) × (ends2 ≡ ends)
HasLinkCause faults faults2 ends ends2 (Err Link) = HasCounts faults faults2 ends ends2 × (Rose faults faults2 ⊎ Rose ends ends2)
HasLinkCause faults faults2 ends ends2 (Err (Wire kind place)) = (faults2 ≡ faults) × (ends2 ≡ ends)
HasLinkCause faults faults2 ends ends2 (Err Flood) = (faults2 ≡ faults) × (ends2 ≡ ends)
HasLinkCause faults faults2 ends ends2 (Err Memory) = (faults2 ≡ faults) × (ends2 ≡ ends)
HasLinkCause faults faults2 ends ends2 (Err (Full entries bytes)) = ⊥
HasLinkCause faults faults2 ends ends2 (Err Closed) = ⊥
HasLinkCause faults faults2 ends ends2 (Err Ended) = ⊥

-- bytes came over a link after those that weren't read yet, and what there is now begins with these values
pub record HasCome (before : ℕ) (rest : List ℕ) (old new : Option (List ℕ)) (values : List Value) (from : ℕ) (left : List ℕ) : Type 0 where
  pub stream : List ℕ
  pub came : Appends old new stream
  pub leads : Leads before (rest ++ stream) values from left

-- the fault of a desk at a fault of its decoder
abbrev pub IsFaultAt : WireFault → DeskFault → Type 0
IsFaultAt (decoder.Bad kind place) fault = fault ≡ Wire kind place
IsFaultAt decoder.Memory fault = fault ≡ Memory

-- a piece came and was fed; or the link gave none; or there was no memory for it
abbrev pub HasPiece : ℕ → List ℕ → Option (List ℕ) → Option (List ℕ) → Decoder → Result ⊤ DeskFault → Type 0
HasPiece before rest old new d (Ok done) = (piece : List ℕ) × (0 < length piece) × Appends old new piece × Stands d before (rest ++ piece)
HasPiece before rest old new d (Err Link) = Keeps old new
HasPiece before rest old new d (Err Memory) = (piece : List ℕ) × Appends old new piece
HasPiece before rest old new d (Err (Wire kind place)) = ⊥
HasPiece before rest old new d (Err Flood) = ⊥
HasPiece before rest old new d (Err (Full entries bytes)) = ⊥
HasPiece before rest old new d (Err Closed) = ⊥
HasPiece before rest old new d (Err Ended) = ⊥

-- why bytes from a place on give no value: the link gives no more of one that is begun, or they are wrong, or there was no memory
abbrev pub GivesNone : ℕ → List ℕ → DeskFault → Type 0
GivesNone from left Link = IsFront left
GivesNone from left (Wire kind place) = IsFault from left kind place
GivesNone from left Memory = ⊤
GivesNone from left Flood = ⊥
GivesNone from left (Full entries bytes) = ⊥
GivesNone from left Closed = ⊥
GivesNone from left Ended = ⊥

-- a piece was received only where no value was whole: what there was before the last one is the front of a value
abbrev pub IsWanted : List ℕ → List ℕ → Type 0
IsWanted rest stream = (stream ≡ []) ⊎ ((early : List ℕ) × (last : List ℕ) × (stream ≡ early ++ last) × IsFront (rest ++ early))

-- the next value came, and no piece behind it was asked for; or none did
abbrev pub HasValue : ℕ → List ℕ → Option (List ℕ) → Option (List ℕ) → Decoder → Result Value DeskFault → Type 0
HasValue before rest old new d (Ok v) = (from : ℕ) × (left : List ℕ) × (come : HasCome before rest old new (v ∷ []) from left) × Stands d from left × IsWanted rest come.stream
HasValue before rest old new d (Err fault) = (from : ℕ) × (left : List ℕ) × HasCome before rest old new [] from left × GivesNone from left fault

-- why there is no reply after pushed values: there is one too many of them; or they are within the limit, and what follows gives no value
abbrev pub GivesNoReply : List Value → ℕ → List ℕ → DeskFault → Type 0
GivesNoReply pushed from left Flood = length pushed ≡ pushed_limit + 1
GivesNoReply pushed from left fault = (length pushed ≤ pushed_limit) × GivesNone from left fault

-- pushed values came, and no reply
pub record HasNoReply (before : ℕ) (rest : List ℕ) (old new : Option (List ℕ)) (fault : DeskFault) : Type 0 where
  pub values : List Value
  pub from : ℕ
  pub left : List ℕ
  pub come : HasCome before rest old new values from left
  pub pushed : ArePushed values
  pub why : GivesNoReply values from left fault

-- a pushed value was kept, within the limit; or there were as many as may be; or there was no memory for one within the limit
abbrev pub KeepsPushed : List Value → List Value → Value → Result ⊤ DeskFault → Type 0
KeepsPushed old new v (Ok done) = (new ≡ old ++ v ∷ []) × (length old < pushed_limit)
KeepsPushed old new v (Err Flood) = (new ≡ old) × (pushed_limit ≤ length old)
KeepsPushed old new v (Err Memory) = length old < pushed_limit
KeepsPushed old new v (Err Link) = ⊥
KeepsPushed old new v (Err (Wire kind place)) = ⊥
KeepsPushed old new v (Err (Full entries bytes)) = ⊥
KeepsPushed old new v (Err Closed) = ⊥
KeepsPushed old new v (Err Ended) = ⊥

-- pushed values came and were kept, and then one that isn't pushed; or no reply came
abbrev pub GathersReply : ℕ → List ℕ → Option (List ℕ) → Option (List ℕ) → Decoder → List Value → Result Value DeskFault → Type 0
GathersReply before rest old new d pushed (Ok v) =
    (from : ℕ) × (left : List ℕ) × HasCome before rest old new (pushed ++ v ∷ []) from left × Stands d from left
GathersReply before rest old new d pushed (Err fault) = HasNoReply before rest old new fault

-- the values of a reply: those that were pushed before it, and the answer
abbrev pub reply_values : Reply → List Value
reply_values reply = reply.pushed ++ reply.answer ∷ []

-- one reply came, and what follows it stays unread; or none did
abbrev pub HasReply : ℕ → List ℕ → Option (List ℕ) → Option (List ℕ) → Decoder → Result Reply DeskFault → Type 0
HasReply before rest old new d (Ok reply) = (from : ℕ) × (left : List ℕ) × HasCome before rest old new (reply_values reply) from left × Stands d from left
HasReply before rest old new d (Err fault) = HasNoReply before rest old new fault
