-- What a store behind a link was asked, by the bytes that were sent, and which bytes of replies there are.
use Rattle.std.specs.Prelude.{Bool, Err, List, Ok, Result, [], ⊤, ℕ, ◌++◌, ◌≡◌, ◌⊎◌}
use Rattle.net_links.specs.declared.link.NetFault.{NetFault}
use Rattle.net_links.specs.declared.link.NetFault.TheVariants as net
use Rattle.wire_grammar.specs.declared.kind.WireKind.{WireKind}
use Rattle.resp_wire.specs.Stands.{IsFault}
use Rattle.desks.specs.Deeds.{Deed}
use Rattle.desks.specs.Faults.{IsOpen}
use Rattle.plain_desk.specs.StoreRuns.{LeadsOn, live_state}
use Rattle.plain_desk.specs.declared.desk.PlainDesk.{PlainDesk}
use Rattle.sessions.specs.Hearings.{BeginsNoCommand, HasHeard, WritesAll, WritesFront}
use Rattle.sessions.specs.Talkings.{StandsSomewhere, TalksAll}
use Rattle.sessions.specs.declared.ends.Why.{Why}
use Rattle.sessions.specs.declared.ends.Why.TheVariants as why
use Rattle.sessions.specs.declared.talking.Talking.{Talking}
use Rattle.local_links.specs.declared.link_stage.LinkStage.{LinkStage}
use Rattle.local_links.specs.declared.link_stage.LinkStage.TheVariants.{Asks, Over, Spent}

-- the one moment of the clock
abbrev pub IsBeginning : ℕ → Type 0
IsBeginning now = now ≡ 0

-- these deeds lead the desk that has the store from the one state to the other: each reply is the store's
abbrev pub desk_goes : PlainDesk → List Deed → PlainDesk → Type 0
desk_goes s l t = LeadsOn s.conn (live_state s.store.spent s.store.state) l t.conn (live_state t.store.spent t.store.state)

-- these bytes begin with a value that is no command, or are no RESP2
abbrev pub IsOver : ℕ → List ℕ → Type 0
IsOver from rest = BeginsNoCommand rest ⊎ ((kind : WireKind) × (place : ℕ) × IsFault from rest kind place)

-- the whole values that the bytes sent begin with were asked at moment 0, each once and in order, and there are the bytes of their replies, pushed values first: all of them, and a front of one more value is left; or those before what is no command or no RESP2; or there was no memory, and just a front of the replies to values of these bytes and of those that weren't taken
abbrev pub Serves : PlainDesk → PlainDesk → List ℕ → List ℕ → Talking → LinkStage → Type 0
Serves first now sent replies t Asks = TalksAll desk_goes IsBeginning first now sent replies t × IsOpen now.standing.fault now.standing.stopped
Serves first now sent replies t Over = (h : HasHeard desk_goes IsBeginning first now sent t.commands) × WritesAll h.deeds (replies ++ t.out.items) × IsOver h.from h.rest
Serves first now sent replies t Spent = (more : List ℕ) × (h : HasHeard desk_goes IsBeginning first now (sent ++ more) t.commands) × WritesFront h.deeds (replies ++ t.out.items)

-- where values are asked the desk is open, and the decoder stands somewhere
abbrev pub IsReadyAt : LinkStage → PlainDesk → Talking → Type 0
IsReadyAt Asks now t = IsOpen now.standing.fault now.standing.stopped × ∥ StandsSomewhere t.decoder ∥₁
IsReadyAt Over now t = Unit {0}
IsReadyAt Spent now t = Unit {0}

-- the bytes that count as sent after a piece: without it where there was no memory
abbrev pub sent_at : LinkStage → List ℕ → List ℕ → List ℕ
sent_at Asks sent piece = sent ++ piece
sent_at Over sent piece = sent ++ piece
sent_at Spent sent piece = sent

-- how far is asked after all whole values were asked, or this ended it
abbrev pub stage_after : Result ⊤ Why → LinkStage
stage_after (Ok done) = Asks
stage_after (Err why.NotWords) = Over
stage_after (Err (why.Wire kind place)) = Over
stage_after (Err why.Ended) = Spent
stage_after (Err why.Turns) = Spent
stage_after (Err why.Link) = Spent
stage_after (Err (why.Full entries bytes)) = Spent
stage_after (Err why.Closed) = Spent
stage_after (Err why.Memory) = Spent

-- replies were put behind the others and a piece behind what was sent; or there was no memory, for the piece at least
abbrev pub KeepsReplies : LinkStage → List ℕ → List ℕ → List ℕ → List ℕ → List ℕ → List ℕ → LinkStage → Type 0
KeepsReplies stage out replies replies2 sent sent2 piece Asks = (stage ≡ Asks) × (replies2 ≡ replies ++ out) × (sent2 ≡ sent ++ piece)
KeepsReplies stage out replies replies2 sent sent2 piece Over = (stage ≡ Over) × (replies2 ≡ replies ++ out) × (sent2 ≡ sent ++ piece)
KeepsReplies stage out replies replies2 sent sent2 piece Spent = ((replies2 ≡ replies) ⊎ (replies2 ≡ replies ++ out)) × (sent2 ≡ sent)

-- what a send answers that got so far
abbrev pub IsSentBy : LinkStage → ℕ → Result ℕ NetFault → Type 0
IsSentBy Asks length result = result ≡ Ok length
IsSentBy Over length result = result ≡ Ok length
IsSentBy Spent length result = result ≡ Err net.Memory
