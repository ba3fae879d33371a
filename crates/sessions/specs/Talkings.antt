-- What is known amid a session. This serves the proofs of code.
use Rattle.std.specs.Io.KnownBytes.{Appends}
use Rattle.std.specs.Prelude.{Bool, Err, List, Ok, Option, Result, [], false, length, suc, true, ⊤, ℕ, ◌++◌, ◌<◌, ◌≡◌, ◌≤◌, ◌⊎◌}
use Rattle.links.specs.Causes.{Rose}
use Rattle.wire_grammar.specs.Spells.{IsFront}
use Rattle.resp_wire.specs.declared.decoder.Decoder.{Decoder}
use Rattle.resp_wire.specs.Stands.{IsSpentDecoder, Stands}
use Rattle.desks.specs.Deeds.{Deed}
use Rattle.desks.specs.declared.desk.DeskFault.{DeskFault}
use Rattle.sessions.specs.Hearings.{EndsTalk, HasHeard, WritesAll, WritesPart}
use Rattle.net_links.specs.LinkViews.{LinkView, raised_by}
use Rattle.sessions.specs.Sendings.{SendsFront}
use Rattle.sessions.specs.SessionEnds.{HasSession}
use Rattle.sessions.specs.declared.ends.Why.{Why}
use Rattle.sessions.specs.declared.ends.Why.TheVariants.{Closed, Ended, Full, Link, Memory, NotWords, Turns, Wire}
use Rattle.sessions.specs.declared.talking.Talking.{Talking}

-- a decoder isn't spent, and stands somewhere in a stream
abbrev pub StandsSomewhere : Decoder → Type 0
StandsSomewhere d = (before : ℕ) × (rest : List ℕ) × Stands d before rest

-- the values that a stream begins with were asked, the decoder stands after them, and what was sent and what is to be sent are their answers
pub record Talks {D : Type 0} (goes : D → List Deed → D → Type 0) (gives : ℕ → Type 0) (first now : D) (stream sent : List ℕ) (t : Talking) : Type 0 where
  pub heard : HasHeard goes gives first now stream t.commands
  pub stands : Stands t.decoder heard.from heard.rest
  pub answered : WritesAll heard.deeds (sent ++ t.out.items)

-- and no further value is whole
pub record TalksAll {D : Type 0} (goes : D → List Deed → D → Type 0) (gives : ℕ → Type 0) (first now : D) (stream sent : List ℕ) (t : Talking) : Type 0 where
  pub talks : Talks goes gives first now stream sent t
  pub front : IsFront talks.heard.rest

-- one value more was asked; or none is whole; or no more is asked
abbrev pub AnswersNext : {D : Type 0} → (D → List Deed → D → Type 0) → (ℕ → Type 0) → Bool → Option DeskFault → D → D → List ℕ → List ℕ → Talking → Result Bool Why → Type 0
AnswersNext goes gives shared fault first now stream sent t (Ok true) = Talks goes gives first now stream sent t
AnswersNext goes gives shared fault first now stream sent t (Ok false) = TalksAll goes gives first now stream sent t
AnswersNext goes gives shared fault first now stream sent t (Err why) = EndsTalk (IsSpentDecoder t.decoder) goes gives shared fault first now stream (sent ++ t.out.items) t.commands why

-- all whole values were asked; or no more is asked
abbrev pub AnswersAll : {D : Type 0} → (D → List Deed → D → Type 0) → (ℕ → Type 0) → Bool → Option DeskFault → D → D → List ℕ → List ℕ → Talking → Result ⊤ Why → Type 0
AnswersAll goes gives shared fault first now stream sent t (Ok done) = TalksAll goes gives first now stream sent t
AnswersAll goes gives shared fault first now stream sent t (Err why) = EndsTalk (IsSpentDecoder t.decoder) goes gives shared fault first now stream (sent ++ t.out.items) t.commands why

-- the link failed, or there was no memory to send and it didn't fail
abbrev pub IsCut : ℕ → ℕ → Result ⊤ Why → Type 0
IsCut faults faults2 (Ok done) = ⊥
IsCut faults faults2 (Err Link) = Rose faults faults2
IsCut faults faults2 (Err Memory) = faults2 ≡ faults
IsCut faults faults2 (Err Ended) = ⊥
IsCut faults faults2 (Err Turns) = ⊥
IsCut faults faults2 (Err (Wire kind place)) = ⊥
IsCut faults faults2 (Err NotWords) = ⊥
IsCut faults faults2 (Err (Full entries bytes)) = ⊥
IsCut faults faults2 (Err Closed) = ⊥

-- all bytes were sent, and the answer stays; or a front was, and the link failed or wanted memory
abbrev pub HasFlushed : Option (List ℕ) → Option (List ℕ) → ℕ → ℕ → List ℕ → List ℕ → Result ⊤ Why → Result ⊤ Why → Type 0
HasFlushed was is faults faults2 out out2 answered result =
    ((result ≡ answered) × Appends was is out × (out2 ≡ []) × (faults2 ≡ faults)) ⊎ (IsCut faults faults2 result × SendsFront was is out)

-- why no more is asked of a piece that came, or no more is sent; memory was wanting to read only where this holds
abbrev pub EndsTaken : {D : Type 0} → Type 0 → (D → List Deed → D → Type 0) → (ℕ → Type 0) → Bool → Option DeskFault → D → D → List ℕ → List ℕ → ℕ → ℕ → ℕ → Why → Type 0
EndsTaken reading goes gives shared fault first now stream written count faults faults2 Link = (h : HasHeard goes gives first now stream count) × WritesPart h.deeds written × Rose faults faults2
EndsTaken reading goes gives shared fault first now stream written count faults faults2 Ended = ⊥
EndsTaken reading goes gives shared fault first now stream written count faults faults2 Turns = ⊥
EndsTaken reading goes gives shared fault first now stream written count faults faults2 (Wire kind place) = EndsTalk reading goes gives shared fault first now stream written count (Wire kind place) × (faults2 ≡ faults)
EndsTaken reading goes gives shared fault first now stream written count faults faults2 NotWords = EndsTalk reading goes gives shared fault first now stream written count NotWords × (faults2 ≡ faults)
EndsTaken reading goes gives shared fault first now stream written count faults faults2 (Full entries bytes) = EndsTalk reading goes gives shared fault first now stream written count (Full entries bytes) × (faults2 ≡ faults)
EndsTaken reading goes gives shared fault first now stream written count faults faults2 Closed = EndsTalk reading goes gives shared fault first now stream written count Closed × (faults2 ≡ faults)
EndsTaken reading goes gives shared fault first now stream written count faults faults2 Memory = EndsTalk reading goes gives shared fault first now stream written count Memory × (faults2 ≡ faults)

-- the values of a piece were asked and their answers sent; or no more is asked or sent
abbrev pub HasTakenPiece : {D : Type 0} → (D → List Deed → D → Type 0) → (ℕ → Type 0) → Bool → Option DeskFault → D → D → List ℕ → List ℕ → Option (List ℕ) → Option (List ℕ) → ℕ → ℕ → Talking → Result ⊤ Why → Type 0
HasTakenPiece goes gives shared fault first now stream sent was is faults faults2 t (Ok done) =
    (more : List ℕ) × Appends was is more × TalksAll goes gives first now stream (sent ++ more) t × (t.out.items ≡ []) × (faults2 ≡ faults)
HasTakenPiece goes gives shared fault first now stream sent was is faults faults2 t (Err why) =
    (more : List ℕ) × Appends was is more × EndsTaken (IsSpentDecoder t.decoder) goes gives shared fault first now stream (sent ++ more) t.commands faults faults2 why

-- amid a session all whole values that came were asked, their answers sent, and bytes came so often
pub record InSession {D : Type 0} (goes : D → List Deed → D → Type 0) (gives : ℕ → Type 0) (first now : D) (old new : LinkView) (t : Talking) (n : ℕ) : Type 0 where
  pub stream : List ℕ
  pub sent : List ℕ
  pub talks : TalksAll goes gives first now stream sent t
  pub empty : t.out.items ≡ []
  pub came : Appends old.received new.received stream
  pub went : Appends old.sent new.sent sent
  pub gained : new.gains ≡ raised_by n old.gains
  pub same_faults : new.faults ≡ old.faults
  pub same_ends : new.ends ≡ old.ends

-- one turn more was made; or the session ends in it
abbrev pub HasTurned : {D : Type 0} → (D → List Deed → D → Type 0) → (ℕ → Type 0) → Bool → Option DeskFault → D → D → LinkView → LinkView → Talking → ℕ → Result ⊤ Why → Type 0
HasTurned goes gives shared fault first now old new t n (Ok done) = InSession goes gives first now old new t (suc n)
HasTurned goes gives shared fault first now old new t n (Err why) = (turns : ℕ) → suc n ≤ turns → HasSession goes gives shared fault first now old new turns t.commands why

-- why a session ends whose other side ended, with these bytes left
abbrev pub IsEndWhy : List ℕ → Why → Type 0
IsEndWhy rest Ended = rest ≡ []
IsEndWhy rest Link = 0 < length rest
IsEndWhy rest Turns = ⊥
IsEndWhy rest (Wire kind place) = ⊥
IsEndWhy rest NotWords = ⊥
IsEndWhy rest (Full entries bytes) = ⊥
IsEndWhy rest Closed = ⊥
IsEndWhy rest Memory = ⊥
