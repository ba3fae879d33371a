-- How a session ends.
use Rattle.std.specs.Io.KnownBytes.{Appends}
use Rattle.std.specs.Prelude.{Bool, List, None, Option, [], length, ℕ, ◌<◌, ◌≡◌, ◌≤◌, ◌⊎◌}
use Rattle.links.specs.Causes.{Rose}
use Rattle.wire_grammar.specs.Spells.{IsFront}
use Rattle.desks.specs.Deeds.{Deed}
use Rattle.desks.specs.declared.desk.DeskFault.{DeskFault}
use Rattle.sessions.specs.Hearings.{EndsTalk, HasHeard, LacksMemory, WritesAll, WritesPart}
use Rattle.net_links.specs.LinkViews.{LinkView, raised_by}
use Rattle.sessions.specs.declared.ends.Why.{Why}
use Rattle.sessions.specs.declared.ends.Why.TheVariants.{Closed, Ended, Full, Link, Memory, NotWords, Turns, Wire}

-- a link didn't fail and didn't end
pub record IsCalmLink (old new : LinkView) : Type 0 where
  pub no_fault : new.faults ≡ old.faults
  pub no_end : new.ends ≡ old.ends

-- a link failed to give more, and didn't end; or it ended within a value, and didn't fail
abbrev pub GivesNoMore : LinkView → LinkView → List ℕ → Type 0
GivesNoMore old new rest = (Rose old.faults new.faults × (new.ends ≡ old.ends)) ⊎ (Rose old.ends new.ends × (new.faults ≡ old.faults) × (0 < length rest))

-- the link failed to take the answers, of which a front was sent, and didn't end; or it gave no more, before the turns were over, when all whole values were asked and answered
abbrev pub IsLinkCause : LinkView → LinkView → ℕ → ℕ → List Deed → List ℕ → List ℕ → Type 0
IsLinkCause old new turns receives deeds rest sent =
    (WritesPart deeds sent × Rose old.faults new.faults × (new.ends ≡ old.ends)) ⊎ (WritesAll deeds sent × IsFront rest × (receives < turns) × GivesNoMore old new rest)

-- there was no memory to receive into, before anything came
abbrev pub LacksRoom : ℕ → List ℕ → List ℕ → Option DeskFault → Type 0
LacksRoom receives stream sent fault = (receives ≡ 0) × (stream ≡ []) × (sent ≡ []) × (fault ≡ None)

-- why a session ends, and what was written then: between two values the other side ended, before the turns were over; or the turns are over; or the link failed or ended within a value; or no more is asked of what came; or memory was wanting
abbrev pub EndsSession : {D : Type 0} → (D → List Deed → D → Type 0) → (ℕ → Type 0) → Bool → Option DeskFault → D → D → LinkView → LinkView → ℕ → ℕ → List ℕ → List ℕ → ℕ → Why → Type 0
EndsSession goes gives shared fault first now old new turns receives stream sent count Ended =
    (h : HasHeard goes gives first now stream count) × WritesAll h.deeds sent × (h.rest ≡ []) × Rose old.ends new.ends × (new.faults ≡ old.faults) × (receives < turns)
EndsSession goes gives shared fault first now old new turns receives stream sent count Turns = (h : HasHeard goes gives first now stream count) × WritesAll h.deeds sent × IsFront h.rest × (receives ≡ turns) × IsCalmLink old new
EndsSession goes gives shared fault first now old new turns receives stream sent count Link = (h : HasHeard goes gives first now stream count) × IsLinkCause old new turns receives h.deeds h.rest sent
EndsSession goes gives shared fault first now old new turns receives stream sent count (Wire kind place) = EndsTalk (0 < receives) goes gives shared fault first now stream sent count (Wire kind place) × IsCalmLink old new
EndsSession goes gives shared fault first now old new turns receives stream sent count NotWords = EndsTalk (0 < receives) goes gives shared fault first now stream sent count NotWords × IsCalmLink old new
EndsSession goes gives shared fault first now old new turns receives stream sent count (Full entries bytes) = EndsTalk (0 < receives) goes gives shared fault first now stream sent count (Full entries bytes) × IsCalmLink old new
EndsSession goes gives shared fault first now old new turns receives stream sent count Closed = EndsTalk (0 < receives) goes gives shared fault first now stream sent count Closed × IsCalmLink old new
EndsSession goes gives shared fault first now old new turns receives stream sent count Memory = (h : HasHeard goes gives first now stream count) × (LacksRoom receives stream sent fault ⊎ LacksMemory (0 < receives) fault h.deeds h.rest sent) × IsCalmLink old new

-- a session: the bytes that came over the link, those that went out, how often bytes came, and why it ended
pub record HasSession {D : Type 0} (goes : D → List Deed → D → Type 0) (gives : ℕ → Type 0) (shared : Bool) (fault : Option DeskFault) (first now : D) (old new : LinkView) (turns : ℕ) (count : ℕ) (why : Why) : Type 0 where
  pub stream : List ℕ
  pub sent : List ℕ
  pub receives : ℕ
  pub came : Appends old.received new.received stream
  pub went : Appends old.sent new.sent sent
  pub gained : new.gains ≡ raised_by receives old.gains
  pub few : receives ≤ turns
  pub later_faults : old.faults ≤ new.faults
  pub later_ends : old.ends ≤ new.ends
  pub ends : EndsSession goes gives shared fault first now old new turns receives stream sent count why
