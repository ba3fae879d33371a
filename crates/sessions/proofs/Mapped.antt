-- A session at a desk is one at whatever the desk stands for.
use Rattle.std.proofs.Common.{List, ℕ}
use Rattle.std.specs.Prelude.{Bool, Option}
use Rattle.desks.specs.Deeds.{Deed}
use Rattle.desks.specs.declared.desk.DeskFault.{DeskFault}
use Rattle.sessions.specs.Hearings.{HasHeard}
use Rattle.net_links.specs.LinkViews.{LinkView}
use Rattle.sessions.specs.SessionEnds.{EndsSession, HasSession}
use Rattle.sessions.specs.declared.ends.Why.{Why}
use Rattle.sessions.specs.declared.ends.Why.TheVariants.{Closed, Ended, Full, Link, Memory, NotWords, Turns, Wire}

module _ {D E : Type 0} (goes : D → List Deed → D → Type 0) (leads : E → List Deed → E → Type 0) (gives : ℕ → Type 0) (shared : Bool) (fault : Option DeskFault) (first now : D) (from to : E) (over : (l : List Deed) → goes first l now → leads from l to) where
  abbrev heard_as : (stream : List ℕ) (count : ℕ) → HasHeard goes gives first now stream count → HasHeard leads gives from to stream count
  heard_as stream count h = record {
    values = h.values;
    deeds = h.deeds;
    from = h.from;
    rest = h.rest;
    leads = h.leads;
    calls = h.calls;
    went = over h.deeds h.went;
    counted = h.counted;
  }

  module _ (old new : LinkView) (turns : ℕ) where
    ends_as : (receives : ℕ) (stream sent : List ℕ) (count : ℕ) (why : Why) → EndsSession goes gives shared fault first now old new turns receives stream sent count why → EndsSession leads gives shared fault from to old new turns receives stream sent count why
    ends_as receives stream sent count Ended (h, w, r, e, k, f) = (heard_as stream count h, w, r, e, k, f)
    ends_as receives stream sent count Turns (h, w, f, e, c) = (heard_as stream count h, w, f, e, c)
    ends_as receives stream sent count Link (h, cause) = (heard_as stream count h, cause)
    ends_as receives stream sent count (Wire kind place) ((h, w, x), calm) = ((heard_as stream count h, w, x), calm)
    ends_as receives stream sent count NotWords ((h, w, x), calm) = ((heard_as stream count h, w, x), calm)
    ends_as receives stream sent count (Full entries bytes) ((h, w, b, i), calm) = ((heard_as stream count h, w, b, i), calm)
    ends_as receives stream sent count Closed ((h, w, b, i), calm) = ((heard_as stream count h, w, b, i), calm)
    ends_as receives stream sent count Memory (h, lacks, calm) = (heard_as stream count h, lacks, calm)

    pub session_as : (count : ℕ) (why : Why) → HasSession goes gives shared fault first now old new turns count why → HasSession leads gives shared fault from to old new turns count why
    session_as count why s = record {
      stream = s.stream;
      sent = s.sent;
      receives = s.receives;
      came = s.came;
      went = s.went;
      gained = s.gained;
      few = s.few;
      later_faults = s.later_faults;
      later_ends = s.later_ends;
      ends = ends_as s.receives s.stream s.sent count why s.ends;
    }

-- what was asked in a session, however it ended
pub heard_in : {D : Type 0} (goes : D → List Deed → D → Type 0) (gives : ℕ → Type 0) (shared : Bool) (fault : Option DeskFault) (first now : D) (old new : LinkView) (turns receives : ℕ) (stream sent : List ℕ) (count : ℕ) (why : Why)
    → EndsSession goes gives shared fault first now old new turns receives stream sent count why → HasHeard goes gives first now stream count
heard_in goes gives shared fault first now old new turns receives stream sent count Ended (h, w, r, e, k, f) = h
heard_in goes gives shared fault first now old new turns receives stream sent count Turns (h, w, f, e, c) = h
heard_in goes gives shared fault first now old new turns receives stream sent count Link (h, cause) = h
heard_in goes gives shared fault first now old new turns receives stream sent count (Wire kind place) ((h, w, x), calm) = h
heard_in goes gives shared fault first now old new turns receives stream sent count NotWords ((h, w, x), calm) = h
heard_in goes gives shared fault first now old new turns receives stream sent count (Full entries bytes) ((h, w, b, i), calm) = h
heard_in goes gives shared fault first now old new turns receives stream sent count Closed ((h, w, b, i), calm) = h
heard_in goes gives shared fault first now old new turns receives stream sent count Memory (h, lacks, calm) = h
