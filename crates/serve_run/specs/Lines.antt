-- The line of each session that ended.
use Rattle.std.specs.Prelude.{List, [], codes, decimal, ℕ, ◌+◌, ◌++◌, ◌∷◌}
use Rattle.sessions.specs.declared.conversing.SessionEnd.{SessionEnd}
use Rattle.sessions.specs.declared.ends.Why.{Why}
use Rattle.sessions.specs.declared.ends.Why.TheVariants.{Closed, Ended, Full, Link, Memory, NotWords, Turns, Wire}

-- why a session ended, as its line has it
abbrev pub why_name : Why → List ℕ
why_name Ended = codes "ended"
why_name Turns = codes "turns"
why_name (Wire kind place) = codes "wire"
why_name NotWords = codes "not words"
why_name Link = codes "link"
why_name (Full entries bytes) = codes "full"
why_name Closed = codes "closed"
why_name Memory = codes "memory"

-- the line of the session of this number: why it ended, and how many commands it asked
abbrev pub session_line : ℕ → SessionEnd → List ℕ
session_line number end = codes "session " ++ (decimal number ++ (codes " " ++ (why_name end.why ++ (codes " " ++ (decimal end.commands ++ codes "\n")))))

-- a line for each session, from this number on
abbrev pub session_lines : ℕ → List SessionEnd → List ℕ
session_lines number [] = []
session_lines number (end ∷ ends) = session_line number end ++ session_lines (number + 1) ends
