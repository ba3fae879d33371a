-- What is sent of a command.
use Rattle.std.proofs.Common.{List, Option, [], refl, ℕ}
use Rattle.std.proofs.KnownBytes.{Appends-nil}
use Rattle.sessions.specs.Sendings.{SendsFront}
use Rattle.link_desk.specs.LinkDeeds.{SendsPart}

-- nothing
pub sent_none : (a : Option (List ℕ)) (bytes : List ℕ) → SendsPart a a bytes
sent_none a bytes = ([], bytes, refl, Appends-nil a)

-- a front
pub sent_front : (a b : Option (List ℕ)) (bytes : List ℕ) → SendsFront a b bytes → SendsPart a b bytes
sent_front a b bytes (front, rest, split, some, sends) = (front, rest, split, sends)
