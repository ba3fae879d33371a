-- How all of some bytes are sent.
use Rattle.std.specs.Io.KnownBytes.{Appends}
use Rattle.std.specs.Prelude.{Err, List, Ok, Option, Result, length, ⊤, ℕ, ◌++◌, ◌<◌, ◌≡◌}
use Rattle.net_links.specs.declared.link.NetFault.{NetFault}

-- a front of these bytes, and not all of them, was sent
abbrev pub SendsFront : Option (List ℕ) → Option (List ℕ) → List ℕ → Type 0
SendsFront old new bytes = (front : List ℕ) × (rest : List ℕ) × (bytes ≡ front ++ rest) × (0 < length rest) × Appends old new front

-- all of these bytes were sent; or the link failed or wanted memory, and a front was
abbrev pub SendsAll : Option (List ℕ) → Option (List ℕ) → List ℕ → Result ⊤ NetFault → Type 0
SendsAll old new bytes (Ok done) = Appends old new bytes
SendsAll old new bytes (Err fault) = SendsFront old new bytes
