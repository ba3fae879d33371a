-- A source and a sink in memory, and what one call does to them.
use Rattle.std.specs.Prelude.{Bool, List, drop, if◌then◌else◌, length, min, nat_eq, nat_lt, take, ℕ, ◌&&◌, ◌++◌, ◌-◌, ◌||◌}
use Rattle.links.specs.Counts.{is_failing, raised}

-- a source in memory: the bytes that are left, the longest piece, which calls fail, and its counts
pub record MemorySourceView : Type 0 where
  pub left : List ℕ
  pub piece : ℕ
  pub fails : List ℕ
  pub calls : ℕ
  pub faults : ℕ
  pub ends : ℕ

-- a sink in memory: the bytes that it took, the room that is left, the longest piece, which calls fail, and its counts
pub record MemorySinkView : Type 0 where
  pub taken : List ℕ
  pub room : ℕ
  pub piece : ℕ
  pub fails : List ℕ
  pub calls : ℕ
  pub faults : ℕ

-- whether the next call of a source fails
abbrev pub read_fails : MemorySourceView → Bool
read_fails s = is_failing s.fails s.calls

-- how many bytes a read gives into a slice of this length
abbrev pub read_count : MemorySourceView → ℕ → ℕ
read_count s room = min (min (length s.left) room) s.piece

-- the count of ends after a read that does not fail
abbrev pub ends_after : MemorySourceView → ℕ → ℕ
ends_after s room = if nat_eq (read_count s room) 0 && nat_lt 0 room then raised s.ends else s.ends

-- the source after a read into a slice of this length
abbrev pub source_after : MemorySourceView → ℕ → MemorySourceView
source_after s room = if read_fails s
    then record s { calls = raised s.calls; faults = raised s.faults }
    else record s { left = drop (read_count s room) s.left; calls = raised s.calls; ends = ends_after s room }

-- how many bytes a write takes of so many
abbrev pub write_count : MemorySinkView → ℕ → ℕ
write_count s length = min (min length s.room) s.piece

-- whether the next call of a sink fails: it is told to, or there is no room
abbrev pub write_fails : MemorySinkView → ℕ → Bool
write_fails s length = is_failing s.fails s.calls || (nat_eq s.room 0 && nat_lt 0 length)

-- the sink after a write of this piece
abbrev pub sink_after : MemorySinkView → List ℕ → MemorySinkView
sink_after s piece = if write_fails s (length piece)
    then record s { calls = raised s.calls; faults = raised s.faults }
    else record s { taken = s.taken ++ take (write_count s (length piece)) piece; room = s.room - write_count s (length piece); calls = raised s.calls }
