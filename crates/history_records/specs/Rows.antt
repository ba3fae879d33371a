-- The rows of a record: what its lines after the header say.
use Rattle.std.specs.Prelude.{ℕ, List, ◌++◌, map}
use Rattle.std.specs.FinMap.{entries}
use Rattle.place_model.specs.Histories.{History}
use Rattle.place_model.specs.declared.heard.Heard.{Heard}
use Rattle.history_records.specs.Lines.{client_line, entry_line}
use Rattle.history_records.specs.Records.{seed_map}
use Rattle.history_records.specs.declared.row.Row.{Row}
use Rattle.history_records.specs.declared.row.Row.TheVariants.{Client, Event}

-- the line of a row, without its line feed
abbrev pub row_line : Row → List ℕ
row_line (Client connection seed) = client_line (connection, seed)
row_line (Event entry) = entry_line entry

-- the rows of a history's record
abbrev pub rows : History Heard → List Row
rows h = map (λ c. Client c.0 c.1) (entries (seed_map h.clients)) ++ map Event h.entries
