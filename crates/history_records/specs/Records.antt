-- The record of a history: a text that determines it.
use Rattle.std.specs.Prelude.{ℕ, List, [], ◌∷◌, ◌++◌, map}
use Rattle.std.specs.FinMap.{FinMap, entries, from_entries}
use Rattle.std.specs.List.{flat_map}
use Rattle.std.specs.Ordering.{nat_cmp}
use Rattle.place_model.specs.Histories.{History}
use Rattle.place_model.specs.declared.heard.Heard.{Heard}
use Rattle.history_records.specs.Lines.{header, client_line, entry_line}

-- a table of connections with their seeds as a map
abbrev pub seed_map : List (ℕ × ℕ) → FinMap nat_cmp ℕ
seed_map clients = from_entries clients

-- lines, each with its line feed
abbrev pub ended : List (List ℕ) → List ℕ
ended lines = flat_map (λ l. l ++ 10 ∷ []) lines

-- the lines of a record: the header, the clients by their connections, and the entries in order
abbrev pub record_lines : History Heard → List (List ℕ)
record_lines h = header ∷ (map client_line (entries (seed_map h.clients)) ++ map entry_line h.entries)

-- the record of a history
abbrev pub record_text : History Heard → List ℕ
record_text h = ended (record_lines h)
