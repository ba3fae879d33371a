-- A record determines its history.
use Rattle.std.specs.Prelude.{◌≡◌}
use Rattle.place_model.specs.Histories.{History}
use Rattle.place_model.specs.declared.heard.Heard.{Heard}
use Rattle.history_records.specs.Recordable.{IsRecordable}
use Rattle.history_records.specs.Records.{record_text, seed_map}

-- histories with one record have the same clients, as a map from connections to seeds, and the same entries
abbrev pub RecordsDetermine : Type 0
RecordsDetermine = (g h : History Heard) → IsRecordable g → IsRecordable h → record_text g ≡ record_text h → (seed_map g.clients ≡ seed_map h.clients) × (g.entries ≡ h.entries)
