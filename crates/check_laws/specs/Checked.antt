-- What holds of the judgement of a record.
use Rattle.std.specs.Prelude.{◌≡◌, ◌⊎◌, [], ◌∷◌, ◌++◌}
use Rattle.queue_keys.specs.Names.{Bytes}
use Rattle.command_blocks.specs.Setting.{IsLawful}
use Rattle.place_model.specs.Histories.{History}
use Rattle.place_model.specs.Starts.{IsSound}
use Rattle.place_model.specs.declared.heard.Heard.{Heard}
use Rattle.manner_laws.specs.Cursor.{IsReadable}
use Rattle.history_records.specs.Recordable.{IsRecordable}
use Rattle.history_records.specs.Records.{record_text}
use Rattle.record_model.specs.Judged.{IsJudged, Judgement, Lawful}
use Rattle.record_model.specs.Steps.{Manner}

-- bytes are judged to be one thing
abbrev pub JudgedOnce : Type 0
JudgedOnce = (μ : Manner) (bytes : Bytes) (j k : Judgement) → IsJudged μ bytes j → IsJudged μ bytes k → j ≡ k

-- the bytes are the record of the history, of which the last line feed may be missing
abbrev pub IsRecordOf : Bytes → History Heard → Type 0
IsRecordOf bytes h = (record_text h ≡ bytes) ⊎ (record_text h ≡ bytes ++ 10 ∷ [])

-- what is judged to be the record of a history is so, and each number of that history has the bits of its type
abbrev pub LawfulAreRecords : Type 0
LawfulAreRecords = (μ : Manner) (bytes : Bytes) (h : History Heard) → IsJudged μ bytes (Lawful h) → IsRecordOf bytes h × IsRecordable h

-- and that history is sound
abbrev pub LawfulAreSound : Type 0
LawfulAreSound = (μ : Manner) (bytes : Bytes) (h : History Heard) → IsLawful μ.setting → IsReadable μ.setting μ.exchange_at → IsJudged μ bytes (Lawful h) → IsSound μ.setting h
