-- The lines of a record, without their line feeds.
use Rattle.std.specs.Prelude.{ℕ, ◌/◌, ◌%◌, ◌^◌, List, [], ◌∷◌, ◌++◌, codes, decimal}
use Rattle.std.specs.Fmt.{signed_decimal}
use Rattle.std.specs.List.{flat_map}
use Rattle.delivery_tags.specs.declared.tag.Tag.{Tag}
use Rattle.line_text.specs.Forms.{quoted, value_form, words_text}
use Rattle.line_text.specs.Short.{tag_short}
use Rattle.wire_values.specs.declared.value.Value.{Value}
use Rattle.store_model.specs.declared.reply.Reply.{Reply}
use Rattle.place_model.specs.declared.heard.Heard.{Heard}
use Rattle.place_model.specs.declared.heard.Heard.TheVariants.{Took, Finished, Expired, Revoked, Rejected, Held, Unreadable}
use Rattle.place_model.specs.declared.heard.Outcome.{Outcome}
use Rattle.place_model.specs.declared.heard.Outcome.TheVariants.{Success, Failure, Retry}
use Rattle.place_model.specs.declared.history.Entry.{Entry}
use Rattle.place_model.specs.declared.history.Entry.TheVariants.{Call, Heard as Noted, Stop}

-- the first line
abbrev pub header : List ℕ
header = codes "celery-record 1"

-- the line of a client, by its connection and its seed
abbrev pub client_line : ℕ × ℕ → List ℕ
client_line c = codes "client " ++ (decimal c.0 ++ (codes " seed " ++ decimal c.1))

-- ---- calls

-- values, each with a semicolon between spaces after it
abbrev pub pushed_text : List Value → List ℕ
pushed_text values = flat_map (λ v. value_form v ++ codes " ; ") values

-- a reply: the values that were pushed, and the answer
abbrev pub reply_text : Reply → List ℕ
reply_text r = pushed_text r.pushed ++ value_form r.answer

-- a call: its moment, its connection, its words and its reply
abbrev pub call_line : ℕ → ℕ → List (List ℕ) → Reply → List ℕ
call_line at c words reply = codes "call " ++ (decimal at ++ 32 ∷ (decimal c ++ 32 ∷ (words_text quoted words ++ (codes "= " ++ reply_text reply))))

-- ---- notes

-- a tag by its seed and counter
abbrev pub tag_text : Tag → List ℕ
tag_text t = tag_short (t.0 / 2 ^ 64) (t.0 % 2 ^ 64)

-- how a task ended
abbrev pub outcome_text : Outcome → List ℕ
outcome_text (Success text) = codes "success " ++ quoted text
outcome_text (Failure text) = codes "failure " ++ quoted text
outcome_text (Retry seconds) = codes "retry " ++ decimal seconds

-- a note
abbrev pub note_text : Heard → List ℕ
note_text (Took t) = codes "TOOK " ++ tag_text t
note_text (Finished t o) = codes "FINISHED " ++ (tag_text t ++ 32 ∷ outcome_text o)
note_text (Expired t expires now) = codes "EXPIRED " ++ (tag_text t ++ 32 ∷ (signed_decimal expires ++ 32 ∷ signed_decimal now))
note_text (Revoked t) = codes "REVOKED " ++ tag_text t
note_text (Rejected t) = codes "REJECTED " ++ tag_text t
note_text (Held t eta) = codes "HELD " ++ (tag_text t ++ 32 ∷ signed_decimal eta)
note_text Unreadable = codes "UNREADABLE"

-- ---- entries

-- the line of an entry
abbrev pub entry_line : Entry Heard → List ℕ
entry_line (Call c at words reply) = call_line at c words reply
entry_line (Noted c note) = codes "heard " ++ (decimal c ++ 32 ∷ note_text note)
entry_line (Stop c) = codes "stop " ++ decimal c
