-- The report of a history: its entries, the places of its messages, and how many there are of each.
use Rattle.std.specs.Prelude.{ℕ, ◌+◌, ◌/◌, ◌%◌, ◌^◌, Bool, true, false, List, [], ◌∷◌, ◌++◌, codes, decimal, count_by, map}
use Rattle.std.specs.Fmt.{signed_decimal}
use Rattle.std.specs.List.{flat_map}
use Rattle.line_text.specs.Forms.{quoted}
use Rattle.line_text.specs.Short.{short_word, short_value, tag_short}
use Rattle.line_text.specs.declared.short.Shape.{Shape}
use Rattle.store_model.specs.declared.reply.Reply.{Reply}
use Rattle.delivery_tags.specs.declared.tag.Tag.{Tag}
use Rattle.place_model.specs.Accepted.{places}
use Rattle.place_model.specs.Histories.{History}
use Rattle.queue_keys.specs.Names.{Bytes}
use Rattle.command_blocks.specs.Setting.{Setting}
use Rattle.place_model.specs.declared.heard.Heard.{Heard}
use Rattle.place_model.specs.declared.heard.Heard.TheVariants.{Took, Finished, Expired, Revoked, Rejected, Held, Unreadable}
use Rattle.place_model.specs.declared.heard.Outcome.{Outcome}
use Rattle.place_model.specs.declared.heard.Outcome.TheVariants.{Success, Failure, Retry}
use Rattle.place_model.specs.declared.history.Entry.{Entry}
use Rattle.place_model.specs.declared.history.Entry.TheVariants.{Call, Heard as Noted, Stop}
use Rattle.place_model.specs.declared.place.Place.{Place}
use Rattle.place_model.specs.declared.place.Place.TheVariants.{List as InList, Unacked, Hand, Ended, Lost, Copies, Never}

-- how a report reads bytes: the names of keys, what a word spells, and the seed and counter of a tag's text
pub record ReportLegend : Type 0 where
  pub setting : Setting
  pub shape : Bytes → Shape
  pub seed : Bytes → ℕ
  pub counter : Bytes → ℕ

-- texts with this text between them
abbrev pub parted : Bytes → List Bytes → Bytes
parted gap [] = []
parted gap (t ∷ ts) = t ++ flat_map (λ u. gap ++ u) ts

-- words with a space between them, as a line
abbrev pub line : List Bytes → Bytes
line ws = parted (codes " ") ws ++ 10 ∷ []

-- ---- entries

-- a reply: the values that were pushed, and the answer
abbrev pub reply_text : ReportLegend → Reply → Bytes
reply_text l r = parted (codes " ; ") (map (short_value l.shape) (r.pushed ++ r.answer ∷ []))

-- a tag by its seed and counter
abbrev pub noted_tag : Tag → Bytes
noted_tag t = tag_short (t.0 / 2 ^ 64) (t.0 % 2 ^ 64)

-- the words of an outcome
abbrev pub outcome_words : Outcome → List Bytes
outcome_words (Success text) = codes "success" ∷ text ∷ []
outcome_words (Failure text) = codes "failure" ∷ quoted text ∷ []
outcome_words (Retry seconds) = codes "retry" ∷ decimal seconds ∷ []

-- the words of a note
abbrev pub note_words : Heard → List Bytes
note_words (Took t) = codes "TOOK" ∷ noted_tag t ∷ []
note_words (Finished t o) = codes "FINISHED" ∷ noted_tag t ∷ outcome_words o
note_words (Expired t expires now) = codes "EXPIRED" ∷ noted_tag t ∷ signed_decimal expires ∷ signed_decimal now ∷ []
note_words (Revoked t) = codes "REVOKED" ∷ noted_tag t ∷ []
note_words (Rejected t) = codes "REJECTED" ∷ noted_tag t ∷ []
note_words (Held t eta) = codes "HELD" ∷ noted_tag t ∷ signed_decimal eta ∷ []
note_words Unreadable = codes "UNREADABLE" ∷ []

-- the entry of this number
abbrev pub entry_line : ReportLegend → ℕ → Entry Heard → Bytes
entry_line l n (Call c at words reply) = line (decimal n ∷ decimal at ∷ decimal c ∷ map (short_word l.shape) words ++ codes "=" ∷ reply_text l reply ∷ [])
entry_line l n (Noted c note) = line (decimal n ∷ codes "-" ∷ decimal c ∷ note_words note)
entry_line l n (Stop c) = line (decimal n ∷ codes "-" ∷ decimal c ∷ codes "STOP" ∷ [])

-- the entries, the first of them numbered n
abbrev pub entry_lines : ReportLegend → ℕ → List (Entry Heard) → Bytes
entry_lines l n [] = []
entry_lines l n (e ∷ es) = entry_line l n e ++ entry_lines l (n + 1) es

-- ---- places

-- the words of a place
abbrev pub place_words : ReportLegend → Place → List Bytes
place_words l (InList queue step) = codes "list" ∷ short_word l.shape queue ∷ decimal step ∷ []
place_words l Unacked = codes "unacked" ∷ []
place_words l (Hand c) = codes "hand" ∷ decimal c ∷ []
place_words l Ended = codes "ended" ∷ []
place_words l (Lost c) = codes "lost" ∷ decimal c ∷ []
place_words l Copies = codes "copies" ∷ []
place_words l Never = codes "never" ∷ []

-- a tag with its place
abbrev pub place_line : ReportLegend → Bytes × Place → Bytes
place_line l p = line (codes "place" ∷ tag_short (l.seed p.0) (l.counter p.0) ∷ place_words l p.1)

-- ---- totals

abbrev pub is_list : Place → Bool
is_list (InList queue step) = true
is_list other = false

abbrev pub is_unacked : Place → Bool
is_unacked Unacked = true
is_unacked other = false

abbrev pub is_hand : Place → Bool
is_hand (Hand c) = true
is_hand other = false

abbrev pub is_ended : Place → Bool
is_ended Ended = true
is_ended other = false

abbrev pub is_lost : Place → Bool
is_lost (Lost c) = true
is_lost other = false

abbrev pub is_copies : Place → Bool
is_copies Copies = true
is_copies other = false

-- how many of the places pass a test
abbrev pub place_total : (Place → Bool) → List (Bytes × Place) → Bytes
place_total p ps = decimal (count_by (λ e. p e.1) ps)

-- how many messages there are in each place
abbrev pub total_line : List (Bytes × Place) → Bytes
total_line ps = line (codes "total"
    ∷ codes "list" ∷ place_total is_list ps
    ∷ codes "unacked" ∷ place_total is_unacked ps
    ∷ codes "hand" ∷ place_total is_hand ps
    ∷ codes "ended" ∷ place_total is_ended ps
    ∷ codes "lost" ∷ place_total is_lost ps
    ∷ codes "copies" ∷ place_total is_copies ps ∷ [])

-- the report of a history
abbrev pub report_text : ReportLegend → History Heard → Bytes
report_text l h =
    let ps = places l.setting h in
    line (codes "celery-report 1" ∷ []) ++ entry_lines l 1 h.entries ++ flat_map (place_line l) ps ++ total_line ps
