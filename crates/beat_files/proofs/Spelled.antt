-- What the lines of a file spell, one line further. Serves the proofs of code.
use Rattle.std.proofs.Common.{◌≡◌, ◌++◌, ◌∙◌, ap, sym, List, [], ◌∷◌, ℕ, length, Ok, refl, arith, append_assoc}
use Rattle.queue_keys.specs.Names.{Bytes}
use Rattle.beat_times.specs.declared.timed.Timed.{Timed}
use Rattle.beat_files.specs.BeatFiles.{BeatFile, BeatLine, Bad_line, Entries, entry_before, line_before, lines_spell, unless_cut}
use Rattle.beat_files.specs.Readings.{AreFrom, entries_before, lines_with, sending_of, timing_of}
use Rattle.beat_files.specs.declared.entry.BeatTask.{BeatTask}

-- ---- side by side

-- one more of each
pub lines_push : (es : List BeatTask) (ts : List Timed) (e : BeatTask) (t : Timed) → length ts ≡ length es → lines_with (es ++ e ∷ []) (ts ++ t ∷ []) ≡ lines_with es ts ++ (record { sends = sending_of e; timing = timing_of t.timing }) ∷ []
lines_push [] [] e t h = refl
lines_push [] (u ∷ us) e t h = cc
lines_push (x ∷ xs) [] e t h = cc
lines_push (x ∷ xs) (u ∷ us) e t h = ap (λ ls. (record { sends = sending_of x; timing = timing_of u.timing }) ∷ ls) (lines_push xs us e t (omega arith))

pub from_push : (start : ℕ) (ts : List Timed) (t : Timed) → AreFrom start ts → t.last ≡ start → AreFrom start (ts ++ t ∷ [])
from_push start [] t h e = (e, tt)
from_push start (u ∷ us) t h e = (h.0, from_push start us t h.1 e)

-- ---- what is read before the rest

before_on : (es : List BeatLine) (e : BeatLine) (file : BeatFile) → entries_before es (entry_before e file) ≡ entries_before (es ++ e ∷ []) file
before_on es e (Entries more) = ap Entries (sym (append_assoc es (e ∷ []) more))
before_on es e (Bad_line n r) = refl

-- one line more is an entry
pub reads_on : (cut : ℕ) (told : BeatFile) (es : List BeatLine) (mid rest : List (ℕ × Bytes)) (n : ℕ) (l : Bytes) (e : BeatLine) → told ≡ entries_before es (lines_spell cut mid) → mid ≡ (n, l) ∷ rest → unless_cut cut (n, l) ≡ Ok e
    → told ≡ entries_before (es ++ e ∷ []) (lines_spell cut rest)
reads_on cut told es mid rest n l e so_far is spelled =
    so_far ∙ ap (λ m. entries_before es (lines_spell cut m)) is ∙ ap (λ s. entries_before es (line_before n s (lines_spell cut rest))) spelled ∙ before_on es e (lines_spell cut rest)
