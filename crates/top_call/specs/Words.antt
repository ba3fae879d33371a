-- The words of the command line.
use Rattle.std.specs.Prelude.{Bool, List, None, Option, Some, [], bytes_eq, codes, false, if◌then◌else◌, is_some, ℕ, ◌&&◌, ◌||◌, ◌∷◌}
use Rattle.line_text.specs.Numbers.{number_in}

-- the first word after the name of `show` is bad, since it takes none
abbrev pub place_after : List (List ℕ) → Option ℕ
place_after [] = None
place_after (word ∷ words) = Some 1

-- the words are exactly this one
abbrev pub is_just : List ℕ → List (List ℕ) → Bool
is_just name [] = false
is_just name (word ∷ []) = bytes_eq word name
is_just name (word ∷ more ∷ words) = false

abbrev pub is_replay : List (List ℕ) → Bool
is_replay words = is_just (codes "replay") words

abbrev pub is_show : List (List ℕ) → Bool
is_show words = is_just (codes "show") words

-- the words are exactly these two
abbrev pub is_pair : List ℕ → List ℕ → List (List ℕ) → Bool
is_pair name flag [] = false
is_pair name flag (word ∷ []) = false
is_pair name flag (word ∷ other ∷ []) = bytes_eq word name && bytes_eq other flag
is_pair name flag (word ∷ other ∷ more ∷ words) = false

-- they ask for the record of a schedule's history
abbrev pub is_recording : List (List ℕ) → Bool
is_recording words = is_pair (codes "replay") (codes "--record") words

-- they ask for what a schedule determines, as a report or a record
abbrev pub reads_schedule : List (List ℕ) → Bool
reads_schedule words = is_replay words || is_recording words

-- the number of messages that a word spells
abbrev pub count_in : List ℕ → Option ℕ
count_in word = number_in 1 50000 word

-- of how many messages a schedule is to be made, where the words are exactly `replay --make` and that number
abbrev pub made_count : List (List ℕ) → Option ℕ
made_count [] = None
made_count (word ∷ []) = None
made_count (word ∷ option ∷ []) = None
made_count (word ∷ option ∷ number ∷ []) = if bytes_eq word (codes "replay") && bytes_eq option (codes "--make") then count_in number else None
made_count (word ∷ option ∷ number ∷ more ∷ words) = None

-- they ask for a program that reads no schedule
abbrev pub is_apart : List (List ℕ) → Bool
is_apart words = is_show words || is_some (made_count words)

-- the first bad word after `replay --record`
abbrev pub place_after_record : List (List ℕ) → Option ℕ
place_after_record [] = None
place_after_record (word ∷ words) = Some 2

-- the first bad word after `replay --make`, or the count of words where its number is missing
abbrev pub place_after_make : List (List ℕ) → Option ℕ
place_after_make [] = Some 2
place_after_make (word ∷ []) = if is_some (count_in word) then None else Some 2
place_after_make (word ∷ more ∷ words) = if is_some (count_in word) then Some 3 else Some 2

-- the first bad word after the name of `replay`, which takes one option at most
abbrev pub place_after_replay : List (List ℕ) → Option ℕ
place_after_replay [] = None
place_after_replay (option ∷ words) = if bytes_eq option (codes "--record") then place_after_record words else if bytes_eq option (codes "--make") then place_after_make words else Some 1

-- the place of the first bad word, or the count of words where one is missing: the words are exactly the name of one program, and for `replay` an option with its value
abbrev pub bad_place : List (List ℕ) → Option ℕ
bad_place [] = Some 0
bad_place (word ∷ words) = if bytes_eq word (codes "replay") then place_after_replay words else if bytes_eq word (codes "show") then place_after words else Some 0
