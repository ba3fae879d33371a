-- The words of the command line: the name of a program that waits for others, an address, and the program's options in any order, each at most once with its value.
use Rattle.std.specs.List.{list_any}
use Rattle.std.specs.Option.{is_some}
use Rattle.std.specs.Prelude.{Bool, List, None, Option, Some, [], bytes_eq, codes, false, if◌then◌else◌, length, nat_eq, nat_le, not, true, unwrap_or, ℕ, ◌&&◌, ◌++◌, ◌^◌, ◌||◌, ◌∷◌}
use Rattle.line_text.specs.Numbers.{number_in}

-- the most connections that are served
abbrev pub connection_limit : ℕ
connection_limit = 4095

-- the most turns of a session, and how many it has where nothing is said of them
abbrev pub turn_limit : ℕ
turn_limit = 1000000

-- the greatest seed of a publisher
abbrev pub seed_limit : ℕ
seed_limit = 2 ^ 62

-- whether a minus stands before the others
abbrev pub is_dashed : List ℕ → Bool
is_dashed [] = false
is_dashed (byte ∷ bytes) = nat_eq byte 45

-- whether a word can be an address: at most 65,536 bytes, no minus before the others, and no equals sign among them
abbrev pub is_address : List ℕ → Bool
is_address word = nat_le (length word) 65536 && (not (is_dashed word) && not (list_any (λ b. nat_eq b 61) word))

abbrev pub is_connections : List ℕ → Bool
is_connections word = bytes_eq word (codes "--connections")

abbrev pub is_turns : List ℕ → Bool
is_turns word = bytes_eq word (codes "--turns")

abbrev pub is_seed : List ℕ → Bool
is_seed word = bytes_eq word (codes "--seed")

-- whether a word names the program that publishes
abbrev pub is_publish : List ℕ → Bool
is_publish word = bytes_eq word (codes "publish")

-- whether a word names a program that waits for others
abbrev pub is_program : List ℕ → Bool
is_program word = bytes_eq word (codes "serve") || is_publish word

-- whether a word is an option of the program of this name
abbrev pub is_option : List ℕ → List ℕ → Bool
is_option name word = if is_publish name then is_seed word else is_connections word || is_turns word

-- the greatest value of an option
abbrev pub option_limit : List ℕ → ℕ
option_limit option = if is_connections option then connection_limit else if is_seed option then seed_limit else turn_limit

-- whether a word can be the value of this option: a number from 1 on, within the option's limit
abbrev pub is_value : List ℕ → List ℕ → Bool
is_value option word = is_some (number_in 1 (option_limit option) word)

-- whether a word is the other option beside this one; there is none beside a seed
abbrev pub is_other : List ℕ → List ℕ → Bool
is_other option word = if is_connections option then is_turns word else not (is_seed option) && is_connections word

-- whether a word can stand next after these, each of which can stand after those before it
abbrev pub can_stand : List (List ℕ) → List ℕ → Bool
can_stand [] word = is_program word
can_stand (name ∷ []) word = is_address word
can_stand (name ∷ address ∷ []) word = is_option name word
can_stand (name ∷ address ∷ option ∷ []) word = is_value option word
can_stand (name ∷ address ∷ option ∷ value ∷ []) word = is_other option word
can_stand (name ∷ address ∷ option ∷ value ∷ other ∷ []) word = is_value other word
can_stand (name ∷ address ∷ option ∷ value ∷ other ∷ last ∷ more) word = false

-- whether an option has to stand there
abbrev pub is_needed : List ℕ → Bool
is_needed option = is_connections option || is_seed option

-- whether such words can end so: connections, or a seed, have to be among them, turns don't
abbrev pub can_end : List (List ℕ) → Bool
can_end [] = false
can_end (name ∷ []) = false
can_end (name ∷ address ∷ []) = false
can_end (name ∷ address ∷ option ∷ []) = false
can_end (name ∷ address ∷ option ∷ value ∷ []) = is_needed option
can_end (name ∷ address ∷ option ∷ value ∷ other ∷ []) = false
can_end (name ∷ address ∷ option ∷ value ∷ other ∷ last ∷ more) = true

-- the place of the first word that can't stand after those before it; or the count of words, where they can't end so
abbrev pub bad_after : List (List ℕ) → List (List ℕ) → Option ℕ
bad_after before [] = if can_end before then None else Some (length before)
bad_after before (word ∷ words) = if can_stand before word then bad_after (before ++ word ∷ []) words else Some (length before)

-- the place of the first bad word, or the count of words where one is missing
abbrev pub bad_wait_place : List (List ℕ) → Option ℕ
bad_wait_place words = bad_after [] words

-- the address that lawful words have
abbrev pub address_in : List (List ℕ) → List ℕ
address_in [] = []
address_in (name ∷ []) = []
address_in (name ∷ address ∷ options) = address

-- the value of the second option
abbrev pub second_value : List (List ℕ) → List ℕ
second_value [] = []
second_value (other ∷ []) = []
second_value (other ∷ value ∷ words) = value

-- the value of the option of this name; no bytes where it isn't there
abbrev pub option_value : List ℕ → List (List ℕ) → List ℕ
option_value option [] = []
option_value option (name ∷ []) = []
option_value option (name ∷ address ∷ []) = []
option_value option (name ∷ address ∷ first ∷ []) = []
option_value option (name ∷ address ∷ first ∷ value ∷ others) = if bytes_eq first option then value else second_value others

-- how many connections lawful words ask for
abbrev pub connections_in : List (List ℕ) → ℕ
connections_in words = unwrap_or (number_in 1 connection_limit (option_value (codes "--connections") words)) 0

-- how many turns lawful words give each session
abbrev pub turns_in : List (List ℕ) → ℕ
turns_in words = unwrap_or (number_in 1 turn_limit (option_value (codes "--turns") words)) turn_limit

-- the seed that lawful words give a publisher
abbrev pub seed_in : List (List ℕ) → ℕ
seed_in words = unwrap_or (number_in 1 seed_limit (option_value (codes "--seed") words)) 0

-- whether the first word names the program that publishes
abbrev pub names_publish : List (List ℕ) → Bool
names_publish [] = false
names_publish (name ∷ words) = is_publish name
