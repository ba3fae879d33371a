-- How the lines of a schedule are spelled.
use Rattle.std.specs.Prelude.{ℕ, ◌^◌, ◌-◌, ◌&&◌, nat_le, if◌then◌else◌, bytes_eq, List, [], ◌∷◌, length, codes, Option, Some, None, option_map}
use Rattle.std.specs.List.{list_all, join_with_byte}
use Rattle.line_text.specs.Numbers.{number_in, moment_in, tag_in}
use Rattle.line_text.specs.Words.{is_word}
use Rattle.queue_keys.specs.Names.{Bytes}
use Rattle.schedule_model.specs.declared.line.Asked.{Asked}
use Rattle.schedule_model.specs.declared.line.Asked.TheVariants.{Publish, Declare, Undeclare, Pop, Ack, Restore, Requeue, Pass}
use Rattle.schedule_model.specs.declared.line.Line.{Line}
use Rattle.schedule_model.specs.declared.line.Line.TheVariants.{Client, At, Begin, Step, Run, Stop}

-- ---- words

-- the highest number of a client
abbrev pub max_client : ℕ
max_client = 4096

-- the number of a client
abbrev pub client_in : Bytes → Option ℕ
client_in w = number_in 1 max_client w

-- the seed of a client
abbrev pub seed_in : Bytes → Option ℕ
seed_in w = number_in 1 (2 ^ 62) w

-- a word that is a name
abbrev pub name_in : Bytes → Option Bytes
name_in w = if is_word w then Some w else None

-- a word that is a name, where a dash stands for the empty one
abbrev pub dashed_in : Bytes → Option Bytes
dashed_in w = if bytes_eq w (codes "-") then Some [] else name_in w

-- words that are names of queues, from one to as many as a pop may name
abbrev pub queues_in : List Bytes → Option (List Bytes)
queues_in [] = None
queues_in (q ∷ qs) = if list_all is_word (q ∷ qs) && nat_le (length (q ∷ qs)) 1023 then Some (q ∷ qs) else None

-- ---- what is made of one, two or four things, where each is there

abbrev pub made_of_one : {A B : Type 0} → (A → B) → Option A → Option B
made_of_one f a = option_map f a

abbrev pub made_of_two : {A B C : Type 0} → (A → B → C) → Option A → Option B → Option C
made_of_two f None b = None
made_of_two f (Some a) b = option_map (f a) b

abbrev pub made_of_four : {A B C D E : Type 0} → (A → B → C → D → E) → Option A → Option B → Option C → Option D → Option E
made_of_four f None b c d = None
made_of_four f (Some a) None c d = None
made_of_four f (Some a) (Some b) c d = made_of_two (f a b) c d

-- ---- what a line begins

-- a publication, whose arguments are the rest of the line
abbrev pub publish_in : List Bytes → Option Asked
publish_in (x ∷ k ∷ p ∷ t ∷ j ∷ js) = made_of_four (λ x k p t. Publish x k p t (join_with_byte 32 (j ∷ js))) (dashed_in x) (dashed_in k) (number_in 0 255 p) (name_in t)
publish_in ws = None

-- the exchange of a declaration, which isn't empty
abbrev pub declare_in : (Bytes → Bytes → Bytes → Bytes → Asked) → List Bytes → Option Asked
declare_in f (x ∷ k ∷ p ∷ q ∷ []) = if bytes_eq x (codes "-") then None else made_of_four f (name_in x) (dashed_in k) (dashed_in p) (name_in q)
declare_in f ws = None

-- a tag, by its seed and counter
abbrev pub tagged_in : (ℕ → ℕ → Asked) → List Bytes → Option Asked
tagged_in f (t ∷ []) = made_of_one (λ p. f p.0 p.1) (tag_in t)
tagged_in f ws = None

-- a pass over the messages of so many seconds
abbrev pub pass_in : List Bytes → Option Asked
pass_in (v ∷ []) = made_of_one Pass (number_in 0 (2 ^ 32 - 1) v)
pass_in ws = None

-- what these words begin
abbrev pub asked_in : Bytes → List Bytes → Option Asked
asked_in w ws =
    if bytes_eq w (codes "publish") then publish_in ws
    else if bytes_eq w (codes "declare") then declare_in Declare ws
    else if bytes_eq w (codes "undeclare") then declare_in Undeclare ws
    else if bytes_eq w (codes "pop") then made_of_one Pop (queues_in ws)
    else if bytes_eq w (codes "ack") then tagged_in Ack ws
    else if bytes_eq w (codes "restore") then tagged_in Restore ws
    else if bytes_eq w (codes "requeue") then tagged_in Requeue ws
    else if bytes_eq w (codes "pass") then pass_in ws
    else None

-- ---- lines

abbrev pub client_line : List Bytes → Option Line
client_line (c ∷ k ∷ s ∷ []) = if bytes_eq k (codes "seed") then made_of_two Client (client_in c) (seed_in s) else None
client_line ws = None

abbrev pub at_line : List Bytes → Option Line
at_line (m ∷ []) = made_of_one At (moment_in m)
at_line ws = None

abbrev pub begin_line : List Bytes → Option Line
begin_line (c ∷ w ∷ ws) = made_of_two Begin (client_in c) (asked_in w ws)
begin_line ws = None

-- a line that names a client alone
abbrev pub of_client : (ℕ → Line) → List Bytes → Option Line
of_client f (c ∷ []) = made_of_one f (client_in c)
of_client f ws = None

-- the line that these words spell
abbrev pub line_in : List Bytes → Option Line
line_in [] = None
line_in (w ∷ ws) =
    if bytes_eq w (codes "client") then client_line ws
    else if bytes_eq w (codes "at") then at_line ws
    else if bytes_eq w (codes "begin") then begin_line ws
    else if bytes_eq w (codes "step") then of_client Step ws
    else if bytes_eq w (codes "run") then of_client Run ws
    else if bytes_eq w (codes "stop") then of_client Stop ws
    else None
