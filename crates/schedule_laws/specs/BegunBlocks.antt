-- The lines of a schedule decide what each client says: the blocks of its `begin` lines, in order.
use Rattle.std.specs.Prelude.{◌≡◌, ◌⊎◌, ◌==◌, ℕ, zero, suc, Bool, false, if◌then◌else◌, List, [], ◌∷◌, ◌++◌, codes, Option, None, Some}
use Rattle.std.specs.FinMap.{get}
use Rattle.wire_values.specs.declared.value.Value.{Value}
use Rattle.line_text.specs.Lines.{text_fault}
use Rattle.line_text.specs.Words.{words_of}
use Rattle.store_model.specs.Words.{Words}
use Rattle.queue_keys.specs.Names.{Bytes}
use Rattle.queue_keys.specs.Texts.{token}
use Rattle.queue_keys.specs.QueueKeys.{Among}
use Rattle.command_blocks.specs.Calls.{Call, call}
use Rattle.command_blocks.specs.Blocks.{CounterUse, Drawing, Passing, Other, drawn, passes_after}
use Rattle.command_blocks.specs.RouteBlocks.{IsDeclareBlock, IsPublishBlock}
use Rattle.command_blocks.specs.TakeBlocks.{IsPopBlock, IsEndBlock}
use Rattle.command_blocks.specs.ReturnBlocks.{ReturnEnd, IsReturnBlock}
use Rattle.command_blocks.specs.PassBlocks.{PassEnd, IsPassBlock}
use Rattle.command_blocks.specs.declared.side.Side.TheVariants.{Left, Right}
use Rattle.place_model.specs.Histories.{calls_of}
use Rattle.schedule_model.specs.Desk.{ScheduleReader, first_desk}
use Rattle.schedule_model.specs.Faults.{Craft, is_busy}
use Rattle.schedule_model.specs.Lines.{line_in}
use Rattle.schedule_model.specs.Filled.{FilledDesk, lines_read, lines_until}
use Rattle.schedule_model.specs.Schedules.{Determined, Whole, Full, Bad_line, Went, line_led, lines_led, max_line, schedule_run}
use Rattle.schedule_model.specs.declared.line.Asked.{Asked}
use Rattle.schedule_model.specs.declared.line.Asked.TheVariants as asked
use Rattle.schedule_model.specs.declared.line.Line.{Line}
use Rattle.schedule_model.specs.declared.line.Line.TheVariants.{Begin, Step, Run}
use Rattle.schedule_laws.specs.Sound.{IsCraft}

-- ---- what lines begin

-- what a line has this client begin
abbrev pub asked_at : ℕ → Option Line → List Asked
asked_at c (Some (Begin d a)) = if d == c then a ∷ [] else []
asked_at c other = []

-- what these lines have it begin, in order
abbrev pub asks_in : ℕ → List Bytes → List Asked
asks_in c [] = []
asks_in c (l ∷ ls) = asked_at c (line_in (words_of l)) ++ asks_in c ls

-- ---- the block of each

-- what is begun takes a tag, a token or nothing
abbrev pub use_of : Asked → CounterUse
use_of (asked.Publish x k p t j) = Drawing
use_of (asked.Pass v) = Passing
use_of other = Other

-- the calls are the block that is asked for, said by a client of seed s that drew n tags and made p passes before: a restore pushes at the right, and a requeue at the left
abbrev pub IsAskedBlock : Craft → ℕ → ℕ → ℕ → Asked → List Call → Type 0
IsAskedBlock κ s n p (asked.Publish x k y t j) l = (v : Bytes) × (κ.sealed s (suc n) x k y t j ≡ Some v) × IsPublishBlock κ.setting (κ.setting.tag s (suc n)) v l
IsAskedBlock κ s n p (asked.Declare x k y q) l = IsDeclareBlock κ.setting (codes "SADD") x k y q l
IsAskedBlock κ s n p (asked.Undeclare x k y q) l = IsDeclareBlock κ.setting (codes "SREM") x k y q l
IsAskedBlock κ s n p (asked.Pop qs) l = IsPopBlock κ.setting qs l
IsAskedBlock κ s n p (asked.Ack a b) l = IsEndBlock κ.setting (κ.setting.tag a b) l
IsAskedBlock κ s n p (asked.Restore a b) l = (end : ReturnEnd) × IsReturnBlock κ.setting (κ.setting.tag a b) Right end l
IsAskedBlock κ s n p (asked.Requeue a b) l = (end : ReturnEnd) × IsReturnBlock κ.setting (κ.setting.tag a b) Left end l
IsAskedBlock κ s n p (asked.Pass v) l = (end : PassEnd) × IsPassBlock κ.setting (token s (suc p)) v end l

-- the calls begin such a block, or are a whole one; or they would with another answer to the last of them, and with this one begin none
abbrev pub IsBegunBlock : Craft → ℕ → ℕ → ℕ → Asked → List Call → Type 0
IsBegunBlock κ s n p a l =
    ((more : List Call) × IsAskedBlock κ s n p a (l ++ more))
    ⊎ ((before : List Call) × (at : ℕ) × (words : Words) × (answer : Value) × (listed : Value) × (more : List Call) × (l ≡ before ++ call at words answer ∷ [])
    × IsAskedBlock κ s n p a (before ++ call at words listed ∷ more) × ((rest : List Call) → IsAskedBlock κ s n p a (l ++ rest) → ⊥))

-- the calls are the blocks of all that is asked for, in order and whole, the last one perhaps only begun
abbrev pub AreAskedBlocks : Craft → ℕ → ℕ → ℕ → List Asked → List Call → Type 0
AreAskedBlocks κ s n p [] l = l ≡ []
AreAskedBlocks κ s n p (a ∷ []) l = IsBegunBlock κ s n p a l
AreAskedBlocks κ s n p (a ∷ b ∷ bs) l = (whole : List Call) × (rest : List Call) × (l ≡ whole ++ rest) × IsAskedBlock κ s n p a whole
    × AreAskedBlocks κ s (drawn (use_of a) n) (passes_after (use_of a) p) (b ∷ bs) rest

-- each client of a desk said the blocks that these lines have it begin
abbrev pub SaysAsked : Craft → List Bytes → ScheduleReader → Type 0
SaysAsked κ ls d = (c s : ℕ) → Among (c, s) d.clients → AreAskedBlocks κ s 0 0 (asks_in c ls) (calls_of c d.entries)

-- so does each client of a whole history, by all of the lines; where the history was full, each of the desk that they filled does, by the lines up to the one that had no room
abbrev pub IsAskedFor : Craft → List Bytes → Determined → Type 0
IsAskedFor κ ls (Whole d) = SaysAsked κ ls d
IsAskedFor κ ls (Full n cost) = (f : FilledDesk κ first_desk ls n cost) × SaysAsked κ (lines_until f.filled) f.desk
IsAskedFor κ ls (Bad_line n reason) = Unit {0}

-- each schedule has its clients say what its lines ask for
abbrev pub SchedulesSayBlocks : Type 0
SchedulesSayBlocks = (κ : Craft) → IsCraft κ → (bytes : Bytes) → IsAskedFor κ (lines_read bytes) (schedule_run κ bytes)

-- ---- run and step

-- the bytes are this line
pub record SpellsLine (l : Line) (bytes : Bytes) : Type 0 where
  pub text : text_fault max_line bytes ≡ None
  pub line : line_in (words_of bytes) ≡ Some l

-- what is determined, whatever the number of a bad line
abbrev pub unnumbered : Determined → Determined
unnumbered (Bad_line n reason) = Bad_line 0 reason
unnumbered other = other

-- the line so many times, and then the others
abbrev pub repeated : ℕ → Bytes → List Bytes → List Bytes
repeated zero l ls = ls
repeated (suc k) l ls = l ∷ repeated k l ls

-- a `run` line leads to what so many `step` lines lead to, whatever lines come before and after it
abbrev pub RunsAreSteps : Type 0
RunsAreSteps = (κ : Craft) (c : ℕ) (run step : Bytes) → SpellsLine (Run c) run → SpellsLine (Step c) step → (cut : Bool) (n : ℕ) (d : ScheduleReader) (ls : List Bytes)
    → (k : ℕ) × (unnumbered (lines_led κ cut n d (run ∷ ls)) ≡ unnumbered (lines_led κ cut n d (repeated (suc k) step ls)))

-- and it says the client's block to its end: where it leads to a desk, the client has nothing left to say there
abbrev pub RunsEndBlocks : Type 0
RunsEndBlocks = (κ : Craft) (c : ℕ) (run : Bytes) → SpellsLine (Run c) run → (d e : ScheduleReader) → line_led κ d run ≡ Went e → is_busy (get e.books c) ≡ false
