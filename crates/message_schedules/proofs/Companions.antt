-- What holds of each history of a schedule beside the places of its messages.
use Rattle.std.proofs.Common.{Bool, List, [], ap, arith, false, if◌then◌else◌, inl, inr, refl, subst, true, ℕ, ◌++◌, ◌<◌, ◌^◌, ◌∙◌, ◌∷◌, ◌≡◌, ◌≤◌}
use Rattle.std.specs.Bool.{◌==◌}
use Rattle.std.specs.FinMap.{empty}
use Rattle.store_model.specs.Keys.{Keys}
use Rattle.command_blocks.specs.Calls.{Call}
use Rattle.command_blocks.specs.EnvelopeTexts.{plain_setting}
use Rattle.queue_keys.specs.Layouts.{plain}
use Rattle.queue_keys.specs.Names.{Bytes}
use Rattle.place_model.specs.Histories.{History, IsHistoryPrefix, after, calls_among, calls_of, conn_of, own_entries}
use Rattle.place_model.specs.Identity.{HasEnvelope, HasOrigin, IsPublished}
use Rattle.place_model.specs.Passes.{AreEarly}
use Rattle.place_model.specs.declared.heard.Heard.{Heard}
use Rattle.place_model.specs.declared.history.Entry.{Entry}
use Rattle.place_model.specs.declared.history.Entry.TheVariants as entry
use Rattle.place_theorem.proofs.EmptyStart.{empty_none}
use Rattle.place_theorem.proofs.Fresh.{one_publication, one_tree, whole_prefix}
use Rattle.place_theorem.proofs.Origins.{identity_anywhere}
use Rattle.place_theorem.proofs.Passing.{whole_pass}
use Rattle.place_theorem.proofs.Returned.{whole_return}
use Rattle.place_theorem.proofs.Stopped.{a_stop}
use Rattle.message_places.proofs.Serving.{full}
use Rattle.schedule_laws.specs.Sound.{IsSoundDesk, IsSoundlyDetermined, RisesTo}
use Rattle.schedule_model.specs.Costs.{is_full}
use Rattle.schedule_model.specs.Desk.{ScheduleReader, first_desk}
use Rattle.schedule_model.specs.EachPlaced.{IsEachPlaced}
use Rattle.schedule_model.specs.Filled.{FilledDesk, lines_read}
use Rattle.schedule_model.specs.Programs.{program_craft}
use Rattle.schedule_model.specs.Schedules.{Full, Whole, reader_history, schedule_run}
use Rattle.message_schedules.specs.Companions.{IsScheduled, MessagesHaveOneTree, MessagesPublishedOnce, MessagesWerePublished, PassesAccount, ReturnsAreWhole, StopsMoveOne}
use Rattle.message_schedules.proofs.Program.{lawful, placed, sound}

-- ---- moments

early_after : (xs ys : List Call) → AreEarly (xs ++ ys) → AreEarly ys
early_after [] ys e = e
early_after (x ∷ xs) ys e = early_after xs ys e.1

early_before : (xs ys : List Call) → AreEarly (xs ++ ys) → AreEarly xs
early_before [] ys e = tt
early_before (x ∷ xs) ys e = (e.0, early_before xs ys e.1)

-- moments that rise are at most the last
at_most : (m n : ℕ) (es : List (Entry Heard)) → RisesTo m es n → m ≤ n
at_most m n [] r = r
at_most m n (entry.Call c at words reply ∷ es) r = let later : at ≤ n = at_most at n es r.1 in omega (arith, r.0, later)
at_most m n (entry.Heard c note ∷ es) r = at_most m n es r
at_most m n (entry.Stop c ∷ es) r = at_most m n es r

-- an entry more, of this connection or of another
one_early : (c m n : ℕ) (es : List (Entry Heard)) → n < 2 ^ 63 → ((k : ℕ) → RisesTo k es n → AreEarly (calls_of c es)) → (e : Entry Heard) → RisesTo m (e ∷ es) n → (own : Bool)
    → AreEarly (calls_among (if own then e ∷ own_entries c es else own_entries c es))
one_early c m n es small later (entry.Call d at words reply) r true = let most : at ≤ n = at_most at n es r.1 in (omega (arith, most, small), later at r.1)
one_early c m n es small later (entry.Call d at words reply) r false = later at r.1
one_early c m n es small later (entry.Heard d note) r true = later m r
one_early c m n es small later (entry.Heard d note) r false = later m r
one_early c m n es small later (entry.Stop d) r true = later m r
one_early c m n es small later (entry.Stop d) r false = later m r

calls_early : (c m n : ℕ) (es : List (Entry Heard)) → n < 2 ^ 63 → RisesTo m es n → AreEarly (calls_of c es)
calls_early c m n [] small r = tt
calls_early c m n (e ∷ es) small r = one_early c m n es small (λ k rises. calls_early c k n es small rises) e r (conn_of e == c)

-- the history of a sound desk is one of a schedule
pub scheduled : (d : ScheduleReader) → IsSoundDesk plain_setting d → IsScheduled (reader_history d)
scheduled d s = record { sound = s.history; from_nothing = refl; early = λ c. calls_early c 0 d.moment d.entries (omega (arith, s.present)) s.moments }

pub whole_scheduled : (bytes : Bytes) (d : ScheduleReader) → schedule_run program_craft bytes ≡ Whole d → IsScheduled (reader_history d)
whole_scheduled bytes d e = scheduled d (subst (IsSoundlyDetermined program_craft (lines_read bytes)) e (sound bytes))

-- where one was full, so is that of the desk that the lines filled, which is full, and its messages are in their places
pub full_desk : (bytes : Bytes) (n cost : ℕ) → schedule_run program_craft bytes ≡ Full n cost
    → (f : FilledDesk program_craft first_desk (lines_read bytes) n cost) × (is_full f.desk.entries ≡ true) × IsScheduled (reader_history f.desk) × IsEachPlaced (reader_history f.desk)
full_desk bytes n cost e = let s = subst (IsSoundlyDetermined program_craft (lines_read bytes)) e (sound bytes) in (s.0, s.2, scheduled s.0.desk s.1, placed (reader_history s.0.desk) s.1.history)

-- ---- what holds

pub stops_move_one : (h : History Heard) → IsScheduled h → StopsMoveOne h
stops_move_one h is p c there = a_stop (full plain lawful) h p c is.sound there

pub returns_are_whole : (h : History Heard) → IsScheduled h → ReturnsAreWhole h
returns_are_whole h is p c at words reply cl xs a b q qs there = whole_return (full plain lawful) h p c at words reply cl xs a b q qs is.sound there

pub passes_account : (h : History Heard) → IsScheduled h → PassesAccount h
passes_account h is c v token ends earlier l rest of block small =
    whole_pass (full plain lawful) h c v token ends earlier l rest is.sound of block (early_before l rest (early_after earlier (l ++ rest) (subst AreEarly of (is.early c)))) small

-- none stood in the start
from_no_start : (h p : History Heard) (t b : Bytes) → h.start ≡ empty → IsHistoryPrefix p h → HasOrigin plain_setting p t b → IsPublished plain_setting (after p) t b
from_no_start h p t b none pre (inl old) = absurd (empty_none plain_setting t b (subst (λ (m : Keys). HasEnvelope plain_setting m t b) (ap (λ x. x.start) pre.1 ∙ none) old))
from_no_start h p t b none pre (inr o) = o

pub messages_were_published : (h : History Heard) → IsScheduled h → MessagesWerePublished h
messages_were_published h is p t b there any = from_no_start h p t b is.from_nothing there (identity_anywhere (full plain lawful) h p t b is.sound there any)

pub messages_published_once : (h : History Heard) → IsScheduled h → MessagesPublishedOnce h
messages_published_once h is t b b' = one_publication (full plain lawful) h h is.sound (whole_prefix h) t b b'

pub messages_have_one_tree : (h : History Heard) → IsScheduled h → MessagesHaveOneTree h
messages_have_one_tree h is p p' t b b' there there' = one_tree (full plain lawful) h p p' is.sound there there' t b b'
